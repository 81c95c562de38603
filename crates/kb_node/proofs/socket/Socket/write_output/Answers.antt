use Rattle.std.proofs.Common.{◌-◌, ◌∙◌, ap, refl, sym, vec_len, arith}
use Rattle.kb_isolation_spec.specs.Calls.{output_of}
use Rattle.kb_node.specs.Carries.{unwritten_of}
use Rattle.kb_node.specs.Known.{telling}
use Rattle.kb_node.specs.Sockets.{is_held}
use Rattle.kb_node.proofs.ToldAll.{none_unwritten, told_at, told_kept, told_taken}
use Rattle.kb_node.proofs.Carries.{StaysTelling, stays_telling, telling_at, telling_on, writes_told}
use Rattle.kb_node.proofs.socket.Socket.write_output.Goals as goal
use Rattle.kb_node.proofs.socket.Socket.write_output.Goals.{then-unwritten-eq0+then-not-is_held, else-unwritten-eq0, else-unwritten-eq0-via-then-unwritten-eq0+else-not-is_held, else-unwritten-eq0-via-else-unwritten-eq0}

pub returns-clause-tells : goal.returns-clause-tells
returns-clause-tells g c =
    let put = c.write_on.ensures.written in
    let disk = g.S.Store.disk in let out = g.T.Write.contents in let in_ = g.T.Read.remaining in
    let first : StaysTelling disk (telling g.S.Store.settled disk g.S.Store.loss c.args.host.now.commits) out in_ c.args.self.now c.if-unwritten-eq0.self c.args.host.now.broker c.if-unwritten-eq0.host.broker =
    elim c.if-unwritten-eq0.branch [
      | then-unwritten-eq0+then-not-is_held w ↦ telling_at disk out in_ c.args.self.now _ _ _ _ _ w.self-is (ap (λ h. h.broker) w.host-is)
          (record { tells = w.take_output.ensures.tells; connection = w.take_output.ensures.connection; ended = w.take_output.ensures.ended ∙ c.requires.not_ended })
      | else-unwritten-eq0 w ↦ telling_at disk out in_ c.args.self.now _ _ _ _ _ w.self-is (ap (λ h. h.broker) w.host-is) (stays_telling disk out in_ c.args.self.now c.args.host.now.broker c.requires.not_ended)
    ] in
    telling_on disk out in_ c.args.self.now c.if-unwritten-eq0.self _ c.args.host.now.broker c.if-unwritten-eq0.host.broker _ first
    (writes_told disk out in_ c.if-unwritten-eq0.self _ _ put.0 put.1 put.2 c.write_on.ensures.unhanded c.write_on.ensures.over c.write_on.ensures.lost)

pub returns-clause-told : goal.returns-clause-told
returns-clause-told g c = λ turn.
    let put = c.write_on.ensures.written in let s = c.args.self.now in let u = c.write_on.new.self in let b = c.args.host.now.broker in
    elim c.if-unwritten-eq0.branch [
      | then-unwritten-eq0+then-not-is_held w ↦ told_taken s u c.if-unwritten-eq0.host.broker.state (c.write_on.ensures.connection ∙ ap (λ x. x.connection) w.self-is ∙ w.take_output.ensures.connection)
          (ap (λ h. output_of s.connection h.broker.state) w.host-is ∙ w.take_output.ensures.none)
      | else-unwritten-eq0 w ↦ told_at u u b.state c.if-unwritten-eq0.host.broker.state refl (ap (λ h. h.broker.state) w.host-is)
          (told_kept s u b.state put.0 (c.write_on.ensures.connection ∙ ap (λ x. x.connection) w.self-is)
          (c.write_on.ensures.answer ∙ ap (λ x. x.may_answer) w.self-is) (sym (ap unwritten_of w.self-is) ∙ put.2)
          (λ all. elim w.else-unwritten-eq0.branch [
            | else-unwritten-eq0-via-then-unwritten-eq0+else-not-is_held w' ↦ ap (λ x. is_held s.may_answer s.connection x.state) (sym w'.broker.ensures) ∙ sym w'.is_held.ensures ∙ w'.if-not-is_held.false
            | else-unwritten-eq0-via-else-unwritten-eq0 w' ↦ absurd (omega (arith, w'.if-unwritten-eq0.false, c.unwritten.ensures, none_unwritten s all))
          ]) turn)
    ]
