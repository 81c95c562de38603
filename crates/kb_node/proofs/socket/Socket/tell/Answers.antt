use Rattle.std.proofs.Common.{◌-◌, ◌∙◌, ap, inl, vec_len, ⊎_elim, arith}
use Rattle.kb_node.proofs.ToldAll.{all_written, heard_all, heard_at, heard_later, heard_on, none_unwritten, over_ends, told_at, told_on}
use Rattle.kb_node.specs.Carries.{HasHeard, HasToldAll}
use Rattle.kb_node.specs.Known.{silent, telling}
use Rattle.kb_node.proofs.Carries.{StaysTelling, stays_telling, telling_at, telling_on, tells_knowing}
use Rattle.kb_node.proofs.Known.{from_silent}
use Rattle.kb_node.proofs.socket.Socket.tell.Goals as goal
use Rattle.kb_node.proofs.socket.Socket.tell.Goals.{then-unwritten-eq0+then-not-self, else-unwritten-eq0, else-unwritten-eq0-via-then-unwritten-eq0+else-not-self, else-unwritten-eq0-via-else-unwritten-eq0}

pub returns-clause-tells : goal.returns-clause-tells
returns-clause-tells g c =
    let disk = g.S.Store.disk in let out = g.T.Write.contents in let in_ = g.T.Read.remaining in
    let known = telling g.S.Store.settled disk g.S.Store.loss c.args.host.now.commits in
    let first : StaysTelling disk known out in_ c.args.self.now c.if-unwritten-eq0.self c.args.host.now.broker c.if-unwritten-eq0.host.broker =
    elim c.if-unwritten-eq0.branch [
      | then-unwritten-eq0+then-not-self w ↦ telling_at disk out in_ c.args.self.now _ _ _ _ _ w.self-is (ap (λ h. h.broker) w.host-is)
          (record { tells = w.write_output.ensures.tells; connection = w.write_output.ensures.connection; ended = w.write_output.ensures.ended ∙ c.requires.not_ended })
      | else-unwritten-eq0 w ↦ telling_at disk out in_ c.args.self.now _ _ _ _ _ w.self-is (ap (λ h. h.broker) w.host-is) (stays_telling disk out in_ c.args.self.now c.args.host.now.broker c.requires.not_ended)
    ] in
    telling_on disk out in_ c.args.self.now c.if-unwritten-eq0.self _ c.args.host.now.broker c.if-unwritten-eq0.host.broker _ first
    (tells_knowing disk silent known out in_ (from_silent known) c.if-unwritten-eq0.self _ _ _ c.finish.ensures.tells)

pub returns-clause-told : goal.returns-clause-told
returns-clause-told g c = λ goes_on. record {
  all = λ turn.
      let rest = c.finish.ensures.rest goes_on in let f = c.finish.new.self in let s = c.args.self.now in
      let first : HasToldAll c.if-unwritten-eq0.self c.if-unwritten-eq0.host.broker.state = elim c.if-unwritten-eq0.branch [
        | then-unwritten-eq0+then-not-self w ↦ told_at w.write_output.new.self c.if-unwritten-eq0.self w.write_output.new.host.broker.state
            c.if-unwritten-eq0.host.broker.state w.self-is (ap (λ h. h.broker.state) w.host-is) (w.write_output.ensures.told turn)
        | else-unwritten-eq0 w ↦ told_at s c.if-unwritten-eq0.self c.args.host.now.broker.state c.if-unwritten-eq0.host.broker.state w.self-is (ap (λ h. h.broker.state) w.host-is) (elim w.else-unwritten-eq0.branch [
          | else-unwritten-eq0-via-then-unwritten-eq0+else-not-self w' ↦ over_ends f.is_over f.is_half_closed f.may_answer (vec_len f.output - f.written) f.connection c.finish.new.host.broker.state
              (ap (λ x. x.is_over) rest.1 ∙ ap (λ x. x.is_over) w.self-is ∙ w'.if-not-self.false) (c.finish.ensures.stays goes_on)
          | else-unwritten-eq0-via-else-unwritten-eq0 w' ↦ ⊎_elim
              (λ all. absurd (omega (arith, w'.if-unwritten-eq0.false, c.unwritten.ensures, none_unwritten s all))) (λ none. inl none) turn
        ])
      ] in
      told_on c.if-unwritten-eq0.self f c.if-unwritten-eq0.host.broker.state c.finish.new.host.broker.state (ap (λ h. h.broker.state) rest.0) rest.1 first;
  heard =
      let rest = c.finish.ensures.rest goes_on in let f = c.finish.new.self in let s = c.args.self.now in
      let first : HasHeard c.if-unwritten-eq0.self c.if-unwritten-eq0.host.broker.state = elim c.if-unwritten-eq0.branch [
        | then-unwritten-eq0+then-not-self w ↦ heard_at w.write_output.new.self c.if-unwritten-eq0.self w.write_output.new.host.broker.state
            c.if-unwritten-eq0.host.broker.state w.self-is (ap (λ h. h.broker.state) w.host-is)
            (heard_all w.write_output.new.self w.write_output.new.host.broker.state
            (w.write_output.ensures.told (inl (all_written s (omega (arith, w.if-unwritten-eq0.true, c.unwritten.ensures))))))
        | else-unwritten-eq0 w ↦ heard_at s c.if-unwritten-eq0.self c.args.host.now.broker.state c.if-unwritten-eq0.host.broker.state w.self-is (ap (λ h. h.broker.state) w.host-is) (elim w.else-unwritten-eq0.branch [
          | else-unwritten-eq0-via-then-unwritten-eq0+else-not-self w' ↦ over_ends f.is_over f.is_half_closed f.may_answer (vec_len f.output - f.written) f.connection c.finish.new.host.broker.state
              (ap (λ x. x.is_over) rest.1 ∙ ap (λ x. x.is_over) w.self-is ∙ w'.if-not-self.false) (c.finish.ensures.stays goes_on)
          | else-unwritten-eq0-via-else-unwritten-eq0 w' ↦ heard_later s c.args.host.now.broker.state
              (λ none. absurd (omega (arith, w'.if-unwritten-eq0.false, c.unwritten.ensures, none)))
        ])
      ] in
      heard_on c.if-unwritten-eq0.self f c.if-unwritten-eq0.host.broker.state c.finish.new.host.broker.state (ap (λ h. h.broker.state) rest.0) rest.1 first;
}
