use Rattle.std.proofs.Common.{◌∙◌, ◌++◌, ◌-◌, ap, inl, inr, refl, subst, sym, vec_len}
use Rattle.kb_node.specs.Carries.{unwritten_of}
use Rattle.kb_node.specs.Closing.{TookSome}
use Rattle.kb_node.specs.Cores.{cores}
use Rattle.kb_node.proofs.Alone.{alone_at, alone_still, alone_then, took_at}
use Rattle.kb_node.proofs.Goes.{goes_noted, goes_still, goes_then, goes_written}
use Rattle.kb_node.proofs.Seats.{kept_at, mark, mark_of}
use Rattle.kb_node.proofs.edge.Edge.write_again.Goals as goal

pub returns-then-after-before-clause-goes : goal.returns-then-after-before-clause-goes
returns-then-after-before-clause-goes g c = goes_written _ c.args.self.now.sockets c.in-Some.place c.in-Some-get_mut.socket.now c.write_on.new.self (c.in-Some-get_mut.ensures.variant.0 refl) c.in-Some-get_mut.ensures.value c.write_on.ensures.connection
    (sym c.is_ended.ensures ∙ c.if-is_ended.false) c.write_on.ensures.written.0 c.write_on.ensures.written.1 c.write_on.ensures.written.2 c.write_on.ensures.unhanded c.write_on.ensures.over c.write_on.ensures.lost

pub returns-then-is_err-clause-goes : goal.returns-then-is_err-clause-goes
returns-then-is_err-clause-goes g c = goes_then (goes_noted _ c.args.self.now.sockets c.in-Some.place c.in-Some-get_mut.socket.now c.write_on.new.self c.note_reply-noted.new.socket _ _ _ _
    c.note_reply-noted.ensures.rest (c.in-Some-get_mut.ensures.variant.0 refl) c.in-Some-get_mut.ensures.value c.write_on.ensures.connection
    (sym c.is_ended.ensures ∙ c.if-is_ended.false) c.write_on.ensures.written.0 c.write_on.ensures.written.1 c.write_on.ensures.written.2 c.write_on.ensures.unhanded c.write_on.ensures.over c.write_on.ensures.lost)
    (goes_then (goes_still c.count_written.ensures.seen) c.close.ensures.goes)

pub returns-clause-goes : goal.returns-clause-goes
returns-clause-goes g c = goes_then (goes_noted _ c.args.self.now.sockets c.in-Some.place c.in-Some-get_mut.socket.now c.write_on.new.self c.note_reply-noted.new.socket _ _ _ _
    c.note_reply-noted.ensures.rest (c.in-Some-get_mut.ensures.variant.0 refl) c.in-Some-get_mut.ensures.value c.write_on.ensures.connection
    (sym c.is_ended.ensures ∙ c.if-is_ended.false) c.write_on.ensures.written.0 c.write_on.ensures.written.1 c.write_on.ensures.written.2 c.write_on.ensures.unhanded c.write_on.ensures.over c.write_on.ensures.lost)
    (goes_then (goes_still c.count_written.ensures.seen) (goes_still c.queue.ensures.seen))

pub invariant_of-self-then-after-before-clause-seated : goal.invariant_of-self-then-after-before-clause-seated
invariant_of-self-then-after-before-clause-seated g c = kept_at _ _ _ c.args.self.now.sockets c.in-Some.place c.in-Some-get_mut.socket.now c.write_on.new.self (c.in-Some-get_mut.ensures.variant.0 refl)
    c.in-Some-get_mut.ensures.value refl (mark_of c.in-Some-get_mut.socket.now c.write_on.new.self c.write_on.ensures.connection c.write_on.ensures.ended c.write_on.ensures.seat) c.args.self.now.seated

pub invariant_of-self-2-clause-seated : goal.invariant_of-self-2-clause-seated
invariant_of-self-2-clause-seated g c = kept_at _ _ _ c.args.self.now.sockets c.in-Some.place c.in-Some-get_mut.socket.now c.note_reply-noted.new.socket (c.in-Some-get_mut.ensures.variant.0 refl)
    c.in-Some-get_mut.ensures.value refl (ap mark c.note_reply-noted.ensures.rest ∙ mark_of c.in-Some-get_mut.socket.now c.write_on.new.self c.write_on.ensures.connection c.write_on.ensures.ended c.write_on.ensures.seat) c.args.self.now.seated

pub returns-then-after-before-clause-alone : goal.returns-then-after-before-clause-alone
returns-then-after-before-clause-alone g c = alone_at c.args.self.now.host c.args.self.now.sockets c.in-Some.place c.args.number c.in-Some-get_mut.socket.now c.write_on.new.self
    (c.in-Some-get_mut.ensures.variant.0 refl) c.in-Some-get_mut.ensures.value c.in-Some.ensures.found c.args.self.now.seated.in_order c.write_on.ensures.connection

pub returns-then-is_err-clause-alone : goal.returns-then-is_err-clause-alone
returns-then-is_err-clause-alone g c = alone_then _ _ _ _
    (alone_at c.args.self.now.host c.args.self.now.sockets c.in-Some.place c.args.number c.in-Some-get_mut.socket.now c.note_reply-noted.new.socket
    (c.in-Some-get_mut.ensures.variant.0 refl) c.in-Some-get_mut.ensures.value c.in-Some.ensures.found c.args.self.now.seated.in_order (ap (λ s. s.connection) c.note_reply-noted.ensures.rest ∙ c.write_on.ensures.connection))
    (alone_then _ _ _ _ (alone_still _ _ _ (ap (λ x. x.sockets) c.count_written.ensures.seen)) c.close.ensures.closed.alone)

pub returns-clause-alone : goal.returns-clause-alone
returns-clause-alone g c = alone_then _ _ _ _
    (alone_at c.args.self.now.host c.args.self.now.sockets c.in-Some.place c.args.number c.in-Some-get_mut.socket.now c.note_reply-noted.new.socket
    (c.in-Some-get_mut.ensures.variant.0 refl) c.in-Some-get_mut.ensures.value c.in-Some.ensures.found c.args.self.now.seated.in_order (ap (λ s. s.connection) c.note_reply-noted.ensures.rest ∙ c.write_on.ensures.connection))
    (alone_still _ _ _ (ap (λ x. x.sockets) (c.queue.ensures.seen ∙ c.count_written.ensures.seen)))

pub returns-then-is_err-clause-took : goal.returns-then-is_err-clause-took
returns-then-is_err-clause-took g c = λ _. inr c.close.ensures.closed.gone

pub returns-clause-took : goal.returns-clause-took
returns-clause-took g c = λ _.
    let u = c.note_reply-noted.new.socket in let put = c.write_on.ensures.written.0 in
    let same = ap (λ x. x.sockets) (c.queue.ensures.seen ∙ c.count_written.ensures.seen) in
    let noted = sym c.note_reply-noted.ensures.rest in
    inl (subst (λ cs. TookSome c.args.number (cores c.args.self.now.sockets.items) cs) (sym same)
    (took_at c.args.self.now.host c.args.self.now.sockets c.in-Some.place c.args.number c.in-Some-get_mut.socket.now u
    (c.in-Some-get_mut.ensures.variant.0 refl) c.in-Some-get_mut.ensures.value c.in-Some.ensures.found c.args.self.now.seated.in_order (ap (λ s. s.connection) c.note_reply-noted.ensures.rest ∙ c.write_on.ensures.connection)
    put (c.write_on.ensures.written.2 ∙ ap (λ s. put ++ unwritten_of s) noted) c.unwritten-before.result c.unwritten-after.result
    c.unwritten-before.ensures (c.unwritten-after.ensures ∙ ap (λ s. vec_len s.output - s.written) noted) c.if-after-before.false))
