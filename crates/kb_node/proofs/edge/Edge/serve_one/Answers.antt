use Rattle.kb_node.proofs.Seats.{mark, served_as}
use Rattle.kb_node.specs.Cores.{core}
use Rattle.kb_node.proofs.Cores.{same_at}
use Rattle.std.proofs.Common.{refl, ◌∙◌, ap, sym}
use Rattle.kb_node.proofs.Goes.{goes_carried_as, goes_then}
use Rattle.kb_node.proofs.Telling.{goes_telling, telling_at_place, telling_silent, telling_still, telling_then}
use Rattle.kb_node.proofs.edge.Edge.serve_one.Goals as goal

pub returns-clause-goes : goal.returns-clause-goes
returns-clause-goes g c = goes_then (goes_carried_as _ _ c.args.self.now.sockets c.in-Some.place c.in-Some-get_mut.socket.now c.serve-next.new.self c.count.new.socket (ap core c.count.ensures.socket) (c.in-Some-get_mut.ensures.variant.0 refl)
    c.in-Some-get_mut.ensures.value c.serve-next.ensures.connection (sym c.is_ended.ensures ∙ c.if-is_ended.false) c.serve-next.ensures.tried c.serve-next.ensures.sync.0 c.serve-next.ensures.carries) (goes_telling (telling_silent c.note.ensures.tells))

pub invariant_of-self-2-clause-seated : goal.invariant_of-self-2-clause-seated
invariant_of-self-2-clause-seated g c = served_as _ c.serve-next.new.host c.args.self.now.shares c.serve-next.new.shares c.leave.new.shares c.args.self.now.sockets c.in-Some.place c.in-Some-get_mut.socket.now c.serve-next.new.self c.count.new.socket (c.in-Some-get_mut.ensures.variant.0 refl) c.in-Some-get_mut.ensures.value
    c.serve-next.ensures.connection c.serve-next.ensures.tried (sym c.is_ended.ensures ∙ c.if-is_ended.false) c.serve-next.ensures.seat (ap mark c.count.ensures.socket) c.leave.ensures c.args.self.now.seated

pub returns-clause-unasked : goal.returns-clause-unasked
returns-clause-unasked g c = λ off. telling_then (telling_at_place _ _ c.args.self.now.sockets c.in-Some.place c.in-Some-get_mut.socket.now c.serve-next.new.self c.count.new.socket (ap core c.count.ensures.socket) (c.in-Some-get_mut.ensures.variant.0 refl)
    c.in-Some-get_mut.ensures.value c.serve-next.ensures.connection (sym c.is_ended.ensures ∙ c.if-is_ended.false) c.serve-next.ensures.tried c.serve-next.ensures.sync.0 (c.serve-next.ensures.unasked (c.may_ask-may_ask.ensures.open ∙ off))) (telling_silent c.note.ensures.tells)

pub returns-then-is_ended-clause-unasked : goal.returns-then-is_ended-clause-unasked
returns-then-is_ended-clause-unasked g c = λ off. telling_still (same_at _ c.args.self.now.sockets c.in-Some.place c.in-Some-get_mut.socket.now _ (c.in-Some-get_mut.ensures.variant.0 refl) c.in-Some-get_mut.ensures.value refl)
