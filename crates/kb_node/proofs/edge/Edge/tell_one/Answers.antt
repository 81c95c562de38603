use Rattle.std.proofs.Common.{◌∙◌, ap, refl, sym}
use Rattle.kb_node.specs.Cores.{core}
use Rattle.kb_node.proofs.Cores.{same_at}
use Rattle.kb_node.proofs.Telling.{telling_at_place, telling_silent, telling_still, telling_then}
use Rattle.kb_node.proofs.Seats.{mark, told_as}
use Rattle.kb_node.proofs.edge.Edge.tell_one.Goals as goal

pub returns-clause-tells : goal.returns-clause-tells
returns-clause-tells g c = telling_then (telling_at_place _ _ c.args.self.now.sockets c.in-Some.place c.in-Some-get_mut.socket.now c.tell-next.new.self c.count.new.socket (ap core c.count.ensures.socket) (c.in-Some-get_mut.ensures.variant.0 refl)
    c.in-Some-get_mut.ensures.value c.tell-next.ensures.connection (sym c.is_ended.ensures ∙ c.if-is_ended.false) c.tell-next.ensures.tried (ap (λ x. x.sync) c.tell-next.ensures.commits) c.tell-next.ensures.tells) (telling_silent c.note.ensures.tells)

pub invariant_of-self-2-clause-seated : goal.invariant_of-self-2-clause-seated
invariant_of-self-2-clause-seated g c = told_as _ c.tell-next.new.host c.args.self.now.shares c.leave.new.shares c.args.self.now.sockets c.in-Some.place c.in-Some-get_mut.socket.now c.tell-next.new.self c.count.new.socket
    (c.in-Some-get_mut.ensures.variant.0 refl) c.in-Some-get_mut.ensures.value c.tell-next.ensures.connection c.tell-next.ensures.tried
    (sym c.is_ended.ensures ∙ c.if-is_ended.false) c.tell-next.ensures.seat (ap mark c.count.ensures.socket) c.leave.ensures c.args.self.now.seated

pub returns-then-is_ended-clause-tells : goal.returns-then-is_ended-clause-tells
returns-then-is_ended-clause-tells g c = telling_still (same_at _ c.args.self.now.sockets c.in-Some.place c.in-Some-get_mut.socket.now _ (c.in-Some-get_mut.ensures.variant.0 refl) c.in-Some-get_mut.ensures.value refl)
