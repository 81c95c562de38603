use Rattle.std.proofs.Common.{refl}
use Rattle.kb_node.proofs.Cores.{same_at}
use Rattle.kb_node.proofs.Seats.{kept_at}
use Rattle.kb_node.proofs.edge.Edge.note_served.Goals as goal

pub returns-then-is_ended-clause-seen : goal.returns-then-is_ended-clause-seen
returns-then-is_ended-clause-seen g c = same_at _ c.args.self.now.sockets c.args.place c.in-Some.socket.now _ (c.in-Some.ensures.variant.0 refl) c.in-Some.ensures.value refl

pub returns-else-is_ended-clause-seen : goal.returns-else-is_ended-clause-seen
returns-else-is_ended-clause-seen g c = same_at _ c.args.self.now.sockets c.args.place c.in-Some.socket.now _ (c.in-Some.ensures.variant.0 refl) c.in-Some.ensures.value refl

pub invariant_of-self-then-is_ended-clause-seated : goal.invariant_of-self-then-is_ended-clause-seated
invariant_of-self-then-is_ended-clause-seated g c = kept_at _ _ _ c.args.self.now.sockets c.args.place c.in-Some.socket.now _ (c.in-Some.ensures.variant.0 refl)
    c.in-Some.ensures.value refl refl c.args.self.now.seated

pub invariant_of-self-else-is_ended-clause-seated : goal.invariant_of-self-else-is_ended-clause-seated
invariant_of-self-else-is_ended-clause-seated g c = kept_at _ _ _ c.args.self.now.sockets c.args.place c.in-Some.socket.now _ (c.in-Some.ensures.variant.0 refl)
    c.in-Some.ensures.value refl refl c.args.self.now.seated
