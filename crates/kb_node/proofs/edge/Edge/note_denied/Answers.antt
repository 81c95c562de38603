use Rattle.std.proofs.Common.{refl}
use Rattle.kb_node.proofs.Cores.{same_at}
use Rattle.kb_node.proofs.Telling.{telling_still, telling_then}
use Rattle.kb_node.proofs.Seats.{kept_at}
use Rattle.kb_node.proofs.edge.Edge.note_denied.Goals as goal

pub returns-then-is_err-clause-tells : goal.returns-then-is_err-clause-tells
returns-then-is_err-clause-tells g c = telling_then (telling_still (same_at _ c.args.self.now.sockets c.args.place c.in-Some.socket.now _ (c.in-Some.ensures.variant.0 refl) c.in-Some.ensures.value refl)) c.close.ensures.tells

pub returns-clause-tells : goal.returns-clause-tells
returns-clause-tells g c = telling_still (same_at _ c.args.self.now.sockets c.args.place c.in-Some.socket.now _ (c.in-Some.ensures.variant.0 refl) c.in-Some.ensures.value refl)

pub invariant_of-self-2-clause-seated : goal.invariant_of-self-2-clause-seated
invariant_of-self-2-clause-seated g c = kept_at _ _ _ c.args.self.now.sockets c.args.place c.in-Some.socket.now _ (c.in-Some.ensures.variant.0 refl)
    c.in-Some.ensures.value refl refl c.args.self.now.seated
