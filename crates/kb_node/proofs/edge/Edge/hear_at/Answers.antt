use Rattle.std.proofs.Common.{◌∙◌, ap, refl}
use Rattle.kb_node.specs.Cores.{core}
use Rattle.kb_node.proofs.Cores.{same_at}
use Rattle.kb_node.proofs.Seats.{kept_at, mark}
use Rattle.kb_node.proofs.edge.Edge.hear_at.Goals as goal

pub returns : goal.returns
returns g c = c.queue.ensures.seen ∙ same_at _ c.args.self.now.sockets c.args.place c.in-Some.socket.now c.hear_any.new.self
    (c.in-Some.ensures.variant.0 refl) c.in-Some.ensures.value (ap core c.hear_any.ensures)

pub invariant_of-self-2-clause-seated : goal.invariant_of-self-2-clause-seated
invariant_of-self-2-clause-seated g c = kept_at _ _ _ c.args.self.now.sockets c.args.place c.in-Some.socket.now c.hear_any.new.self
    (c.in-Some.ensures.variant.0 refl) c.in-Some.ensures.value refl (ap mark c.hear_any.ensures) c.args.self.now.seated
