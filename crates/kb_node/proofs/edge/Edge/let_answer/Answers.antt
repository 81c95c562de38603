use Rattle.std.proofs.Common.{ap, refl, ◌∙◌}
use Rattle.kb_node.specs.Cores.{core}
use Rattle.kb_node.proofs.Cores.{same_at}
use Rattle.kb_node.proofs.Seats.{kept_at, mark}
use Rattle.kb_node.proofs.edge.Edge.let_answer.Goals as goal

pub returns-in-Some-get_mut : goal.returns-in-Some-get_mut
returns-in-Some-get_mut g c = c.queue.ensures.seen ∙ same_at _ c.args.self.now.sockets c.in-Some.place c.in-Some-get_mut.socket.now c.let_answer.new.self
    (c.in-Some-get_mut.ensures.variant.0 refl) c.in-Some-get_mut.ensures.value (ap core c.let_answer.ensures)

pub invariant_of-self-2-clause-seated : goal.invariant_of-self-2-clause-seated
invariant_of-self-2-clause-seated g c = kept_at _ _ _ c.args.self.now.sockets c.in-Some.place c.in-Some-get_mut.socket.now c.let_answer.new.self (c.in-Some-get_mut.ensures.variant.0 refl)
    c.in-Some-get_mut.ensures.value refl (ap mark c.let_answer.ensures) c.args.self.now.seated
