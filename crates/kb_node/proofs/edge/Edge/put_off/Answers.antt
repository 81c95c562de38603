use Rattle.std.proofs.Common.{ap, refl}
use Rattle.kb_node.specs.Cores.{core}
use Rattle.kb_node.proofs.Alone.{begun_at}
use Rattle.kb_node.proofs.Cores.{same_at}
use Rattle.kb_node.proofs.Seats.{kept_at, mark}
use Rattle.kb_node.proofs.edge.Edge.put_off.Goals as goal

pub returns-clause-seen : goal.returns-clause-seen
returns-clause-seen g c = same_at _ c.args.self.now.sockets c.in-Some.place c.in-Some-get_mut.socket.now c.put_off.new.socket
    (c.in-Some-get_mut.ensures.variant.0 refl) c.in-Some-get_mut.ensures.value (ap core c.put_off.ensures.rest)

pub invariant_of-self-2-clause-seated : goal.invariant_of-self-2-clause-seated
invariant_of-self-2-clause-seated g c = kept_at _ _ _ c.args.self.now.sockets c.in-Some.place c.in-Some-get_mut.socket.now c.put_off.new.socket (c.in-Some-get_mut.ensures.variant.0 refl)
    c.in-Some-get_mut.ensures.value refl (ap mark c.put_off.ensures.rest) c.args.self.now.seated

pub returns-clause-begun : goal.returns-clause-begun
returns-clause-begun g c = λ _. begun_at c.args.self.now.host c.args.self.now.sockets c.in-Some.place c.args.number c.in-Some-get_mut.socket.now c.put_off.new.socket
    (c.in-Some-get_mut.ensures.variant.0 refl) c.in-Some-get_mut.ensures.value c.in-Some.ensures.found c.args.self.now.seated.in_order c.put_off.ensures.connection c.args.self.now.clock c.put_off.ensures.since
