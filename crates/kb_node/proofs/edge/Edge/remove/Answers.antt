use Rattle.kb_node.proofs.Seats.{leaves_at}
use Rattle.std.proofs.Common.{sym, ◌∙◌}
use Rattle.kb_node.proofs.Alone.{leaves_closed, leaves_none, leaves_open}
use Rattle.kb_node.proofs.Goes.{goes_removed}
use Rattle.kb_node.proofs.edge.Edge.remove.Goals as goal

pub returns-then-is_ended-clause-goes : goal.returns-then-is_ended-clause-goes
returns-then-is_ended-clause-goes g c = goes_removed _ c.deref.result.now _ _ c.in-Some.place c.in-Some-get.socket.now c.in-Some-get.ensures.lookup.3.0
    c.in-Some-get.ensures.lookup.1 (sym c.is_ended.ensures ∙ c.if-is_ended.true) c.deref.ensures.value c.remove.ensures.items

pub invariant_of-self-clause-seated : goal.invariant_of-self-clause-seated
invariant_of-self-clause-seated g c = leaves_at _ _ c.deref.result.now _ _ c.in-Some.place c.in-Some-get.socket.now c.in-Some-get.ensures.lookup.3.0
    c.in-Some-get.ensures.lookup.1 (sym c.is_ended.ensures ∙ c.if-is_ended.true) c.deref.ensures.value c.remove.ensures.items c.args.self.now.seated

pub returns-then-is_ended-clause-left : goal.returns-then-is_ended-clause-left
returns-then-is_ended-clause-left g c = leaves_closed c.args.self.now.host c.deref.result.now _ _ c.in-Some.place c.args.number c.in-Some-get.socket.now
    c.in-Some-get.ensures.lookup.3.0 c.in-Some-get.ensures.lookup.1 c.deref.ensures.value c.in-Some.ensures.found c.args.self.now.seated.in_order
    (sym c.is_ended.ensures ∙ c.if-is_ended.true) c.remove.ensures.items

pub returns-else-is_ended-clause-left : goal.returns-else-is_ended-clause-left
returns-else-is_ended-clause-left g c = leaves_open c.args.self.now.host c.deref.result.now _ c.in-Some.place c.args.number c.in-Some-get.socket.now
    c.in-Some-get.ensures.lookup.3.0 c.in-Some-get.ensures.lookup.1 c.deref.ensures.value c.in-Some.ensures.found c.args.self.now.seated.in_order
    (sym c.is_ended.ensures ∙ c.if-is_ended.false)

pub returns-in_default-clause-left : goal.returns-in_default-clause-left
returns-in_default-clause-left g c = leaves_none c.args.self.now.host c.args.self.now.sockets.items c.args.number c.in_default.ensures.found
    c.args.self.now.seated.in_order
