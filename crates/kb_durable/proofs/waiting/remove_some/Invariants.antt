use Rattle.kb_durable.proofs.Run.{IsRun}
use Rattle.kb_durable.proofs.waiting.remove_some.Given as goal

abbrev pub invariant-loop : goal.invariant-loop
invariant-loop g l =
    IsRun l.counter l.fn.waiting.items l.waiting.items (g.S.Store.disk l.fn.store) (g.S.Store.loss l.fn.store) (g.S.Store.disk l.store) (g.S.Store.loss l.store)
