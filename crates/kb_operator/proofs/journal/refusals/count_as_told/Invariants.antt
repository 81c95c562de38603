use Rattle.std.proofs.Common.{◌≡◌, ◌++◌, drop, map, take}
use Rattle.kb_operator.specs.Refused.{with_refused}
use Rattle.kb_operator.proofs.journal.refusals.count_as_told.Given as goal

-- the tenants so far are told of
abbrev pub invariant-loop-tenant : goal.invariant-loop-tenant
invariant-loop-tenant g l =
    l.tenants ≡ map (with_refused (g.B.RefusalCounts.counts l.broker).refused) (take l.tenant-index l.fn.tenants) ++ drop l.tenant-index l.fn.tenants
