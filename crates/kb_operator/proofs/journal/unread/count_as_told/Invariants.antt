use Rattle.std.proofs.Common.{◌≡◌, ◌++◌, drop, map, take}
use Rattle.kb_operator.specs.Unread.{with_unread}
use Rattle.kb_operator.proofs.journal.unread.count_as_told.Given as goal

-- the tenants so far are told of
abbrev pub invariant-loop-tenant : goal.invariant-loop-tenant
invariant-loop-tenant g l =
    l.tenants ≡ map (with_unread (g.B.RefusalCounts.counts l.broker).unread) (take l.tenant-index l.fn.tenants) ++ drop l.tenant-index l.fn.tenants
