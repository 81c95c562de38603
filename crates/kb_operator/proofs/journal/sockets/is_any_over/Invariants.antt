use Rattle.std.proofs.Common.{◌≡◌, drop}
use Rattle.std.specs.List.{list_any}
use Rattle.kb_operator.specs.Refused.{is_over}
use Rattle.kb_operator.proofs.journal.sockets.is_any_over.Given as goal

-- none of those so far
abbrev pub invariant-loop-tenant : goal.invariant-loop-tenant
invariant-loop-tenant g l =
    let test = is_over (g.B.RefusalCounts.counts l.broker).closed in list_any test (drop l.tenant-index l.tenants) ≡ list_any test l.tenants
