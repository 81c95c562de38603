use Rattle.std.proofs.Common.{◌≡◌, drop}
use Rattle.std.specs.List.{list_any}
use Rattle.kb_operator.specs.Refused.{has_grown}
use Rattle.kb_operator.proofs.journal.refusals.has_any_grown.Given as goal

-- none of those so far
abbrev pub invariant-loop-tenant : goal.invariant-loop-tenant
invariant-loop-tenant g l =
    let test = has_grown (g.B.RefusalCounts.counts l.broker).refused in list_any test (drop l.tenant-index l.tenants) ≡ list_any test l.tenants
