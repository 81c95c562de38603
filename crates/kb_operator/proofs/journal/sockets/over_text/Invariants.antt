use Rattle.std.proofs.Common.{◌≡◌, ◌++◌, drop, string_bytes}
use Rattle.std.specs.List.{flat_map}
use Rattle.kb_operator.specs.Refused.{over_part}
use Rattle.kb_operator.proofs.journal.sockets.over_text.Given as goal

-- what stands there, and what is left
abbrev pub invariant-loop-tenant : goal.invariant-loop-tenant
invariant-loop-tenant g l =
    let part = over_part (g.B.RefusalCounts.counts l.broker).closed in
    string_bytes l.text ++ flat_map part (drop l.tenant-index l.tenants) ≡ flat_map part l.tenants
