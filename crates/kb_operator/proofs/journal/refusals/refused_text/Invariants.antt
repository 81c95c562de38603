use Rattle.std.proofs.Common.{◌≡◌, ◌++◌, drop, string_bytes}
use Rattle.std.specs.List.{flat_map}
use Rattle.kb_operator.specs.Refused.{refused_part}
use Rattle.kb_operator.proofs.journal.refusals.refused_text.Given as goal

-- what stands there, and what is left
abbrev pub invariant-loop-tenant : goal.invariant-loop-tenant
invariant-loop-tenant g l =
    let part = refused_part (g.B.RefusalCounts.counts l.broker).refused in
    string_bytes l.text ++ flat_map part (drop l.tenant-index l.tenants) ≡ flat_map part l.tenants
