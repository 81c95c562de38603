use Rattle.std.proofs.Common.{◌≡◌, ◌++◌, take, map}
use Rattle.std.specs.List.{flat_map}
use Rattle.kb_metrics.specs.Families.{family_text}
use Rattle.kb_metrics.specs.Rows.{tenant_row}
use Rattle.kb_metrics.proofs.families.push_each_family.Given as goal

-- the families so far were written
abbrev pub invariant-loop-family : goal.invariant-loop-family
invariant-loop-family l = l.out.items ≡ l.fn.out.items ++ flat_map (family_text (map tenant_row l.tenants)) (take l.family-index l.families)
