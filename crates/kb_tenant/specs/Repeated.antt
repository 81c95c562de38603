-- Names that stand twice, as they are kept: those that came again.
use Rattle.std.specs.Prelude.{ℕ, Bool, List, is_some}
use Rattle.std.specs.BTreeMap.{get_by}
use Rattle.std.specs.Cmp.Lexicographic.{slice_cmp}
use Rattle.std.specs.Ordering.{nat_cmp}
use Rattle.kb_tenant.specs.declared.repeated.Repeated.{Repeated}

-- whether a name came again
abbrev pub came_again : Repeated → List ℕ → Bool
came_again r name = is_some (get_by (λ k. slice_cmp nat_cmp name k.now) r.names)
