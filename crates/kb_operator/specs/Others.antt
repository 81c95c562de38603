-- The tenants that no limits of the settings name.
use Rattle.std.specs.Prelude.{ℕ, List, [], ◌∷◌, ◌+◌, Bool, if◌then◌else◌}
use Rattle.std.specs.List.{list_any}
use Rattle.std.specs.Str.{bytes_eq}
use Rattle.kb_settings.specs.Values.{Values}
use Rattle.kb_operator.specs.Sums.{tenants_of}

-- limits name the tenant of this name
abbrev pub has_limits : List ℕ → Values → Bool
has_limits name v = list_any (λ t. bytes_eq t.name name) v.tenants

-- how many of these tenants no limits name
abbrev pub without_limits : Values → List (List ℕ) → ℕ
without_limits v [] = 0
without_limits v (name ∷ names) = (if has_limits name v then 0 else 1) + without_limits v names

abbrev pub others : Values → ℕ
others v = without_limits v (tenants_of v)
