-- The members of a group.
use Rattle.std.specs.Prelude.{ℕ, Bool, true, false, List, [], ◌∷◌, Option, nat_eq, filter, if◌then◌else◌}
use Rattle.std.specs.Map.{lookup}
use Rattle.kb_groups.specs.declared.member.Member.{Member}

-- The members in joining order, each under its number.
abbrev pub Roster : Type 0
Roster = List (ℕ × Member)

-- The member of that number.
abbrev pub member : Roster → ℕ → Option Member
member ms n = lookup (nat_eq n) ms

-- The roster with one member changed.
unfoldable pub changed : ℕ → (Member → Member) → Roster → Roster
changed n f [] = []
changed n f (e ∷ ms) = if nat_eq n e.0 then (e.0, f e.1) ∷ ms else e ∷ changed n f ms

-- The roster with every member changed.
unfoldable pub each : (ℕ → Member → Member) → Roster → Roster
each f [] = []
each f (e ∷ ms) = (e.0, f e.0 e.1) ∷ each f ms

-- The roster with that member in its old place, or as the last one if it is new.
unfoldable pub put : ℕ → Member → Roster → Roster
put n m [] = (n, m) ∷ []
put n m (e ∷ ms) = if nat_eq n e.0 then (e.0, m) ∷ ms else e ∷ put n m ms

-- The roster without that member.
unfoldable pub without : ℕ → Roster → Roster
without n [] = []
without n (e ∷ ms) = if nat_eq n e.0 then ms else e ∷ without n ms

-- The members that pass.
abbrev pub keeping : (Member → Bool) → Roster → Roster
keeping p ms = filter (λ e. p e.1) ms

abbrev pub has_none : Roster → Bool
has_none [] = true
has_none (_ ∷ _) = false
