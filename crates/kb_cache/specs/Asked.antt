-- Which files are noted as read since something was appended.
use Rattle.std.specs.Prelude.{◌≡◌, ℕ, Bool, true, List, ◌⊎◌}
use Rattle.std.specs.BTreeSet.{insert_key}
use Rattle.std.specs.Ordering.{nat_cmp}

-- A file is noted where something was appended before, unless memory has no room for the note.
abbrev pub MayNote : Bool → List ℕ → ℕ → List ℕ → Type 0
MayNote writes files file files' = (files' ≡ files) ⊎ ((writes ≡ true) × (files' ≡ insert_key nat_cmp files file))
