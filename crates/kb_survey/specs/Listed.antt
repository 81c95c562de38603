-- The numbers of the files that are there.
use Rattle.std.specs.Prelude.{◌==◌, ℕ, Bool, List}
use Rattle.std.specs.List.{list_any}

abbrev pub is_in : List ℕ → ℕ → Bool
is_in listed file = list_any (λ n. n == file) listed
