-- What an opening leaves of files.
use Rattle.std.specs.Prelude.{◌+◌, ◌==◌, ◌||◌, ℕ, Bool, true, false, not, min, List, [], ◌∷◌, Option, Some, None}
use Rattle.kb_start.specs.declared.left.Left.{Left}
use Rattle.kb_start.specs.declared.left.Total.{Total}

abbrev pub is_other : ℕ → Option ℕ → Bool
is_other before None = true
is_other before (Some after) = not (after == before)

-- it is gone, or has another length
abbrev pub is_dropped : Left → Bool
is_dropped l = is_other l.before l.after

-- one of some files is
abbrev pub any_dropped : List Left → Bool
any_dropped [] = false
any_dropped (l ∷ ls) = is_dropped l || any_dropped ls

-- a number, and u64's end for a greater one
abbrev pub told : ℕ → ℕ
told n = min n 18446744073709551615

abbrev pub with_bytes : Total → Option ℕ → Total
with_bytes t None = t
with_bytes t (Some bytes) = record { files = told (t.files + 1); bytes = told (t.bytes + bytes) }

-- with one file more, if it is there
abbrev pub with_file : Total → Left → Total
with_file t l = with_bytes t l.after

-- with some files more, one after another
abbrev pub with_files : Total → List Left → Total
with_files t [] = t
with_files t (l ∷ ls) = with_files (with_file t l) ls

-- how many of them are there, and how many bytes those have
abbrev pub total_of : List Left → Total
total_of ls = with_files (record { files = 0; bytes = 0 }) ls
