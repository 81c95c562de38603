-- The names of files: 20 decimal digits and '.seg'.
use Rattle.std.specs.Prelude.{◌≡◌, ◌++◌, ◌+◌, ◌-◌, ◌*◌, ◌^◌, ◌&&◌, ◌==◌, ℕ, Bool, List, [], ◌∷◌, length, take, drop, nat_lt, not, string_bytes}
use Rattle.std.specs.Prelude.{filter_map, bytes_eq, Option, Some, None, if◌then◌else◌}
use Rattle.std.specs.List.{list_all}
use Rattle.std.specs.declared.string.String.{String}

-- 0 to 9
abbrev pub is_digit : ℕ → Bool
is_digit c = not (nat_lt c 48) && not (nat_lt 57 c)

-- the number that digits spell, behind the digits of a number
abbrev pub spelled_from : ℕ → List ℕ → ℕ
spelled_from n [] = n
spelled_from n (d ∷ ds) = spelled_from (10 * n + (d - 48)) ds

-- .seg
abbrev pub suffix : List ℕ
suffix = 46 ∷ 115 ∷ 101 ∷ 103 ∷ []

-- the number that bytes spell, where they are digits and it fits 64 bits
abbrev pub number_of : List ℕ → Option ℕ
number_of ds = if list_all is_digit ds && nat_lt (spelled_from 0 ds) (2 ^ 64) then Some (spelled_from 0 ds) else None

-- the number of the file of a name
abbrev pub number_named : List ℕ → Option ℕ
number_named name = if length name == 24 && bytes_eq (drop 20 name) suffix then number_of (take 20 name) else None

-- The path ends with a slash and the file's name.
abbrev pub IsPathOf : List ℕ → ℕ → Type 0
IsPathOf path file = (folder name : List ℕ) × (path ≡ folder ++ 47 ∷ name) × (number_named name ≡ Some file)

-- the numbers in some names; other names have none
abbrev pub numbers_named : {A : Type 0} → List (String A) → List ℕ
numbers_named names = filter_map (λ name. number_named (string_bytes name)) names
