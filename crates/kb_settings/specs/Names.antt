-- Names in byte order.
use Rattle.std.specs.Prelude.{ℕ, ◌+◌, List, [], ◌∷◌, if◌then◌else◌}
use Rattle.std.specs.Ordering.{nat_cmp}
use Rattle.std.specs.Cmp.Lexicographic.{slice_cmp}
use Rattle.std.specs.Str.{bytes_eq}
use Rattle.std.specs.declared.cmp.Ordering.{Ordering}
use Rattle.std.specs.declared.cmp.Ordering.TheVariants.{Less, Equal, Greater}

-- byte by byte from the front, and a prefix first
abbrev pub byte_order : List ℕ → List ℕ → Ordering
byte_order = slice_cmp nat_cmp

-- the first where a name is below, the second where it is equal, the third where it is above
abbrev pub by_order : Ordering → List (List ℕ) → List (List ℕ) → List (List ℕ) → List (List ℕ)
by_order Less below equal above = below
by_order Equal below equal above = equal
by_order Greater below equal above = above

-- rising names with one more, unless it is there
abbrev pub with_name : List ℕ → List (List ℕ) → List (List ℕ)
with_name name [] = name ∷ []
with_name name (n ∷ names) = by_order (byte_order name n) (name ∷ n ∷ names) (n ∷ names) (n ∷ with_name name names)

-- the names in byte order, each once
abbrev pub in_order : List (List ℕ) → List (List ℕ)
in_order [] = []
in_order (name ∷ names) = with_name name (in_order names)

-- where a name stands first
abbrev pub place_of_name : List ℕ → List (List ℕ) → ℕ
place_of_name name [] = 0
place_of_name name (n ∷ names) = if bytes_eq n name then 0 else 1 + place_of_name name names
