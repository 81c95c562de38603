-- An index from the names of protocols to their places.
use Rattle.std.specs.Prelude.{◌≡◌, ℕ, suc, List, [], ◌∷◌, Option, Some, None, bytes_eq, if◌then◌else◌}
use Rattle.std.specs.Option.{option_map}
use Rattle.std.specs.Ordering.{nat_cmp}
use Rattle.std.specs.Cmp.Lexicographic.{slice_cmp}
use Rattle.std.specs.BTreeMap.{BTreeMap, get_by}
use Rattle.std.specs.declared.vec.Vec.{Vec}
use Rattle.kb_groups.specs.declared.protocol.Protocol.{Protocol}

-- The place to which an index leads from a name.
abbrev pub place_of : {Y : Type 0} → BTreeMap (Vec ℕ Y) ℕ → List ℕ → Option ℕ
place_of places name = get_by (λ k. slice_cmp nat_cmp name k.items) places

-- The place of the first protocol of that name.
unfoldable pub first_place : List Protocol → List ℕ → Option ℕ
first_place [] name = None
first_place (p ∷ ps) name = if bytes_eq p.name name then Some 0 else option_map suc (first_place ps name)

-- The index leads from each name to the first protocol of that name, and from no other.
abbrev pub IsIndex : {Y : Type 0} → BTreeMap (Vec ℕ Y) ℕ → List Protocol → Type 0
IsIndex places ps = (name : List ℕ) → place_of places name ≡ first_place ps name

-- What a name leads to once a place is noted, which counts only if the name was new.
abbrev pub noted : Option ℕ → ℕ → Option ℕ
noted None place = Some place
noted (Some first) place = Some first

-- The first protocol of that name.
unfoldable pub found : List Protocol → List ℕ → Option Protocol
found [] name = None
found (p ∷ ps) name = if bytes_eq p.name name then Some p else found ps name
