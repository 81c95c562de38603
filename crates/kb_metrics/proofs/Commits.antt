-- What groups committed to a partition is kept by their places.
use Rattle.std.proofs.Common.{◌≡◌, ◌∙◌, ◌+◌, ◌<◌, Bor, ℕ, zero, suc, ℤ, pos, true, List, [], ◌∷◌, ◌++◌, length, map, take, get_or, Option, None, Some, refl, sym, ap, subst, cond, append_assoc, arith}
use Rattle.std.proofs.Math.ListN.{get_or-map, length-map}
use Rattle.std.proofs.lemmas.List as lists
use Rattle.std.proofs.lemmas.List.{length-append, map-append, take_more}
use Rattle.std.proofs.lemmas.Map.Keys.{Less-from_sorted}
use Rattle.std.proofs.lemmas.Option.{get_or_from_slice_get, slice_get_within}
use Rattle.std.specs.BTreeMap as trees
use Rattle.std.specs.Cmp.{tied_itself}
use Rattle.std.specs.Cmp.Lexicographic.{nat_list_cmp_total, same_text}
use Rattle.std.specs.List.{All, slice_get}
use Rattle.std.specs.List.Sorted.{IsStrictlySortedBy}
use Rattle.std.specs.Map.{lookup}
use Rattle.std.specs.Option.{option_map}
use Rattle.std.specs.Ordering.{is_eq, ordering_reverse}
use Rattle.std.specs.declared.cmp.Ordering.TheVariants.{Less, Equal, Greater}
use Rattle.kb_settings.specs.Names.{byte_order}
use Rattle.kb_topics.specs.Known.{CommittedOffset, PartitionState}
use Rattle.kb_metrics.specs.Slots.{AreCommitted, AreOffsets, IsKept, is_at, is_name}
use Rattle.kb_metrics.specs.declared.lag.Slot.{Slot}

abbrev Rises : List (List ℕ) → Type 0
Rises gs = IsStrictlySortedBy byte_order gs

abbrev Commits : Type 0
Commits = List (List ℕ × CommittedOffset)

abbrev names : Commits → List (List ℕ)
names cs = map (λ c. c.0) cs

abbrev offsets : Commits → List ℤ
offsets cs = map (λ c. c.1.offset) cs

-- where the first names are those of a rising list, an entry is found by the name at its place
found : (gs : List (List ℕ)) (front rest : Commits) (place : ℕ) (d : List ℕ) (e : List ℕ × CommittedOffset) → Rises gs
    → names front ≡ take (length front) gs → place < length front → place < length gs
    → lookup (trees.is_at (byte_order (get_or gs place d))) (front ++ rest) ≡ Some (get_or front place e).1
unfolding IsStrictlySortedBy
found gs [] rest place d e rises same lt within = absurd (omega arith)
found [] (c ∷ front) rest place d e rises same lt within = absurd (omega arith)
found (g ∷ gs) (c ∷ front) rest zero d e rises same lt within =
    let head : c.0 ≡ g = cc in
    let equal : byte_order g c.0 ≡ Equal = ap (byte_order g) head ∙ tied_itself nat_list_cmp_total g in
    ap (λ b. cond b (Some c.1) (lookup (trees.is_at (byte_order g)) (front ++ rest))) (ap is_eq equal)
found (g ∷ gs) (c ∷ front) rest (suc j) d e rises same lt within =
    let n = get_or gs j d in
    let head : c.0 ≡ g = cc in
    let tail : names front ≡ take (length front) gs = cc in
    let less : byte_order g n ≡ Less = Less-from_sorted byte_order (g ∷ gs) 0 (suc j) d rises (omega arith) within in
    let more : byte_order n c.0 ≡ Greater = ap (byte_order n) head ∙ nat_list_cmp_total.antisymm n g ∙ ap ordering_reverse less in
    ap (λ b. cond b (Some c.1) (lookup (trees.is_at (byte_order n)) (front ++ rest))) (ap is_eq more)
    ∙ found gs front rest j d e rises.1 tail (omega arith) (omega arith)

-- The commits so far are of the first groups, and their offsets are kept; the others are still to come.
abbrev pub Walked : List (List ℕ) → Commits → List ℤ → Commits → Type 0
Walked gs commits os rest =
    (front : Commits) × (commits ≡ front ++ rest) × (names front ≡ take (length front) gs) × (os ≡ offsets front)

pub begun : (gs : List (List ℕ)) (commits rest : Commits) → rest ≡ commits → Walked gs commits [] rest
begun gs commits rest e = ([], sym e, refl, refl)

pub is_there : (name : List ℕ) (o : Option (List ℕ)) → is_name name o ≡ true → o ≡ Some name
is_there name None h = absurd cc
is_there name (Some there) h = ap Some (same_text there name (sym h))

-- one more commit, of the group at that place
pub one_more : (gs : List (List ℕ)) (commits rest more : Commits) (os new : List ℤ) (name : List ℕ) (c : CommittedOffset)
    → Walked gs commits os rest → rest ≡ (name, c) ∷ more → is_at gs (length os) name ≡ true → new ≡ os ++ c.offset ∷ []
    → Walked gs commits new more
one_more gs commits rest more os new name c (front, whole, same, are) first at gives =
    let one : Commits = (name, c) ∷ [] in
    let long : length os ≡ length front = ap length are ∙ length-map front (λ c. c.1.offset) in
    let get : slice_get gs (length front) ≡ Some name = ap (slice_get gs) (sym long) ∙ is_there name (slice_get gs (length os)) at in
    let lt : length front < length gs = slice_get_within gs (length front) name get in
    let here : get_or gs (length front) name ≡ name = get_or_from_slice_get gs (length front) name name get in
    let longer : length front + 1 ≡ length (front ++ one) = sym (length-append front one) in (
      front ++ one,
      whole ∙ ap (λ cs. front ++ cs) first ∙ sym (append_assoc front one more),
      map-append (λ (c : List ℕ × CommittedOffset). c.0) front one ∙ ap (λ ns. ns ++ name ∷ []) same
          ∙ ap (λ n. take (length front) gs ++ n ∷ []) (sym here) ∙ sym (take_more gs (length front) name lt) ∙ ap (λ n. take n gs) longer,
      gives ∙ ap (λ os. os ++ c.offset ∷ []) are ∙ sym (map-append (λ (c : List ℕ × CommittedOffset). c.1.offset) front one),
    )

pub are_offsets : (gs : List (List ℕ)) (p : PartitionState) (os : List ℤ) (rest : Commits) → Rises gs → Walked gs p.commits os rest
    → AreOffsets gs (Some p) os
are_offsets gs p os rest rises (front, whole, same, are) place d within lt =
    let e : List ℕ × CommittedOffset = ([], record { offset = pos 0; metadata = [] }) in
    let long : place < length front = omega (arith, lt, ap length are, length-map front (λ c. c.1.offset)) in
    ap (λ cs. option_map (λ (c : CommittedOffset). c.offset) (lookup (trees.is_at (byte_order (get_or gs place d))) cs)) whole
    ∙ ap (option_map (λ (c : CommittedOffset). c.offset)) (found gs front rest place d e rises same long within)
    ∙ ap Some (sym (ap (λ os. get_or os place (pos 0)) are ∙ get_or-map (λ (c : List ℕ × CommittedOffset). c.1.offset) front place e))

-- what is kept of all groups is kept of the one at a place
pub kept_at : (groups : List (Bor (List ℕ))) (slots : List Slot) (place : ℕ) (d : Bor (List ℕ)) → All (AreCommitted (map (λ g. g.now) groups)) slots
    → place < length groups → All (IsKept place (get_or groups place d).now) slots
kept_at groups slots place d all lt k s within =
    let there : place < length (map (λ (g : Bor (List ℕ)). g.now) groups) = omega (arith, lt, length-map groups (λ (g : Bor (List ℕ)). g.now)) in
    subst (λ n. IsKept place n (get_or slots k s)) (lists.get_or-map (λ (g : Bor (List ℕ)). g.now) groups place d [] lt) (all k s within place [] there)
