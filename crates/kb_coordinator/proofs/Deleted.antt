-- A group that is removed, and what the others keep.
use Rattle.std.proofs.Common.{◌≡◌, ◌∙◌, ◌+◌, ◌-◌, ◌≤◌, ℕ, zero, suc, Bool, true, false, List, [], ◌∷◌, length, map, Option, Some, None, slice_get, refl, sym, ap, arith, bytes_eq, if◌then◌else◌}
use Rattle.std.specs.List.{AllByRecursion, remove}
use Rattle.std.specs.List.Sorted.{IsStrictlySortedBy}
use Rattle.std.specs.Option.{option_map}
use Rattle.std.proofs.lemmas.Option.{same_Some, none-some}
use Rattle.kb_groups.specs.Bytes.{group_bytes}
use Rattle.kb_groups.specs.Sizes.{counted}
use Rattle.kb_groups.proofs.Sizes.{exact}
use Rattle.kb_coordinator.specs.declared.groups.Entry.{Entry}
use Rattle.kb_coordinator.specs.declared.limits.Limits.{Limits}
use Rattle.kb_coordinator.specs.Groups.{AreSorted, AreWithin, earliest, kept_bytes, place_of, without}

-- The group at its place.
pub without_at : (id : List ℕ) (es : List Entry) (i : ℕ) → place_of id es ≡ Some i → remove es i ≡ without id es
unfolding place_of without
without_at id [] i p = absurd (none-some i p)
without_at id (x ∷ es) i p = by (bytes_eq x.id id) (place_of id es) p (λ j q. without_at id es j q)
  where
    by : (b : Bool) (o : Option ℕ) → (if b then Some 0 else option_map suc o) ≡ Some i → ((j : ℕ) → o ≡ Some j → remove es j ≡ without id es) → remove (x ∷ es) i ≡ (if b then es else x ∷ without id es)
    by true o q rest = ap (remove (x ∷ es)) (sym (same_Some _ _ q))
    by false None q rest = absurd (none-some i q)
    by false (Some j) q rest = ap (remove (x ∷ es)) (sym (same_Some _ _ q)) ∙ ap (λ l. x ∷ l) (rest j refl)

-- No group of that id.
pub without_none : (id : List ℕ) (es : List Entry) → place_of id es ≡ None → without id es ≡ es
unfolding place_of without
without_none id [] p = refl
without_none id (x ∷ es) p = by (bytes_eq x.id id) (place_of id es) p (λ q. without_none id es q)
  where
    by : (b : Bool) (o : Option ℕ) → (if b then Some 0 else option_map suc o) ≡ None → (o ≡ None → without id es ≡ es) → (if b then es else x ∷ without id es) ≡ x ∷ es
    by true o q rest = absurd (none-some 0 (sym q))
    by false None q rest = ap (λ l. x ∷ l) (rest refl)
    by false (Some j) q rest = absurd (none-some (suc j) (sym q))

-- ## What holds of the rest

all_removed : (P : List ℕ → Type 0) (es : List Entry) (i : ℕ) → AllByRecursion P (map (λ e. e.id) es) → AllByRecursion P (map (λ e. e.id) (remove es i))
all_removed P [] zero all = tt
all_removed P [] (suc i) all = tt
all_removed P (e ∷ es) zero all = all.1
all_removed P (e ∷ es) (suc i) all = (all.0, all_removed P es i all.1)

pub sorted_removed : (es : List Entry) (i : ℕ) → AreSorted es → AreSorted (remove es i)
unfolding IsStrictlySortedBy
sorted_removed [] zero rises = tt
sorted_removed [] (suc i) rises = tt
sorted_removed (e ∷ es) zero rises = rises.1
sorted_removed (e ∷ es) (suc i) rises = (all_removed _ es i rises.0, sorted_removed es i rises.1)

pub due_removed : (es : List Entry) (i q : ℕ) → q ≤ earliest es → q ≤ earliest (remove es i)
unfolding earliest
due_removed [] zero q h = h
due_removed [] (suc i) q h = h
due_removed (e ∷ es) zero q h = omega (arith, h)
due_removed (e ∷ es) (suc i) q h = omega (arith, h, due_removed es i q (omega (arith, h)))

kept_removed : (es : List Entry) (i : ℕ) (e : Entry) → slice_get es i ≡ Some e → kept_bytes (remove es i) + (length e.id + group_bytes e.group) ≡ kept_bytes es
unfolding kept_bytes
kept_removed [] i e at = absurd (none-some e at)
kept_removed (x ∷ es) zero e at =
    let same : x ≡ e = same_Some _ _ at in
    omega (arith, ap (λ (y : Entry). length y.id) same, ap (λ (y : Entry). group_bytes y.group) same)
kept_removed (x ∷ es) (suc i) e at = omega (arith, kept_removed es i e at)

-- What the removed group kept is no more than all, and is exactly counted.
pub removed_fits : (limits : Limits) (es : List Entry) (i : ℕ) (e : Entry) (bytes count : ℕ) → AreWithin limits bytes es → slice_get es i ≡ Some e → count ≡ counted (group_bytes e.group)
    → (count ≡ group_bytes e.group) × (count + length e.id ≤ bytes) × (bytes ≤ 9223372036854775807)
removed_fits limits es i e bytes count (is, within, most) at is_count =
    let kept = kept_removed es i e at in
    let same : count ≡ group_bytes e.group = exact count (group_bytes e.group) is_count (omega (arith, kept, is, within, most)) in
    (same, omega (arith, same, kept, is), omega (arith, within, most))

pub within_removed : (limits : Limits) (es : List Entry) (i : ℕ) (e : Entry) (bytes count : ℕ) → AreWithin limits bytes es → slice_get es i ≡ Some e → count ≡ counted (group_bytes e.group)
    → AreWithin limits (bytes - (count + length e.id)) (remove es i)
within_removed limits es i e bytes count w at is_count =
    let fits = removed_fits limits es i e bytes count w at is_count in
    let kept = kept_removed es i e at in
    (omega (arith, fits.0, fits.1, kept, w.0), omega (arith, w.1), w.2)
