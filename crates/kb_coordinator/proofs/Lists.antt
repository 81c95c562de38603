-- Recursions over the groups, entry by entry, as the loops go.
use Rattle.std.proofs.Common.{◌≡◌, ◌∙◌, ◌+◌, ◌<◌, ◌≤◌, ℕ, zero, suc, Bool, true, false, List, [], ◌∷◌, ◌++◌, length, Option, Some, None, slice_get, get_or, drop, map, refl, sym, ap, subst, arith, bytes_eq, append_assoc, if◌then◌else◌}
use Rattle.std.specs.Option.{option_map}
use Rattle.std.specs.Ordering.{is_lt, nat_cmp}
use Rattle.std.specs.Cmp.Lexicographic.{slice_cmp}
use Rattle.std.specs.List.{slice_set}
use Rattle.std.proofs.lemmas.List.{append-nil}
use Rattle.std.proofs.lemmas.Option.{same_Some, none-some}
use Rattle.std.proofs.Math.Numerals.{suc-eq-add-one}
use Rattle.kb_groups.specs.declared.state.State.{State}
use Rattle.kb_coordinator.specs.declared.groups.Entry.{Entry}
use Rattle.kb_coordinator.specs.Groups.{found, changed, first_above, place_of}

-- One further, by the loop's next index.
pub drop_next : {A : Type 0} (i : ℕ) (xs : List A) (x : A) → slice_get xs i ≡ Some x → drop i xs ≡ x ∷ drop (i + 1) xs
drop_next {A = A} i xs x h = rw (← suc-eq-add-one i) (by i xs h)
  where
    by : (i : ℕ) (xs : List A) → slice_get xs i ≡ Some x → drop i xs ≡ x ∷ drop (suc i) xs
    by zero [] h = absurd (none-some x h)
    by zero (y ∷ xs) h = ap (λ z. z ∷ xs) (same_Some _ _ h)
    by (suc i) [] h = absurd (none-some x h)
    by (suc i) (y ∷ xs) h = by i xs h

pub drop_end : {A : Type 0} (i : ℕ) (xs : List A) → length xs ≤ i → drop i xs ≡ []
drop_end zero [] h = refl
drop_end (suc i) [] h = refl
drop_end zero (x ∷ xs) h = absurd (omega (arith, h))
drop_end (suc i) (x ∷ xs) h = drop_end i xs (omega (arith, h))

-- A slice's element, by its index.
pub at_index : {A : Type 0} (xs : List A) (i : ℕ) (x : A) → i < length xs → x ≡ get_or xs i x → slice_get xs i ≡ Some x
at_index [] i x h e = absurd (omega (arith, h))
at_index (y ∷ xs) zero x h e = ap Some (sym e)
at_index (y ∷ xs) (suc i) x h e = at_index xs i x (omega (arith, h)) e

pub at_get : {A : Type 0} (xs : List A) (i : ℕ) (d : A) → i < length xs → slice_get xs i ≡ Some (get_or xs i d)
at_get [] i d h = absurd (omega (arith, h))
at_get (x ∷ xs) zero d h = refl
at_get (x ∷ xs) (suc i) d h = at_get xs i d (omega (arith, h))

-- What was mapped, and what is left.
pub map_go : {A B : Type 0} (f : A → B) (i : ℕ) (xs : List A) (x : A) (done next all : List B) → done ++ map f (drop i xs) ≡ all → slice_get xs i ≡ Some x → next ≡ done ++ f x ∷ [] → next ++ map f (drop (i + 1) xs) ≡ all
map_go f i xs x done next all inv at e =
    ap (λ l. l ++ map f (drop (i + 1) xs)) e ∙ append_assoc done (f x ∷ []) (map f (drop (i + 1) xs)) ∙ sym (ap (λ l. done ++ map f l) (drop_next i xs x at)) ∙ inv

pub map_end : {A B : Type 0} (f : A → B) (i : ℕ) (xs : List A) (done all : List B) → done ++ map f (drop i xs) ≡ all → length xs ≤ i → done ≡ all
map_end f i xs done all inv h = sym (ap (λ l. done ++ map f l) (drop_end i xs h) ∙ append-nil done) ∙ inv

-- ## The place of a group

-- The group at its place.
pub found_at : (id : List ℕ) (es : List Entry) (i : ℕ) (e : Entry) → place_of id es ≡ Some i → slice_get es i ≡ Some e → found id es ≡ Some e.group
unfolding found place_of
found_at id [] i e p at = absurd (none-some i p)
found_at id (x ∷ es) i e p at = by (bytes_eq x.id id) (place_of id es) p (λ j q h. found_at id es j e q h)
  where
    by : (b : Bool) (o : Option ℕ) → (if b then Some 0 else option_map suc o) ≡ Some i → ((j : ℕ) → o ≡ Some j → slice_get es j ≡ Some e → found id es ≡ Some e.group) → (if b then Some x.group else found id es) ≡ Some e.group
    by true o q rest =
        let head : slice_get (x ∷ es) 0 ≡ Some e = subst (λ k. slice_get (x ∷ es) k ≡ Some e) (sym (same_Some _ _ q)) at in
        ap (λ (y : Entry). Some y.group) (same_Some _ _ head)
    by false None q rest = absurd (none-some i q)
    by false (Some j) q rest = rest j refl (subst (λ k. slice_get (x ∷ es) k ≡ Some e) (sym (same_Some _ _ q)) at)

pub changed_at : (id : List ℕ) (f : State → State) (es : List Entry) (i : ℕ) (e : Entry) → place_of id es ≡ Some i → slice_get es i ≡ Some e → changed id f es ≡ slice_set es i (record { id = e.id; group = f e.group })
unfolding changed place_of
changed_at id f [] i e p at = absurd (none-some i p)
changed_at id f (x ∷ es) i e p at = by (bytes_eq x.id id) (place_of id es) p (λ j q h. changed_at id f es j e q h)
  where
    one : Entry → Entry
    one y = record { id = y.id; group = f y.group }

    by : (b : Bool) (o : Option ℕ) → (if b then Some 0 else option_map suc o) ≡ Some i → ((j : ℕ) → o ≡ Some j → slice_get es j ≡ Some e → changed id f es ≡ slice_set es j (one e)) → (if b then one x ∷ es else x ∷ changed id f es) ≡ slice_set (x ∷ es) i (one e)
    by true o q rest =
        let head : slice_get (x ∷ es) 0 ≡ Some e = subst (λ k. slice_get (x ∷ es) k ≡ Some e) (sym (same_Some _ _ q)) at in
        ap (λ y. one y ∷ es) (same_Some _ _ head) ∙ ap (λ k. slice_set (x ∷ es) k (one e)) (same_Some _ _ q)
    by false None q rest = absurd (none-some i q)
    by false (Some j) q rest = ap (λ l. x ∷ l) (rest j refl (subst (λ k. slice_get (x ∷ es) k ≡ Some e) (sym (same_Some _ _ q)) at)) ∙ ap (λ k. slice_set (x ∷ es) k (one e)) (same_Some _ _ q)

-- No group of that id.
pub found_none : (id : List ℕ) (es : List Entry) → place_of id es ≡ None → found id es ≡ None
unfolding found place_of
found_none id [] p = refl
found_none id (x ∷ es) p = by (bytes_eq x.id id) (place_of id es) p (λ q. found_none id es q)
  where
    by : (b : Bool) (o : Option ℕ) → (if b then Some 0 else option_map suc o) ≡ None → (o ≡ None → found id es ≡ None) → (if b then Some x.group else found id es) ≡ None
    by true o q rest = absurd (none-some 0 (sym q))
    by false None q rest = rest refl
    by false (Some j) q rest = absurd (none-some (suc j) (sym q))

pub changed_none : (id : List ℕ) (f : State → State) (es : List Entry) → place_of id es ≡ None → changed id f es ≡ es
unfolding changed place_of
changed_none id f [] p = refl
changed_none id f (x ∷ es) p = by (bytes_eq x.id id) (place_of id es) p (λ q. changed_none id f es q)
  where
    by : (b : Bool) (o : Option ℕ) → (if b then Some 0 else option_map suc o) ≡ None → (o ≡ None → changed id f es ≡ es) → (if b then (let n : Entry = record { id = x.id; group = f x.group } in n) ∷ es else x ∷ changed id f es) ≡ x ∷ es
    by true o q rest = absurd (none-some 0 (sym q))
    by false None q rest = ap (λ l. x ∷ l) (rest refl)
    by false (Some j) q rest = absurd (none-some (suc j) (sym q))

pub place_below : (id : List ℕ) (es : List Entry) (i : ℕ) → place_of id es ≡ Some i → i < length es
unfolding place_of
place_below id [] i p = absurd (none-some i p)
place_below id (x ∷ es) i p = by (bytes_eq x.id id) (place_of id es) p (λ j q. place_below id es j q)
  where
    by : (b : Bool) (o : Option ℕ) → (if b then Some 0 else option_map suc o) ≡ Some i → ((j : ℕ) → o ≡ Some j → j < length es) → i < length (x ∷ es)
    by true o q rest = omega (arith, same_Some _ _ q)
    by false None q rest = absurd (none-some i q)
    by false (Some j) q rest = omega (arith, same_Some _ _ q, rest j refl)

-- ## The place of a new group

pub above_most : (id : List ℕ) (es : List Entry) → first_above id es ≤ length es
unfolding first_above
above_most id [] = omega arith
above_most id (e ∷ es) = by (is_lt (slice_cmp nat_cmp id e.id)) (above_most id es)
  where
    by : (b : Bool) → first_above id es ≤ length es → (if b then 0 else suc (first_above id es)) ≤ length (e ∷ es)
    by true h = omega arith
    by false h = omega (arith, h)
