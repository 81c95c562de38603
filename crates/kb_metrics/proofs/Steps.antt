-- Steps of a list that is written piece by piece.
use Rattle.std.proofs.Common.{◌≡◌, ◌∙◌, ◌+◌, ◌<◌, ℕ, List, [], ◌∷◌, ◌++◌, length, map, take, get_or, refl, sym, ap, append_assoc, arith, Result, Ok, Err, OnOk}
use Rattle.std.specs.List.{flat_map, range_with_len}
use Rattle.std.proofs.lemmas.List.{flat_map_more, map-append, map-id, map_more}
use Rattle.std.proofs.lemmas.List.FromFn.{map-range_with_len_more}

-- the piece of one more number, seen by a function
pub range_more : {Y A : Type 0} (T : Y → List A) (f : ℕ → Y) (o out new : List A) (n : ℕ) → out ≡ o ++ flat_map T (map f (range_with_len 0 n))
    → new ≡ out ++ T (f n) → new ≡ o ++ flat_map T (map f (range_with_len 0 (n + 1)))
range_more T f o out new n e h =
    h ∙ ap (λ y. y ++ T (f n)) e ∙ flat_map_more T o (map f (range_with_len 0 n)) (f n)
    ∙ ap (λ ys. o ++ flat_map T ys) (sym (map-range_with_len_more f 0 n n (omega arith)))

one_more : (n : ℕ) → range_with_len 0 n ++ n ∷ [] ≡ range_with_len 0 (n + 1)
one_more n =
    ap (λ ns. ns ++ n ∷ []) (sym (map-id (range_with_len 0 n))) ∙ sym (map-range_with_len_more (λ (k : ℕ). k) 0 n n (omega arith))
    ∙ map-id (range_with_len 0 (n + 1))

-- the piece of one more number
pub number_more : {A : Type 0} (T : ℕ → List A) (o out new : List A) (n : ℕ) → out ≡ o ++ flat_map T (range_with_len 0 n)
    → new ≡ out ++ T n → new ≡ o ++ flat_map T (range_with_len 0 (n + 1))
number_more T o out new n e h =
    h ∙ ap (λ y. y ++ T n) e ∙ flat_map_more T o (range_with_len 0 n) n ∙ ap (λ ys. o ++ flat_map T ys) (one_more n)

-- one more row of a number
pub row_of_number : {R S : Type 0} (view : R → S) (f : ℕ → S) (rows new : List R) (n : ℕ) (r : R) → map view rows ≡ map f (range_with_len 0 n)
    → new ≡ rows ++ r ∷ [] → view r ≡ f n → map view new ≡ map f (range_with_len 0 (n + 1))
row_of_number view f rows new n r e h s =
    ap (map view) h ∙ map-append view rows (r ∷ []) ∙ ap (λ ys. ys ++ view r ∷ []) e ∙ ap (λ y. map f (range_with_len 0 n) ++ y ∷ []) s
    ∙ sym (map-range_with_len_more f 0 n n (omega arith))

-- one more row of an element
pub row_of_element : {R S X Y : Type 0} (view : R → S) (f : Y → S) (v : X → Y) (o : List S) (rows new : List R) (xs : List X) (i : ℕ) (d : X)
    (r : R) → i < length xs → map view rows ≡ o ++ map f (map v (take i xs)) → new ≡ rows ++ r ∷ [] → view r ≡ f (v (get_or xs i d))
    → map view new ≡ o ++ map f (map v (take (i + 1) xs))
row_of_element view f v o rows new xs i d r lt e h s =
    let x = get_or xs i d in
    let front = map f (map v (take i xs)) in
    ap (map view) h ∙ map-append view rows (r ∷ []) ∙ ap (λ ys. ys ++ view r ∷ []) e ∙ ap (λ y. (o ++ front) ++ y ∷ []) s
    ∙ append_assoc o front (f (v x) ∷ [])
    ∙ ap (λ ys. o ++ ys) (sym (ap (map f) (map_more v xs i d lt) ∙ map-append f (map v (take i xs)) (v x ∷ [])))

-- what holds where all went well
pub on_ok : {A E P Q : Type 0} (r : Result A E) → (P → Q) → OnOk r P → OnOk r Q
on_ok (Ok x) f h = f h
on_ok (Err e) f h = h

-- one more element, seen by two functions that agree
pub element_more : {X Y A : Type 0} (T S : Y → A) (v : X → Y) (o out new : List A) (xs : List X) (i : ℕ) (d : X) → ((y : Y) → S y ≡ T y)
    → i < length xs → out ≡ o ++ map T (map v (take i xs)) → new ≡ out ++ S (v (get_or xs i d)) ∷ []
    → new ≡ o ++ map T (map v (take (i + 1) xs))
element_more T S v o out new xs i d same lt e h =
    let x = get_or xs i d in
    let front = map T (map v (take i xs)) in
    h ∙ ap (λ y. out ++ y ∷ []) (same (v x)) ∙ ap (λ ys. ys ++ T (v x) ∷ []) e ∙ append_assoc o front (T (v x) ∷ [])
    ∙ ap (λ ys. o ++ ys) (sym (ap (map T) (map_more v xs i d lt) ∙ map-append T (map v (take i xs)) (v x ∷ [])))

-- functions that agree give the same list
pub map_alike : {X Y : Type 0} (S T : X → Y) (xs : List X) → ((x : X) → S x ≡ T x) → map S xs ≡ map T xs
map_alike S T [] same = refl
map_alike S T (x ∷ xs) same = ap (λ y. y ∷ map S xs) (same x) ∙ ap (λ ys. T x ∷ ys) (map_alike S T xs same)
