-- Lines of members, and what a step does to them.
use Rattle.std.proofs.Common.{◌≡◌, ◌<◌, ◌+◌, ◌++◌, ◌==◌, ℕ, Bool, true, false, arith, List, [], ◌∷◌, replicate, zero, suc, refl, sym, ap, subst, ◌∙◌, length, map, set, drop, slice_index_or, nat_lt, nat_eq, if◌then◌else◌}
use Rattle.std.proofs.lemmas.Bool.Decides.{nat_tests}
use Rattle.std.proofs.lemmas.List.{get_or-set_same, get_or-set_other, map-append, map-set, append-nil}
use Rattle.std.proofs.lemmas.Grind.{common_steps}
use Rattle.std.proofs.lemmas.List.Sums.{sum_by-cons, sum_by-append}
use Rattle.std.specs.declared.collections.VecDeque.{VecDeque}
use Rattle.std.proofs.Common.{Global}
use Rattle.kb_shares.specs.Turns.{Lines, IsInOrder, lines_of, times, has_line, enqueued, after_next}

abbrev nobody : List ℕ
nobody = []

none_at : (n h : ℕ) → slice_index_or (replicate n nobody) h [] ≡ []
none_at zero h = refl
none_at (suc n) zero = refl
none_at (suc n) (suc h) = none_at n h

-- nobody waits at first
pub nobody_in_order : (n : ℕ) → IsInOrder (replicate n []) []
nobody_in_order n = record { once = λ h. sym (ap (λ (ms : List ℕ). if nat_lt 0 (length ms) then 1 else 0) (none_at n h)) }

-- 1. How often a holder stands in the order

-- whether that is the holder, as a number
abbrev is_its : ℕ → ℕ → ℕ
is_its holder h = if nat_eq h holder then 1 else 0

itself : (h k : ℕ) → k ≡ h → is_its h k ≡ 1
itself h k same = grind (arith, nat_tests, same)

another : (h k : ℕ) → (k == h) ≡ false → is_its h k ≡ 0
another h k other = grind (arith, nat_tests, other)

pub times-cons : (h k : ℕ) (ks : List ℕ) → times h (k ∷ ks) ≡ is_its h k + times h ks
times-cons h k ks = sum_by-cons (is_its h) k ks

pub times-push : (h k : ℕ) (ks : List ℕ) → times h (ks ++ k ∷ []) ≡ times h ks + is_its h k
times-push h k ks = omega (arith, sum_by-append (is_its h) ks (k ∷ []), sum_by-cons (is_its h) k [])

-- 2. One line longer

absent : (h k : ℕ) (ks : List ℕ) → times h (k ∷ ks) ≡ 0 → ((k == h) ≡ false) × (times h ks ≡ 0)
absent h k ks none = one (k == h) refl
  where
    one : (b : Bool) → (k == h) ≡ b → ((k == h) ≡ false) × (times h ks ≡ 0)
    one true e = grind (arith, nat_tests, e, times-cons h k ks, none)
    one false e = (e, omega (arith, times-cons h k ks, none))

elsewhere : (W : List (List ℕ)) (h k : ℕ) (u : List ℕ) → (k == h) ≡ false → slice_index_or (set W h u) k [] ≡ slice_index_or W k []
elsewhere W h k u other = get_or-set_other W h k _ _ (grind (arith, nat_tests, other))

-- a line of a holder that does not stand there may change
pub set_elsewhere : (W : List (List ℕ)) (order : List ℕ) (h : ℕ) (u : List ℕ) → times h order ≡ 0 → lines_of (set W h u) order ≡ lines_of W order
set_elsewhere W [] h u none = refl
set_elsewhere W (k ∷ ks) h u none =
    let apart = absent h k ks none in
    ap (λ (l : List ℕ). (k, l) ∷ lines_of (set W h u) ks) (elsewhere W h k u apart.0)
    ∙ ap (λ (ls : Lines). (k, slice_index_or W k []) ∷ ls) (set_elsewhere W ks h u apart.1)

-- a holder has a line where it stands in the order
pub has_line-times : (W : List (List ℕ)) (order : List ℕ) (h : ℕ) → has_line h (lines_of W order) ≡ nat_lt 0 (times h order)
has_line-times W [] h = refl
has_line-times W (k ∷ ks) h = one (k == h) refl (has_line-times W ks h)
  where
    one : (b : Bool) → (k == h) ≡ b → has_line h (lines_of W ks) ≡ nat_lt 0 (times h ks) → has_line h (lines_of W (k ∷ ks)) ≡ nat_lt 0 (times h (k ∷ ks))
    one true e rest = grind (arith, nat_tests, e, times-cons h k ks, rest)
    one false e rest = grind (arith, nat_tests, e, times-cons h k ks, rest)

-- what a line becomes where a member of that holder joins
abbrev pub longer : ℕ → ℕ → ℕ × List ℕ → ℕ × List ℕ
longer h m l = if l.0 == h then (l.0, l.1 ++ m ∷ []) else l

abbrev pub line : ℕ → List ℕ → ℕ × List ℕ
line k l = (k, l)

longer_at : (W : List (List ℕ)) (h k m : ℕ) (b : Bool) → (k == h) ≡ b → h < length W
    → line k (slice_index_or (set W h (slice_index_or W h [] ++ m ∷ [])) k []) ≡ (if b then line k (slice_index_or W k [] ++ m ∷ []) else line k (slice_index_or W k []))
longer_at W h k m true e there =
    let same : k ≡ h = grind (arith, nat_tests, e) in
    subst (λ (j : ℕ). line j (slice_index_or (set W h (slice_index_or W h [] ++ m ∷ [])) j []) ≡ line j (slice_index_or W j [] ++ m ∷ [])) (sym same)
    (ap (line h) (get_or-set_same W h _ _ there))
longer_at W h k m false e there = ap (line k) (elsewhere W h k _ e)

pub set_longer : (W : List (List ℕ)) (order : List ℕ) (h m : ℕ) → h < length W
    → lines_of (set W h (slice_index_or W h [] ++ m ∷ [])) order ≡ map (longer h m) (lines_of W order)
set_longer W [] h m there = refl
set_longer W (k ∷ ks) h m there =
    ap (λ (l : ℕ × List ℕ). l ∷ lines_of (set W h (slice_index_or W h [] ++ m ∷ [])) ks) (longer_at W h k m (k == h) refl there)
    ∙ ap (λ (ls : Lines). longer h m (k, slice_index_or W k []) ∷ ls) (set_longer W ks h m there)

-- 3. A member joins

-- behind others of its holder
pub joined_line : (W : List (List ℕ)) (order : List ℕ) (h m : ℕ) → IsInOrder W order → h < length W → 0 < length (slice_index_or W h [])
    → lines_of (set W h (slice_index_or W h [] ++ m ∷ [])) order ≡ enqueued h m (lines_of W order)
joined_line W order h m inside there some =
    let stands : has_line h (lines_of W order) ≡ true = grind (arith, has_line-times W order h, inside.once h, some) in
    set_longer W order h m there ∙ sym (ap (λ (b : Bool). if b then map (longer h m) (lines_of W order) else lines_of W order ++ (h, m ∷ []) ∷ []) stands)

-- as the first one of its holder
pub joined_first : (W : List (List ℕ)) (order : List ℕ) (h m : ℕ) → IsInOrder W order → h < length W → slice_index_or W h [] ≡ []
    → lines_of (set W h (slice_index_or W h [] ++ m ∷ [])) (order ++ h ∷ []) ≡ enqueued h m (lines_of W order)
joined_first W order h m inside there none =
    let after = set W h (slice_index_or W h [] ++ m ∷ []) in
    let apart : times h order ≡ 0 = grind (arith, inside.once h, none) in
    let stands : has_line h (lines_of W order) ≡ false = grind (arith, has_line-times W order h, apart) in
    map-append (λ (k : ℕ). (k, slice_index_or after k [])) order (h ∷ [])
    ∙ ap (λ (ls : Lines). ls ++ (h, slice_index_or after h []) ∷ []) (set_elsewhere W order h _ apart)
    ∙ ap (λ (l : List ℕ). lines_of W order ++ (h, l) ∷ []) (get_or-set_same W h _ _ there ∙ ap (λ (l : List ℕ). l ++ m ∷ []) none)
    ∙ sym (ap (λ (b : Bool). if b then map (longer h m) (lines_of W order) else lines_of W order ++ (h, m ∷ []) ∷ []) stands)

-- 4. A turn

-- the first holder's first member leaves; its others wait on, behind all
pub turned : (W : List (List ℕ)) (order : List ℕ) (h : ℕ) (ms : List ℕ) → IsInOrder W (h ∷ order) → h < length W → drop 1 (slice_index_or W h []) ≡ ms
    → nat_lt 0 (length ms) ≡ true
    → lines_of (set W h ms) (order ++ h ∷ []) ≡ after_next (lines_of W (h ∷ order))
turned W order h ms inside there is some =
    let apart : times h order ≡ 0 = grind (arith, inside.once h, times-cons h h order, itself h h refl, nat_tests) in
    let more : nat_lt 1 (length (slice_index_or W h [])) ≡ true = grind (arith, common_steps, is, some, nat_tests) in
    map-append (λ (k : ℕ). line k (slice_index_or (set W h ms) k [])) order (h ∷ [])
    ∙ ap (λ (ls : Lines). ls ++ line h (slice_index_or (set W h ms) h []) ∷ []) (set_elsewhere W order h _ apart)
    ∙ ap (λ (l : List ℕ). lines_of W order ++ line h l ∷ []) (get_or-set_same W h _ _ there ∙ sym is)
    ∙ sym (ap (λ (b : Bool). lines_of W order ++ (if b then line h (drop 1 (slice_index_or W h [])) ∷ [] else [])) more)

pub turned_last : (W : List (List ℕ)) (order : List ℕ) (h : ℕ) (ms : List ℕ) → IsInOrder W (h ∷ order) → h < length W → drop 1 (slice_index_or W h []) ≡ ms
    → nat_lt 0 (length ms) ≡ false
    → lines_of (set W h ms) order ≡ after_next (lines_of W (h ∷ order))
turned_last W order h ms inside there is none =
    let apart : times h order ≡ 0 = grind (arith, inside.once h, times-cons h h order, itself h h refl, nat_tests) in
    let last : nat_lt 1 (length (slice_index_or W h [])) ≡ false = grind (arith, common_steps, is, none, nat_tests) in
    set_elsewhere W order h _ apart ∙ sym (append-nil (lines_of W order))
    ∙ sym (ap (λ (b : Bool). lines_of W order ++ (if b then line h (drop 1 (slice_index_or W h [])) ∷ [] else [])) last)

-- 5. Who stands in the order

once_set : (W : List (List ℕ)) (order : List ℕ) (h k : ℕ) (u : List ℕ) → h < length W
    → ((k == h) ≡ false → times k order ≡ (if nat_lt 0 (length (slice_index_or W k [])) then 1 else 0))
    → times h order ≡ (if nat_lt 0 (length u) then 1 else 0)
    → times k order ≡ (if nat_lt 0 (length (slice_index_or (set W h u) k [])) then 1 else 0)
once_set W order h k u there others its = one (k == h) refl
  where
    one : (b : Bool) → (k == h) ≡ b → times k order ≡ (if nat_lt 0 (length (slice_index_or (set W h u) k [])) then 1 else 0)
    one true e =
        let same : k ≡ h = grind (arith, nat_tests, e) in
        subst (λ (j : ℕ). times j order ≡ (if nat_lt 0 (length (slice_index_or (set W h u) j [])) then 1 else 0)) (sym same)
        (its ∙ sym (ap (λ (l : List ℕ). if nat_lt 0 (length l) then 1 else 0) (get_or-set_same W h _ _ there)))
    one false e = others e ∙ sym (ap (λ (l : List ℕ). if nat_lt 0 (length l) then 1 else 0) (elsewhere W h k u e))

-- a line that is not empty may change to another that is not
pub order_stays : (W : List (List ℕ)) (order : List ℕ) (h : ℕ) (u : List ℕ) → IsInOrder W order → h < length W → 0 < length (slice_index_or W h []) → 0 < length u
    → IsInOrder (set W h u) order
order_stays W order h u inside there some more = record {
  once = λ k. once_set W order h k u there (λ _. inside.once k) (grind (arith, inside.once h, some, more));
}

-- the holder of a first member comes last
pub order_longer : (W : List (List ℕ)) (order : List ℕ) (h : ℕ) (u : List ℕ) → IsInOrder W order → h < length W → slice_index_or W h [] ≡ [] → 0 < length u
    → IsInOrder (set W h u) (order ++ h ∷ [])
order_longer W order h u inside there none more = record {
  once = λ k. once_set W (order ++ h ∷ []) h k u there
      (λ other. omega (arith, times-push k h order, another k h (grind (arith, nat_tests, other)), inside.once k))
      (grind (arith, times-push h h order, itself h h refl, inside.once h, none, more));
}

-- the first holder comes last, where members of it wait on
pub order_turned : (W : List (List ℕ)) (order : List ℕ) (h : ℕ) (u : List ℕ) → IsInOrder W (h ∷ order) → h < length W → 0 < length u
    → IsInOrder (set W h u) (order ++ h ∷ [])
order_turned W order h u inside there more = record {
  once = λ k. once_set W (order ++ h ∷ []) h k u there
      (λ other. omega (arith, times-push k h order, times-cons k h order, inside.once k))
      (grind (arith, times-push h h order, times-cons h h order, itself h h refl, inside.once h, more));
}

-- and else it goes
pub order_shorter : (W : List (List ℕ)) (order : List ℕ) (h : ℕ) (u : List ℕ) → IsInOrder W (h ∷ order) → h < length W → u ≡ []
    → IsInOrder (set W h u) order
order_shorter W order h u inside there none = record {
  once = λ k. once_set W order h k u there
      (λ other. omega (arith, times-cons k h order, another k h (grind (arith, nat_tests, other)), inside.once k))
      (grind (arith, times-cons h h order, itself h h refl, inside.once h, none));
}

-- 6. Where the lines stand in other things

-- what stands at a place is read there
read_at : {D : Type 0} (f : D → List ℕ) (ds : List D) (h : ℕ) (d : D) → h < length ds → d ≡ slice_index_or ds h d → slice_index_or (map f ds) h [] ≡ f d
read_at f [] h d there is = grind (arith, there)
read_at f (x ∷ ds) zero d there is = sym (ap f is)
read_at f (x ∷ ds) (suc h) d there is = read_at f ds h d (grind (arith, there)) is

inside_map : {D : Type 0} (f : D → List ℕ) (ds : List D) (h : ℕ) → h < length ds → h < length (map f ds)
inside_map f ds h there = grind (arith, common_steps, there)

pub same_lines : {D : Type 0} (f : D → List ℕ) (ds : List D) (h : ℕ) (old new : D) → old ≡ slice_index_or ds h old → f new ≡ f old → map f (set ds h new) ≡ map f ds
same_lines f [] h old new is same = refl
same_lines f (x ∷ ds) zero old new is same = ap (λ (l : List ℕ). l ∷ map f ds) (same ∙ ap f is)
same_lines f (x ∷ ds) (suc h) old new is same = ap (λ (ls : List (List ℕ)). f x ∷ ls) (same_lines f ds h old new is same)

-- a member came to a line
added : {D : Type 0} (f : D → List ℕ) (ds : List D) (h m : ℕ) (old new : D) → h < length ds → old ≡ slice_index_or ds h old → f new ≡ f old ++ m ∷ []
    → map f (set ds h new) ≡ set (map f ds) h (slice_index_or (map f ds) h [] ++ m ∷ [])
added f ds h m old new there is more = map-set f ds h new ∙ ap (λ (l : List ℕ). set (map f ds) h l) (more ∙ ap (λ (l : List ℕ). l ++ m ∷ []) (sym (read_at f ds h old there is)))

one_more : (l : List ℕ) (m : ℕ) → 0 < length (l ++ m ∷ [])
one_more l m = grind (arith, common_steps)

pub added_line : {D : Type 0} (f : D → List ℕ) (ds : List D) (order : List ℕ) (h m : ℕ) (old new : D) → IsInOrder (map f ds) order → h < length ds → old ≡ slice_index_or ds h old
    → f new ≡ f old ++ m ∷ [] → 0 < length (f old) → lines_of (map f (set ds h new)) order ≡ enqueued h m (lines_of (map f ds) order)
added_line f ds order h m old new inside there is more some =
    ap (λ (W : List (List ℕ)). lines_of W order) (added f ds h m old new there is more)
    ∙ joined_line (map f ds) order h m inside (inside_map f ds h there) (subst (λ (l : List ℕ). 0 < length l) (sym (read_at f ds h old there is)) some)

pub added_first : {D : Type 0} (f : D → List ℕ) (ds : List D) (order : List ℕ) (h m : ℕ) (old new : D) → IsInOrder (map f ds) order → h < length ds → old ≡ slice_index_or ds h old
    → f new ≡ f old ++ m ∷ [] → f old ≡ [] → lines_of (map f (set ds h new)) (order ++ h ∷ []) ≡ enqueued h m (lines_of (map f ds) order)
added_first f ds order h m old new inside there is more none =
    ap (λ (W : List (List ℕ)). lines_of W (order ++ h ∷ [])) (added f ds h m old new there is more)
    ∙ joined_first (map f ds) order h m inside (inside_map f ds h there) (read_at f ds h old there is ∙ none)

pub added_stays : {D : Type 0} (f : D → List ℕ) (ds : List D) (order : List ℕ) (h m : ℕ) (old new : D) → IsInOrder (map f ds) order → h < length ds → old ≡ slice_index_or ds h old
    → f new ≡ f old ++ m ∷ [] → 0 < length (f old) → IsInOrder (map f (set ds h new)) order
added_stays f ds order h m old new inside there is more some =
    subst (λ (W : List (List ℕ)). IsInOrder W order) (sym (added f ds h m old new there is more))
    (order_stays (map f ds) order h _ inside (inside_map f ds h there) (subst (λ (l : List ℕ). 0 < length l) (sym (read_at f ds h old there is)) some) (one_more _ m))

pub added_longer : {D : Type 0} (f : D → List ℕ) (ds : List D) (order : List ℕ) (h m : ℕ) (old new : D) → IsInOrder (map f ds) order → h < length ds → old ≡ slice_index_or ds h old
    → f new ≡ f old ++ m ∷ [] → f old ≡ [] → IsInOrder (map f (set ds h new)) (order ++ h ∷ [])
added_longer f ds order h m old new inside there is more none =
    subst (λ (W : List (List ℕ)). IsInOrder W (order ++ h ∷ [])) (sym (added f ds h m old new there is more))
    (order_longer (map f ds) order h _ inside (inside_map f ds h there) (read_at f ds h old there is ∙ none) (one_more _ m))

-- a member left a line
pub left_turned : {D : Type 0} (f : D → List ℕ) (ds : List D) (order : List ℕ) (h : ℕ) (old new : D) → IsInOrder (map f ds) (h ∷ order) → h < length ds → old ≡ slice_index_or ds h old
    → f new ≡ drop 1 (f old) → 0 < length (f new)
    → lines_of (map f (set ds h new)) (order ++ h ∷ []) ≡ after_next (lines_of (map f ds) (h ∷ order))
left_turned f ds order h old new inside there is fewer some =
    ap (λ (W : List (List ℕ)). lines_of W (order ++ h ∷ [])) (map-set f ds h new)
    ∙ turned (map f ds) order h (f new) inside (inside_map f ds h there) (ap (drop 1) (read_at f ds h old there is) ∙ sym fewer) (grind (arith, some, nat_tests))

pub left_last : {D : Type 0} (f : D → List ℕ) (ds : List D) (order : List ℕ) (h : ℕ) (old new : D) → IsInOrder (map f ds) (h ∷ order) → h < length ds → old ≡ slice_index_or ds h old
    → f new ≡ drop 1 (f old) → f new ≡ []
    → lines_of (map f (set ds h new)) order ≡ after_next (lines_of (map f ds) (h ∷ order))
left_last f ds order h old new inside there is fewer none =
    ap (λ (W : List (List ℕ)). lines_of W order) (map-set f ds h new)
    ∙ turned_last (map f ds) order h (f new) inside (inside_map f ds h there) (ap (drop 1) (read_at f ds h old there is) ∙ sym fewer) (grind (arith, none, nat_tests))

pub left_order : {D : Type 0} (f : D → List ℕ) (ds : List D) (order : List ℕ) (h : ℕ) (new : D) → IsInOrder (map f ds) (h ∷ order) → h < length ds → 0 < length (f new)
    → IsInOrder (map f (set ds h new)) (order ++ h ∷ [])
left_order f ds order h new inside there some =
    subst (λ (W : List (List ℕ)). IsInOrder W (order ++ h ∷ [])) (sym (map-set f ds h new)) (order_turned (map f ds) order h (f new) inside (inside_map f ds h there) some)

pub left_shorter : {D : Type 0} (f : D → List ℕ) (ds : List D) (order : List ℕ) (h : ℕ) (new : D) → IsInOrder (map f ds) (h ∷ order) → h < length ds → f new ≡ []
    → IsInOrder (map f (set ds h new)) order
left_shorter f ds order h new inside there none =
    subst (λ (W : List (List ℕ)). IsInOrder W order) (sym (map-set f ds h new)) (order_shorter (map f ds) order h (f new) inside (inside_map f ds h there) none)

-- the members of a line
abbrev pub items_of : VecDeque ℕ Global → List ℕ
items_of line = line.items
