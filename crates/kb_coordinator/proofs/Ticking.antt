-- The moments of the groups, one after the other.
use Rattle.std.proofs.Common.{◌≡◌, ◌∙◌, ◌+◌, ◌<◌, ◌≤◌, ℕ, zero, suc, Bool, true, false, List, [], ◌∷◌, ◌++◌, length, Some, slice_get, slice_set, take, drop, map, refl, sym, ap, arith, append_assoc, length-append, nat_eq, if◌then◌else◌, subst}
use Rattle.std.specs.List.{flat_map}
use Rattle.std.proofs.lemmas.List.{append-nil, length-map}
use Rattle.std.proofs.lemmas.Option.{same_Some, none-some}
use Rattle.std.proofs.Math.Numerals.{suc-eq-add-one}
use Rattle.kb_groups.specs.declared.reply.Release.{Release}
use Rattle.kb_groups.specs.Moments.{next_due, tick}
use Rattle.kb_groups.proofs.Quiet.{tick_early}
use Rattle.kb_coordinator.specs.declared.groups.Entry.{Entry}
use Rattle.kb_coordinator.specs.declared.limits.Limits.{Limits}
use Rattle.kb_coordinator.specs.Groups.{AreSorted, Groups, earliest}
use Rattle.kb_coordinator.specs.Calls.{Ticks, at_moment, hung_up, some_released, some_ticked, ticked, unmarked}
use Rattle.kb_coordinator.proofs.Lists.{drop_end}
use Rattle.kb_coordinator.proofs.Places.{groups_of}
use Rattle.kb_coordinator.proofs.Search.{ids_each, sorted_same, sorted_ticked}

ticked_more : (clock : ℕ) (marks : List Bool) (es : List Entry) (b : Bool) (e : Entry) → length marks ≡ length es → some_ticked clock (marks ++ b ∷ []) (es ++ e ∷ []) ≡ some_ticked clock marks es ++ (if b then ticked clock e else e) ∷ []
unfolding some_ticked
ticked_more clock [] [] b e h = refl
ticked_more clock [] (x ∷ es) b e h = absurd (omega (arith, h))
ticked_more clock (m ∷ ms) [] b e h = absurd (omega (arith, h))
ticked_more clock (m ∷ ms) (x ∷ es) b e h = ap (λ l. (if m then ticked clock x else x) ∷ l) (ticked_more clock ms es b e (omega (arith, h)))

released_more : (clock : ℕ) (marks : List Bool) (es : List Entry) (b : Bool) (e : Entry) → length marks ≡ length es → some_released clock (marks ++ b ∷ []) (es ++ e ∷ []) ≡ some_released clock marks es ++ (if b then (tick clock e.group).released else [])
unfolding some_released
released_more clock [] [] b e h = append-nil (if b then (tick clock e.group).released else [])
released_more clock [] (x ∷ es) b e h = absurd (omega (arith, h))
released_more clock (m ∷ ms) [] b e h = absurd (omega (arith, h))
released_more clock (m ∷ ms) (x ∷ es) b e h =
    let here : List Release = if m then (tick clock x.group).released else [] in
    ap (λ l. here ++ l) (released_more clock ms es b e (omega (arith, h))) ∙ sym (append_assoc here (some_released clock ms es) (if b then (tick clock e.group).released else []))

unmarked_more : (marks : List Bool) (b : Bool) → unmarked (marks ++ b ∷ []) ≡ unmarked marks + (if b then 0 else 1)
unfolding unmarked
unmarked_more [] b = omega arith
unmarked_more (m ∷ ms) b = omega (arith, unmarked_more ms b)

taken : {A : Type 0} (i : ℕ) (xs : List A) (x : A) → slice_get xs i ≡ Some x → take (i + 1) xs ≡ take i xs ++ x ∷ []
taken {A = A} i xs x h = rw (← suc-eq-add-one i) (by i xs h)
  where
    by : (i : ℕ) (xs : List A) → slice_get xs i ≡ Some x → take (suc i) xs ≡ take i xs ++ x ∷ []
    by i [] h = absurd (none-some x h)
    by zero (y ∷ xs) h = ap (λ z. z ∷ []) (same_Some _ _ h)
    by (suc i) (y ∷ xs) h = ap (λ l. y ∷ l) (by i xs h)

taken_set : {A : Type 0} (i : ℕ) (xs : List A) (x n : A) → slice_get xs i ≡ Some x → take (i + 1) (slice_set xs i n) ≡ take i xs ++ n ∷ []
taken_set {A = A} i xs x n h = rw (← suc-eq-add-one i) (by i xs h)
  where
    by : (i : ℕ) (xs : List A) → slice_get xs i ≡ Some x → take (suc i) (slice_set xs i n) ≡ take i xs ++ n ∷ []
    by i [] h = absurd (none-some x h)
    by zero (y ∷ xs) h = refl
    by (suc i) (y ∷ xs) h = ap (λ l. y ∷ l) (by i xs h)

dropped_set : {A : Type 0} (i : ℕ) (xs ys : List A) (n : A) → drop i xs ≡ drop i ys → drop (i + 1) (slice_set xs i n) ≡ drop (i + 1) ys
dropped_set {A = A} i xs ys n h = rw (← suc-eq-add-one i) (set_after i xs ∙ one_more i xs ∙ ap tail h ∙ sym (one_more i ys))
  where
    tail : List A → List A
    tail [] = []
    tail (x ∷ xs) = xs

    set_after : (i : ℕ) (xs : List A) → drop (suc i) (slice_set xs i n) ≡ drop (suc i) xs
    set_after i [] = refl
    set_after zero (x ∷ xs) = refl
    set_after (suc i) (x ∷ xs) = set_after i xs

    one_more : (i : ℕ) (xs : List A) → drop (suc i) xs ≡ tail (drop i xs)
    one_more zero [] = refl
    one_more (suc i) [] = refl
    one_more zero (x ∷ xs) = refl
    one_more (suc i) (x ∷ xs) = one_more i xs

got_same : {A : Type 0} (i : ℕ) (xs ys : List A) (x : A) → drop i xs ≡ drop i ys → slice_get xs i ≡ Some x → slice_get ys i ≡ Some x
got_same {A = A} i xs ys x h at = sym (by i ys) ∙ sym (ap (λ l. slice_get l 0) h) ∙ by i xs ∙ at
  where
    by : (i : ℕ) (xs : List A) → slice_get (drop i xs) 0 ≡ slice_get xs i
    by zero xs = refl
    by (suc i) [] = refl
    by (suc i) (x ∷ xs) = by i xs

-- What a loop over the groups knows: those before i had their moment, the others are as they were.
abbrev pub TickedTo : ℕ → ℕ → List Entry → List Entry → List Release → ℕ → Type 0
TickedTo clock i all now released refused = Ticks clock (take i all) (take i now) released refused × (drop i now ≡ drop i all) × (refused ≤ i)

pub tick_begin : (clock : ℕ) (all : List Entry) (rs : List Release) → rs ≡ [] → TickedTo clock 0 all all rs 0
unfolding some_ticked some_released unmarked
tick_begin clock all rs h = (([], refl, refl, h, refl), refl, omega arith)

counted : (n : ℕ) → n ≤ 1 → n ≡ (if nat_eq n 0 then 0 else 1)
counted zero h = refl
counted (suc zero) h = refl
counted (suc (suc n)) h = absurd (omega (arith, h))

pub tick_go : (clock i : ℕ) (all now : List Entry) (e n : Entry) (rs next : List Release) (k m r : ℕ) → TickedTo clock i all now rs k → slice_get now i ≡ Some e → r ≤ 1
    → n ≡ (if nat_eq r 0 then ticked clock e else e) → next ≡ rs ++ (if nat_eq r 0 then (tick clock e.group).released else []) → m ≡ k + r
    → TickedTo clock (i + 1) all (slice_set now i n) next m
tick_go clock i all now e n rs next k m r ((marks, same, new, released, refused), rest, few) at most is_n is_next is_m =
    let b : Bool = nat_eq r 0 in
    let there : slice_get all i ≡ Some e = got_same i now all e rest at in
    let front : take (i + 1) all ≡ take i all ++ e ∷ [] = taken i all e there in (
      (
        marks ++ b ∷ [],
        omega (arith, length-append marks (b ∷ []), length-append (take i all) (e ∷ []), same, ap length front),
        taken_set i now e n at ∙ (λ j. new j ++ is_n j ∷ []) ∙ sym (ticked_more clock marks (take i all) b e same) ∙ sym (ap (some_ticked clock (marks ++ b ∷ [])) front),
        is_next ∙ ap (λ l. l ++ (if b then (tick clock e.group).released else [])) released ∙ sym (released_more clock marks (take i all) b e same) ∙ sym (ap (some_released clock (marks ++ b ∷ [])) front),
        omega (arith, is_m, refused, counted r most, unmarked_more marks b),
      ),
      dropped_set i now all n rest,
      omega (arith, is_m, few, most),
    )

all_taken : {A : Type 0} (i : ℕ) (xs : List A) → length xs ≤ i → take i xs ≡ xs
all_taken zero [] h = refl
all_taken (suc i) [] h = refl
all_taken zero (x ∷ xs) h = absurd (omega (arith, h))
all_taken (suc i) (x ∷ xs) h = ap (λ l. x ∷ l) (all_taken i xs (omega (arith, h)))

pub tick_end : (clock i : ℕ) (all now : List Entry) (rs : List Release) (k : ℕ) → TickedTo clock i all now rs k → length all ≤ i → length now ≤ i → Ticks clock all now rs k
tick_end clock i all now rs k ((marks, same, new, released, refused), rest, few) h j =
    (marks, same ∙ ap length (all_taken i all h), sym (all_taken i now j) ∙ new ∙ ap (some_ticked clock marks) (all_taken i all h), released ∙ ap (some_released clock marks) (all_taken i all h), refused)

all_ticked : (clock : ℕ) (marks : List Bool) (es : List Entry) → length marks ≡ length es → unmarked marks ≡ 0 → some_ticked clock marks es ≡ map (ticked clock) es
unfolding some_ticked unmarked
all_ticked clock [] [] h k = refl
all_ticked clock [] (e ∷ es) h k = absurd (omega (arith, h))
all_ticked clock (m ∷ ms) [] h k = absurd (omega (arith, h))
all_ticked clock (true ∷ ms) (e ∷ es) h k = ap (λ l. ticked clock e ∷ l) (all_ticked clock ms es (omega (arith, h)) (omega (arith, k)))
all_ticked clock (false ∷ ms) (e ∷ es) h k = absurd (omega (arith, k))

all_released : (clock : ℕ) (marks : List Bool) (es : List Entry) → length marks ≡ length es → unmarked marks ≡ 0 → some_released clock marks es ≡ flat_map (λ e. (tick clock e.group).released) es
unfolding some_released unmarked
all_released clock [] [] h k = refl
all_released clock [] (e ∷ es) h k = absurd (omega (arith, h))
all_released clock (m ∷ ms) [] h k = absurd (omega (arith, h))
all_released clock (true ∷ ms) (e ∷ es) h k = ap (λ l. (tick clock e.group).released ++ l) (all_released clock ms es (omega (arith, h)) (omega (arith, k)))
all_released clock (false ∷ ms) (e ∷ es) h k = absurd (omega (arith, k))

-- None was refused.
pub ticks_all : (clock : ℕ) (es new : List Entry) (rs : List Release) (k : ℕ) → Ticks clock es new rs k → k ≡ 0 → (new ≡ map (ticked clock) es) × (rs ≡ flat_map (λ e. (tick clock e.group).released) es)
ticks_all clock es new rs k (marks, same, is, released, refused) h =
    let none : unmarked marks ≡ 0 = sym refused ∙ h in
    (is ∙ all_ticked clock marks es same none, released ∙ all_released clock marks es same none)

-- ## Nothing is due

pub quiet_entry : (clock : ℕ) (e : Entry) → clock < next_due e.group → (ticked clock e ≡ e) × ((tick clock e.group).released ≡ [])
quiet_entry clock e h = ((λ k. record { id = e.id; group = (tick_early clock e.group h k).group }), ap (λ s. s.released) (tick_early clock e.group h))

pub quiet_groups : (clock : ℕ) (es : List Entry) → clock < earliest es → map (ticked clock) es ≡ es
unfolding earliest
quiet_groups clock [] h = refl
quiet_groups clock (e ∷ es) h = (λ k. (quiet_entry clock e (omega (arith, h))).0 k ∷ quiet_groups clock es (omega (arith, h)) k)

pub quiet_released : (clock : ℕ) (es : List Entry) → clock < earliest es → flat_map (λ e. (tick clock e.group).released) es ≡ []
unfolding earliest
quiet_released clock [] h = refl
quiet_released clock (e ∷ es) h = (λ k. (quiet_entry clock e (omega (arith, h))).1 k ++ quiet_released clock es (omega (arith, h)) k)

abbrev all_marked : List Entry → List Bool
all_marked [] = []
all_marked (e ∷ es) = true ∷ all_marked es

same_marks : (es : List Entry) → length (all_marked es) ≡ length es
same_marks [] = refl
same_marks (e ∷ es) = ap suc (same_marks es)

none_unmarked : (es : List Entry) → unmarked (all_marked es) ≡ 0
unfolding unmarked
none_unmarked [] = refl
none_unmarked (e ∷ es) = omega (arith, none_unmarked es)

pub quiet_ticks : (clock : ℕ) (es : List Entry) → clock < earliest es → Ticks clock es es [] 0
quiet_ticks clock es h =
    let marks = all_marked es in
    (marks, same_marks es, sym (all_ticked clock marks es (same_marks es) (none_unmarked es) ∙ quiet_groups clock es h), sym (all_released clock marks es (same_marks es) (none_unmarked es) ∙ quiet_released clock es h), sym (none_unmarked es))

-- ## A moment of all groups

pub quiet_moment : (clock : ℕ) (es : List Entry) (members : ℕ) (limits : Limits) (old rs : List Release) (now : Groups) → groups_of es members limits old ≡ now → rs ≡ [] → clock < earliest es → groups_of es members limits rs ≡ at_moment clock now
quiet_moment clock es members limits old rs now view none h =
    ap (groups_of es members limits) none ∙ (λ k. groups_of (sym (quiet_groups clock es h) k) members limits (sym (quiet_released clock es h) k)) ∙ ap (at_moment clock) view

pub quiet_each : (clock : ℕ) (es : List Entry) (members : ℕ) (limits : Limits) (old rs : List Release) (now : Groups) → groups_of es members limits old ≡ now → rs ≡ [] → clock < earliest es → Ticks clock now.groups es rs 0
quiet_each clock es members limits old rs now view none h =
    subst (λ (gs : Groups). Ticks clock gs.groups es rs 0) view (subst (λ (l : List Release). Ticks clock es es l 0) (sym none) (quiet_ticks clock es h))

ticked_length : (clock : ℕ) (marks : List Bool) (es : List Entry) → length marks ≡ length es → length (some_ticked clock marks es) ≡ length es
unfolding some_ticked
ticked_length clock [] [] h = refl
ticked_length clock [] (e ∷ es) h = absurd (omega (arith, h))
ticked_length clock (m ∷ ms) [] h = absurd (omega (arith, h))
ticked_length clock (m ∷ ms) (e ∷ es) h = ap suc (ticked_length clock ms es (omega (arith, h)))

pub ticks_length : (clock : ℕ) (es new : List Entry) (rs : List Release) (k : ℕ) → Ticks clock es new rs k → length new ≡ length es
ticks_length clock es new rs k (marks, same, is, released, refused) = ap length is ∙ ticked_length clock marks es same

-- What a slice was made stands in its vector.
pub written_back : {A : Type 0} (n : ℕ) (new old : List A) → length new ≡ length old → n ≡ length old → take n (new ++ drop (length new) old) ≡ new
written_back n new old h k =
    ap (λ l. take n (new ++ l)) (drop_end (length new) old (omega (arith, h))) ∙ ap (take n) (append-nil new) ∙ all_taken n new (omega (arith, h, k))

pub all_moment : (clock n : ℕ) (es new : List Entry) (members : ℕ) (limits : Limits) (old rs : List Release) (now : Groups) (k : ℕ) → groups_of es members limits old ≡ now → Ticks clock es new rs k → n ≡ length es → k ≡ 0 → groups_of (take n (new ++ drop (length new) es)) members limits rs ≡ at_moment clock now
all_moment clock n es new members limits old rs now k view ticks len none =
    let all = ticks_all clock es new rs k ticks none in
    ap (λ l. groups_of l members limits rs) (written_back n new es (ticks_length clock es new rs k ticks) len)
    ∙ (λ j. groups_of (all.0 j) members limits (all.1 j)) ∙ ap (at_moment clock) view

pub each_moment : (clock n : ℕ) (es new : List Entry) (members : ℕ) (limits : Limits) (old rs : List Release) (now : Groups) (k : ℕ) → groups_of es members limits old ≡ now → Ticks clock es new rs k → n ≡ length es → Ticks clock now.groups (take n (new ++ drop (length new) es)) rs k
each_moment clock n es new members limits old rs now k view ticks len =
    subst (λ (gs : Groups). Ticks clock gs.groups (take n (new ++ drop (length new) es)) rs k) view
    (subst (λ (l : List Entry). Ticks clock es l rs k) (sym (written_back n new es (ticks_length clock es new rs k ticks) len)) ticks)

-- The order of the ids stays.
pub sorted_moment : (clock n : ℕ) (es new : List Entry) (rs : List Release) (k : ℕ) → Ticks clock es new rs k → n ≡ length es → AreSorted es → AreSorted (take n (new ++ drop (length new) es))
sorted_moment clock n es new rs k ticks len rises =
    subst AreSorted (sym (written_back n new es (ticks_length clock es new rs k ticks) len)) (sorted_ticked clock es new rs k ticks rises)

pub sorted_left : (clock connection n : ℕ) (es new : List Entry) → new ≡ map (hung_up clock connection) es → n ≡ length es → AreSorted es → AreSorted (take n (new ++ drop (length new) es))
sorted_left clock connection n es new is len rises =
    subst AreSorted (sym (written_back n new es (ap length is ∙ length-map es (hung_up clock connection)) len)) (sorted_same es new (ids_each (hung_up clock connection) (λ e. refl) es ∙ ap (map (λ (e : Entry). e.id)) (sym is)) rises)
