-- One group after the other, and the first moment at which something is due.
use Rattle.std.proofs.Common.{◌≡◌, ◌∙◌, ◌+◌, ◌<◌, ◌≤◌, ℕ, zero, suc, min, List, [], ◌∷◌, ◌++◌, length, Bool, true, false, Option, Some, None, get_or, nat_eq, ltb, if◌then◌else◌, slice_get, slice_set, take, drop, map, refl, sym, ap, arith}
use Rattle.std.specs.List.{flat_map, insert}
use Rattle.std.specs.List.Sorted.{IsPartitionPoint}
use Rattle.std.proofs.lemmas.Bool.Decides.{nat_tests}
use Rattle.std.proofs.lemmas.Option.{same_Some, none-some}
use Rattle.std.proofs.Math.Numerals.{suc-eq-add-one}
use Rattle.kb_coordinator.specs.Groups.{AreInOrder}
use Rattle.kb_groups.specs.Moments.{never, next_due}
use Rattle.kb_coordinator.specs.declared.groups.Entry.{Entry}
use Rattle.kb_coordinator.specs.Groups.{earliest}
use Rattle.kb_coordinator.specs.Calls.{reply_among}
use Rattle.kb_groups.specs.declared.reply.Release.{Release}
use Rattle.kb_groups.specs.declared.reply.Reply.{Reply}
use Rattle.kb_coordinator.proofs.Lists.{drop_next, drop_end}

-- An element that is as it was.
pub put_back : {A : Type 0} (xs : List A) (i : ℕ) (x : A) → slice_get xs i ≡ Some x → slice_set xs i x ≡ xs
put_back [] i x h = refl
put_back (y ∷ xs) zero x h = ap (λ z. z ∷ xs) (sym (same_Some _ _ h))
put_back (y ∷ xs) (suc i) x h = ap (λ l. y ∷ l) (put_back xs i x h)

-- One element changed, and all after it to be changed.
pub each_go : {A : Type 0} (f : A → A) (i : ℕ) (xs all : List A) (x n : A) → take i xs ++ map f (drop i xs) ≡ all → slice_get xs i ≡ Some x → n ≡ f x → take (i + 1) (slice_set xs i n) ++ map f (drop (i + 1) (slice_set xs i n)) ≡ all
each_go {A = A} f i xs all x n inv at is =
    let step : take (i + 1) (slice_set xs i n) ++ map f (drop (i + 1) (slice_set xs i n)) ≡ take i xs ++ map f (drop i xs) = rw (← suc-eq-add-one i) (by i xs at) in
    step ∙ inv
  where
    by : (i : ℕ) (xs : List A) → slice_get xs i ≡ Some x → take (suc i) (slice_set xs i n) ++ map f (drop (suc i) (slice_set xs i n)) ≡ take i xs ++ map f (drop i xs)
    by i [] h = absurd (none-some x h)
    by zero (y ∷ xs) h = ap (λ z. z ∷ map f xs) (is ∙ ap f (sym (same_Some _ _ h)))
    by (suc i) (y ∷ xs) h = ap (λ l. y ∷ l) (by i xs h)

pub each_end : {A : Type 0} (f : A → A) (i : ℕ) (xs all : List A) → take i xs ++ map f (drop i xs) ≡ all → length xs ≤ i → xs ≡ all
each_end {A = A} f i xs all inv h = sym (by i xs h) ∙ inv
  where
    by : (i : ℕ) (xs : List A) → length xs ≤ i → take i xs ++ map f (drop i xs) ≡ xs
    by zero [] h = refl
    by (suc i) [] h = refl
    by zero (x ∷ xs) h = absurd (omega (arith, h))
    by (suc i) (x ∷ xs) h = ap (λ l. x ∷ l) (by i xs (omega (arith, h)))

-- A bound of what is due, with one group changed.
pub due_put : (es : List Entry) (i : ℕ) (n : Entry) (q p : ℕ) → q ≤ earliest es → p ≤ next_due n.group → min q p ≤ earliest (slice_set es i n)
unfolding earliest
due_put [] i n q p h k = omega (arith, h)
due_put (e ∷ es) zero n q p h k = omega (arith, h, k)
due_put (e ∷ es) (suc i) n q p h k = omega (arith, due_put es i n q p (omega (arith, h)) k, h)

-- A bound of what is due, with a new group.
pub due_insert : (es : List Entry) (i : ℕ) (n : Entry) (q p : ℕ) → q ≤ earliest es → p ≤ next_due n.group → min q p ≤ earliest (insert es i n)
unfolding earliest
due_insert [] zero n q p h k = omega (arith, h, k)
due_insert [] (suc i) n q p h k = omega (arith, h, k)
due_insert (e ∷ es) zero n q p h k = omega (arith, h, k)
due_insert (e ∷ es) (suc i) n q p h k = omega (arith, due_insert es i n q p (omega (arith, h)) k, h)

-- The first moment of the groups up to here, and of those after.
pub first_go : (i : ℕ) (es : List Entry) (e : Entry) (m n : ℕ) → min m (earliest (drop i es)) ≡ earliest es → slice_get es i ≡ Some e → n ≡ min m (next_due e.group) → min n (earliest (drop (i + 1) es)) ≡ earliest es
unfolding earliest
first_go i es e m n inv at is =
    let next : earliest (drop i es) ≡ min (next_due e.group) (earliest (drop (i + 1) es)) = ap earliest (drop_next i es e at) in
    omega (arith, inv, next, is)

pub first_end : (i : ℕ) (es : List Entry) (m : ℕ) → min m (earliest (drop i es)) ≡ earliest es → m ≤ never → length es ≤ i → m ≡ earliest es
unfolding earliest
first_end i es m inv fits h =
    let rest : earliest (drop i es) ≡ never = ap earliest (drop_end i es h) in
    omega (arith, inv, rest, fits)

pub none_due : (es : List Entry) → es ≡ [] → never ≤ earliest es
unfolding earliest
none_due [] none = omega arith
none_due (e ∷ es) none = absurd (omega (arith, ap length none))

pub first_most : (es : List Entry) → earliest es ≤ never
unfolding earliest
first_most [] = omega arith
first_most (e ∷ es) = omega (arith, first_most es)

pub bound_go : (i : ℕ) (es : List Entry) (e : Entry) (m n q : ℕ) → min m (earliest (drop i es)) ≤ earliest es → slice_get es i ≡ Some e → q ≤ next_due e.group → n ≡ min m q → min n (earliest (drop (i + 1) es)) ≤ earliest es
unfolding earliest
bound_go i es e m n q inv at under is =
    let next : earliest (drop i es) ≡ min (next_due e.group) (earliest (drop (i + 1) es)) = ap earliest (drop_next i es e at) in
    omega (arith, inv, next, under, is)

pub bound_end : (i : ℕ) (es : List Entry) (m : ℕ) → min m (earliest (drop i es)) ≤ earliest es → m ≤ never → length es ≤ i → m ≤ earliest es
unfolding earliest
bound_end i es m inv fits h =
    let rest : earliest (drop i es) ≡ never = ap earliest (drop_end i es h) in
    omega (arith, inv, rest, fits)

-- ## Replies by connection

pub among_skip : (connection : ℕ) (rs ss : List Release) → reply_among connection rs ≡ None → reply_among connection (rs ++ ss) ≡ reply_among connection ss
unfolding reply_among
among_skip connection [] ss h = refl
among_skip connection (r ∷ rs) ss h = by (nat_eq r.connection connection) h (among_skip connection rs ss)
  where
    by : (b : Bool) → (if b then Some r.reply else reply_among connection rs) ≡ None → (reply_among connection rs ≡ None → reply_among connection (rs ++ ss) ≡ reply_among connection ss) → (if b then Some r.reply else reply_among connection (rs ++ ss)) ≡ reply_among connection ss
    by true k rest = absurd (none-some r.reply (sym k))
    by false k rest = rest k

pub among_here : (connection : ℕ) (rs ss : List Release) (reply : Reply) → reply_among connection rs ≡ Some reply → reply_among connection (rs ++ ss) ≡ Some reply
unfolding reply_among
among_here connection [] ss reply h = absurd (none-some reply h)
among_here connection (r ∷ rs) ss reply h = by (nat_eq r.connection connection) h (among_here connection rs ss reply)
  where
    by : (b : Bool) → (if b then Some r.reply else reply_among connection rs) ≡ Some reply → (reply_among connection rs ≡ Some reply → reply_among connection (rs ++ ss) ≡ Some reply) → (if b then Some r.reply else reply_among connection (rs ++ ss)) ≡ Some reply
    by true k rest = k
    by false k rest = rest k

none_over : (connection : ℕ) (rs : List Release) → ((k : ℕ) (d : Release) → k < length rs → connection < (get_or rs k d).connection) → reply_among connection rs ≡ None
unfolding reply_among
none_over connection [] h = refl
none_over connection (r ∷ rs) h =
    let other : nat_eq r.connection connection ≡ false = let over = h 0 r (omega arith) in grind (arith, nat_tests, over) in
    ap (λ b. if b then Some r.reply else reply_among connection rs) other ∙ none_over connection rs (λ k d lt. h (suc k) d (omega (arith, lt)))

abbrev pub first_reply : ℕ → Option Release → Option Reply
first_reply connection None = None
first_reply connection (Some r) = if nat_eq r.connection connection then Some r.reply else None

-- Where they stand by connection, the first that is not below it has the reply, if one has.
pub among_from : (connection i : ℕ) (rs : List Release) → i ≤ length rs → IsPartitionPoint (λ (r : Release). ltb r.connection connection ≡ true) (λ (r : Release). ltb r.connection connection ≡ false) rs i → AreInOrder rs → reply_among connection rs ≡ first_reply connection (slice_get rs i)
unfolding reply_among
among_from connection i [] within parted order = refl
among_from connection zero (r ∷ rs) within parted order =
    by (nat_eq r.connection connection) refl
  where
    by : (b : Bool) → nat_eq r.connection connection ≡ b → (if b then Some r.reply else reply_among connection rs) ≡ (if b then Some r.reply else None)
    by true h = refl
    by false h =
        let high = parted.1 0 r (omega arith) (omega arith) in
        let over : connection < r.connection = grind (arith, nat_tests, h, high) in
        none_over connection rs (λ k d lt. let next = order 0 (suc k) d (omega arith) (omega (arith, lt)) in omega (arith, over, next))
among_from connection (suc i) (r ∷ rs) within parted order =
    let low = parted.0 0 r (omega arith) (omega arith) in
    let other : nat_eq r.connection connection ≡ false = grind (arith, nat_tests, low) in
    ap (λ b. if b then Some r.reply else reply_among connection rs) other
    ∙ among_from connection i rs (omega (arith, within)) (λ k d z l. parted.0 (suc k) d (omega arith) (omega (arith, l)), λ k d z l. parted.1 (suc k) d (omega (arith, z)) (omega (arith, l)))
    (λ a b d le lt. order (suc a) (suc b) d (omega (arith, le)) (omega (arith, lt)))

pub none_first : (connection i : ℕ) (rs : List Release) → length rs ≤ i → None ≡ first_reply connection (slice_get rs i)
none_first connection i rs over = ap (first_reply connection) (sym (by rs i over))
  where
    by : (rs : List Release) (i : ℕ) → length rs ≤ i → slice_get rs i ≡ None
    by [] i h = refl
    by (r ∷ rs) zero h = absurd (omega (arith, h))
    by (r ∷ rs) (suc i) h = by rs i (omega (arith, h))

pub one_first : (connection i : ℕ) (rs : List Release) (r : Release) → slice_get rs i ≡ Some r → nat_eq r.connection connection ≡ true → Some r.reply ≡ first_reply connection (slice_get rs i)
one_first connection i rs r at same = sym (ap (first_reply connection) at ∙ ap (λ b. if b then Some r.reply else None) same)

pub other_first : (connection i : ℕ) (rs : List Release) (r : Release) → slice_get rs i ≡ Some r → nat_eq r.connection connection ≡ false → None ≡ first_reply connection (slice_get rs i)
other_first connection i rs r at differ = sym (ap (first_reply connection) at ∙ ap (λ b. if b then Some r.reply else None) differ)

pub lists_go : {X : Type 0} (f : X → List Release) (connection i : ℕ) (xs : List X) (x : X) (o : Option Reply) → reply_among connection (flat_map f (drop i xs)) ≡ o → slice_get xs i ≡ Some x → reply_among connection (f x) ≡ None → reply_among connection (flat_map f (drop (i + 1) xs)) ≡ o
lists_go f connection i xs x o inv at none =
    sym (among_skip connection (f x) (flat_map f (drop (i + 1) xs)) none) ∙ sym (ap (λ l. reply_among connection (flat_map f l)) (drop_next i xs x at)) ∙ inv

pub lists_stop : {X : Type 0} (f : X → List Release) (connection i : ℕ) (xs : List X) (x : X) (o : Option Reply) (reply : Reply) → reply_among connection (flat_map f (drop i xs)) ≡ o → slice_get xs i ≡ Some x → reply_among connection (f x) ≡ Some reply → Some reply ≡ o
lists_stop f connection i xs x o reply inv at found =
    sym (among_here connection (f x) (flat_map f (drop (i + 1) xs)) reply found) ∙ sym (ap (λ l. reply_among connection (flat_map f l)) (drop_next i xs x at)) ∙ inv

pub lists_end : {X : Type 0} (f : X → List Release) (connection i : ℕ) (xs : List X) (o : Option Reply) → reply_among connection (flat_map f (drop i xs)) ≡ o → length xs ≤ i → None ≡ o
unfolding reply_among
lists_end f connection i xs o inv h = sym (ap (λ l. reply_among connection (flat_map f l)) (drop_end i xs h)) ∙ inv
