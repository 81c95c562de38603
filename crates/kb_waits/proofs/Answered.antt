-- What a list of answers says of a queue.
use Rattle.std.proofs.Common.{◌≡◌, ℕ, ◌≤◌, Bool, true, false, cond, eqb, leb, List, [], ◌∷◌, length, Option, None, Some, refl, sym, ap, ◌∙◌, arith}
use Rattle.std.specs.Prelude.{◌||◌, ◌&&◌, IsSomeAnd, Contains, map, filter, is_some}
use Rattle.std.specs.Bool.{Decides}
use Rattle.std.specs.BTreeMap.{is_at}
use Rattle.std.specs.BTreeSet.{BTreeSet}
use Rattle.std.specs.List.{list_any, dedup, IsDistinct, AllByRecursion}
use Rattle.std.specs.List.Sorted.{IsPermutation, IsSorted, IsStrictlySortedBy}
use Rattle.std.specs.Ordering.{nat_cmp, is_eq}
use Rattle.std.specs.declared.cmp.Ordering.TheVariants.{Less}
use Rattle.std.specs.Cmp.{nat_cmp_total, unsigned_ties, unsigned_tied, eq_by_cmp_equiv, both_ways}
use Rattle.std.specs.FinMap as fin
use Rattle.std.specs.Map.{keys_of}
use Rattle.std.proofs.lemmas.Bool.{true≢false, false≢true, eqb-true}
use Rattle.std.proofs.lemmas.List.{length-map}
use Rattle.std.proofs.lemmas.Bool.Decides.{nat_tests}
use Rattle.std.proofs.lemmas.List.Folds.{Any-from_list_any, list_any-from_Any}
use Rattle.std.proofs.lemmas.List.Kept.{Contains-dedup_nat, Contains-from_dedup}
use Rattle.std.proofs.lemmas.List.Sorted.{Contains-permutation, IsPermutation-sym, IsNonDecreasingBy-from_sort}
use Rattle.std.proofs.lemmas.Map.Views.{Contains-from_any, list_any-from_Contains}
use Rattle.std.proofs.lemmas.Map.Made.{length-le_from_is_member, is_some-lookup}
use Rattle.std.proofs.lemmas.Map.Keys.{sorted_head, sorted_tail, IsDistinct-cons, IsDistinct-from_sorted, IsDistinct-IsPermutation, IsStrictlyIncreasing-from_distinct, IsStrictlyIncreasing-from_sorted, IsStrictlyIncreasing-dedup, apart_from_distinct, IsDistinct-from_apart}
use Rattle.slab.specs.Slab.{Slab}
use Rattle.kb_waits.specs.Due.{by_deadline, due_of}
use Rattle.kb_waits.specs.Entries.{wait_at, queue_at}
use Rattle.kb_waits.specs.Queue.{Queue, Wait, AreParked, IsAny, IsDue, IsUnder, IsUnderAny}
use Rattle.kb_waits.specs.Waiters.{AreWaiting}
use Rattle.kb_waits.specs.declared.waiters.Waiters.{Waiters}
use Rattle.kb_waits.specs.Waits.{passes, ends_at, is_under, is_under_any, IsIndexed}
use Rattle.kb_waits.specs.declared.entry.Entry.{Entry}
use Rattle.kb_waits.specs.declared.key.WaitKey.{WaitKey}
use Rattle.kb_waits.proofs.Indexed.{dated_at, at_pair}
use Rattle.kb_waits.proofs.Keys.{any_key-decides}
use Rattle.kb_waits.proofs.Queues.{tied, tied_same, tied-itself, contains-queue_by}

passes-true : (t : Wait → Bool) (P : Wait → Type 0) → ((w : Wait) → Decides (t w) (P w)) → (o : Option Wait) → passes t o ≡ true → IsSomeAnd o P
passes-true t P d None h = absurd (true≢false (sym h))
passes-true t P d (Some w) h = (d w).0 h

true-passes : (t : Wait → Bool) (P : Wait → Type 0) → ((w : Wait) → Decides (t w) (P w)) → (o : Option Wait) → IsSomeAnd o P → passes t o ≡ true
true-passes t P d None h = absurd h
true-passes t P d (Some w) h = (d w).1 h

-- a list that has each connection whose wait passes
module _ (q : Queue) (t : Wait → Bool) (P : Wait → Type 0) (d : (w : Wait) → Decides (t w) (P w)) (xs : List ℕ) (h : (n : ℕ) → list_any (tied n) xs ≡ passes t (fin.get q n)) where
  listed_parked : (n : ℕ) → Contains xs n → IsSomeAnd (fin.get q n) P
  listed_parked n k = passes-true t P d (fin.get q n) (sym (h n) ∙ list_any-from_Contains (eq_by_cmp_equiv nat_cmp_total) n xs k)

  parked_listed : (n : ℕ) → IsSomeAnd (fin.get q n) P → Contains xs n
  parked_listed n k = Contains-from_any tied_same n xs (h n ∙ true-passes t P d (fin.get q n) k)

  plainly : (ys : List ℕ) → IsDistinct tied ys → IsDistinct eqb ys
  plainly ys apart = IsDistinct-from_apart eqb ys (λ i j e l m. unsigned_ties _ _ ∙ apart_from_distinct tied ys i j e apart l m)

  -- the same, each once, sorted
  pub AreParked-sorted : (ys : List ℕ) → IsDistinct tied xs → IsPermutation xs ys → IsSorted nat_cmp ys → AreParked q P ys
  AreParked-sorted ys apart moved sorted = record {
    exactly = λ n. ((λ (k : Contains ys n). listed_parked n (Contains-permutation ys xs n (IsPermutation-sym xs ys moved) k)), (λ (k : IsSomeAnd (fin.get q n) P). Contains-permutation xs ys n moved (parked_listed n k)));
    ascending = IsStrictlyIncreasing-from_distinct ys (IsNonDecreasingBy-from_sort (λ x. x) ys sorted) (plainly ys (IsDistinct-IsPermutation tied (eq_by_cmp_equiv nat_cmp_total).symm xs ys moved apart));
  }

  -- the same, sorted, the repeats dropped
  pub AreParked-deduped : (ys : List ℕ) → IsPermutation xs ys → IsSorted nat_cmp ys → AreParked q P (dedup eqb ys)
  AreParked-deduped ys moved sorted = record {
    exactly = λ n. ((λ (k : Contains (dedup eqb ys) n). listed_parked n (Contains-permutation ys xs n (IsPermutation-sym xs ys moved) (Contains-from_dedup eqb ys n k))), (λ (k : IsSomeAnd (fin.get q n) P). Contains-dedup_nat ys n (Contains-permutation xs ys n moved (parked_listed n k))));
    ascending = IsStrictlyIncreasing-dedup ys sorted;
  }

  -- the same, in order
  pub AreParked-ordered : IsStrictlySortedBy nat_cmp xs → AreParked q P xs
  AreParked-ordered ordered = record { exactly = λ n. (listed_parked n, parked_listed n); ascending = IsStrictlyIncreasing-from_sorted xs ordered }

there : (o : Option Wait) → is_some o ≡ passes (λ w. true) o
there None = refl
there (Some w) = refl

-- the connections with a slot are all that are parked
pub AreParked-all : (slab : Slab Entry) (ps : List (ℕ × ℕ)) → IsStrictlySortedBy nat_cmp (keys_of ps) → AreParked (queue_at slab ps) IsAny (keys_of ps)
AreParked-all slab ps ordered =
    AreParked-ordered (queue_at slab ps) (λ w. true) IsAny (λ w. ((λ h. tt), (λ h. refl))) (keys_of ps)
    (λ n. sym (is_some-lookup (tied n) ps) ∙ sym (contains-queue_by (wait_at slab) ps n) ∙ there (fin.get (queue_at slab ps) n))
    ordered

-- whether a wait is due
abbrev pub is_due : ℕ → Wait → Bool
is_due clock w = leb w.deadline clock

pub is_due-decides : (clock : ℕ) (w : Wait) → Decides (is_due clock w) (IsDue clock w)
is_due-decides clock w = (λ h. grind (arith, nat_tests), λ h. grind (arith, nat_tests))

-- whether a list has a pair
abbrev pair_in : ℕ → ℕ → List (ℕ × ℕ) → Bool
pair_in d n ps = list_any (is_at (by_deadline (d, n))) ps

abbrev Witness : ℕ → ℕ → List (ℕ × ℕ) → Type 0
Witness clock n ps = (d : ℕ) × (pair_in d n ps ≡ true) × (leb d clock ≡ true)

or_true : (b c : Bool) → c ≡ true → (b || c) ≡ true
or_true true c h = refl
or_true false c h = h

true_or : (b c : Bool) → b ≡ true → (b || c) ≡ true
true_or b c h = ap (λ x. x || c) h

later : (clock n : ℕ) (p : ℕ × ℕ) (ps : List (ℕ × ℕ)) → Witness clock n ps → Witness clock n (p ∷ ps)
later clock n p ps w = (w.0, or_true _ _ w.1, w.2)

-- the pairs whose deadline has come
abbrev dues : ℕ → List (ℕ × ℕ) → List (ℕ × ℕ)
dues clock ps = filter (λ (x : ℕ × ℕ). leb x.0 clock) ps

found_one : (clock n : ℕ) (p : ℕ × ℕ) (ps : List (ℕ × ℕ)) (b c : Bool) → leb p.0 clock ≡ b → tied n p.1 ≡ c → (list_any (tied n) (due_of clock ps) ≡ true → Witness clock n ps) → list_any (tied n) (map (λ (x : ℕ × ℕ). x.1) (cond b (p ∷ dues clock ps) (dues clock ps))) ≡ true → Witness clock n (p ∷ ps)
found_one clock n p ps true true l t rest h = (p.0, true_or _ _ (at_pair p.0 n p.0 p.1 ∙ ap (λ b. b && tied n p.1) (tied-itself p.0) ∙ t), l)
found_one clock n p ps true false l t rest h = later clock n p ps (rest (sym (ap (λ b. b || list_any (tied n) (due_of clock ps)) t) ∙ h))
found_one clock n p ps false c l t rest h = later clock n p ps (rest h)

-- a connection that is due has a pair
witness : (clock n : ℕ) (ps : List (ℕ × ℕ)) → list_any (tied n) (due_of clock ps) ≡ true → Witness clock n ps
witness clock n [] h = absurd (false≢true h)
witness clock n (p ∷ ps) h = found_one clock n p ps (leb p.0 clock) (tied n p.1) refl refl (witness clock n ps) h

first : (a b : Bool) → (a && b) ≡ true → a ≡ true
first true b h = refl
first false b h = h

second : (a b : Bool) → (a && b) ≡ true → b ≡ true
second true b h = h
second false b h = absurd (false≢true h)

listed_one : (clock d n : ℕ) (p : ℕ × ℕ) (ps : List (ℕ × ℕ)) (b c : Bool) → leb p.0 clock ≡ b → is_at (by_deadline (d, n)) p ≡ c → leb d clock ≡ true → (pair_in d n ps ≡ true → list_any (tied n) (due_of clock ps) ≡ true) → (c || pair_in d n ps) ≡ true → list_any (tied n) (map (λ (x : ℕ × ℕ). x.1) (cond b (p ∷ dues clock ps) (dues clock ps))) ≡ true
listed_one clock d n p ps true true l t e rest h = true_or _ _ (second (tied d p.0) (tied n p.1) (sym (at_pair d n p.0 p.1) ∙ t))
listed_one clock d n p ps true false l t e rest h = or_true _ _ (rest h)
listed_one clock d n p ps false true l t e rest h =
    let same : d ≡ p.0 = tied_same d p.0 (first (tied d p.0) (tied n p.1) (sym (at_pair d n p.0 p.1) ∙ t)) in
    absurd (false≢true (sym l ∙ ap (λ x. leb x clock) (sym same) ∙ e))
listed_one clock d n p ps false false l t e rest h = rest h

-- a pair with such a deadline is due
listed : (clock d n : ℕ) (ps : List (ℕ × ℕ)) → leb d clock ≡ true → pair_in d n ps ≡ true → list_any (tied n) (due_of clock ps) ≡ true
listed clock d n [] e h = h
listed clock d n (p ∷ ps) e h = listed_one clock d n p ps (leb p.0 clock) (is_at (by_deadline (d, n)) p) refl refl e (listed clock d n ps e) h

ends_due : (o : Option Wait) (d clock : ℕ) → passes (ends_at d) o ≡ true → leb d clock ≡ true → passes (is_due clock) o ≡ true
ends_due None d clock h l = h
ends_due (Some w) d clock h l = ap (λ x. leb x clock) (eqb-true w.deadline d h) ∙ l

due_ends : (set : BTreeSet (ℕ × ℕ)) (n clock : ℕ) (o : Option Wait) → ((d : ℕ) → dated_at set d n ≡ passes (ends_at d) o) → passes (is_due clock) o ≡ true → list_any (tied n) (due_of clock set.keys) ≡ true
due_ends set n clock None dated h = absurd (false≢true h)
due_ends set n clock (Some w) dated h = listed clock w.deadline n set.keys h (dated w.deadline ∙ sym (unsigned_tied w.deadline w.deadline) ∙ tied-itself w.deadline)

-- the due connections are those whose wait is due
pub any-due : (q : Queue) (set : BTreeSet (ℕ × ℕ)) (w : Waiters) (clock : ℕ) → IsIndexed q set w → (n : ℕ) → list_any (tied n) (due_of clock set.keys) ≡ passes (is_due clock) (fin.get q n)
any-due q set w clock i n = both_ways _ _
    (λ h. let found = witness clock n set.keys h in ends_due (fin.get q n) found.0 clock (sym (i.dated found.0 n) ∙ found.1) found.2)
    (λ h. due_ends set n clock (fin.get q n) (λ d. i.dated d n) h)

none_equal : (p : ℕ × ℕ) (ps : List (ℕ × ℕ)) → AllByRecursion (λ y. by_deadline p y ≡ Less) ps → pair_in p.0 p.1 ps ≡ false
none_equal p [] h = refl
none_equal p (y ∷ ys) h = ap (λ o. is_eq o || pair_in p.0 p.1 ys) h.0 ∙ none_equal p ys h.1

none_tied : (x : ℕ) (ys : List ℕ) → list_any (tied x) ys ≡ false → AllByRecursion (λ y. tied x y ≡ false) ys
none_tied x [] h = tt
none_tied x (y ∷ ys) h = (neither (tied x y) _ h, none_tied x ys (nor (tied x y) _ h))
  where
    neither : (a b : Bool) → (a || b) ≡ false → a ≡ false
    neither true b h = h
    neither false b h = refl

    nor : (a b : Bool) → (a || b) ≡ false → b ≡ false
    nor true b h = absurd (true≢false h)
    nor false b h = h

-- each connection has one deadline in the list
abbrev OneEach : List (ℕ × ℕ) → Type 0
OneEach ps = (n d e : ℕ) → pair_in d n ps ≡ true → pair_in e n ps ≡ true → d ≡ e

fresh_one : (clock : ℕ) (p : ℕ × ℕ) (ps : List (ℕ × ℕ)) (b : Bool) → list_any (tied p.1) (due_of clock ps) ≡ b → OneEach (p ∷ ps) → AllByRecursion (λ y. by_deadline p y ≡ Less) ps → list_any (tied p.1) (due_of clock ps) ≡ false
fresh_one clock p ps true h one less =
    let found = witness clock p.1 ps h in
    let itself : pair_in p.0 p.1 (p ∷ ps) ≡ true = true_or _ _ (at_pair p.0 p.1 p.0 p.1 ∙ ap (λ b. b && tied p.1 p.1) (tied-itself p.0) ∙ tied-itself p.1) in
    let same : found.0 ≡ p.0 = one p.1 found.0 p.0 (or_true _ _ found.1) itself in
    absurd (false≢true (sym (none_equal p ps less) ∙ ap (λ d. pair_in d p.1 ps) (sym same) ∙ found.1))
fresh_one clock p ps false h one less = h

due_one : (clock : ℕ) (p : ℕ × ℕ) (ps : List (ℕ × ℕ)) (b : Bool) → list_any (tied p.1) (due_of clock ps) ≡ false → IsDistinct tied (due_of clock ps) → IsDistinct tied (map (λ (x : ℕ × ℕ). x.1) (cond b (p ∷ dues clock ps) (dues clock ps)))
due_one clock p ps true fresh rest = IsDistinct-cons tied p.1 (due_of clock ps) (none_tied p.1 _ fresh) rest
due_one clock p ps false fresh rest = rest

distinct_due : (clock : ℕ) (ps : List (ℕ × ℕ)) → IsStrictlySortedBy by_deadline ps → OneEach ps → IsDistinct tied (due_of clock ps)
unfolding IsDistinct
distinct_due clock [] s one = tt
distinct_due clock (p ∷ ps) s one =
    due_one clock p ps (leb p.0 clock) (fresh_one clock p ps _ refl one (sorted_head by_deadline p ps s))
    (distinct_due clock ps (sorted_tail by_deadline p ps s) (λ n d e h k. one n d e (or_true _ _ h) (or_true _ _ k)))

same_end : (o : Option Wait) (d e : ℕ) → passes (ends_at d) o ≡ true → passes (ends_at e) o ≡ true → d ≡ e
same_end None d e h k = absurd (false≢true h)
same_end (Some w) d e h k = sym (eqb-true w.deadline d h) ∙ eqb-true w.deadline e k

-- no due connection stands twice
pub IsDistinct-due : (q : Queue) (set : BTreeSet (ℕ × ℕ)) (w : Waiters) (clock : ℕ) → IsIndexed q set w → IsStrictlySortedBy by_deadline set.keys → IsDistinct tied (due_of clock set.keys)
IsDistinct-due q set w clock i s = distinct_due clock set.keys s (λ n d e h k. same_end (fin.get q n) d e (sym (i.dated d n) ∙ h) (sym (i.dated e n) ∙ k))

pub is_under-decides : (k : WaitKey) (w : Wait) → Decides (is_under k w) (IsUnder k w)
is_under-decides k w = any_key-decides k w.keys

pub is_under_any-decides : (ks : List WaitKey) (w : Wait) → Decides (is_under_any ks w) (IsUnderAny ks w)
is_under_any-decides ks w = (
  λ h. let found = Any-from_list_any (λ k. is_under k w) ks h in (found.0, found.1, found.2, found.3, (is_under-decides found.1 w).0 found.4),
  λ found. list_any-from_Any (λ k. is_under k w) ks (found.0, found.1, found.2, found.3, (is_under-decides found.1 w).1 found.4),
)

no_keys : (ks : List WaitKey) → list_any (λ k. false) ks ≡ false
no_keys [] = refl
no_keys (k ∷ ks) = no_keys ks

passes-any : (ks : List WaitKey) (o : Option Wait) → list_any (λ k. passes (is_under k) o) ks ≡ passes (is_under_any ks) o
passes-any ks None = no_keys ks
passes-any ks (Some w) = refl

-- those who wait for one of the keys are those whose wait has one of them
pub any-under : (q : Queue) (set : BTreeSet (ℕ × ℕ)) (w : Waiters) (ks : List WaitKey) (xs : List ℕ) → IsIndexed q set w → AreWaiting w ks xs → (n : ℕ) → list_any (tied n) xs ≡ passes (is_under_any ks) (fin.get q n)
any-under q set w ks xs i waiting n = waiting n ∙ (λ j. list_any (λ k. i.keyed k n j) ks) ∙ passes-any ks (fin.get q n)

some_parked : (t : Wait → Bool) (o : Option Wait) → passes t o ≡ true → is_some o ≡ true
some_parked t None h = h
some_parked t (Some w) h = refl

-- those who wait for a key are parked, so they are no more than the parked
pub few_waiters : (q : Queue) (k : WaitKey) (xs : List ℕ) → ((n : ℕ) → list_any (tied n) xs ≡ passes (is_under k) (fin.get q n)) → IsStrictlySortedBy nat_cmp xs → length xs ≤ fin.len q
few_waiters q k xs h s =
    let few : length xs ≤ length (fin.keys q) = length-le_from_is_member (eq_by_cmp_equiv nat_cmp_total) xs (fin.keys q) (IsDistinct-from_sorted nat_cmp xs s) (λ n a. sym (fin.contains_key-keys q n) ∙ some_parked (is_under k) (fin.get q n) (sym (h n) ∙ a)) in
    omega (arith, few, fin.len-entries q, length-map (fin.entries q) (λ (e : ℕ × Wait). e.0))

pub ordered-none : IsStrictlySortedBy nat_cmp []
unfolding IsStrictlySortedBy
ordered-none = tt
