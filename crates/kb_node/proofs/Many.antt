-- How many sockets a holder has.
use Rattle.std.proofs.Common.{◌≡◌, ◌≢◌, ◌<◌, ◌≤◌, ◌+◌, ◌∙◌, ℕ, List, [], ◌∷◌, map, Bool, true, false, not, ◌&&◌, cond, nat_eq, nat_lt, if◌then◌else◌, Option, Some, None, unwrap_or, option_map, ⊎_elim, refl, sym, ap, subst, arith}
use Rattle.std.specs.List.{AllByRecursion, IsDistinct, find, count_by, sum_by}
use Rattle.std.specs.List.Sorted.{IsStrictlySortedBy}
use Rattle.std.specs.Map.{keys_of, lookup, remove_entry, values_of}
use Rattle.std.specs.BTreeMap.{is_at}
use Rattle.std.specs.Ordering.{nat_cmp, eq_by_cmp}
use Rattle.std.specs.Cmp.{unsigned_tied}
use Rattle.std.proofs.lemmas.Bool.{ne_eqb}
use Rattle.std.proofs.lemmas.Bool.Decides.{eqb_tells, nat_tests}
use Rattle.std.proofs.lemmas.Cmp.{eq_by_cmp_equiv, nat_cmp_total}
use Rattle.std.proofs.lemmas.List.Sums.{sum_by-cons}
use Rattle.std.proofs.lemmas.Map.{lookup-remove_entry}
use Rattle.std.proofs.lemmas.Map.Entries.{sum_by-remove_entry}
use Rattle.std.proofs.lemmas.Map.Keys.{IsDistinct-cons, IsDistinct-from_sorted, IsDistinct-head, IsDistinct-tail}
use Rattle.std.proofs.lemmas.Map.Made.{nil_from_lookup}
use Rattle.kb_node.specs.declared.socket.Socket.{Socket}
use Rattle.kb_node.specs.Commits.{Host}
use Rattle.kb_node.specs.Numbers.{Rise}
use Rattle.kb_node.specs.SocketShares.{Counted, Seats, count_of, holder_of, seat_among, without_socket}
use Rattle.kb_node.specs.Seats.{AreSeated, is_let_in_by, open_strangers, open_with, seat_in}
use Rattle.kb_node.proofs.Counts.{apart}
use Rattle.kb_node.proofs.Numbers.{is_it, is_not, none_below}
use Rattle.kb_node.proofs.Seats.{rising}

abbrev same : ℕ → ℕ → Bool
same = eq_by_cmp nat_cmp

-- 1. One key less

one_all : (P : ℕ → Type 0) (b : Bool) (e : ℕ × ℕ) (es fs : Counted) → P e.0 → AllByRecursion P (keys_of es) → AllByRecursion P (keys_of fs)
    → AllByRecursion P (keys_of (cond b es (e ∷ fs)))
one_all P true e es fs here all less = all
one_all P false e es fs here all less = (here, less)

all_without : (P : ℕ → Type 0) (test : ℕ → Bool) (es : Counted) → AllByRecursion P (keys_of es) → AllByRecursion P (keys_of (remove_entry test es))
all_without P test [] all = all
all_without P test (e ∷ es) all = one_all P (test e.0) e es (remove_entry test es) all.0 all.1 (all_without P test es all.1)

one_apart : (b : Bool) (e : ℕ × ℕ) (es fs : Counted) → AllByRecursion (λ y. same e.0 y ≡ false) (keys_of fs) → IsDistinct same (keys_of es)
    → IsDistinct same (keys_of fs) → IsDistinct same (keys_of (cond b es (e ∷ fs)))
one_apart true e es fs other all less = all
one_apart false e es fs other all less = IsDistinct-cons same e.0 (keys_of fs) other less

apart_without : (test : ℕ → Bool) (es : Counted) → IsDistinct same (keys_of es) → IsDistinct same (keys_of (remove_entry test es))
apart_without test [] d = d
apart_without test (e ∷ es) d =
    let rest = IsDistinct-tail same e.0 (keys_of es) d in
    one_apart (test e.0) e es (remove_entry test es) (all_without (λ y. same e.0 y ≡ false) test es (IsDistinct-head same e.0 (keys_of es) d))
    rest (apart_without test es rest)

tied : (n x y : ℕ) → is_at (nat_cmp n) x ≡ true → is_at (nat_cmp n) y ≡ same x y
tied n x y is = grind (arith, nat_tests, unsigned_tied)

-- nobody has it any more, and all others have what they had
left_of : (n k : ℕ) (es : Counted) → IsDistinct same (keys_of es) → holder_of k (without_socket n es) ≡ cond (is_at (nat_cmp n) k) None (holder_of k es)
left_of n k es d = lookup-remove_entry (eq_by_cmp_equiv nat_cmp_total) (is_at (nat_cmp n)) (tied n) k es d

itself : (n : ℕ) → is_at (nat_cmp n) n ≡ true
itself n = grind (arith, nat_tests, unsigned_tied)

-- 2. As many

abbrev its : ℕ → Option ℕ → ℕ
its holder o = unwrap_or (option_map (λ h. if nat_eq h holder then 1 else 0) o) 0

as_many : {X : Type 0} (number : X → ℕ) (f : Option X → Option ℕ) (holder low last : ℕ) (es : Counted) (xs : List X) → f None ≡ None
    → IsDistinct same (keys_of es) → Rise low last (map number xs) → ((n : ℕ) → holder_of n es ≡ f (find (λ x. nat_eq (number x) n) xs))
    → count_of holder es ≡ sum_by (λ x. its holder (f (Some x))) xs
as_many number f holder low last es [] none d r all = ap (count_of holder) (nil_from_lookup (eq_by_cmp_equiv nat_cmp_total) es (λ n. all n ∙ none))
as_many number f holder low last es (x ∷ xs) none d r all =
    let n = number x in
    let here : holder_of n es ≡ f (Some x) = all n ∙ ap f (is_it number n x xs refl) in
    let rest = as_many number f holder n last (without_socket n es) xs none (apart_without (is_at (nat_cmp n)) es d) r.1 (λ k. ⊎_elim
    (λ e. left_of n k es d ∙ ap (λ b. cond b None (holder_of k es)) (subst (λ j. is_at (nat_cmp n) j ≡ true) (sym e.1) (itself n)) ∙ sym none
    ∙ ap f (sym (none_below number n last k xs r.1 (omega (arith, e.1)))))
    (λ e. left_of n k es d ∙ ap (λ b. cond b None (holder_of k es)) (apart n k e.1) ∙ all k ∙ ap f (is_not number k x xs (λ f. e.1 (sym f))))
    (eqb_tells k n)) in
    let whole : count_of holder (without_socket n es) + its holder (holder_of n es) ≡ count_of holder es =
    sum_by-remove_entry (λ h. if nat_eq h holder then 1 else 0) (is_at (nat_cmp n)) es in
    let its_here : its holder (holder_of n es) ≡ its holder (f (Some x)) = ap (its holder) here in
    let one : sum_by (λ x. its holder (f (Some x))) (x ∷ xs) ≡ its holder (f (Some x)) + sum_by (λ x. its holder (f (Some x))) xs =
    sum_by-cons (λ x. its holder (f (Some x))) x xs in
    omega (arith, whole, rest, its_here, one)

-- 3. Of tenants, and of those that have not logged in

of_tenant : (m t : ℕ) (e b : Bool) (o : Option ℕ) → t < m
    → its t (if e then None else (if b then seat_among m o else Some m)) ≡ cond (not e && (b && is_let_in_by t o)) 1 0
of_tenant m t true b o lt = refl
of_tenant m t false true None lt = refl
of_tenant m t false true (Some u) lt = grind (arith, nat_tests)
of_tenant m t false false o lt = grind (arith, nat_tests)

of_nobody : (m : ℕ) (e b : Bool) (o : Option ℕ) → its m (if e then None else (if b then seat_among m o else Some m)) ≡ cond (not e && not b) 1 0
of_nobody m true b o = refl
of_nobody m false true None = refl
of_nobody m false true (Some u) = grind (arith, nat_tests)
of_nobody m false false o = grind (arith, nat_tests)

same_sum : {T : Type 0} (f g : Socket T → ℕ) (xs : List (Socket T)) → ((x : Socket T) → f x ≡ g x) → sum_by f xs ≡ sum_by g xs
same_sum f g [] is = refl
same_sum f g (x ∷ xs) is = let h = is x in let k = same_sum f g xs is in sum_by-cons f x xs ∙ ap (λ n. n + sum_by f xs) h ∙ ap (λ n. g x + n) k
    ∙ sym (sum_by-cons g x xs)

module _ {S T : Type 0} where
  pub counted_for_tenant : (h : Host S) (a : Seats) (xs : List (Socket T)) → AreSeated h a xs → IsStrictlySortedBy nat_cmp (keys_of a.sockets)
      → (t : ℕ) → t < a.tenants → count_of t a.sockets ≡ open_with t xs
  counted_for_tenant h a xs w sorted t lt =
      as_many (λ s. s.connection) (seat_in a.tenants) t 0 h.tried a.sockets xs refl (IsDistinct-from_sorted nat_cmp (keys_of a.sockets) sorted)
      (rising h xs w.in_order) w.seated
      ∙ same_sum _ _ xs (λ s. of_tenant a.tenants t s.is_ended s.is_bound s.tenant lt)

  pub counted_for_nobody : (h : Host S) (a : Seats) (xs : List (Socket T)) → AreSeated h a xs → IsStrictlySortedBy nat_cmp (keys_of a.sockets)
      → count_of a.tenants a.sockets ≡ open_strangers xs
  counted_for_nobody h a xs w sorted =
      as_many (λ s. s.connection) (seat_in a.tenants) a.tenants 0 h.tried a.sockets xs refl
      (IsDistinct-from_sorted nat_cmp (keys_of a.sockets) sorted) (rising h xs w.in_order) w.seated
      ∙ same_sum _ _ xs (λ s. of_nobody a.tenants s.is_ended s.is_bound s.tenant)
