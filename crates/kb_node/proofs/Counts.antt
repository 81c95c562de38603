-- How many sockets are counted for a holder, after one more and one less.
use Rattle.std.proofs.Common.{◌≡◌, ◌≢◌, ◌≤◌, ◌+◌, ◌∙◌, ℕ, arith, Bool, false, Option, None, Some, if◌then◌else◌, nat_eq, unwrap_or, option_map, List, [], ◌∷◌, map, slice_index_or, zero, suc, refl, subst, sym, ap, ⊎_elim}
use Rattle.std.specs.Ordering.{nat_cmp}
use Rattle.std.specs.Map.{keys_of}
use Rattle.std.specs.BTreeMap.{insert_entry, is_at}
use Rattle.std.specs.List.Sorted.{IsStrictlySortedBy}
use Rattle.std.specs.Cmp.{unsigned_tied}
use Rattle.std.proofs.lemmas.Bool.{ne_eqb}
use Rattle.std.proofs.lemmas.Bool.Decides.{eqb_tells, nat_tests}
use Rattle.std.proofs.lemmas.Cmp.{nat_cmp_total}
use Rattle.std.proofs.lemmas.Map.Entries.{sum_by-remove_entry, sum_by-insert_entry}
use Rattle.kb_shares.specs.declared.share.Share.{Share}
use Rattle.kb_shares.specs.Holder.{idle}
use Rattle.kb_shares.specs.Shares.{Pool, idle_pool, holder_at, used_by}
use Rattle.kb_node.specs.SocketShares.{CountsSockets, Counted, IsSeated, Seats, count_of, holder_of, without_socket}

-- whether that is the holder, as a number
abbrev is_its : ℕ → ℕ → ℕ
is_its holder h = if nat_eq h holder then 1 else 0

itself : (holder : ℕ) → is_its holder holder ≡ 1
itself holder = grind (arith, nat_tests)

another : (holder h : ℕ) → holder ≢ h → is_its holder h ≡ 0
another holder h n = grind (arith, nat_tests)

-- one less for its holder
count_less : (i connection h : ℕ) (sockets : Counted) → holder_of connection sockets ≡ Some h
    → count_of i (without_socket connection sockets) + is_its i h ≡ count_of i sockets
count_less i connection h sockets is =
    subst (λ (o : Option ℕ). count_of i (without_socket connection sockets) + unwrap_or (option_map (is_its i) o) 0 ≡ count_of i sockets) is
    (sum_by-remove_entry (is_its i) (is_at (nat_cmp connection)) sockets)

-- one more
count_more : (i connection h : ℕ) (sockets : Counted) → IsStrictlySortedBy nat_cmp (keys_of sockets) → holder_of connection sockets ≡ None
    → count_of i (insert_entry nat_cmp sockets connection h) + 0 ≡ count_of i sockets + is_its i h
count_more i connection h sockets sorted is =
    subst (λ (o : Option ℕ). count_of i (insert_entry nat_cmp sockets connection h) + unwrap_or (option_map (is_its i) o) 0 ≡ count_of i sockets + is_its i h) is
    (sum_by-insert_entry (is_its i) nat_cmp_total sockets connection h sorted)

-- the holder of a counted socket has one
pub has_one : (pool : Pool) (connection h : ℕ) (sockets : Counted) → CountsSockets pool sockets → holder_of connection sockets ≡ Some h → 1 ≤ used_by h pool
has_one pool connection h sockets counted is = omega (arith, counted.used h, count_less h connection h sockets is, itself h)

-- all are counted still where one is counted no longer, and given back by its holder
pub fewer : (old new : Pool) (connection h : ℕ) (sockets : Counted) → CountsSockets old sockets → holder_of connection sockets ≡ Some h
    → IsStrictlySortedBy nat_cmp (keys_of (without_socket connection sockets))
    → used_by h new + 1 ≡ used_by h old → ((i : ℕ) → i ≢ h → holder_at i new ≡ holder_at i old) → CountsSockets new (without_socket connection sockets)
fewer old new connection h sockets counted is ordered used others = record {
  ordered = ordered;
  used = λ i. ⊎_elim
      (λ same. subst (λ (k : ℕ). used_by k new ≡ count_of k (without_socket connection sockets)) (sym same.1)
      (omega (arith, used, counted.used h, count_less h connection h sockets is, itself h)))
      (λ other. omega (arith, ap (λ x. x.used) (others i other.1), counted.used i, count_less i connection h sockets is, another i h other.1))
      (eqb_tells i h);
}

-- all are counted where one more is, and taken by its holder
pub more : (old new : Pool) (connection h : ℕ) (sockets : Counted) → CountsSockets old sockets → IsStrictlySortedBy nat_cmp (keys_of sockets)
    → IsStrictlySortedBy nat_cmp (keys_of (insert_entry nat_cmp sockets connection h))
    → holder_of connection sockets ≡ None → used_by h new ≡ used_by h old + 1 → ((i : ℕ) → i ≢ h → holder_at i new ≡ holder_at i old)
    → CountsSockets new (insert_entry nat_cmp sockets connection h)
more old new connection h sockets counted sorted ordered is used others = record {
  ordered = ordered;
  used = λ i. ⊎_elim
      (λ same. subst (λ (k : ℕ). used_by k new ≡ count_of k (insert_entry nat_cmp sockets connection h)) (sym same.1)
      (omega (arith, used, counted.used h, count_more h connection h sockets sorted is, itself h)))
      (λ other. omega (arith, ap (λ x. x.used) (others i other.1), counted.used i, count_more i connection h sockets sorted is, another i h other.1))
      (eqb_tells i h);
}

-- nothing is used of new shares
unused : (shares : List Share) (i : ℕ) (d : Share) → (slice_index_or (map idle shares) i (idle d)).used ≡ 0
unused [] i d = refl
unused (s ∷ ss) zero d = refl
unused (s ∷ ss) (suc i) d = unused ss i d

none_counted : (total : ℕ) (shares : List Share) → CountsSockets (idle_pool total shares) []
unfolding IsStrictlySortedBy
none_counted total shares = record { ordered = tt; used = λ i. unused shares i (record { own = 0; most = 0 }) }

-- no socket is counted at first
pub fresh_counted : (total : ℕ) (shares : List Share) (pool : Pool) (sockets : Counted) → pool ≡ idle_pool total shares → sockets ≡ []
    → CountsSockets pool sockets
fresh_counted total shares pool sockets is none = subst (λ ss. CountsSockets pool ss) (sym none)
    (subst (λ p. CountsSockets p []) (sym is) (none_counted total shares))

-- a connection has a seat where a map was changed at its number alone
pub apart : (connection n : ℕ) → n ≢ connection → is_at (nat_cmp connection) n ≡ false
apart connection n ne = unsigned_tied connection n ∙ ne_eqb connection n (λ e. ne (sym e))

pub given : (connection : ℕ) (o : Option ℕ) (old new : Seats) → new.tenants ≡ old.tenants → holder_of connection new.sockets ≡ o
    → ((n : ℕ) → is_at (nat_cmp connection) n ≡ false → holder_of n new.sockets ≡ holder_of n old.sockets) → IsSeated connection o old new
given connection o old new tenants seat others = record { tenants = tenants; seat = seat; others = λ n ne. others n (apart connection n ne) }

-- one seat after another, of one connection
pub given_again : (connection : ℕ) (o p : Option ℕ) (a b c : Seats) → IsSeated connection o a b → IsSeated connection p b c → IsSeated connection p a c
given_again connection o p a b c one two = record {
  tenants = two.tenants ∙ one.tenants;
  seat = two.seat;
  others = λ n ne. two.others n ne ∙ one.others n ne;
}
