-- How much is counted for a holder, after one more member and one less.
use Rattle.std.proofs.Common.{◌≡◌, ◌≢◌, ◌≤◌, ◌+◌, ℕ, arith, Option, None, Some, unwrap_or, option_map, List, [], subst, sym, ap, ⊎_elim}
use Rattle.std.specs.Ordering.{nat_cmp}
use Rattle.std.specs.Map.{keys_of}
use Rattle.std.specs.BTreeMap.{insert_entry, is_at}
use Rattle.std.specs.List.Sorted.{IsStrictlySortedBy}
use Rattle.std.proofs.lemmas.Bool.Decides.{eqb_tells, nat_tests}
use Rattle.std.proofs.lemmas.Cmp.{nat_cmp_total}
use Rattle.std.proofs.lemmas.Map.Entries.{sum_by-remove_entry, sum_by-insert_entry}
use Rattle.kb_shares.specs.declared.share.Share.{Share}
use Rattle.kb_shares.specs.Shares.{Pool, idle_pool, holder_at, used_by}
use Rattle.kb_shares.proofs.Limits.{idle_at}
use Rattle.kb_shares.specs.Ledger.{AreBooked, Bookings, part_of, amount_of, booking_of, unbooked}
use Rattle.kb_shares.specs.declared.ledger.Booking.{Booking}

itself : (b : Booking) → part_of b.holder b ≡ b.amount
itself b = grind (arith, nat_tests)

another : (holder : ℕ) (b : Booking) → holder ≢ b.holder → part_of holder b ≡ 0
another holder b n = grind (arith, nat_tests)

-- less for its holder
bytes_less : (i member : ℕ) (b : Booking) (bookings : Bookings) → booking_of member bookings ≡ Some b
    → amount_of i (unbooked member bookings) + part_of i b ≡ amount_of i bookings
bytes_less i member b bookings is =
    subst (λ (o : Option Booking). amount_of i (unbooked member bookings) + unwrap_or (option_map (part_of i) o) 0 ≡ amount_of i bookings) is
    (sum_by-remove_entry (part_of i) (is_at (nat_cmp member)) bookings)

-- more for it
bytes_more : (i member : ℕ) (b : Booking) (bookings : Bookings) → IsStrictlySortedBy nat_cmp (keys_of bookings) → booking_of member bookings ≡ None
    → amount_of i (insert_entry nat_cmp bookings member b) + 0 ≡ amount_of i bookings + part_of i b
bytes_more i member b bookings sorted is =
    subst (λ (o : Option Booking). amount_of i (insert_entry nat_cmp bookings member b) + unwrap_or (option_map (part_of i) o) 0 ≡ amount_of i bookings + part_of i b) is
    (sum_by-insert_entry (part_of i) nat_cmp_total bookings member b sorted)

-- the holder of a booking has so much
pub has_all : (pool : Pool) (member : ℕ) (b : Booking) (bookings : Bookings) → AreBooked pool bookings → booking_of member bookings ≡ Some b → b.amount ≤ used_by b.holder pool
has_all pool member b bookings booked is = omega (arith, booked.used b.holder, bytes_less b.holder member b bookings is, itself b)

-- all are counted still where one member's is no longer, and given back by its holder
pub fewer : (old new : Pool) (member : ℕ) (b : Booking) (bookings : Bookings) → AreBooked old bookings → booking_of member bookings ≡ Some b
    → used_by b.holder new + b.amount ≡ used_by b.holder old → ((i : ℕ) → i ≢ b.holder → holder_at i new ≡ holder_at i old) → AreBooked new (unbooked member bookings)
fewer old new member b bookings booked is used others = record {
  used = λ i. ⊎_elim
      (λ same. subst (λ (k : ℕ). used_by k new ≡ amount_of k (unbooked member bookings)) (sym same.1)
      (omega (arith, used, booked.used b.holder, bytes_less b.holder member b bookings is, itself b)))
      (λ other. omega (arith, ap (λ x. x.used) (others i other.1), booked.used i, bytes_less i member b bookings is, another i b other.1))
      (eqb_tells i b.holder);
}

-- all are counted where one member more is, and put for its holder
pub more : (old new : Pool) (member : ℕ) (b : Booking) (bookings : Bookings) → AreBooked old bookings → IsStrictlySortedBy nat_cmp (keys_of bookings)
    → booking_of member bookings ≡ None → used_by b.holder new ≡ used_by b.holder old + b.amount → ((i : ℕ) → i ≢ b.holder → holder_at i new ≡ holder_at i old)
    → AreBooked new (insert_entry nat_cmp bookings member b)
more old new member b bookings booked sorted is used others = record {
  used = λ i. ⊎_elim
      (λ same. subst (λ (k : ℕ). used_by k new ≡ amount_of k (insert_entry nat_cmp bookings member b)) (sym same.1)
      (omega (arith, used, booked.used b.holder, bytes_more b.holder member b bookings sorted is, itself b)))
      (λ other. omega (arith, ap (λ x. x.used) (others i other.1), booked.used i, bytes_more i member b bookings sorted is, another i b other.1))
      (eqb_tells i b.holder);
}

-- nothing is counted at first
pub fresh_booked : (total : ℕ) (shares : List Share) → AreBooked (idle_pool total shares) []
fresh_booked total shares = record { used = λ i. idle_at total shares i }
