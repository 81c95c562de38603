-- For whom the amounts of members are counted.
use Rattle.std.specs.Prelude.{◌≡◌, ℕ, List, nat_eq, if◌then◌else◌, Option, Some, None}
use Rattle.std.specs.List.{sum_by}
use Rattle.std.specs.Map.{lookup, remove_entry, values_of}
use Rattle.std.specs.BTreeMap.{is_at, insert_entry}
use Rattle.std.specs.Ordering.{nat_cmp}
use Rattle.kb_shares.specs.Shares.{Pool, used_by, given_back, put}
use Rattle.kb_shares.specs.declared.ledger.Booking.{Booking}

-- 1. Bookings

-- the members of which something is counted, by rising number, each with its holder and how much
abbrev pub Bookings : Type 0
Bookings = List (ℕ × Booking)

-- What the holders have of a total, and whose it is.
pub record Booked : Type 0 where
  pub pool : Pool
  pub bookings : Bookings

-- how much of a booking is the holder's
abbrev pub part_of : ℕ → Booking → ℕ
part_of holder b = if nat_eq b.holder holder then b.amount else 0

-- how much is counted for a holder: that of all its members
abbrev pub amount_of : ℕ → Bookings → ℕ
amount_of holder bookings = sum_by (part_of holder) (values_of bookings)

-- each holder has as much as is counted for it
pub record AreBooked (pool : Pool) (bookings : Bookings) : Type 0 where
  pub used : (holder : ℕ) → used_by holder pool ≡ amount_of holder bookings

-- what is counted of a member
abbrev pub booking_of : ℕ → Bookings → Option Booking
booking_of member bookings = lookup (is_at (nat_cmp member)) bookings

-- without a member
abbrev pub unbooked : ℕ → Bookings → Bookings
unbooked member bookings = remove_entry (is_at (nat_cmp member)) bookings

-- 2. The calls

-- what is counted is given back by its holder
abbrev pub pool_behind : Option Booking → Pool → Pool
pool_behind None pool = pool
pool_behind (Some b) pool = given_back b.holder b.amount pool

-- nothing of a member is counted any more
abbrev pub let_go : ℕ → Booked → Booked
let_go member l = record {
  pool = pool_behind (booking_of member l.bookings) l.pool;
  bookings = unbooked member l.bookings;
}

-- so much of a member is counted for a holder, and nothing else of it
abbrev pub set_to : ℕ → ℕ → ℕ → Booked → Booked
set_to member holder amount l =
    if nat_eq amount 0 then let_go member l
    else record {
      pool = put holder amount (let_go member l).pool;
      bookings = insert_entry nat_cmp (unbooked member l.bookings) member (record { holder = holder; amount = amount });
    }
