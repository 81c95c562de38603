-- For whom the open sockets are counted.
use Rattle.std.specs.Prelude.{◌≡◌, ◌≢◌, ◌+◌, ◌-◌, ◌^◌, ◌++◌, min, slice_index_or, slice_set, ℕ, List, [], ◌∷◌, Bool, not, ◌||◌, nat_eq, nat_lt, if◌then◌else◌, Option, Some, None}
use Rattle.std.specs.List.{sum_by}
use Rattle.std.specs.List.Sorted.{IsStrictlySortedBy}
use Rattle.std.specs.Map.{keys_of, lookup, remove_entry, values_of}
use Rattle.std.specs.BTreeMap.{is_at}
use Rattle.std.specs.Ordering.{nat_cmp}
use Rattle.kb_settings.specs.Values.{Values, limits_of}
use Rattle.kb_shares.specs.Shares.{Pool, used_by, given_back, has_room}
use Rattle.kb_shares.specs.declared.share.Share.{Share}

-- the counted sockets, by rising number of their connections, each with the place of the holder that has it
abbrev pub Counted : Type 0
Counted = List (ℕ × ℕ)

-- What the holders have of all sockets, and which. The tenants with a share come first, and behind them those that have not logged in. Of
-- each tenant it is counted how many sockets were closed for want of room.
pub record Seats : Type 0 where
  pub pool : Pool
  pub sockets : Counted
  pub tenants : ℕ
  pub refused : List ℕ

-- what settings let the tenant of that name have of the sockets
abbrev pub share_named : Values → List ℕ → Share
share_named v name = record { own = (limits_of name v).reserved; most = (limits_of name v).most }

-- with those behind the tenants that have not logged in: they have no part, and may have all
abbrev pub with_strangers : ℕ → List Share → List Share
with_strangers sockets shares = shares ++ record { own = 0; most = sockets } ∷ []

-- how many sockets are counted for a holder
abbrev pub count_of : ℕ → Counted → ℕ
count_of holder sockets = sum_by (λ h. if nat_eq h holder then 1 else 0) (values_of sockets)

-- each socket is counted once, and each holder has as many as are counted for it
pub record CountsSockets (pool : Pool) (sockets : Counted) : Type 0 where
  pub ordered : IsStrictlySortedBy nat_cmp (keys_of sockets)
  pub used : (holder : ℕ) → used_by holder pool ≡ count_of holder sockets

-- for whom the socket of a connection is counted
abbrev pub holder_of : ℕ → Counted → Option ℕ
holder_of connection sockets = lookup (is_at (nat_cmp connection)) sockets

-- without the socket of a connection
abbrev pub without_socket : ℕ → Counted → Counted
without_socket connection sockets = remove_entry (is_at (nat_cmp connection)) sockets

-- A socket is given back by its holder, if it is counted for one.
abbrev pub pool_without : Option ℕ → Pool → Pool
pool_without None pool = pool
pool_without (Some holder) pool = given_back holder 1 pool

-- the socket of a connection is counted no longer
abbrev pub released : ℕ → Seats → Seats
released connection s = record s {
  pool = pool_without (holder_of connection s.sockets) s.pool;
  sockets = without_socket connection s.sockets;
}

-- one socket more of a tenant was closed for want of room; its count stays at 2^64 - 1
abbrev pub with_refusal : ℕ → Seats → Seats
with_refusal tenant s = record s {
  refused = slice_set s.refused tenant (min (slice_index_or s.refused tenant 0 + 1) (2 ^ 64 - 1));
}

-- A tenant may have the socket that logs in for it: it has no share, or there is room for it once the socket is counted no longer as one
-- that has not logged in.
abbrev pub may_bind : ℕ → ℕ → Seats → Bool
may_bind connection tenant s = not (nat_lt tenant s.tenants) || has_room tenant 1 (released connection s).pool

-- the seat with a tenant, where one let it in: only tenants with a share count theirs
abbrev pub seat_among : ℕ → Option ℕ → Option ℕ
seat_among tenants None = None
seat_among tenants (Some tenant) = if nat_lt tenant tenants then Some tenant else None

-- a connection has that seat from now on, and all others have theirs as before
pub record IsSeated (connection : ℕ) (holder : Option ℕ) (old new : Seats) : Type 0 where
  pub tenants : new.tenants ≡ old.tenants
  pub seat : holder_of connection new.sockets ≡ holder
  pub others : (n : ℕ) → n ≢ connection → holder_of n new.sockets ≡ holder_of n old.sockets
