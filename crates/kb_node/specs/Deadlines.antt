-- Until when a socket may keep silent, and which one is closed.
use Rattle.std.specs.Prelude.{ℕ, ◌+◌, ◌-◌, ◌^◌, ◌==◌, ◌&&◌, ◌||◌, min, List, [], ◌∷◌, Bool, true, false, nat_eq, nat_le, slice_get, if◌then◌else◌}
use Rattle.std.specs.Prelude.{Option, Some, None}
use Rattle.std.specs.BTreeMap.{is_at}
use Rattle.std.specs.BTreeSet.{BTreeSet, keys_between, insert_key}
use Rattle.std.specs.Map.{remove_entry}
use Rattle.std.specs.Set.{remove_key}
use Rattle.std.specs.declared.ops.Bound.TheVariants.{Included, Unbounded}
use Rattle.std.specs.declared.cmp.Ordering.{Ordering}
use Rattle.std.specs.Ordering.{nat_cmp, ordering_then}

-- 1. Logins

-- the sockets that have not logged in, by rising number of their connections, each with the moment until which it may
abbrev pub Strangers : Type 0
Strangers = List (ℕ × ℕ)

-- the moment that is so many milliseconds later: no clock gets past the greatest number
abbrev pub later : ℕ → ℕ → ℕ
later now millis = min (now + millis) (2 ^ 64 - 1)

-- the first of them
abbrev pub first : Strangers → Option (ℕ × ℕ)
first [] = None
first (stranger ∷ others) = Some stranger

-- the connection that has been a stranger for longest: the one of the least number
abbrev pub oldest : Strangers → Option ℕ
oldest [] = None
oldest (stranger ∷ others) = Some stranger.0

-- the first moment until which one may log in, and the greatest number where there is no stranger
abbrev pub first_deadline : Strangers → ℕ
first_deadline [] = 2 ^ 64 - 1
first_deadline (stranger ∷ others) = stranger.1

-- the oldest one, where its moment has come
abbrev pub due : ℕ → Strangers → Option ℕ
due now [] = None
due now (stranger ∷ others) = if nat_le stranger.1 now then Some stranger.0 else None

-- those behind one that has logged in or is closed
abbrev pub without_stranger : ℕ → Strangers → Strangers
without_stranger n strangers = remove_entry (is_at (nat_cmp n)) strangers

-- 2. Replies

-- The sockets with a reply that is not all written, each as the moment since which it took no byte of it and the number of its connection:
-- by rising moment.
abbrev pub Moments : Type 0
Moments = List (ℕ × ℕ)

-- first by the moment, then by the connection
abbrev pub by_moment : ℕ × ℕ → ℕ × ℕ → Ordering
by_moment a b = ordering_then (nat_cmp a.0 b.0) (nat_cmp a.1 b.1)

-- how long a socket may take no byte of its reply, in milliseconds: as long as it may, or ten seconds if that is less while so much is
-- unread that nobody is asked
abbrev pub patience : Bool → ℕ → ℕ
patience may_ask millis = if may_ask then millis else min millis 10000

-- the first moment at which one has taken nothing for so long, and the greatest number where none has anything to take
abbrev pub first_end : ℕ → Moments → ℕ
first_end millis [] = 2 ^ 64 - 1
first_end millis (reply ∷ others) = later reply.0 millis

-- the connection that has taken nothing for longest, where that is so long
abbrev pub silent : ℕ → ℕ → Moments → Option ℕ
silent now millis [] = None
silent now millis (reply ∷ others) = if nat_le (later reply.0 millis) now then Some reply.1 else None

-- the others, where that one is taken out
abbrev pub without_silent : ℕ → ℕ → Moments → Moments
without_silent now millis [] = []
without_silent now millis (reply ∷ others) = if nat_le (later reply.0 millis) now then others else (reply ∷ others)

-- Silence ends, or begins anew: there was nothing to take before, or there is nothing after, or some of it was taken.
abbrev pub has_moved : ℕ → ℕ → Bool → Bool
has_moved before after has_taken = (before == 0) || (after == 0) || has_taken

-- 3. Requests

-- Since when a request is under way, where one is: from now on where none was before, or where that one became whole since.
abbrev pub begun_since : Bool → Bool → ℕ → Option ℕ → Option ℕ
begun_since is_anew false now since = None
begun_since is_anew true now None = Some now
begun_since true true now (Some since) = Some now
begun_since false true now (Some since) = Some since

-- with the connection, where it is so since some moment
abbrev pub with_since : ℕ → Option ℕ → Moments → Moments
with_since connection None moments = moments
with_since connection (Some since) moments = insert_key by_moment moments (since, connection)

abbrev pub without_since : ℕ → Option ℕ → Moments → Moments
without_since connection None moments = moments
without_since connection (Some since) moments = remove_key (is_at (by_moment (since, connection))) moments

-- since when a socket took nothing of so many bytes, where that is since some moment: it is not silent where there are none
abbrev pub silent_since : ℕ → ℕ → Option ℕ
silent_since unwritten moment = if nat_eq unwritten 0 then None else Some moment

-- those that are silent, where the silence of a connection ended or began anew: it was so since then, and is so since now
abbrev pub silences_noted : Bool → ℕ → Option ℕ → Option ℕ → Moments → Moments
silences_noted has_moved n since now moments = if has_moved then with_since n now (without_since n since moments) else moments

-- 4. Replies of each holder

-- The same sockets, each as the place of the holder that has it, and then as above.
abbrev pub Stalls : Type 0
Stalls = BTreeSet (ℕ × ℕ × ℕ)

-- first by the holder, then by the moment
abbrev pub by_holder : ℕ × ℕ × ℕ → ℕ × ℕ × ℕ → Ordering
by_holder a b = ordering_then (nat_cmp a.0 b.0) (ordering_then (nat_cmp a.1 b.1) (nat_cmp a.2 b.2))

-- the first of them from a holder on
abbrev pub first_of : ℕ → Stalls → Option (ℕ × ℕ × ℕ)
first_of holder stalls = slice_get (keys_between by_holder (Included (holder, 0, 0)) Unbounded stalls) 0

-- the connection of that holder that has taken nothing for longest, where that is so long
abbrev pub stalled_if : ℕ → ℕ → ℕ → Option (ℕ × ℕ × ℕ) → Option ℕ
stalled_if holder now millis None = None
stalled_if holder now millis (Some stall) = if (stall.0 == holder) && nat_le (later stall.1 millis) now then Some stall.2 else None

abbrev pub stalled : ℕ → ℕ → ℕ → Stalls → Option ℕ
stalled holder now millis stalls = stalled_if holder now millis (first_of holder stalls)

-- the first moment at which one of that holder has taken nothing for so long, and the greatest number where it has none
abbrev pub first_stall_if : ℕ → ℕ → Option (ℕ × ℕ × ℕ) → ℕ
first_stall_if holder millis None = 2 ^ 64 - 1
first_stall_if holder millis (Some stall) = if stall.0 == holder then later stall.1 millis else 2 ^ 64 - 1

abbrev pub first_stall : ℕ → ℕ → Stalls → ℕ
first_stall holder millis stalls = first_stall_if holder millis (first_of holder stalls)
