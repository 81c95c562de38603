-- Requests that wait, and their replies.
use Rattle.std.specs.Prelude.{ℕ, Bool, true, false, ◌||◌, List, [], ◌∷◌, Option, Some, None, is_some, nat_lt, nat_eq, if◌then◌else◌}
use Rattle.kb_groups.specs.declared.code.Code.{Code}
use Rattle.kb_groups.specs.declared.code.Code.TheVariants.{RebalanceInProgress}
use Rattle.kb_groups.specs.declared.member.Asked.{Asked}
use Rattle.kb_groups.specs.declared.member.Asked.TheVariants.{FirstJoin, Rejoin, Sync}
use Rattle.kb_groups.specs.declared.member.Waiter.{Waiter}
use Rattle.kb_groups.specs.declared.member.Member.{Member}
use Rattle.kb_groups.specs.declared.reply.Reply.{Reply}
use Rattle.kb_groups.specs.declared.reply.Reply.TheVariants.{JoinRefused, SyncRefused}
use Rattle.kb_groups.specs.declared.reply.Release.{Release}
use Rattle.kb_groups.specs.Members.{Roster, member}

abbrev pub is_sync : Asked → Bool
is_sync FirstJoin = false
is_sync Rejoin = false
is_sync Sync = true

abbrev pub is_join : Asked → Bool
is_join FirstJoin = true
is_join Rejoin = true
is_join Sync = false

abbrev pub waits_sync : Option Waiter → Bool
waits_sync None = false
waits_sync (Some w) = is_sync w.asked

abbrev pub waits_join : Option Waiter → Bool
waits_join None = false
waits_join (Some w) = is_join w.asked

abbrev pub waits_on : ℕ → Option Waiter → Bool
waits_on connection None = false
waits_on connection (Some w) = nat_eq w.connection connection

-- Whether a request of some member waits.
unfoldable pub any_waits : Roster → Bool
any_waits [] = false
any_waits (e ∷ ms) = is_some e.1.waiter || any_waits ms

-- The refusal of the request of member n that waited: a refused join names the member that it asked for, none at a first join.
abbrev pub refusal : Code → ℕ → Asked → Reply
refusal code n FirstJoin = JoinRefused code None
refusal code n Rejoin = JoinRefused code (Some n)
refusal code n Sync = SyncRefused code

-- Answers are given in order of connection number.
unfoldable pub place : Release → List Release → List Release
place r [] = r ∷ []
place r (x ∷ xs) = if nat_lt x.connection r.connection then x ∷ place r xs else r ∷ x ∷ xs

-- The request that waits on a connection gets its reply, if there is one for it.
abbrev pub placed : ℕ → Option Reply → List Release → List Release
placed connection None out = out
placed connection (Some r) out = place (record { connection = connection; reply = r }) out

abbrev pub waiter_answered : Option Waiter → (Asked → Option Reply) → List Release → List Release
waiter_answered None reply out = out
waiter_answered (Some w) reply out = placed w.connection (reply w.asked) out

-- The waiting requests get their replies.
unfoldable pub answers : (ℕ → Member → Asked → Option Reply) → Roster → List Release → List Release
answers reply [] out = out
answers reply (e ∷ ms) out = answers reply ms (waiter_answered e.1.waiter (reply e.0 e.1) out)

-- Waiting syncs are refused with 27.
abbrev pub sync_refused : ℕ → Member → Asked → Option Reply
sync_refused n m asked = if is_sync asked then Some (SyncRefused RebalanceInProgress) else None

abbrev pub waiter_of : Option Member → Option Waiter
waiter_of None = None
waiter_of (Some m) = m.waiter

-- The member's waiting request, if it has one, is refused with that code.
abbrev pub turned_away : Code → ℕ → Roster → List Release → List Release
turned_away code n ms out = waiter_answered (waiter_of (member ms n)) (λ asked. Some (refusal code n asked)) out
