-- What a moment does to a group: sessions and deadlines.
use Rattle.std.specs.Prelude.{◌+◌, ℕ, Bool, false, ◌&&◌, min, map, List, [], ◌∷◌, Option, Some, None, nat_le, if◌then◌else◌, is_none}
use Rattle.kb_groups.specs.declared.state.Phase.{Phase}
use Rattle.kb_groups.specs.declared.state.Phase.TheVariants.{Empty, Joining, Syncing, Stable}
use Rattle.kb_groups.specs.declared.state.State.{State}
use Rattle.kb_groups.specs.declared.member.Member.{Member}
use Rattle.kb_groups.specs.Members.{Roster, member, keeping}
use Rattle.kb_groups.specs.Answers.{waits_join}
use Rattle.kb_groups.specs.Rebalance.{Step, ended}
use Rattle.kb_groups.specs.Calls.{gone, unmoved}

-- A member without a waiting request has a session, which ends at its start and its timeout.
abbrev pub has_expired : ℕ → Member → Bool
has_expired clock m = is_none m.waiter && nat_le (m.session_start + m.session_timeout) clock

abbrev pub expires : ℕ → Option Member → Bool
expires clock None = false
expires clock (Some m) = has_expired clock m

-- The member leaves if its session has ended.
abbrev pub expired_one : ℕ → ℕ → Step → Step
expired_one clock n s = if expires clock (member s.group.members n) then gone clock n s else s

-- The members of these numbers leave whose sessions have ended when their turn comes, one after the other.
unfoldable pub expired : ℕ → List ℕ → Step → Step
expired clock [] s = s
expired clock (n ∷ ns) s = expired clock ns (expired_one clock n s)

abbrev pub is_due : ℕ → Phase → Bool
is_due clock Empty = false
is_due clock (Joining deadline) = nat_le deadline clock
is_due clock Syncing = false
is_due clock Stable = false

abbrev pub only_joining : State → State
only_joining g = record g { members = keeping (λ m. waits_join m.waiter) g.members }

-- Joining ends at its deadline: members without a waiting join are removed.
abbrev pub closed : ℕ → Step → Step
closed clock s = ended clock (record s { group = only_joining s.group })

abbrev pub at_deadline : ℕ → Step → Step
at_deadline clock s = if is_due clock s.group.phase then closed clock s else s

-- A moment: expired members leave; then a Joining whose deadline has come ends.
abbrev pub tick : ℕ → State → Step
tick clock g = at_deadline clock (expired clock (map (λ e. e.0) g.members) (unmoved g))

-- ## The next moment at which something is due

-- The last moment that there is.
abbrev pub never : ℕ
never = 18446744073709551615

-- While a request of it waits, its session never ends.
abbrev pub session_end : Member → ℕ
session_end m = if is_none m.waiter then m.session_start + m.session_timeout else never

-- The first end of a session; never where none comes.
unfoldable pub earliest : Roster → ℕ
earliest [] = never
earliest (e ∷ ms) = min (session_end e.1) (earliest ms)

abbrev pub deadline : Phase → ℕ
deadline Empty = never
deadline (Joining at_) = at_
deadline Syncing = never
deadline Stable = never

-- Before this moment no session ends and no deadline comes.
abbrev pub next_due : State → ℕ
next_due g = min (deadline g.phase) (earliest g.members)

-- When a member's session ends that starts at the clock.
abbrev pub session_due : ℕ → Option Member → ℕ
session_due clock None = never
session_due clock (Some m) = clock + m.session_timeout
