-- How a group goes from one generation to the next.
use Rattle.std.specs.Prelude.{◌+◌, ℕ, Bool, true, false, ◌&&◌, max, List, [], ◌∷◌, ℤ, pos, ◌+ℤ◌, nat_eq, if◌then◌else◌, is_some, Option}
use Rattle.std.specs.Prelude.{Some, None}
use Rattle.std.specs.Ordering.{int_eq}
use Rattle.kb_groups.specs.declared.state.Phase.{Phase}
use Rattle.kb_groups.specs.declared.state.Phase.TheVariants.{Empty, Joining, Syncing, Stable}
use Rattle.kb_groups.specs.declared.state.State.{State}
use Rattle.kb_groups.specs.declared.member.Asked.{Asked}
use Rattle.kb_groups.specs.declared.member.Member.{Member}
use Rattle.kb_groups.specs.declared.reply.Reply.{Reply}
use Rattle.kb_groups.specs.declared.reply.Reply.TheVariants.{Joined}
use Rattle.kb_groups.specs.declared.reply.Release.{Release}
use Rattle.kb_groups.specs.Members.{Roster, member, each}
use Rattle.kb_groups.specs.Answers.{waits_sync, waits_join, answers, sync_refused}
use Rattle.kb_groups.specs.Protocols.{chosen, listing}

-- A group and the waiting requests that were answered on the way to it.
pub record Step : Type 0 where
  pub group : State
  pub released : List Release

-- The member's request waits no longer, and its session starts.
abbrev pub freed : ℕ → Member → Member
freed clock m = record m { waiter = None; session_start = clock }

-- The longest rebalance timeout, 0 without members.
unfoldable pub longest : Roster → ℕ
longest [] = 0
longest (e ∷ ms) = max e.1.rebalance_timeout (longest ms)

abbrev pub sync_freed : ℕ → Member → Member
sync_freed clock m = if waits_sync m.waiter then freed clock m else m

-- Joining opens: its deadline is the clock and the longest rebalance timeout, and waiting syncs are refused with 27.
abbrev pub opened : ℕ → Step → Step
opened clock s = record {
  group = record s.group { phase = Joining (clock + longest s.group.members); members = each (λ n m. sync_freed clock m) s.group.members };
  released = answers sync_refused s.group.members s.released;
}

-- Every member has a waiting join.
unfoldable pub all_join : Roster → Bool
all_join [] = true
all_join (e ∷ ms) = waits_join e.1.waiter && all_join ms

-- After 2147483647 comes 1.
abbrev pub next_generation : ℤ → ℤ
next_generation n = if int_eq n (pos 2147483647) then pos 1 else n +ℤ pos 1

-- The leader stays if it is a member; else the first member leads.
abbrev pub next_leader : Option ℕ → Roster → Option ℕ
next_leader leader [] = None
next_leader None (e ∷ ms) = Some e.0
next_leader (Some n) (e ∷ ms) = Some (if is_some (member (e ∷ ms) n) then n else e.0)

-- The reply to the join of member n. Only the leader's lists the members.
abbrev pub join_reply : ℤ → List ℕ → ℕ → Roster → ℕ → Reply
join_reply generation protocol leader ms n =
    Joined (record {
      generation = generation;
      protocol = protocol;
      leader = leader;
      member = n;
      members = if nat_eq n leader
          then listing ms protocol else [];
    })

abbrev pub joined_reply : ℤ → List ℕ → ℕ → Roster → ℕ → Member → Asked → Option Reply
joined_reply generation protocol leader ms n m asked = Some (join_reply generation protocol leader ms n)

-- A generation starts with these members: each join is answered, and the group waits for the leader's sync.
abbrev pub completed : ℕ → ℕ → Step → Step
completed clock leader s = record {
  group = record s.group {
    generation = next_generation s.group.generation;
    phase = Syncing;
    leader = Some leader;
    members = each (λ n m. freed clock m) s.group.members;
  };
  released = answers (joined_reply (next_generation s.group.generation) (chosen leader s.group.members) leader s.group.members)
      s.group.members s.released;
}

-- Joining ends. Without members the group is Empty and keeps its generation.
abbrev pub ended_by : ℕ → Option ℕ → Step → Step
ended_by clock None s = record s { group = record s.group { phase = Empty } }
ended_by clock (Some leader) s = completed clock leader s

abbrev pub ended : ℕ → Step → Step
ended clock s = ended_by clock (next_leader s.group.leader s.group.members) s

-- Joining ends once every member has a waiting join.
abbrev pub looked_at : ℕ → Step → Step
looked_at clock s = if all_join s.group.members then ended clock s else s

abbrev pub is_joining : Phase → Bool
is_joining Empty = false
is_joining (Joining _) = true
is_joining Syncing = false
is_joining Stable = false

-- Outside Joining, it opens.
abbrev pub opened_unless : ℕ → Phase → Step → Step
opened_unless clock phase s = if is_joining phase then s else opened clock s
