-- How many bytes a group keeps.
use Rattle.std.specs.Prelude.{◌+◌, ◌-◌, ℕ, Bool, ◌&&◌, List, [], ◌∷◌, ℤ, length, map, nat_lt, Option, Some, None, if◌then◌else◌}
use Rattle.kb_groups.specs.declared.code.Code.TheVariants.{GroupMaxSizeReached}
use Rattle.kb_groups.specs.declared.state.State.{State}
use Rattle.kb_groups.specs.declared.member.Member.{Member}
use Rattle.kb_groups.specs.declared.borrowed.SyncAssignment.{SyncAssignment}
use Rattle.kb_groups.specs.declared.borrowed.Join.{Join}
use Rattle.kb_groups.specs.declared.reply.SyncAnswer.{SyncAnswer}
use Rattle.kb_groups.specs.declared.reply.SyncAnswer.TheVariants.{Refused}
use Rattle.kb_groups.specs.Calls.{kept, number_of, sync, unmoved}
use Rattle.kb_groups.specs.MemberId.{member_id}
use Rattle.kb_groups.specs.Members.{Roster, member}
use Rattle.kb_groups.specs.Rebalance.{Step}
use Rattle.kb_groups.specs.Sizes.{protocol_bytes}

-- The id of member n, its protocols' names and metadata, and its assignment.
abbrev pub member_bytes : ℕ → Member → ℕ
member_bytes n m = length (member_id n) + protocol_bytes m.protocols + length m.assignment

unfoldable pub roster_bytes : Roster → ℕ
roster_bytes [] = 0
roster_bytes (e ∷ ms) = member_bytes e.0 e.1 + roster_bytes ms

-- The protocol type, and the members. The group's id is counted where groups stand under their ids.
abbrev pub group_bytes : State → ℕ
group_bytes g = length g.protocol_type + roster_bytes g.members

-- What a join brings: its protocol type, the member's id, and the protocols' names and metadata. Its assignment is empty.
abbrev pub brought_bytes : Join → ℕ
brought_bytes j = length j.protocol_type + length (member_id (number_of j)) + protocol_bytes (map kept j.protocols.now)

abbrev pub had_bytes : ℕ → Option Member → ℕ
had_bytes n None = 0
had_bytes n (Some m) = member_bytes n m

-- What gives way to a join: the group's protocol type, and what it keeps for the member if that is here.
abbrev pub replaced_bytes : Join → State → ℕ
replaced_bytes j g = length g.protocol_type + had_bytes (number_of j) (member g.members (number_of j))

-- What the group keeps once the join is in.
abbrev pub joined_bytes : Join → State → ℕ
joined_bytes j g = group_bytes g - replaced_bytes j g + brought_bytes j

-- Whether a group that may keep that many bytes would keep more, and more than before.
abbrev pub is_past : ℕ → ℕ → ℕ → Bool
is_past most before after = nat_lt most after && nat_lt before after

-- SyncGroup where the group may keep that many bytes: a sync that would go past them is refused with 81, and changes nothing.
abbrev pub sync_if : Bool → SyncAnswer × Step → State → SyncAnswer × Step
sync_if past step g = if past then (Refused GroupMaxSizeReached, unmoved g) else step

abbrev pub sync_within : ℕ → ℕ → ℕ → ℕ → ℤ → List SyncAssignment → State → SyncAnswer × Step
sync_within most clock connection n generation as_ g =
    let step : SyncAnswer × Step = sync clock connection n generation as_ g in
    sync_if (is_past most (group_bytes g) (group_bytes step.1.group)) step g
