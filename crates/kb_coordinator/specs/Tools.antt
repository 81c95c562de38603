-- What tools are told of a tenant's groups (Kafka protocol guide, ListGroups, DescribeGroups).
use Rattle.std.specs.Prelude.{◌≡◌, ◌⊎◌, ◌<◌, ◌++◌, ℕ, List, [], ◌∷◌, length, map, nat_lt, pos, Option, Some, None, codes, if◌then◌else◌}
use Rattle.std.specs.Int.{w32}
use Rattle.kb_wire.specs.Codec.{Codec, count, int16}
use Rattle.kb_api_group.specs.Layouts.{described_group, listed_group}
use Rattle.kb_api_group.specs.declared.describe_groups.DescribedGroup.{DescribedGroup}
use Rattle.kb_api_group.specs.declared.describe_groups.DescribedMember.{DescribedMember}
use Rattle.kb_api_group.specs.declared.describe_groups.DescribeGroupsRequest.{DescribeGroupsRequest}
use Rattle.kb_api_group.specs.declared.describe_groups.DescribeGroupsReply.{DescribeGroupsReply}
use Rattle.kb_api_group.specs.declared.list_groups.ListedGroup.{ListedGroup}
use Rattle.kb_api_group.specs.declared.list_groups.ListGroupsReply.{ListGroupsReply}
use Rattle.kb_groups.specs.declared.member.Member.{Member}
use Rattle.kb_groups.specs.declared.state.State.{State}
use Rattle.kb_groups.specs.Described.{assignment_under, metadata_under, protocol_of, state_name}
use Rattle.kb_groups.specs.MemberId.{member_id}
use Rattle.kb_groups.specs.Protocols.{or_empty}
use Rattle.kb_coordinator.specs.declared.groups.Entry.{Entry}
use Rattle.kb_coordinator.specs.Calls.{by_group}
use Rattle.kb_coordinator.specs.Groups.{Groups, found}

-- ## Replies that stop at their limit

-- The spellings of values, one after another, behind some bytes: for as long as these are at most so many.
unfoldable pub written_until : {A : Type 0} → ℕ → (A → List ℕ) → List ℕ → List A → List ℕ
written_until most write out [] = out
written_until most write out (v ∷ vs) = if nat_lt most (length out) then out else written_until most write (out ++ write v) vs

-- The same behind their count.
abbrev pub array_until : {A : Type 0} → ℕ → Codec A → List ℕ → List A → List ℕ
array_until most c out vs = written_until most c.written (out ++ (count w32).written (length vs)) vs

-- These bytes are all that there is to write; or both are more than so many.
abbrev pub AreUntil : ℕ → List ℕ → List ℕ → Type 0
AreUntil most all bytes = (bytes ≡ all) ⊎ ((most < length all) × (most < length bytes))

-- ## ListGroups

abbrev pub listed : Entry → ListedGroup
listed e = record { group_id = e.id; protocol_type = e.group.protocol_type }

-- All groups, in byte order of their ids.
abbrev pub group_list : Groups → ListGroupsReply
group_list gs = record { error_code = pos 0; groups = map listed gs.groups }

-- That reply behind some bytes, until they are more than so many.
abbrev pub list_until : ℕ → Groups → List ℕ → List ℕ
list_until most gs out = array_until most listed_group (out ++ int16.written (pos 0)) (map listed gs.groups)

-- ## DescribeGroups

-- A member under its group's protocol. Which client it is, and where, is not kept: both texts are empty.
abbrev pub member_told : Option (List ℕ) → (ℕ × Member) → DescribedMember
member_told protocol e = record {
  member_id = member_id e.0;
  client_id = [];
  client_host = [];
  member_metadata = metadata_under protocol e.1;
  member_assignment = assignment_under protocol e.1;
}

-- A group that is there, with its members in joining order.
abbrev pub described : List ℕ → State → DescribedGroup
described id g = record {
  error_code = pos 0;
  group_id = id;
  group_state = state_name g.phase;
  protocol_type = g.protocol_type;
  protocol_data = or_empty (protocol_of g);
  members = map (member_told (protocol_of g)) g.members;
}

-- A group that is not there.
abbrev pub dead : List ℕ → DescribedGroup
dead id = record { error_code = pos 0; group_id = id; group_state = codes "Dead"; protocol_type = []; protocol_data = []; members = [] }

abbrev pub description : Groups → List ℕ → DescribedGroup
description gs id = by_group (dead id) (described id) (found id gs.groups)

-- Each group that is named, in the order of the request, as often as it is named.
abbrev pub descriptions : Groups → DescribeGroupsRequest → DescribeGroupsReply
descriptions gs r = record { groups = map (description gs) r.group_ids }

-- That reply behind some bytes, until they are more than so many.
abbrev pub descriptions_until : ℕ → Groups → DescribeGroupsRequest → List ℕ → List ℕ
descriptions_until most gs r out = array_until most described_group out (map (description gs) r.group_ids)
