-- What requests give, as groups take it.
use Rattle.std.specs.Prelude.{◌+◌, ◌^◌, ℕ, ◌&&◌, List, drop, map, Option, Some, None, bytes_eq, nat_lt, int_lt, ℤ, pos, if◌then◌else◌}
use Rattle.std.specs.Str.Parse.{digits_value}
use Rattle.kb_groups.specs.declared.code.Code.{Code}
use Rattle.kb_groups.specs.declared.code.Code.TheVariants as of
use Rattle.kb_groups.specs.declared.borrowed.Join.{Join}
use Rattle.kb_groups.specs.declared.borrowed.JoinProtocol.{JoinProtocol as Offer}
use Rattle.kb_groups.specs.declared.borrowed.SyncAssignment.{SyncAssignment as Assignment}
use Rattle.kb_groups.specs.MemberId.{member_id}
use Rattle.kb_groups.specs.Calls.{is_empty}
use Rattle.kb_wire.specs.declared.error_code.ErrorCode.{ErrorCode}
use Rattle.kb_wire.specs.declared.error_code.ErrorCode.TheVariants as codes
use Rattle.kb_api_group.specs.declared.join_group.JoinProtocol.{JoinProtocol}
use Rattle.kb_api_group.specs.declared.join_group.JoinGroupRequest.{JoinGroupRequest}
use Rattle.kb_api_group.specs.declared.sync_group.SyncAssignment.{SyncAssignment}

-- The number of the member of that id. 0, which is no member's, for a text that is no member's id.
unfoldable pub named : List ℕ → ℕ
named id = let n : ℕ = digits_value 10 (drop 2 id) in if bytes_eq id (member_id n) && nat_lt n (2 ^ 64) then n else 0

-- The member that a join names; none where its id is empty.
abbrev pub asked_member : List ℕ → Option ℕ
asked_member id = if is_empty id then None else Some (named id)

abbrev pub offered : JoinProtocol → Offer
offered p = record { name = p.name; metadata = p.metadata }

abbrev pub assigned_to : SyncAssignment → Assignment
assigned_to a = record { member_id = a.member_id; assignment = a.assignment }

-- A join as its group takes it, where the next new member's number is the one above that.
abbrev pub join_of : ℕ → ℕ → JoinGroupRequest → Join
join_of given connection r = record {
  connection = connection;
  member = asked_member r.member_id;
  new_member = given + 1;
  session_timeout = r.session_timeout_ms;
  rebalance_timeout = r.rebalance_timeout_ms;
  protocol_type = r.protocol_type;
  protocols = record { ref_ptr = (0, 0); now = map offered r.protocols };
}

-- The protocol's error of a group's code.
abbrev pub error_of : Code → ErrorCode
error_of of.Fine = codes.None
error_of of.IllegalGeneration = codes.IllegalGeneration
error_of of.InconsistentGroupProtocol = codes.InconsistentGroupProtocol
error_of of.UnknownMemberId = codes.UnknownMemberId
error_of of.InvalidSessionTimeout = codes.InvalidSessionTimeout
error_of of.RebalanceInProgress = codes.RebalanceInProgress
error_of of.GroupMaxSizeReached = codes.GroupMaxSizeReached

-- A commit of no generation is taken where no such group ever was.
abbrev pub commit_of_none : ℤ → Code
commit_of_none generation = if int_lt generation (pos 0) then of.Fine else of.UnknownMemberId
