-- What a request of a tenant makes of what it keeps, and comes to for the connection that sent it.
use Rattle.std.specs.Prelude.{◌≡◌, ℕ, ℤ, List, [], Bool, Option, Some, None, Result, Ok, Err, length, nat_le, if◌then◌else◌}
use Rattle.std.specs.Ordering.{int_eq}
use Rattle.kb_wire.specs.Codec.{whole}
use Rattle.kb_wire.specs.declared.fault.WireFault.{WireFault}
use Rattle.kb_wire.specs.declared.fault.ReadFault.{ReadFault}
use Rattle.kb_wire.specs.declared.fault.ReadFault.TheVariants as faults
use Rattle.kb_wire.specs.ErrorCode.{code_of}
use Rattle.kb_wire.specs.declared.api_key.TheConstants.{OFFSET_COMMIT, JOIN_GROUP, HEARTBEAT, LEAVE_GROUP, SYNC_GROUP}
use Rattle.kb_api_group.specs.declared.group_key.TheConstants.{DELETE_GROUPS, DESCRIBE_GROUPS, LIST_GROUPS}
use Rattle.kb_api_group.specs.Layouts.{describe_groups_reply, describe_groups_request, list_groups_reply, list_groups_request}
use Rattle.kb_api_group.specs.Layouts.{heartbeat_reply, heartbeat_request, join_group_request, leave_group_reply, leave_group_request}
use Rattle.kb_api_group.specs.Layouts.{delete_groups_reply, delete_groups_request, offset_commit_reply, sync_group_request}
use Rattle.kb_wire.specs.declared.error_code.ErrorCode.{ErrorCode}
use Rattle.kb_api_group.specs.declared.delete_groups.DeleteGroupsRequest.{DeleteGroupsRequest}
use Rattle.kb_api_group.specs.declared.describe_groups.DescribeGroupsRequest.{DescribeGroupsRequest}
use Rattle.kb_api_group.specs.declared.heartbeat.HeartbeatRequest.{HeartbeatRequest}
use Rattle.kb_api_group.specs.declared.join_group.JoinGroupRequest.{JoinGroupRequest}
use Rattle.kb_api_group.specs.declared.leave_group.LeaveGroupRequest.{LeaveGroupRequest}
use Rattle.kb_api_group.specs.declared.list_groups.ListGroupsRequest.{ListGroupsRequest}
use Rattle.kb_api_group.specs.declared.offset_commit.OffsetCommitRequest.{OffsetCommitRequest}
use Rattle.kb_api_group.specs.declared.sync_group.SyncGroupRequest.{SyncGroupRequest}
use Rattle.kb_coordinator.specs.Calls.{after_heartbeat, after_join, after_leave, after_may_commit, after_sync, heartbeat_code, is_accepted}
use Rattle.kb_coordinator.specs.Calls.{join_code, leave_code, may_commit, sync_answer}
use Rattle.kb_coordinator.specs.Groups.{Groups, silent}
use Rattle.kb_coordinator.specs.Replies.{join_refusal, sync_spelled}
use Rattle.kb_coordinator.specs.Tools.{descriptions, group_list}
use Rattle.kb_groups.specs.Codes.{number}
use Rattle.kb_groups.specs.declared.reply.SyncAnswer.{SyncAnswer}
use Rattle.kb_groups.specs.declared.reply.SyncAnswer.TheVariants as sync
use Rattle.kb_tenant_state.specs.World.{World}
use Rattle.kb_tenant_state.specs.declared.topic_partition.TopicPartition.{TopicPartition}
use Rattle.kb_tenant.specs.Entries.{commit_entries, delete_groups_entries, describe_groups_entries, within}
use Rattle.kb_tenant.specs.OffsetCommit.{asked_commit, committed_all}
use Rattle.kb_tenant.specs.Replies.{Shuts}
use Rattle.kb_tenant.specs.Serve as tenant
use Rattle.kb_tenant.specs.declared.limits.DataLimits.{DataLimits}
use Rattle.kb_tenant.specs.declared.node.Node.{Node}
use Rattle.kb_tenant.specs.Turns.{in_turn}
use Rattle.kb_tenant_api.specs.Deletions.{deleted_entry, deletions}
use Rattle.kb_tenant_api.specs.Replies.{Reaction, Plain, Rebalances, IsAnswer, replies, short_replies}
use Rattle.kb_tenant_api.specs.declared.answer.Answer.{Answer}
use Rattle.kb_tenant_api.specs.declared.answer.Answer.TheVariants as answers
use Rattle.kb_tenant.specs.declared.answer.Answer.TheVariants as plain

-- the topics and the groups after a request, the partitions that it changed, in order, and what it comes to
pub record Outcome : Type 0 where
  pub world : World
  pub groups : Groups
  pub touched : List TopicPartition
  pub reaction : Reaction

-- the topics stay
abbrev pub of_groups : World → Groups → Reaction → Outcome
of_groups w gs reaction = record { world = w; groups = gs; touched = []; reaction = reaction }

-- ---- JoinGroup, SyncGroup, Heartbeat, LeaveGroup

-- A join that is accepted waits; its reply may come with it.
abbrev pub of_join : World → ℕ → ℕ → Groups → JoinGroupRequest → Outcome
of_join w clock n gs r = let code = join_code n r gs in
    of_groups w (after_join clock n r gs) (if is_accepted code then Rebalances else replies (join_refusal (code_of code) r.member_id))

abbrev pub sync_reaction : SyncAnswer → Reaction
sync_reaction (sync.Refused code) = replies (sync_spelled (sync.Refused code))
sync_reaction (sync.Got assignment) = replies (sync_spelled (sync.Got assignment))
sync_reaction sync.Waits = Rebalances

abbrev pub of_sync : World → ℕ → ℕ → Groups → SyncGroupRequest → Outcome
of_sync w clock n gs r = of_groups w (after_sync clock n r gs) (sync_reaction (sync_answer clock n r gs))

abbrev pub of_heartbeat : World → ℕ → Groups → HeartbeatRequest → Outcome
of_heartbeat w clock gs r =
    of_groups w (after_heartbeat clock r gs) (replies (heartbeat_reply.written (record { error_code = number (heartbeat_code r gs) })))

abbrev pub of_leave : World → ℕ → Groups → LeaveGroupRequest → Outcome
of_leave w clock gs r =
    of_groups w (after_leave clock r gs) (replies (leave_group_reply.written (record { error_code = number (leave_code r gs) })))

-- ---- DescribeGroups, ListGroups

-- Tools look at the groups, and change none. A reply that is past their tenant's limit is not sent.
abbrev pub of_describe : Option ℕ → World → Groups → DescribeGroupsRequest → Outcome
of_describe limit w gs r = of_groups w (silent gs) (short_replies limit (describe_groups_reply.written (descriptions gs r)))

abbrev pub of_list : Option ℕ → World → Groups → ListGroupsRequest → Outcome
of_list limit w gs r = of_groups w (silent gs) (short_replies limit (list_groups_reply.written (group_list gs)))

-- ---- OffsetCommit

-- what each entry of a commit is refused for, if its group refuses the member
abbrev pub refusal_in : ErrorCode → Option ℤ
refusal_in code = if is_accepted code then None else Some (code_of code)

abbrev pub commit_refusal : Groups → OffsetCommitRequest → Option ℤ
commit_refusal gs r = refusal_in (may_commit r.group_id r.member_id r.generation_id gs)

abbrev pub of_offset_commit : DataLimits → World → ℕ → Groups → OffsetCommitRequest → Outcome
of_offset_commit limits w clock gs r =
    let c = committed_all limits w (commit_refusal gs r) r in
    record {
      world = c.0;
      groups = after_may_commit clock r.group_id r.member_id r.generation_id gs;
      touched = [];
      reaction = replies (offset_commit_reply.written c.1);
    }

-- ---- DeleteGroups

-- The groups are deleted in order.
abbrev pub of_delete : World → Groups → DeleteGroupsRequest → Outcome
of_delete w gs r =
    let d = in_turn deleted_entry (w, silent gs) r.group_ids in
    record { world = d.0.0; groups = d.0.1; touched = []; reaction = replies (delete_groups_reply.written (deletions d.1)) }

-- ---- all

-- a request that is for no group
abbrev pub of_topics : Groups → tenant.Outcome → Outcome
of_topics gs o = record { world = o.world; groups = silent gs; touched = o.touched; reaction = Plain o.reaction }

-- A body that is not the API's shuts the connection.
abbrev pub if_read : {A : Type 0} → World → Groups → Result A WireFault → (A → Outcome) → Outcome
if_read w gs (Ok v) f = f v
if_read w gs (Err fault) f = of_groups w (silent gs) (Plain Shuts)

-- a request on the connection of number n, at a time of the clock in milliseconds; those of other APIs are for no group. One that names
-- more entries than its tenant's limit allows shuts the connection.
unfoldable pub served : Node → World → ℕ → Groups → ℕ → ℤ → ℤ → List ℕ → Outcome
served node w clock gs n key version body =
    let limit = node.limits.request_entries in
    if int_eq key OFFSET_COMMIT then if_read w gs (within limit commit_entries (asked_commit version body))
    (of_offset_commit node.limits w clock gs)
    else if int_eq key JOIN_GROUP then if_read w gs (whole join_group_request body) (of_join w clock n gs)
    else if int_eq key HEARTBEAT then if_read w gs (whole heartbeat_request body) (of_heartbeat w clock gs)
    else if int_eq key LEAVE_GROUP then if_read w gs (whole leave_group_request body) (of_leave w clock gs)
    else if int_eq key SYNC_GROUP then if_read w gs (whole sync_group_request body) (of_sync w clock n gs)
    else if int_eq key DESCRIBE_GROUPS then if_read w gs (within limit describe_groups_entries (whole describe_groups_request body))
    (of_describe node.limits.reply_bytes w gs)
    else if int_eq key LIST_GROUPS then if_read w gs (whole list_groups_request body) (of_list node.limits.reply_bytes w gs)
    else if int_eq key DELETE_GROUPS then if_read w gs (within limit delete_groups_entries (whole delete_groups_request body)) (of_delete w gs)
    else of_topics gs (tenant.plainly_served node w clock n key version body)

-- whether the last request or moment answered requests that waited
abbrev pub has_released : Groups → Bool
has_released gs = nat_le 1 (length gs.released)

-- ---- what the code answers

-- The outcome's topics, groups, touched partitions and answer.
abbrev pub IsOutcome : ℤ → Outcome → World → Groups → List TopicPartition → Answer → Type 0
IsOutcome id o w gs touched answer = (w ≡ o.world) × (gs ≡ o.groups) × (touched ≡ o.touched) × IsAnswer id o.reaction answer

-- the same, where a body that is not the API's is a fault; nothing is said where memory ran out
abbrev pub IsServed : ℤ → Outcome → World → Groups → List TopicPartition → Result Answer ReadFault → Type 0
IsServed id o w gs touched (Ok answer) = IsOutcome id o w gs touched answer
IsServed id o w gs touched (Err (faults.Wire fault)) = IsOutcome id o w gs touched (answers.Plain plain.Shut)
IsServed id o w gs touched (Err faults.Memory) = Unit {0}
