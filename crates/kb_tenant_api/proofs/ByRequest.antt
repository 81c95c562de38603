-- What holds of a request, if it does for each API of groups and for the requests that are for no group.
use Rattle.std.proofs.Common.{ℕ, ℤ, Bool, true, false, List}
use Rattle.std.specs.Prelude.{Result, Ok, Err, if◌then◌else◌}
use Rattle.std.specs.Ordering.{int_eq}
use Rattle.kb_wire.specs.Codec.{whole}
use Rattle.kb_wire.specs.declared.api_key.TheConstants.{OFFSET_COMMIT, JOIN_GROUP, HEARTBEAT, LEAVE_GROUP, SYNC_GROUP}
use Rattle.kb_wire.specs.declared.fault.WireFault.{WireFault}
use Rattle.kb_api_group.specs.declared.group_key.TheConstants.{DELETE_GROUPS, DESCRIBE_GROUPS, LIST_GROUPS}
use Rattle.kb_api_group.specs.Layouts.{delete_groups_request, describe_groups_request, list_groups_request}
use Rattle.kb_api_group.specs.Layouts.{heartbeat_request, join_group_request, leave_group_request, sync_group_request}
use Rattle.kb_api_group.specs.declared.delete_groups.DeleteGroupsRequest.{DeleteGroupsRequest}
use Rattle.kb_api_group.specs.declared.offset_commit.OffsetCommitRequest.{OffsetCommitRequest}
use Rattle.kb_coordinator.specs.Groups.{Groups, silent}
use Rattle.kb_tenant_state.specs.World.{World}
use Rattle.kb_tenant.specs.OffsetCommit.{asked_commit}
use Rattle.kb_tenant.specs.Replies.{Shuts}
use Rattle.kb_tenant.specs.Entries.{commit_entries, delete_groups_entries, describe_groups_entries, within}
use Rattle.kb_tenant.specs.Serve as tenant
use Rattle.kb_tenant.specs.declared.node.Node.{Node}
use Rattle.kb_tenant_api.specs.Replies.{Reaction, Plain}
use Rattle.kb_tenant_api.specs.Serve.{Outcome, if_read, of_delete, of_describe, of_groups, of_heartbeat, of_join, of_leave, of_list, of_offset_commit, of_sync, of_topics, served}

-- It holds where the topics stay, whatever becomes of the groups; after each commit; after groups were deleted; and after a request that is
-- for no group.
pub record Cases (P : Outcome → Type 0) (node : Node) (w : World) (clock : ℕ) (gs : Groups) (n : ℕ) (key version : ℤ) (body : List ℕ) : Type 0 where
  pub stays : (after : Groups) (reaction : Reaction) → P (of_groups w after reaction)
  pub commit : (r : OffsetCommitRequest) → P (of_offset_commit node.limits w clock gs r)
  pub delete : (r : DeleteGroupsRequest) → P (of_delete w gs r)
  pub topics : P (of_topics gs (tenant.plainly_served node w clock n key version body))

read_by : {A : Type 0} (P : Outcome → Type 0) (w : World) (gs : Groups) (r : Result A WireFault) (f : A → Outcome) → ((a : A) → P (f a)) → P (of_groups w (silent gs) (Plain Shuts)) → P (if_read w gs r f)
read_by P w gs (Ok a) f each shut = each a
read_by P w gs (Err fault) f each shut = shut

either : (P : Outcome → Type 0) (b : Bool) (o p : Outcome) → P o → P p → P (if b then o else p)
either P true o p first second = first
either P false o p first second = second

pub by_request : (P : Outcome → Type 0) (node : Node) (w : World) (clock : ℕ) (gs : Groups) (n : ℕ) (key version : ℤ) (body : List ℕ) → Cases P node w clock gs n key version body → P (served node w clock gs n key version body)
unfolding served
by_request P node w clock gs n key version body c =
    let shut = c.stays (silent gs) (Plain Shuts) in
    let others : Outcome = of_topics gs (tenant.plainly_served node w clock n key version body) in
    let deletes : Outcome = if_read w gs (within node.limits.request_entries delete_groups_entries (whole delete_groups_request body)) (of_delete w gs) in
    let lists : Outcome = if_read w gs (whole list_groups_request body) (of_list node.limits.reply_bytes w gs) in
    let describes : Outcome = if_read w gs (within node.limits.request_entries describe_groups_entries (whole describe_groups_request body)) (of_describe node.limits.reply_bytes w gs) in
    let syncs : Outcome = if_read w gs (whole sync_group_request body) (of_sync w clock n gs) in
    let leaves : Outcome = if_read w gs (whole leave_group_request body) (of_leave w clock gs) in
    let beats : Outcome = if_read w gs (whole heartbeat_request body) (of_heartbeat w clock gs) in
    let joins : Outcome = if_read w gs (whole join_group_request body) (of_join w clock n gs) in
    let commits : Outcome = if_read w gs (within node.limits.request_entries commit_entries (asked_commit version body)) (of_offset_commit node.limits w clock gs) in
    let from_delete : Outcome = if int_eq key DELETE_GROUPS then deletes else others in
    let from_list : Outcome = if int_eq key LIST_GROUPS then lists else from_delete in
    let from_describe : Outcome = if int_eq key DESCRIBE_GROUPS then describes else from_list in
    let from_sync : Outcome = if int_eq key SYNC_GROUP then syncs else from_describe in
    let from_leave : Outcome = if int_eq key LEAVE_GROUP then leaves else from_sync in
    let from_heartbeat : Outcome = if int_eq key HEARTBEAT then beats else from_leave in
    let from_join : Outcome = if int_eq key JOIN_GROUP then joins else from_heartbeat in
    either P (int_eq key OFFSET_COMMIT) commits from_join (read_by P w gs (within node.limits.request_entries commit_entries (asked_commit version body)) (of_offset_commit node.limits w clock gs) c.commit shut)
    (either P (int_eq key JOIN_GROUP) joins from_heartbeat (read_by P w gs (whole join_group_request body) (of_join w clock n gs) (λ r. c.stays (of_join w clock n gs r).groups (of_join w clock n gs r).reaction) shut)
    (either P (int_eq key HEARTBEAT) beats from_leave (read_by P w gs (whole heartbeat_request body) (of_heartbeat w clock gs) (λ r. c.stays (of_heartbeat w clock gs r).groups (of_heartbeat w clock gs r).reaction) shut)
    (either P (int_eq key LEAVE_GROUP) leaves from_sync (read_by P w gs (whole leave_group_request body) (of_leave w clock gs) (λ r. c.stays (of_leave w clock gs r).groups (of_leave w clock gs r).reaction) shut)
    (either P (int_eq key SYNC_GROUP) syncs from_describe (read_by P w gs (whole sync_group_request body) (of_sync w clock n gs) (λ r. c.stays (of_sync w clock n gs r).groups (of_sync w clock n gs r).reaction) shut)
    (either P (int_eq key DESCRIBE_GROUPS) describes from_list (read_by P w gs (within node.limits.request_entries describe_groups_entries (whole describe_groups_request body)) (of_describe node.limits.reply_bytes w gs) (λ r. c.stays (of_describe node.limits.reply_bytes w gs r).groups (of_describe node.limits.reply_bytes w gs r).reaction) shut)
    (either P (int_eq key LIST_GROUPS) lists from_delete (read_by P w gs (whole list_groups_request body) (of_list node.limits.reply_bytes w gs) (λ r. c.stays (of_list node.limits.reply_bytes w gs r).groups (of_list node.limits.reply_bytes w gs r).reaction) shut)
    (either P (int_eq key DELETE_GROUPS) deletes others (read_by P w gs (within node.limits.request_entries delete_groups_entries (whole delete_groups_request body)) (of_delete w gs) c.delete shut) c.topics)))))))
