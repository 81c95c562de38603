-- What requests are answered, whatever memory and the store refuse.
use Rattle.std.specs.Prelude.{◌≡◌, ◌⊎◌, ℕ, ℤ, List, [], ◌∷◌, Option, Result, Ok, Err, OnErr, if◌then◌else◌}
use Rattle.kb_wire.specs.declared.api_key.TheConstants.{OFFSET_COMMIT, JOIN_GROUP, HEARTBEAT, LEAVE_GROUP, SYNC_GROUP}
use Rattle.kb_api_group.specs.declared.group_key.TheConstants.{DELETE_GROUPS, DESCRIBE_GROUPS, LIST_GROUPS}
use Rattle.kb_api_group.specs.Layouts.{delete_groups_reply, delete_groups_request, offset_commit_reply}
use Rattle.kb_api_group.specs.declared.delete_groups.DeletedGroup.{DeletedGroup}
use Rattle.kb_api_group.specs.declared.delete_groups.DeleteGroupsRequest.{DeleteGroupsRequest}
use Rattle.kb_api_group.specs.declared.offset_commit.OffsetCommitReply.{OffsetCommitReply}
use Rattle.kb_api_group.specs.declared.offset_commit.OffsetCommitRequest.{OffsetCommitRequest}
use Rattle.kb_wire.specs.Codec.{whole}
use Rattle.kb_wire.specs.declared.fault.ReadFault.{ReadFault}
use Rattle.kb_wire.specs.declared.fault.ReadFault.TheVariants as faults
use Rattle.kb_coordinator.specs.Calls.{deleted, has_members}
use Rattle.kb_coordinator.specs.Groups.{Groups, silent}
use Rattle.kb_tenant_state.specs.World.{World}
use Rattle.kb_tenant_state.specs.declared.topic_partition.TopicPartition.{TopicPartition}
use Rattle.kb_tenant.specs.Entries.{commit_entries, delete_groups_entries, within}
use Rattle.kb_tenant.specs.OffsetCommit.{asked_commit}
use Rattle.kb_tenant.specs.Answered as tenant
use Rattle.kb_tenant.specs.Told.{AreCommitsCut, IsCommitTopicTold, IsRepliedOrCut, IsShutUnchanged, IsWantCode}
use Rattle.kb_tenant.specs.Turns.{AreFirstServed, AreServed}
use Rattle.kb_tenant.specs.declared.answer.Answer as plain
use Rattle.kb_tenant.specs.declared.answer.Answer.TheVariants as plain_answers
use Rattle.kb_tenant.specs.declared.limits.DataLimits.{DataLimits}
use Rattle.kb_tenant.specs.declared.node.Node.{Node}
use Rattle.kb_tenant_api.specs.Deletions.{deleted_entry, deletions}
use Rattle.kb_tenant_api.specs.Replies.{Reaction, IsAnswer}
use Rattle.kb_tenant_api.specs.Serve.{commit_refusal, served}
use Rattle.kb_tenant_api.specs.declared.answer.Answer.{Answer}
use Rattle.kb_tenant_api.specs.declared.answer.Answer.TheVariants as answers

-- That is told of the answer, which is no wait for a group.
abbrev pub IsPlainly : (plain.Answer → Type 0) → Answer → Type 0
IsPlainly Told (answers.Plain answer) = Told answer
IsPlainly Told answers.Rebalance = ⊥

-- ---- OffsetCommit

-- It is the reply of an OffsetCommit, of which the group refuses what it refuses: each offset, one after another, is committed, or is
-- refused as is defined; or it is refused for a want, and nothing changes.
abbrev pub TellsCommits : Type 0 → DataLimits → Groups → World → OffsetCommitRequest → World → List ℕ → Type 0
TellsCommits failed limits gs w q v body =
    (reply : OffsetCommitReply) × ((body ≡ offset_commit_reply.written reply)
    × AreServed (IsCommitTopicTold failed limits (commit_refusal gs q) q.group_id) w q.topics v reply.topics)

-- The same of a body, where it is a request of OffsetCommit of a version. Where the connection is shut, the first offsets, so many, are so
-- told, and nothing else has changed. One that is none, or that has more entries than a limit allows, is turned away.
abbrev pub AcknowledgesCommits : Type 0 → DataLimits → (id version : ℤ) → Groups → World → List ℕ → World → Answer → Type 0
AcknowledgesCommits failed limits id version gs w body v a =
    let read = asked_commit version body in
    ((q : OffsetCommitRequest) → read ≡ Ok q → IsPlainly (IsRepliedOrCut id (TellsCommits failed limits gs w q v)
    (AreCommitsCut failed limits (commit_refusal gs q) w q v)) a)
    × OnErr (within limits.request_entries commit_entries read) (IsPlainly (IsShutUnchanged w v) a)

-- ---- DeleteGroups

-- A group is deleted, or is refused as is defined; or it is refused for a want, and nothing changes.
abbrev pub IsGroupDeletionTold : Type 0 → World × Groups → List ℕ → World × Groups → DeletedGroup → Type 0
IsGroupDeletionTold failed s id t x =
    ((t, x) ≡ deleted_entry s id) ⊎ ((t ≡ s) × ((x.group_id ≡ id) × IsWantCode failed x.error_code))

-- It is the reply of a DeleteGroups: each group, one after another, is so told.
abbrev pub TellsGroupDeletions : Type 0 → World × Groups → DeleteGroupsRequest → World × Groups → List ℕ → Type 0
TellsGroupDeletions failed s q t body = (results : List DeletedGroup)
    × ((body ≡ delete_groups_reply.written (deletions results)) × AreServed (IsGroupDeletionTold failed) s q.group_ids t results)

-- The first groups of a DeleteGroups, so many, are so told, and nothing else has changed, of the topics nor of the groups.
abbrev pub AreGroupDeletionsCut : Type 0 → World × Groups → DeleteGroupsRequest → World × Groups → Type 0
AreGroupDeletionsCut failed s q t = AreFirstServed (IsGroupDeletionTold failed) s q.group_ids t

-- The connection is shut, and nothing has changed.
abbrev pub AreGroupsLeft : World × Groups → World × Groups → Answer → Type 0
AreGroupsLeft s t a = (a ≡ answers.Plain plain_answers.Shut) × (t ≡ s)

-- The same of a body, where it is a request of DeleteGroups, also where the connection is shut. One that is none, or that names more groups
-- than a limit allows, is turned away. The last replies are forgotten in any case.
abbrev pub AcknowledgesGroupDeletions : Type 0 → Option ℕ → (id : ℤ) → Groups → World → List ℕ → World → Groups → Answer → Type 0
AcknowledgesGroupDeletions failed limit id gs w body v new a =
    let read = whole delete_groups_request body in
    let s : World × Groups = (w, silent gs) in
    ((q : DeleteGroupsRequest) → read ≡ Ok q
    → IsPlainly (IsRepliedOrCut id (TellsGroupDeletions failed s q (v, new)) (AreGroupDeletionsCut failed s q (v, new))) a)
    × OnErr (within limit delete_groups_entries read) (AreGroupsLeft s (v, new) a)

-- ---- the groups, also on a store that is not honest

-- without that group, unless it has members
abbrev pub without_empty : List ℕ → Groups → Groups
without_empty id gs = if has_members id gs then gs else deleted id gs

-- without those of these groups that have no members
abbrev pub without_each : List (List ℕ) → Groups → Groups
without_each [] gs = gs
without_each (id ∷ ids) gs = without_each ids (without_empty id gs)

-- Some groups without members are gone, or none.
abbrev pub HaveGone : Groups → Groups → Type 0
HaveGone old new = (ids : List (List ℕ)) × (new ≡ without_each ids old)

-- The groups are those of before without the last replies, and without some that had no members.
abbrev pub AreFewer : Groups → Groups → Type 0
AreFewer old new = HaveGone (silent old) new

-- The groups are those that the request makes, or those of before without the last replies; and then the connection is shut. Where groups
-- are deleted some of these may be gone.
abbrev pub AreGroupsAfter : (key : ℤ) → (old made : Groups) → Answer → Groups → Type 0
AreGroupsAfter key old made answer new =
    (new ≡ made) ⊎ (((new ≡ silent old) × (answer ≡ answers.Plain plain_answers.Shut)) ⊎ ((key ≡ DELETE_GROUPS) × AreFewer old new))

-- the same, where want of memory is a fault
abbrev pub AreGroupsBy : (old made : Groups) → Result Answer ReadFault → Groups → Type 0
AreGroupsBy old made (Ok answer) new = new ≡ made
AreGroupsBy old made (Err (faults.Wire fault)) new = new ≡ made
AreGroupsBy old made (Err faults.Memory) new = (new ≡ made) ⊎ (new ≡ silent old)

-- the same of any request by its key
abbrev pub AreGroupsOf : (key : ℤ) → (old made : Groups) → Result Answer ReadFault → Groups → Type 0
AreGroupsOf key old made result new = AreGroupsBy old made result new ⊎ ((key ≡ DELETE_GROUPS) × AreFewer old new)

-- ---- all

-- the APIs that change what groups committed
abbrev pub IsOfCommits : ℤ → Type 0
IsOfCommits key = (key ≡ OFFSET_COMMIT) ⊎ (key ≡ DELETE_GROUPS)

-- the APIs of a group's members, and of those who look at groups
abbrev pub IsOfMembers : ℤ → Type 0
IsOfMembers key = (key ≡ JOIN_GROUP) ⊎ ((key ≡ HEARTBEAT) ⊎ ((key ≡ LEAVE_GROUP) ⊎ ((key ≡ SYNC_GROUP)
    ⊎ ((key ≡ DESCRIBE_GROUPS) ⊎ (key ≡ LIST_GROUPS)))))

-- what is answered where a fault shuts the connection
abbrev pub answered : Result Answer ReadFault → Answer
answered (Ok answer) = answer
answered (Err fault) = answers.Plain plain_answers.Shut

-- The answer is that reaction's, or the connection is shut.
abbrev pub IsAnswerOrShut : ℤ → Reaction → Answer → Type 0
IsAnswerOrShut id reaction answer = IsAnswer id reaction answer ⊎ (answer ≡ answers.Plain plain_answers.Shut)

-- A request on the connection of number n that came to topics w and groups gs at a time of the clock, and left the topics v and the groups
-- new, is answered the truth. A commit is told by its group, and a deletion of groups group by group. Where the connection is shut instead,
-- these did their first entries and nothing else. A member's request is answered what is defined; any other is as if there were no groups.
-- `failed` says that the store failed meanwhile, `full` that the catalog's log has no room.
pub record IsTruthful (failed full : Type 0) (node : Node) (clock n : ℕ) (key version id : ℤ) (body : List ℕ) (w : World) (gs : Groups)
    (v : World) (new : Groups) (touched : List TopicPartition) (answer : Answer) : Type 0 where
  pub plain : (IsOfMembers key → ⊥) → (IsOfCommits key → ⊥)
      → IsPlainly (tenant.IsTruthful failed full node clock n key version id body w v touched) answer
  pub committed : key ≡ OFFSET_COMMIT → AcknowledgesCommits (failed ⊎ full) node.limits id version gs w body v answer
  pub deleted : key ≡ DELETE_GROUPS
      → AcknowledgesGroupDeletions (failed ⊎ full) node.limits.request_entries id gs w body v new answer
  pub members : IsOfMembers key → IsAnswerOrShut id (served node w clock gs n key version body).reaction answer
  pub stays : IsOfMembers key → v ≡ w
