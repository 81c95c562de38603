-- Requests by their keys.
use Rattle.std.proofs.Common.{◌≡◌, ℕ, ℤ, Bool, true, false, List, refl, ap}
use Rattle.std.specs.Prelude.{if◌then◌else◌}
use Rattle.std.specs.Ordering.{int_eq}
use Rattle.kb_wire.specs.Codec.{whole}
use Rattle.kb_wire.specs.declared.api_key.TheConstants.{OFFSET_COMMIT, JOIN_GROUP, HEARTBEAT, LEAVE_GROUP, SYNC_GROUP}
use Rattle.kb_api_group.specs.declared.group_key.TheConstants.{DELETE_GROUPS, DESCRIBE_GROUPS, LIST_GROUPS}
use Rattle.kb_api_group.specs.Layouts.{delete_groups_request, describe_groups_request, list_groups_request}
use Rattle.kb_api_group.specs.Layouts.{heartbeat_request, join_group_request, leave_group_request, sync_group_request}
use Rattle.kb_coordinator.specs.Groups.{Groups}
use Rattle.kb_tenant_state.specs.World.{World}
use Rattle.kb_tenant.specs.OffsetCommit.{asked_commit}
use Rattle.kb_tenant.specs.Entries.{commit_entries, delete_groups_entries, describe_groups_entries, within}
use Rattle.kb_tenant.specs.Serve as tenant
use Rattle.kb_tenant.specs.declared.node.Node.{Node}
use Rattle.kb_tenant_api.specs.Serve.{Outcome, if_read, of_delete, of_describe, of_heartbeat, of_join, of_leave, of_list, of_offset_commit, of_sync, of_topics, served}

pub served_commit : (node : Node) (w : World) (clock : ℕ) (gs : Groups) (n : ℕ) (key version : ℤ) (body : List ℕ) → key ≡ OFFSET_COMMIT → served node w clock gs n key version body ≡ if_read w gs (within node.limits.request_entries commit_entries (asked_commit version body)) (of_offset_commit node.limits w clock gs)
unfolding served
served_commit node w clock gs n key version body is = ap (λ k. served node w clock gs n k version body) is

pub served_join : (node : Node) (w : World) (clock : ℕ) (gs : Groups) (n : ℕ) (key version : ℤ) (body : List ℕ) → key ≡ JOIN_GROUP → served node w clock gs n key version body ≡ if_read w gs (whole join_group_request body) (of_join w clock n gs)
unfolding served
served_join node w clock gs n key version body is = ap (λ k. served node w clock gs n k version body) is

pub served_heartbeat : (node : Node) (w : World) (clock : ℕ) (gs : Groups) (n : ℕ) (key version : ℤ) (body : List ℕ) → key ≡ HEARTBEAT → served node w clock gs n key version body ≡ if_read w gs (whole heartbeat_request body) (of_heartbeat w clock gs)
unfolding served
served_heartbeat node w clock gs n key version body is = ap (λ k. served node w clock gs n k version body) is

pub served_leave : (node : Node) (w : World) (clock : ℕ) (gs : Groups) (n : ℕ) (key version : ℤ) (body : List ℕ) → key ≡ LEAVE_GROUP → served node w clock gs n key version body ≡ if_read w gs (whole leave_group_request body) (of_leave w clock gs)
unfolding served
served_leave node w clock gs n key version body is = ap (λ k. served node w clock gs n k version body) is

pub served_sync : (node : Node) (w : World) (clock : ℕ) (gs : Groups) (n : ℕ) (key version : ℤ) (body : List ℕ) → key ≡ SYNC_GROUP → served node w clock gs n key version body ≡ if_read w gs (whole sync_group_request body) (of_sync w clock n gs)
unfolding served
served_sync node w clock gs n key version body is = ap (λ k. served node w clock gs n k version body) is

pub served_describe : (node : Node) (w : World) (clock : ℕ) (gs : Groups) (n : ℕ) (key version : ℤ) (body : List ℕ) → key ≡ DESCRIBE_GROUPS → served node w clock gs n key version body ≡ if_read w gs (within node.limits.request_entries describe_groups_entries (whole describe_groups_request body)) (of_describe node.limits.reply_bytes w gs)
unfolding served
served_describe node w clock gs n key version body is = ap (λ k. served node w clock gs n k version body) is

pub served_list : (node : Node) (w : World) (clock : ℕ) (gs : Groups) (n : ℕ) (key version : ℤ) (body : List ℕ) → key ≡ LIST_GROUPS → served node w clock gs n key version body ≡ if_read w gs (whole list_groups_request body) (of_list node.limits.reply_bytes w gs)
unfolding served
served_list node w clock gs n key version body is = ap (λ k. served node w clock gs n k version body) is

pub served_delete : (node : Node) (w : World) (clock : ℕ) (gs : Groups) (n : ℕ) (key version : ℤ) (body : List ℕ) → key ≡ DELETE_GROUPS → served node w clock gs n key version body ≡ if_read w gs (within node.limits.request_entries delete_groups_entries (whole delete_groups_request body)) (of_delete w gs)
unfolding served
served_delete node w clock gs n key version body is = ap (λ k. served node w clock gs n k version body) is

skips : (b : Bool) (o p q : Outcome) → b ≡ false → p ≡ q → (if b then o else p) ≡ q
skips true o p q h e = absurd (cc)
skips false o p q h e = e

-- a key that is none of these
pub served_topics : (node : Node) (w : World) (clock : ℕ) (gs : Groups) (n : ℕ) (key version : ℤ) (body : List ℕ) → int_eq key OFFSET_COMMIT ≡ false → int_eq key JOIN_GROUP ≡ false → int_eq key HEARTBEAT ≡ false → int_eq key LEAVE_GROUP ≡ false → int_eq key SYNC_GROUP ≡ false → int_eq key DESCRIBE_GROUPS ≡ false → int_eq key LIST_GROUPS ≡ false → int_eq key DELETE_GROUPS ≡ false
    → served node w clock gs n key version body ≡ of_topics gs (tenant.plainly_served node w clock n key version body)
unfolding served
served_topics node w clock gs n key version body a b c d e f g h =
    skips (int_eq key OFFSET_COMMIT) _ _ _ a (skips (int_eq key JOIN_GROUP) _ _ _ b (skips (int_eq key HEARTBEAT) _ _ _ c (skips (int_eq key LEAVE_GROUP) _ _ _ d (skips (int_eq key SYNC_GROUP) _ _ _ e (skips (int_eq key DESCRIBE_GROUPS) _ _ _ f (skips (int_eq key LIST_GROUPS) _ _ _ g (skips (int_eq key DELETE_GROUPS) _ _ _ h refl)))))))
