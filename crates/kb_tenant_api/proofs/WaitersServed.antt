-- The members that wait in a tenant's groups, one request or moment after the other.
use Rattle.std.proofs.Common.{inl, inr, ◌≡◌, ◌∙◌, ◌≤◌, ◌+◌, ℕ, ℤ, zero, suc, Bool, true, false, ◌&&◌, List, [], ◌∷◌, ◌++◌, map, Option, Some, None, nat_eq, bytes_eq, if◌then◌else◌, refl, sym, ap, subst, arith}
use Rattle.std.specs.Prelude.{Result, Ok, Err}
use Rattle.std.specs.List.{flat_map, insert}
use Rattle.std.specs.Ordering.{int_eq}
use Rattle.kb_wire.specs.Codec.{whole}
use Rattle.kb_wire.specs.declared.fault.WireFault.{WireFault}
use Rattle.kb_wire.specs.ErrorCode.{code_of}
use Rattle.kb_wire.specs.declared.api_key.TheConstants.{OFFSET_COMMIT, JOIN_GROUP, HEARTBEAT, LEAVE_GROUP, SYNC_GROUP}
use Rattle.kb_api_group.specs.declared.group_key.TheConstants.{DELETE_GROUPS, DESCRIBE_GROUPS, LIST_GROUPS}
use Rattle.kb_api_group.specs.Layouts.{delete_groups_request, describe_groups_request, list_groups_request}
use Rattle.kb_api_group.specs.Layouts.{heartbeat_request, join_group_request, leave_group_request, sync_group_request}
use Rattle.kb_api_group.specs.declared.delete_groups.DeleteGroupsRequest.{DeleteGroupsRequest}
use Rattle.kb_api_group.specs.declared.heartbeat.HeartbeatRequest.{HeartbeatRequest}
use Rattle.kb_api_group.specs.declared.join_group.JoinGroupRequest.{JoinGroupRequest}
use Rattle.kb_api_group.specs.declared.leave_group.LeaveGroupRequest.{LeaveGroupRequest}
use Rattle.kb_api_group.specs.declared.offset_commit.OffsetCommitRequest.{OffsetCommitRequest}
use Rattle.kb_api_group.specs.declared.sync_group.SyncGroupRequest.{SyncGroupRequest}
use Rattle.kb_groups.specs.declared.state.State.{State}
use Rattle.kb_groups.specs.declared.reply.Release.{Release}
use Rattle.kb_groups.specs.declared.reply.SyncAnswer.{SyncAnswer}
use Rattle.kb_groups.specs.declared.reply.SyncAnswer.TheVariants.{Refused, Got, Waits}
use Rattle.kb_wire.specs.declared.fault.ReadFault.{ReadFault}
use Rattle.kb_wire.specs.declared.fault.ReadFault.TheVariants as faults
use Rattle.kb_groups.specs.declared.code.Code.TheVariants as of
use Rattle.kb_groups.specs.declared.borrowed.Join.{Join}
use Rattle.kb_groups.specs.Calls as one
use Rattle.kb_groups.specs.Moments.{tick}
use Rattle.kb_coordinator.specs.declared.groups.Entry.{Entry}
use Rattle.kb_coordinator.specs.Calls.{after_heartbeat, after_join, after_may_commit, after_sync, at_moment, by_group, deleted, has_members, hung_up, is_accepted, is_due, is_there, join_code, joined_by, room, some_released, some_ticked, sync_answer, sync_in, ticked, Ticks}
use Rattle.kb_coordinator.specs.Groups as co
use Rattle.kb_coordinator.specs.Groups.{Groups, first_above, found, silent}
use Rattle.kb_coordinator.specs.Replies.{join_refusal}
use Rattle.kb_coordinator.specs.Requests.{assigned_to, join_of, named}
use Rattle.kb_wire.specs.declared.error_code.ErrorCode.TheVariants as codes
use Rattle.kb_topics.specs.Known.{has_committed}
use Rattle.kb_tenant_state.specs.World.{World, new_world}
use Rattle.kb_tenant.specs.OffsetCommit.{asked_commit}
use Rattle.kb_tenant.specs.Entries.{commit_entries, delete_groups_entries, describe_groups_entries, within}
use Rattle.kb_tenant.specs.Serve as tenant
use Rattle.kb_tenant.specs.Turns.{in_turn}
use Rattle.kb_tenant.specs.declared.limits.DataLimits.{DataLimits}
use Rattle.kb_tenant.specs.declared.node.Node.{Node}
use Rattle.kb_tenant_api.specs.Acknowledged.{without_each, without_empty, AreFewer, AreGroupsAfter, AreGroupsBy}
use Rattle.kb_tenant_api.specs.Deletions.{all_deleted, deleted_entry}
use Rattle.kb_tenant_api.specs.Replies.{Rebalances, replies}
use Rattle.kb_tenant_api.specs.declared.answer.Answer.{Answer}
use Rattle.kb_tenant_api.specs.declared.answer.Answer.TheVariants as answers
use Rattle.kb_tenant_api.specs.Serve.{Outcome, if_read, of_delete, of_describe, of_heartbeat, of_join, of_leave, of_list, of_offset_commit, of_sync, of_topics, served, sync_reaction}
use Rattle.kb_tenant_api.specs.Turns.{PassGroups}
use Rattle.kb_tenant_api.specs.Waiters.{AreServed, AreTicked, IsWaitTold, IsWaitToldBy, given, members_on, once, rebalances, replies_on, waiting, waiting_in}
use Rattle.kb_tenant_api.proofs.Waiters.{dropped_none, dropped_waits, join_waits, leave_waits, tick_waits, touched_waits, within_waits}

-- 1. One group among the others

-- how many wait in the group of an id
abbrev in_it : (State → ℕ) → Option State → ℕ
in_it f o = by_group 0 f o

swapped : (k : ℕ) (id : List ℕ) (f : State → State) (es : List Entry) → in_it (λ g. waiting k g.members) (found id es) + waiting_in k (co.changed id f es) ≡ waiting_in k es + in_it (λ g. waiting k (f g).members) (found id es)
unfolding co.changed found
swapped k id f [] = refl
swapped k id f (e ∷ es) = by (bytes_eq e.id id) (swapped k id f es)
  where
    by : (b : Bool) → in_it (λ g. waiting k g.members) (found id es) + waiting_in k (co.changed id f es) ≡ waiting_in k es + in_it (λ g. waiting k (f g).members) (found id es)
        → in_it (λ g. waiting k g.members) (if b then Some e.group else found id es) + waiting_in k (if b then record { id = e.id; group = f e.group } ∷ es else e ∷ co.changed id f es) ≡ waiting k e.group.members + waiting_in k es + in_it (λ g. waiting k (f g).members) (if b then Some e.group else found id es)
    by true r = omega arith
    by false r = omega (arith, r)

same_in : (k : ℕ) (id : List ℕ) (f : State → State) → ((g : State) → waiting k (f g).members ≡ waiting k g.members) → (es : List Entry) → waiting_in k (co.changed id f es) ≡ waiting_in k es
same_in k id f h es = by (found id es) (swapped k id f es)
  where
    by : (o : Option State) → in_it (λ g. waiting k g.members) o + waiting_in k (co.changed id f es) ≡ waiting_in k es + in_it (λ g. waiting k (f g).members) o → waiting_in k (co.changed id f es) ≡ waiting_in k es
    by None s = omega (arith, s)
    by (Some g) s = omega (arith, s, h g)

insert_in : (k : ℕ) (es : List Entry) (i : ℕ) (e : Entry) → waiting_in k (insert es i e) ≤ waiting_in k es + waiting k e.group.members
insert_in k [] zero e = omega arith
insert_in k [] (suc i) e = omega arith
insert_in k (x ∷ es) zero e = omega arith
insert_in k (x ∷ es) (suc i) e = omega (arith, insert_in k es i e)

-- 2. Requests

abbrev IsTold : ℕ → Groups → Outcome → Type 0
IsTold n gs o = AreServed n (rebalances o.reaction) gs o.groups

silent_served : (n : ℕ) (more : Bool) (gs : Groups) → AreServed n more gs (silent gs)
silent_served n more gs k = omega arith

join_told : (w : World) (clock n : ℕ) (gs : Groups) (r : JoinGroupRequest) → IsTold n gs (of_join w clock n gs r)
join_told w clock n gs r = by (is_accepted (join_code n r gs))
  where
    j : Join
    j = join_of gs.members n r

    made : (k : ℕ) (o : Option State) → in_it (λ g. waiting k g.members) o + waiting_in k (co.changed r.group_id (λ h. (one.join clock j h).group) gs.groups) ≡ waiting_in k gs.groups + in_it (λ g. waiting k (one.join clock j g).group.members) o
        → members_on k (joined_by clock j r.group_id gs o) + replies_on k (joined_by clock j r.group_id gs o) ≤ members_on k gs + once (nat_eq n k)
    made k None s = omega (arith, join_waits k clock j one.fresh, insert_in k gs.groups (first_above r.group_id gs.groups) (record { id = r.group_id; group = (one.join clock j one.fresh).group }))
    made k (Some g) s = omega (arith, s, join_waits k clock j g)

    more : (a c : ℕ) (b : Bool) → a ≤ c + once b → a ≤ c + once (b && true)
    more a c true h = h
    more a c false h = h

    by : (b : Bool) → AreServed n (rebalances (if b then Rebalances else replies (join_refusal (code_of (join_code n r gs)) r.member_id))) gs (if b then joined_by clock j r.group_id gs (found r.group_id gs.groups) else silent gs)
    by true = λ k. more (members_on k (joined_by clock j r.group_id gs (found r.group_id gs.groups)) + replies_on k (joined_by clock j r.group_id gs (found r.group_id gs.groups))) (members_on k gs) (nat_eq n k)
        (made k (found r.group_id gs.groups) (swapped k r.group_id (λ h. (one.join clock j h).group) gs.groups))
    by false = silent_served n false gs

sync_told : (w : World) (clock n : ℕ) (gs : Groups) (r : SyncGroupRequest) → IsTold n gs (of_sync w clock n gs r)
sync_told w clock n gs r k = by (found r.group_id gs.groups) (swapped k r.group_id (λ g. (sync_in clock n r gs g).1.group) gs.groups)
  where
    by : (o : Option State) → in_it (λ g. waiting k g.members) o + waiting_in k (co.changed r.group_id (λ g. (sync_in clock n r gs g).1.group) gs.groups) ≡ waiting_in k gs.groups + in_it (λ g. waiting k (sync_in clock n r gs g).1.group.members) o
        → waiting_in k (co.changed r.group_id (λ g. (sync_in clock n r gs g).1.group) gs.groups) + given k (by_group [] (λ g. (sync_in clock n r gs g).1.released) o) ≤ waiting_in k gs.groups + once (nat_eq n k && rebalances (sync_reaction (by_group (Refused of.UnknownMemberId) (λ g. (sync_in clock n r gs g).0) o)))
    by None s = omega (arith, s)
    by (Some g) s = omega (arith, s, within_waits (room gs g) k clock n (named r.member_id) r.generation_id (map assigned_to r.assignments) g)

leave_told : (w : World) (clock n : ℕ) (gs : Groups) (r : LeaveGroupRequest) → IsTold n gs (of_leave w clock gs r)
leave_told w clock n gs r k = by (found r.group_id gs.groups) (swapped k r.group_id (λ g. (one.leave clock (named r.member_id) g).group) gs.groups)
  where
    by : (o : Option State) → in_it (λ g. waiting k g.members) o + waiting_in k (co.changed r.group_id (λ g. (one.leave clock (named r.member_id) g).group) gs.groups) ≡ waiting_in k gs.groups + in_it (λ g. waiting k (one.leave clock (named r.member_id) g).group.members) o
        → waiting_in k (co.changed r.group_id (λ g. (one.leave clock (named r.member_id) g).group) gs.groups) + given k (by_group [] (λ g. (one.leave clock (named r.member_id) g).released) o) ≤ waiting_in k gs.groups + once (nat_eq n k && false)
    by None s = omega (arith, s)
    by (Some g) s = omega (arith, s, leave_waits k clock (named r.member_id) g)

heartbeat_told : (w : World) (clock n : ℕ) (gs : Groups) (r : HeartbeatRequest) → IsTold n gs (of_heartbeat w clock gs r)
heartbeat_told w clock n gs r k =
    let f : State → State = one.after_heartbeat clock (named r.member_id) r.generation_id in
    omega (arith, same_in k r.group_id f (λ g. touched_waits k (one.starts (one.heartbeat (named r.member_id) r.generation_id g)) clock (named r.member_id) g) gs.groups)

commit_told : (limits : DataLimits) (w : World) (clock n : ℕ) (gs : Groups) (r : OffsetCommitRequest) → IsTold n gs (of_offset_commit limits w clock gs r)
commit_told limits w clock n gs r = by (one.is_empty r.group_id)
  where
    f : State → State
    f = one.after_may_commit clock (named r.member_id) r.generation_id

    by : (b : Bool) → AreServed n false gs (if b then silent gs else record gs { groups = co.changed r.group_id f gs.groups; released = [] })
    by true = silent_served n false gs
    by false = λ k. omega (arith, same_in k r.group_id f (λ g. touched_waits k (one.is_fine (one.may_commit (named r.member_id) r.generation_id g)) clock (named r.member_id) g) gs.groups)

-- a group that is gone
without_in : (k : ℕ) (id : List ℕ) (es : List Entry) → waiting_in k (co.without id es) ≤ waiting_in k es
unfolding co.without
without_in k id [] = omega arith
without_in k id (e ∷ es) = by (bytes_eq e.id id) (without_in k id es)
  where
    by : (b : Bool) → waiting_in k (co.without id es) ≤ waiting_in k es → waiting_in k (if b then es else e ∷ co.without id es) ≤ waiting k e.group.members + waiting_in k es
    by true h = omega arith
    by false h = omega (arith, h)

-- no member more waits, and nobody more has a reply
abbrev IsLess : Groups → Groups → Type 0
IsLess old new = (k : ℕ) → (members_on k new ≤ members_on k old) × (replies_on k new ≤ replies_on k old)

deleted_less : (id : List ℕ) (gs : Groups) → IsLess gs (deleted id gs)
deleted_less id gs k = (without_in k id gs.groups, omega arith)

empty_less : (id : List ℕ) (gs : Groups) → IsLess gs (without_empty id gs)
empty_less id gs = by (has_members id gs)
  where
    by : (b : Bool) → IsLess gs (if b then gs else deleted id gs)
    by true = λ k. (omega arith, omega arith)
    by false = deleted_less id gs

less_then : (a b c : Groups) → IsLess a b → IsLess b c → IsLess a c
less_then a b c p q k = (omega (arith, (p k).0, (q k).0), omega (arith, (p k).1, (q k).1))

each_less : (ids : List (List ℕ)) (gs : Groups) → IsLess gs (without_each ids gs)
each_less [] gs = λ k. (omega arith, omega arith)
each_less (id ∷ ids) gs = less_then gs (without_empty id gs) (without_each ids (without_empty id gs)) (empty_less id gs) (each_less ids (without_empty id gs))

entry_less : (id : List ℕ) (w : World) (gs : Groups) → IsLess gs (deleted_entry (w, gs) id).0.1
entry_less id w gs = by (one.is_empty id) (has_members id gs) (has_committed id w.known.topics) (is_there id gs)
  where
    same : IsLess gs gs
    same k = (omega arith, omega arith)

    by : (a b c d : Bool) → IsLess gs (if a then (let r : (World × Groups) × ℤ = ((w, gs), code_of codes.InvalidGroupId) in r) else (if b then ((w, gs), code_of codes.NonEmptyGroup) else (if c then (all_deleted (w, gs) id, code_of codes.None) else (if d then ((w, deleted id gs), code_of codes.None) else ((w, gs), code_of codes.GroupIdNotFound))))).0.1
    by true b c d = same
    by false true c d = same
    by false false true d = deleted_less id gs
    by false false false true = deleted_less id gs
    by false false false false = same

turns_less : (ids : List (List ℕ)) (w : World) (gs : Groups) → IsLess gs (in_turn deleted_entry (w, gs) ids).0.1
turns_less [] w gs = λ k. (omega arith, omega arith)
turns_less (id ∷ ids) w gs =
    let s = (deleted_entry (w, gs) id).0 in
    less_then gs s.1 (in_turn deleted_entry s ids).0.1 (entry_less id w gs) (turns_less ids s.0 s.1)

less_served : (n : ℕ) (more : Bool) (gs new : Groups) → IsLess (silent gs) new → AreServed n more gs new
less_served n more gs new less k = omega (arith, (less k).0, (less k).1)

delete_told : (w : World) (n : ℕ) (gs : Groups) (r : DeleteGroupsRequest) → IsTold n gs (of_delete w gs r)
delete_told w n gs r = less_served n false gs (of_delete w gs r).groups (turns_less r.group_ids w (silent gs))

pub fewer_served : (n : ℕ) (more : Bool) (gs new : Groups) → AreFewer gs new → AreServed n more gs new
fewer_served n more gs new fewer = less_served n more gs new (subst (λ (x : Groups). IsLess (silent gs) x) (sym fewer.1) (each_less fewer.0 (silent gs)))

read_told : {A : Type 0} (w : World) (n : ℕ) (gs : Groups) (r : Result A WireFault) (f : A → Outcome) → ((a : A) → IsTold n gs (f a)) → IsTold n gs (if_read w gs r f)
read_told w n gs (Ok a) f each = each a
read_told w n gs (Err fault) f each = silent_served n false gs

either : (n : ℕ) (gs : Groups) (b : Bool) (o p : Outcome) → IsTold n gs o → IsTold n gs p → IsTold n gs (if b then o else p)
either n gs true o p first second = first
either n gs false o p first second = second

pub served_told : (node : Node) (w : World) (clock : ℕ) (gs : Groups) (n : ℕ) (key version : ℤ) (body : List ℕ) → AreServed n (rebalances (served node w clock gs n key version body).reaction) gs (served node w clock gs n key version body).groups
unfolding served
served_told node w clock gs n key version body =
    let others : Outcome = of_topics gs (tenant.plainly_served node w clock n key version body) in
    let deletes : Outcome = if_read w gs (within node.limits.request_entries delete_groups_entries (whole delete_groups_request body)) (of_delete w gs) in
    let lists : Outcome = if_read w gs (whole list_groups_request body) (of_list node.limits.reply_bytes w gs) in
    let describes : Outcome = if_read w gs (within node.limits.request_entries describe_groups_entries (whole describe_groups_request body)) (of_describe node.limits.reply_bytes w gs) in
    let syncs : Outcome = if_read w gs (whole sync_group_request body) (of_sync w clock n gs) in
    let leaves : Outcome = if_read w gs (whole leave_group_request body) (of_leave w clock gs) in
    let beats : Outcome = if_read w gs (whole heartbeat_request body) (of_heartbeat w clock gs) in
    let joins : Outcome = if_read w gs (whole join_group_request body) (of_join w clock n gs) in
    let commits : Outcome = if_read w gs (within node.limits.request_entries commit_entries (asked_commit version body)) (of_offset_commit node.limits w clock gs) in
    let from_delete : Outcome = if int_eq key DELETE_GROUPS then deletes else others in
    let from_list : Outcome = if int_eq key LIST_GROUPS then lists else from_delete in
    let from_describe : Outcome = if int_eq key DESCRIBE_GROUPS then describes else from_list in
    let from_sync : Outcome = if int_eq key SYNC_GROUP then syncs else from_describe in
    let from_leave : Outcome = if int_eq key LEAVE_GROUP then leaves else from_sync in
    let from_heartbeat : Outcome = if int_eq key HEARTBEAT then beats else from_leave in
    let from_join : Outcome = if int_eq key JOIN_GROUP then joins else from_heartbeat in
    either n gs (int_eq key OFFSET_COMMIT) commits from_join (read_told w n gs (within node.limits.request_entries commit_entries (asked_commit version body)) (of_offset_commit node.limits w clock gs) (commit_told node.limits w clock n gs))
    (either n gs (int_eq key JOIN_GROUP) joins from_heartbeat (read_told w n gs (whole join_group_request body) (of_join w clock n gs) (join_told w clock n gs))
    (either n gs (int_eq key HEARTBEAT) beats from_leave (read_told w n gs (whole heartbeat_request body) (of_heartbeat w clock gs) (heartbeat_told w clock n gs))
    (either n gs (int_eq key LEAVE_GROUP) leaves from_sync (read_told w n gs (whole leave_group_request body) (of_leave w clock gs) (leave_told w clock n gs))
    (either n gs (int_eq key SYNC_GROUP) syncs from_describe (read_told w n gs (whole sync_group_request body) (of_sync w clock n gs) (sync_told w clock n gs))
    (either n gs (int_eq key DESCRIBE_GROUPS) describes from_list (read_told w n gs (within node.limits.request_entries describe_groups_entries (whole describe_groups_request body)) (of_describe node.limits.reply_bytes w gs) (λ r. silent_served n false gs))
    (either n gs (int_eq key LIST_GROUPS) lists from_delete (read_told w n gs (whole list_groups_request body) (of_list node.limits.reply_bytes w gs) (λ r. silent_served n false gs))
    (either n gs (int_eq key DELETE_GROUPS) deletes others (read_told w n gs (within node.limits.request_entries delete_groups_entries (whole delete_groups_request body)) (of_delete w gs) (delete_told w n gs)) (silent_served n false gs))))))))

-- 3. A moment, and a connection that is gone

given_both : (k : ℕ) (rs ss : List Release) → given k (rs ++ ss) ≡ given k rs + given k ss
given_both k [] ss = omega arith
given_both k (r ∷ rs) ss = omega (arith, given_both k rs ss)

ticks_in : (k clock : ℕ) (marks : List Bool) (es : List Entry) → waiting_in k (some_ticked clock marks es) + given k (some_released clock marks es) ≤ waiting_in k es
unfolding some_ticked some_released
ticks_in k clock [] es = omega arith
ticks_in k clock (b ∷ bs) [] = omega arith
ticks_in k clock (b ∷ bs) (e ∷ es) = by b (ticks_in k clock bs es)
  where
    by : (c : Bool) → waiting_in k (some_ticked clock bs es) + given k (some_released clock bs es) ≤ waiting_in k es
        → waiting k (if c then ticked clock e else e).group.members + waiting_in k (some_ticked clock bs es) + given k ((if c then (tick clock e.group).released else []) ++ some_released clock bs es) ≤ waiting k e.group.members + waiting_in k es
    by true h = omega (arith, h, tick_waits k clock e.group, given_both k (tick clock e.group).released (some_released clock bs es))
    by false h = omega (arith, h)

ticks_told : (clock : ℕ) (es new : List Entry) (rs : List Release) (refused : ℕ) → Ticks clock es new rs refused → (k : ℕ) → waiting_in k new + given k rs ≤ waiting_in k es
ticks_told clock es new rs refused (marks, same, is, released, none) k =
    let a : waiting_in k new ≡ waiting_in k (some_ticked clock marks es) = ap (waiting_in k) is in
    let b : given k rs ≡ given k (some_released clock marks es) = ap (given k) released in
    omega (arith, a, b, ticks_in k clock marks es)

-- where none was refused
moment_told : (k clock : ℕ) (es : List Entry) → waiting_in k (map (ticked clock) es) + given k (flat_map (λ e. (tick clock e.group).released) es) ≤ waiting_in k es
moment_told k clock [] = omega arith
moment_told k clock (e ∷ es) =
    let others = flat_map (λ e. (tick clock e.group).released) es in
    omega (arith, moment_told k clock es, tick_waits k clock e.group, given_both k (tick clock e.group).released others)

pub left_on : (k clock n : ℕ) (es : List Entry) → waiting_in k (map (hung_up clock n) es) ≤ waiting_in k es
left_on k clock n [] = omega arith
left_on k clock n (e ∷ es) = omega (arith, left_on k clock n es, dropped_waits k clock n e.group.members)

pub left_none : (clock n : ℕ) (es : List Entry) → waiting_in n (map (hung_up clock n) es) ≡ 0
left_none clock n [] = refl
left_none clock n (e ∷ es) = omega (arith, left_none clock n es, dropped_none clock n e.group.members)

-- whatever was refused to a request
pub after_told : (node : Node) (w : World) (clock : ℕ) (gs : Groups) (n : ℕ) (key version : ℤ) (body : List ℕ) (answer : Answer) (new : Groups) → AreGroupsAfter key gs (served node w clock gs n key version body).groups answer new → AreServed n true gs new
after_told node w clock gs n key version body answer new (inl made) = λ k. subst (λ (x : Groups). members_on k x + replies_on k x ≤ members_on k gs + once (nat_eq n k && true)) (sym made)
    (by k (nat_eq n k) (rebalances (served node w clock gs n key version body).reaction) (served_told node w clock gs n key version body k))
  where
    by : (k : ℕ) (a b : Bool) → members_on k (served node w clock gs n key version body).groups + replies_on k (served node w clock gs n key version body).groups ≤ members_on k gs + once (a && b)
        → members_on k (served node w clock gs n key version body).groups + replies_on k (served node w clock gs n key version body).groups ≤ members_on k gs + once (a && true)
    by k a true h = h
    by k a false h = let less : once (a && false) ≡ 0 = none a in omega (arith, h, less)
      where
        none : (a : Bool) → once (a && false) ≡ 0
        none true = refl
        none false = refl
after_told node w clock gs n key version body answer new (inr (inl stays)) = subst (AreServed n true gs) (sym stays.0) (silent_served n true gs)
after_told node w clock gs n key version body answer new (inr (inr gone)) = fewer_served n true gs new gone.1

-- a moment of the groups, whatever was refused
pub passed_told : (clock refused : ℕ) (old new : Groups) → PassGroups clock refused old new → AreTicked old new
passed_told clock refused old new (inl (none, is)) = subst (AreTicked old) (sym is) (by (is_due clock old))
  where
    by : (b : Bool) → AreTicked old (if b then at_moment clock old else old)
    by true = λ k. let less = moment_told k clock old.groups in (omega (arith, less), omega (arith, less))
    by false = λ k. (omega arith, omega arith)
passed_told clock refused old new (inr (due, ticks, members, limits)) = λ k.
    let less = ticks_told clock old.groups new.groups new.released refused ticks k in (omega (arith, less), omega (arith, less))

-- on the request's connection no member more waits, as long as it comes to no wait
fewer_on : (n : ℕ) (old new : Groups) → AreServed n false old new → members_on n new ≤ members_on n old
fewer_on n old new served = by (nat_eq n n) (served n)
  where
    by : (b : Bool) → members_on n new + replies_on n new ≤ members_on n old + once (b && false) → members_on n new ≤ members_on n old
    by true h = omega (arith, h)
    by false h = omega (arith, h)

told_groups : (n : ℕ) (old made new : Groups) (r : Result Answer ReadFault) → AreServed n false old made → AreGroupsBy old made r new → IsWaitToldBy n old r new
told_groups n old made new (Ok answer) served is = inr (subst (λ (x : Groups). members_on n x ≤ members_on n old) (sym is) (fewer_on n old made served))
told_groups n old made new (Err (faults.Wire fault)) served is = subst (λ (x : Groups). members_on n x ≤ members_on n old) (sym is) (fewer_on n old made served)
told_groups n old made new (Err faults.Memory) served (inl is) = subst (λ (x : Groups). members_on n x ≤ members_on n old) (sym is) (fewer_on n old made served)
told_groups n old made new (Err faults.Memory) served (inr is) = subst (λ (x : Groups). members_on n x ≤ members_on n old) (sym is) (omega arith)

pub heartbeat_waits : (w : World) (clock n : ℕ) (gs new : Groups) (body : List ℕ) (r : Result Answer ReadFault) → AreGroupsBy gs (if_read w gs (whole heartbeat_request body) (of_heartbeat w clock gs)).groups r new → IsWaitToldBy n gs r new
heartbeat_waits w clock n gs new body r is = told_groups n gs (if_read w gs (whole heartbeat_request body) (of_heartbeat w clock gs)).groups new r (by (whole heartbeat_request body)) is
  where
    by : (q : Result HeartbeatRequest WireFault) → AreServed n false gs (if_read w gs q (of_heartbeat w clock gs)).groups
    by (Ok q) = heartbeat_told w clock n gs q
    by (Err fault) = silent_served n false gs

pub leave_waits_told : (w : World) (clock n : ℕ) (gs new : Groups) (body : List ℕ) (r : Result Answer ReadFault) → AreGroupsBy gs (if_read w gs (whole leave_group_request body) (of_leave w clock gs)).groups r new → IsWaitToldBy n gs r new
leave_waits_told w clock n gs new body r is = told_groups n gs (if_read w gs (whole leave_group_request body) (of_leave w clock gs)).groups new r (by (whole leave_group_request body)) is
  where
    by : (q : Result LeaveGroupRequest WireFault) → AreServed n false gs (if_read w gs q (of_leave w clock gs)).groups
    by (Ok q) = leave_told w clock n gs q
    by (Err fault) = silent_served n false gs

pub commit_waits : (limits : DataLimits) (w : World) (clock n : ℕ) (gs new : Groups) (version : ℤ) (body : List ℕ) (r : Result Answer ReadFault) → AreGroupsBy gs (if_read w gs (within limits.request_entries commit_entries (asked_commit version body)) (of_offset_commit limits w clock gs)).groups r new → IsWaitToldBy n gs r new
commit_waits limits w clock n gs new version body r is = told_groups n gs (if_read w gs (within limits.request_entries commit_entries (asked_commit version body)) (of_offset_commit limits w clock gs)).groups new r (by (within limits.request_entries commit_entries (asked_commit version body))) is
  where
    by : (q : Result OffsetCommitRequest WireFault) → AreServed n false gs (if_read w gs q (of_offset_commit limits w clock gs)).groups
    by (Ok q) = commit_told limits w clock n gs q
    by (Err fault) = silent_served n false gs

-- a join that is not accepted
pub join_refused_waits : (n clock : ℕ) (gs quiet new : Groups) (r : JoinGroupRequest) → quiet ≡ silent gs → new ≡ after_join clock n r quiet → is_accepted (join_code n r quiet) ≡ false → members_on n new ≤ members_on n gs
join_refused_waits n clock gs quiet new r is after refused =
    let none : new ≡ silent quiet = after ∙ ap (λ (b : Bool). if b then joined_by clock (join_of quiet.members n r) r.group_id quiet (found r.group_id quiet.groups) else silent quiet) refused in
    let a = ap (members_on n) none in
    let c = ap (members_on n) is in
    omega (arith, a, c)

-- a sync that does not wait
pub sync_waits_told : (n clock : ℕ) (gs quiet new : Groups) (r : SyncGroupRequest) (answer : SyncAnswer) → quiet ≡ silent gs → new ≡ after_sync clock n r quiet → answer ≡ sync_answer clock n r quiet → (answer ≡ Waits → ⊥) → members_on n new ≤ members_on n gs
sync_waits_told n clock gs quiet new r answer is after says never =
    let told = sync_told new_world clock n quiet r n in
    let same = ap (members_on n) after in
    let c = ap (members_on n) is in
    let none : once (nat_eq n n && rebalances (sync_reaction (sync_answer clock n r quiet))) ≡ 0 = by (nat_eq n n) (sync_answer clock n r quiet) (λ e. never (says ∙ e)) in
    omega (arith, told, same, c, none)
  where
    by : (b : Bool) (a : SyncAnswer) → (a ≡ Waits → ⊥) → once (b && rebalances (sync_reaction a)) ≡ 0
    by true (Refused code) h = refl
    by true (Got bytes) h = refl
    by true Waits h = absurd (h refl)
    by false a h = refl

-- groups that are deleted, whatever was refused
pub fewer_waits : (n : ℕ) (gs new : Groups) → AreFewer gs new → members_on n new ≤ members_on n gs
fewer_waits n gs new fewer = fewer_on n gs new (fewer_served n false gs new fewer)

-- no group takes part
pub quiet_waits : (n : ℕ) (gs new : Groups) → new ≡ silent gs → members_on n new ≤ members_on n gs
quiet_waits n gs new is = let same = ap (members_on n) is in omega (arith, same)

pub any_told : (n : ℕ) (old new : Groups) (r : Result Answer ReadFault) → members_on n new ≤ members_on n old → IsWaitToldBy n old r new
any_told n old new (Ok answer) h = inr h
any_told n old new (Err fault) h = h

-- a sync, which waits only where its answer says so
pub sync_any : (n clock : ℕ) (gs quiet new : Groups) (r : SyncGroupRequest) (answer : SyncAnswer) (said : Answer) → quiet ≡ silent gs → new ≡ after_sync clock n r quiet → answer ≡ sync_answer clock n r quiet → (answer ≡ Waits → said ≡ answers.Rebalance) → IsWaitTold n gs said new
sync_any n clock gs quiet new r Waits said is after says told = inl (told refl)
sync_any n clock gs quiet new r (Refused code) said is after says told = inr (sync_waits_told n clock gs quiet new r (Refused code) is after says (λ e. absurd (cc)))
sync_any n clock gs quiet new r (Got bytes) said is after says told = inr (sync_waits_told n clock gs quiet new r (Got bytes) is after says (λ e. absurd (cc)))
