use Rattle.std.proofs.Common.{inl, inr, rules, ◌≡◌, ◌∙◌, false, [], refl, ap, sym, subst}
use Rattle.std.specs.Ordering.{int_eq}
use Rattle.kb_wire.specs.declared.api_key.TheConstants.{OFFSET_COMMIT, JOIN_GROUP, HEARTBEAT, LEAVE_GROUP, SYNC_GROUP}
use Rattle.kb_api_group.specs.declared.group_key.TheConstants.{DELETE_GROUPS, DESCRIBE_GROUPS, LIST_GROUPS}
use Rattle.kb_tenant_state.specs.Parts.{world_of}
use Rattle.kb_tenant.specs.Entries.{describe_groups_entries, within}
use Rattle.kb_api_group.specs.Layouts.{describe_groups_request, list_groups_request}
use Rattle.kb_wire.specs.Codec.{whole}
use Rattle.kb_tenant_api.proofs.Looking.{looked_groups, only_silent}
use Rattle.kb_tenant_api.specs.Acknowledged.{AreGroupsBy}
use Rattle.kb_tenant_api.specs.Serve.{served, if_read, of_describe, of_list, IsOutcome, IsServed}
use Rattle.kb_tenant_api.specs.declared.answer.Answer.TheVariants as answers
use Rattle.kb_tenant_api.proofs.WaitersServed.{any_told, commit_waits, fewer_waits, heartbeat_waits, leave_waits_told, quiet_waits}
use Rattle.kb_tenant_api.proofs.Answered.{commit_told, delete_told, is_no_commit, is_of_none, member_told, plainly_told}
use Rattle.kb_tenant_api.proofs.Keys.{served_commit, served_delete, served_describe, served_heartbeat, served_join, served_leave, served_list, served_sync, served_topics}
use Rattle.kb_tenant_api.proofs.dispatch.serve_by_key.Goals as goal

pub returns-in-8-clause-meets : goal.returns-in-8-clause-meets
returns-in-8-clause-meets g c = λ honest agree calm.
    let w = world_of g.L.PartitionLog.log c.args.parts.now (g.S.Store.disk c.args.shelf.now.store).files in
    let after = world_of g.L.PartitionLog.log c.commit_offsets.new.parts (g.S.Store.disk c.commit_offsets.new.shelf.store).files in
    let request = c.args.request.now in
    let gs = c.args.groups.now in
    let key : request.api_key ≡ OFFSET_COMMIT = search rules in
    subst (λ ts. IsServed request.correlation_id (served c.args.node.now w c.args.clock gs request.connection request.api_key request.api_version request.body.now) after c.commit_offsets.new.groups ts c.commit_offsets.result) (sym c.requires.untouched)
    (subst (λ o. IsServed request.correlation_id o after c.commit_offsets.new.groups [] c.commit_offsets.result) (sym (served_commit c.args.node.now w c.args.clock gs request.connection request.api_key request.api_version request.body.now key))
    (c.commit_offsets.ensures.meets honest agree calm))

pub returns-in-11-clause-meets : goal.returns-in-11-clause-meets
returns-in-11-clause-meets g c = λ honest agree calm.
    let w = world_of g.L.PartitionLog.log c.args.parts.now (g.S.Store.disk c.args.shelf.now.store).files in
    let request = c.args.request.now in
    let gs = c.args.groups.now in
    let key : request.api_key ≡ JOIN_GROUP = search rules in
    subst (λ ts. IsServed request.correlation_id (served c.args.node.now w c.args.clock gs request.connection request.api_key request.api_version request.body.now) w c.join_group.new.groups ts c.join_group.result) (sym c.requires.untouched)
    (subst (λ o. IsServed request.correlation_id o w c.join_group.new.groups [] c.join_group.result) (sym (served_join c.args.node.now w c.args.clock gs request.connection request.api_key request.api_version request.body.now key))
    (c.join_group.ensures.served w))

pub returns-in-12-clause-meets : goal.returns-in-12-clause-meets
returns-in-12-clause-meets g c = λ honest agree calm.
    let w = world_of g.L.PartitionLog.log c.args.parts.now (g.S.Store.disk c.args.shelf.now.store).files in
    let request = c.args.request.now in
    let gs = c.args.groups.now in
    let key : request.api_key ≡ HEARTBEAT = search rules in
    subst (λ ts. IsServed request.correlation_id (served c.args.node.now w c.args.clock gs request.connection request.api_key request.api_version request.body.now) w c.heartbeat.new.groups ts c.heartbeat.result) (sym c.requires.untouched)
    (subst (λ o. IsServed request.correlation_id o w c.heartbeat.new.groups [] c.heartbeat.result) (sym (served_heartbeat c.args.node.now w c.args.clock gs request.connection request.api_key request.api_version request.body.now key))
    (c.heartbeat.ensures.served w))

pub returns-in-13-clause-meets : goal.returns-in-13-clause-meets
returns-in-13-clause-meets g c = λ honest agree calm.
    let w = world_of g.L.PartitionLog.log c.args.parts.now (g.S.Store.disk c.args.shelf.now.store).files in
    let request = c.args.request.now in
    let gs = c.args.groups.now in
    let key : request.api_key ≡ LEAVE_GROUP = search rules in
    subst (λ ts. IsServed request.correlation_id (served c.args.node.now w c.args.clock gs request.connection request.api_key request.api_version request.body.now) w c.leave_group.new.groups ts c.leave_group.result) (sym c.requires.untouched)
    (subst (λ o. IsServed request.correlation_id o w c.leave_group.new.groups [] c.leave_group.result) (sym (served_leave c.args.node.now w c.args.clock gs request.connection request.api_key request.api_version request.body.now key))
    (c.leave_group.ensures.served w))

pub returns-in-14-clause-meets : goal.returns-in-14-clause-meets
returns-in-14-clause-meets g c = λ honest agree calm.
    let w = world_of g.L.PartitionLog.log c.args.parts.now (g.S.Store.disk c.args.shelf.now.store).files in
    let request = c.args.request.now in
    let gs = c.args.groups.now in
    let key : request.api_key ≡ SYNC_GROUP = search rules in
    subst (λ ts. IsServed request.correlation_id (served c.args.node.now w c.args.clock gs request.connection request.api_key request.api_version request.body.now) w c.sync_group.new.groups ts c.sync_group.result) (sym c.requires.untouched)
    (subst (λ o. IsServed request.correlation_id o w c.sync_group.new.groups [] c.sync_group.result) (sym (served_sync c.args.node.now w c.args.clock gs request.connection request.api_key request.api_version request.body.now key))
    (c.sync_group.ensures.served w))

pub returns-in-15-clause-meets : goal.returns-in-15-clause-meets
returns-in-15-clause-meets g c = λ honest agree calm.
    let w = world_of g.L.PartitionLog.log c.args.parts.now (g.S.Store.disk c.args.shelf.now.store).files in
    let request = c.args.request.now in
    let gs = c.args.groups.now in
    let key : request.api_key ≡ DESCRIBE_GROUPS = search rules in
    subst (λ ts. IsServed request.correlation_id (served c.args.node.now w c.args.clock gs request.connection request.api_key request.api_version request.body.now) w c.describe_groups.new.groups ts c.describe_groups.result) (sym c.requires.untouched)
    (subst (λ o. IsServed request.correlation_id o w c.describe_groups.new.groups [] c.describe_groups.result) (sym (served_describe c.args.node.now w c.args.clock gs request.connection request.api_key request.api_version request.body.now key))
    (c.describe_groups.ensures.served w))

pub returns-in-16-clause-meets : goal.returns-in-16-clause-meets
returns-in-16-clause-meets g c = λ honest agree calm.
    let w = world_of g.L.PartitionLog.log c.args.parts.now (g.S.Store.disk c.args.shelf.now.store).files in
    let request = c.args.request.now in
    let gs = c.args.groups.now in
    let key : request.api_key ≡ LIST_GROUPS = search rules in
    subst (λ ts. IsServed request.correlation_id (served c.args.node.now w c.args.clock gs request.connection request.api_key request.api_version request.body.now) w c.list_groups.new.groups ts c.list_groups.result) (sym c.requires.untouched)
    (subst (λ o. IsServed request.correlation_id o w c.list_groups.new.groups [] c.list_groups.result) (sym (served_list c.args.node.now w c.args.clock gs request.connection request.api_key request.api_version request.body.now key))
    (c.list_groups.ensures.served w))

pub returns-in-42-clause-meets : goal.returns-in-42-clause-meets
returns-in-42-clause-meets g c = λ honest agree calm.
    let w = world_of g.L.PartitionLog.log c.args.parts.now (g.S.Store.disk c.args.shelf.now.store).files in
    let after = world_of g.L.PartitionLog.log c.delete_groups.new.parts (g.S.Store.disk c.delete_groups.new.shelf.store).files in
    let request = c.args.request.now in
    let gs = c.args.groups.now in
    let key : request.api_key ≡ DELETE_GROUPS = search rules in
    subst (λ ts. IsServed request.correlation_id (served c.args.node.now w c.args.clock gs request.connection request.api_key request.api_version request.body.now) after c.delete_groups.new.groups ts c.delete_groups.result) (sym c.requires.untouched)
    (subst (λ o. IsServed request.correlation_id o after c.delete_groups.new.groups [] c.delete_groups.result) (sym (served_delete c.args.node.now w c.args.clock gs request.connection request.api_key request.api_version request.body.now key))
    (c.delete_groups.ensures.meets honest agree calm))

pub returns-in_default-clause-meets : goal.returns-in_default-clause-meets
returns-in_default-clause-meets g c = λ honest agree calm.
    let w = world_of g.L.PartitionLog.log c.args.parts.now (g.S.Store.disk c.args.shelf.now.store).files in
    let after = world_of g.L.PartitionLog.log c.serve-served.new.parts (g.S.Store.disk c.serve-served.new.shelf.store).files in
    let request = c.args.request.now in
    let gs = c.args.groups.now in
    let met = c.serve-served.ensures.meets honest agree calm in
    let not_commit : int_eq request.api_key OFFSET_COMMIT ≡ false = search rules in
    let not_join : int_eq request.api_key JOIN_GROUP ≡ false = search rules in
    let not_heartbeat : int_eq request.api_key HEARTBEAT ≡ false = search rules in
    let not_leave : int_eq request.api_key LEAVE_GROUP ≡ false = search rules in
    let not_sync : int_eq request.api_key SYNC_GROUP ≡ false = search rules in
    let not_describe : int_eq request.api_key DESCRIBE_GROUPS ≡ false = search rules in
    let not_list : int_eq request.api_key LIST_GROUPS ≡ false = search rules in
    let not_delete : int_eq request.api_key DELETE_GROUPS ≡ false = search rules in
    subst (λ o. IsOutcome request.correlation_id o after c.silence.new.self c.serve-served.result.touched.items (answers.Plain c.serve-served.result.answer))
    (sym (served_topics c.args.node.now w c.args.clock gs request.connection request.api_key request.api_version request.body.now not_commit not_join not_heartbeat not_leave not_sync not_describe not_list not_delete))
    (met.0, c.silence.ensures, met.1, met.2)

pub returns-in-8-clause-groups : goal.returns-in-8-clause-groups
returns-in-8-clause-groups g c =
    let w = world_of g.L.PartitionLog.log c.args.parts.now (g.S.Store.disk c.args.shelf.now.store).files in
    let request = c.args.request.now in
    let gs = c.args.groups.now in
    let key : request.api_key ≡ OFFSET_COMMIT = search rules in
    inl (subst (λ o. AreGroupsBy gs o.groups c.commit_offsets.result c.commit_offsets.new.groups) (sym (served_commit c.args.node.now w c.args.clock gs request.connection request.api_key request.api_version request.body.now key))
    c.commit_offsets.ensures.groups)

pub returns-in-11-clause-groups : goal.returns-in-11-clause-groups
returns-in-11-clause-groups g c =
    let w = world_of g.L.PartitionLog.log c.args.parts.now (g.S.Store.disk c.args.shelf.now.store).files in
    let request = c.args.request.now in
    let gs = c.args.groups.now in
    let key : request.api_key ≡ JOIN_GROUP = search rules in
    inl (subst (λ o. AreGroupsBy gs o.groups c.join_group.result c.join_group.new.groups) (sym (served_join c.args.node.now w c.args.clock gs request.connection request.api_key request.api_version request.body.now key))
    (c.join_group.ensures.groups w))

pub returns-in-12-clause-groups : goal.returns-in-12-clause-groups
returns-in-12-clause-groups g c =
    let w = world_of g.L.PartitionLog.log c.args.parts.now (g.S.Store.disk c.args.shelf.now.store).files in
    let request = c.args.request.now in
    let gs = c.args.groups.now in
    let key : request.api_key ≡ HEARTBEAT = search rules in
    inl (subst (λ o. AreGroupsBy gs o.groups c.heartbeat.result c.heartbeat.new.groups) (sym (served_heartbeat c.args.node.now w c.args.clock gs request.connection request.api_key request.api_version request.body.now key))
    (c.heartbeat.ensures.groups w))

pub returns-in-13-clause-groups : goal.returns-in-13-clause-groups
returns-in-13-clause-groups g c =
    let w = world_of g.L.PartitionLog.log c.args.parts.now (g.S.Store.disk c.args.shelf.now.store).files in
    let request = c.args.request.now in
    let gs = c.args.groups.now in
    let key : request.api_key ≡ LEAVE_GROUP = search rules in
    inl (subst (λ o. AreGroupsBy gs o.groups c.leave_group.result c.leave_group.new.groups) (sym (served_leave c.args.node.now w c.args.clock gs request.connection request.api_key request.api_version request.body.now key))
    (c.leave_group.ensures.groups w))

pub returns-in-14-clause-groups : goal.returns-in-14-clause-groups
returns-in-14-clause-groups g c =
    let w = world_of g.L.PartitionLog.log c.args.parts.now (g.S.Store.disk c.args.shelf.now.store).files in
    let request = c.args.request.now in
    let gs = c.args.groups.now in
    let key : request.api_key ≡ SYNC_GROUP = search rules in
    inl (subst (λ o. AreGroupsBy gs o.groups c.sync_group.result c.sync_group.new.groups) (sym (served_sync c.args.node.now w c.args.clock gs request.connection request.api_key request.api_version request.body.now key))
    (c.sync_group.ensures.groups w))

pub returns-in-15-clause-groups : goal.returns-in-15-clause-groups
returns-in-15-clause-groups g c =
    let w = world_of g.L.PartitionLog.log c.args.parts.now (g.S.Store.disk c.args.shelf.now.store).files in
    let request = c.args.request.now in
    let gs = c.args.groups.now in
    let key : request.api_key ≡ DESCRIBE_GROUPS = search rules in
    inl (subst (λ o. AreGroupsBy gs o.groups c.describe_groups.result c.describe_groups.new.groups) (sym (served_describe c.args.node.now w c.args.clock gs request.connection request.api_key request.api_version request.body.now key))
    (looked_groups gs c.describe_groups.new.groups (if_read w gs (within c.args.node.now.limits.request_entries describe_groups_entries (whole describe_groups_request request.body.now)) (of_describe c.args.node.now.limits.reply_bytes w gs)).groups c.describe_groups.result (only_silent w gs (within c.args.node.now.limits.request_entries describe_groups_entries (whole describe_groups_request request.body.now)) (of_describe c.args.node.now.limits.reply_bytes w gs) (λ r. refl)) c.describe_groups.ensures.groups))

pub returns-in-16-clause-groups : goal.returns-in-16-clause-groups
returns-in-16-clause-groups g c =
    let w = world_of g.L.PartitionLog.log c.args.parts.now (g.S.Store.disk c.args.shelf.now.store).files in
    let request = c.args.request.now in
    let gs = c.args.groups.now in
    let key : request.api_key ≡ LIST_GROUPS = search rules in
    inl (subst (λ o. AreGroupsBy gs o.groups c.list_groups.result c.list_groups.new.groups) (sym (served_list c.args.node.now w c.args.clock gs request.connection request.api_key request.api_version request.body.now key))
    (looked_groups gs c.list_groups.new.groups (if_read w gs (whole list_groups_request request.body.now) (of_list c.args.node.now.limits.reply_bytes w gs)).groups c.list_groups.result (only_silent w gs (whole list_groups_request request.body.now) (of_list c.args.node.now.limits.reply_bytes w gs) (λ r. refl)) c.list_groups.ensures.groups))

pub returns-in-42-clause-groups : goal.returns-in-42-clause-groups
returns-in-42-clause-groups g c =
    let key : c.args.request.now.api_key ≡ DELETE_GROUPS = search rules in
    inr (key, c.delete_groups.ensures.fewer)

pub returns-in_default-clause-groups : goal.returns-in_default-clause-groups
returns-in_default-clause-groups g c =
    let w = world_of g.L.PartitionLog.log c.args.parts.now (g.S.Store.disk c.args.shelf.now.store).files in
    let request = c.args.request.now in
    let gs = c.args.groups.now in
    let not_commit : int_eq request.api_key OFFSET_COMMIT ≡ false = search rules in
    let not_join : int_eq request.api_key JOIN_GROUP ≡ false = search rules in
    let not_heartbeat : int_eq request.api_key HEARTBEAT ≡ false = search rules in
    let not_leave : int_eq request.api_key LEAVE_GROUP ≡ false = search rules in
    let not_sync : int_eq request.api_key SYNC_GROUP ≡ false = search rules in
    let not_describe : int_eq request.api_key DESCRIBE_GROUPS ≡ false = search rules in
    let not_list : int_eq request.api_key LIST_GROUPS ≡ false = search rules in
    let not_delete : int_eq request.api_key DELETE_GROUPS ≡ false = search rules in
    inl (c.silence.ensures
    ∙ ap (λ o. o.groups) (sym (served_topics c.args.node.now w c.args.clock gs request.connection request.api_key request.api_version request.body.now not_commit not_join not_heartbeat not_leave not_sync not_describe not_list not_delete)))

pub returns-in-8-clause-waits : goal.returns-in-8-clause-waits
returns-in-8-clause-waits g c =
    let w = world_of g.L.PartitionLog.log c.args.parts.now (g.S.Store.disk c.args.shelf.now.store).files in
    commit_waits c.args.node.now.limits w c.args.clock c.args.request.now.connection c.args.groups.now c.commit_offsets.new.groups c.args.request.now.api_version c.args.request.now.body.now c.commit_offsets.result c.commit_offsets.ensures.groups

pub returns-in-12-clause-waits : goal.returns-in-12-clause-waits
returns-in-12-clause-waits g c =
    let w = world_of g.L.PartitionLog.log c.args.parts.now (g.S.Store.disk c.args.shelf.now.store).files in
    heartbeat_waits w c.args.clock c.args.request.now.connection c.args.groups.now c.heartbeat.new.groups c.args.request.now.body.now c.heartbeat.result (c.heartbeat.ensures.groups w)

pub returns-in-13-clause-waits : goal.returns-in-13-clause-waits
returns-in-13-clause-waits g c =
    let w = world_of g.L.PartitionLog.log c.args.parts.now (g.S.Store.disk c.args.shelf.now.store).files in
    leave_waits_told w c.args.clock c.args.request.now.connection c.args.groups.now c.leave_group.new.groups c.args.request.now.body.now c.leave_group.result (c.leave_group.ensures.groups w)

pub returns-in-15-clause-waits : goal.returns-in-15-clause-waits
returns-in-15-clause-waits g c =
    any_told c.args.request.now.connection c.args.groups.now c.describe_groups.new.groups c.describe_groups.result (quiet_waits c.args.request.now.connection c.args.groups.now c.describe_groups.new.groups c.describe_groups.ensures.groups)

pub returns-in-16-clause-waits : goal.returns-in-16-clause-waits
returns-in-16-clause-waits g c =
    any_told c.args.request.now.connection c.args.groups.now c.list_groups.new.groups c.list_groups.result (quiet_waits c.args.request.now.connection c.args.groups.now c.list_groups.new.groups c.list_groups.ensures.groups)

pub returns-in-42-clause-waits : goal.returns-in-42-clause-waits
returns-in-42-clause-waits g c =
    any_told c.args.request.now.connection c.args.groups.now c.delete_groups.new.groups c.delete_groups.result (fewer_waits c.args.request.now.connection c.args.groups.now c.delete_groups.new.groups c.delete_groups.ensures.fewer)

pub returns-in_default-clause-waits : goal.returns-in_default-clause-waits
returns-in_default-clause-waits g c = inr (quiet_waits c.args.request.now.connection c.args.groups.now c.silence.new.self c.silence.ensures)

pub returns-in-8-clause-told : goal.returns-in-8-clause-told
returns-in-8-clause-told g c =
    let key : c.args.request.now.api_key ≡ OFFSET_COMMIT = search rules in
    commit_told _ _ _ _ _ _ _ _ _ _ _ _ _ _ _ _ c.commit_offsets.result key c.commit_offsets.ensures.acknowledged c.commit_offsets.ensures.cut

pub returns-in-11-clause-told : goal.returns-in-11-clause-told
returns-in-11-clause-told g c =
    let w = world_of g.L.PartitionLog.log c.args.parts.now (g.S.Store.disk c.args.shelf.now.store).files in
    let request = c.args.request.now in
    let key : request.api_key ≡ JOIN_GROUP = search rules in
    member_told _ _ _ _ _ _ _ _ _ _ _ _ _ _ _ _ _ c.join_group.result (inl key)
    (served_join c.args.node.now w c.args.clock c.args.groups.now request.connection request.api_key request.api_version request.body.now key) (c.join_group.ensures.served w)

pub returns-in-12-clause-told : goal.returns-in-12-clause-told
returns-in-12-clause-told g c =
    let w = world_of g.L.PartitionLog.log c.args.parts.now (g.S.Store.disk c.args.shelf.now.store).files in
    let request = c.args.request.now in
    let key : request.api_key ≡ HEARTBEAT = search rules in
    member_told _ _ _ _ _ _ _ _ _ _ _ _ _ _ _ _ _ c.heartbeat.result (inr (inl key))
    (served_heartbeat c.args.node.now w c.args.clock c.args.groups.now request.connection request.api_key request.api_version request.body.now key) (c.heartbeat.ensures.served w)

pub returns-in-13-clause-told : goal.returns-in-13-clause-told
returns-in-13-clause-told g c =
    let w = world_of g.L.PartitionLog.log c.args.parts.now (g.S.Store.disk c.args.shelf.now.store).files in
    let request = c.args.request.now in
    let key : request.api_key ≡ LEAVE_GROUP = search rules in
    member_told _ _ _ _ _ _ _ _ _ _ _ _ _ _ _ _ _ c.leave_group.result (inr (inr (inl key)))
    (served_leave c.args.node.now w c.args.clock c.args.groups.now request.connection request.api_key request.api_version request.body.now key) (c.leave_group.ensures.served w)

pub returns-in-14-clause-told : goal.returns-in-14-clause-told
returns-in-14-clause-told g c =
    let w = world_of g.L.PartitionLog.log c.args.parts.now (g.S.Store.disk c.args.shelf.now.store).files in
    let request = c.args.request.now in
    let key : request.api_key ≡ SYNC_GROUP = search rules in
    member_told _ _ _ _ _ _ _ _ _ _ _ _ _ _ _ _ _ c.sync_group.result (inr (inr (inr (inl key))))
    (served_sync c.args.node.now w c.args.clock c.args.groups.now request.connection request.api_key request.api_version request.body.now key) (c.sync_group.ensures.served w)

pub returns-in-15-clause-told : goal.returns-in-15-clause-told
returns-in-15-clause-told g c =
    let w = world_of g.L.PartitionLog.log c.args.parts.now (g.S.Store.disk c.args.shelf.now.store).files in
    let request = c.args.request.now in
    let key : request.api_key ≡ DESCRIBE_GROUPS = search rules in
    member_told _ _ _ _ _ _ _ _ _ _ _ _ _ _ _ _ _ c.describe_groups.result (inr (inr (inr (inr (inl key)))))
    (served_describe c.args.node.now w c.args.clock c.args.groups.now request.connection request.api_key request.api_version request.body.now key) (c.describe_groups.ensures.served w)

pub returns-in-16-clause-told : goal.returns-in-16-clause-told
returns-in-16-clause-told g c =
    let w = world_of g.L.PartitionLog.log c.args.parts.now (g.S.Store.disk c.args.shelf.now.store).files in
    let request = c.args.request.now in
    let key : request.api_key ≡ LIST_GROUPS = search rules in
    member_told _ _ _ _ _ _ _ _ _ _ _ _ _ _ _ _ _ c.list_groups.result (inr (inr (inr (inr (inr key)))))
    (served_list c.args.node.now w c.args.clock c.args.groups.now request.connection request.api_key request.api_version request.body.now key) (c.list_groups.ensures.served w)

pub returns-in-42-clause-told : goal.returns-in-42-clause-told
returns-in-42-clause-told g c =
    let key : c.args.request.now.api_key ≡ DELETE_GROUPS = search rules in
    delete_told _ _ _ _ _ _ _ _ _ _ _ _ _ _ _ _ c.delete_groups.result key c.delete_groups.ensures.acknowledged c.delete_groups.ensures.cut

pub returns-in_default-clause-told : goal.returns-in_default-clause-told
returns-in_default-clause-told g c = λ honest agree.
    let request = c.args.request.now in
    let not_commit : int_eq request.api_key OFFSET_COMMIT ≡ false = search rules in
    let not_join : int_eq request.api_key JOIN_GROUP ≡ false = search rules in
    let not_heartbeat : int_eq request.api_key HEARTBEAT ≡ false = search rules in
    let not_leave : int_eq request.api_key LEAVE_GROUP ≡ false = search rules in
    let not_sync : int_eq request.api_key SYNC_GROUP ≡ false = search rules in
    let not_describe : int_eq request.api_key DESCRIBE_GROUPS ≡ false = search rules in
    let not_list : int_eq request.api_key LIST_GROUPS ≡ false = search rules in
    let not_delete : int_eq request.api_key DELETE_GROUPS ≡ false = search rules in
    plainly_told _ _ _ _ _ _ _ _ _ _ _ _ _ _ _ (is_of_none _ not_join not_heartbeat not_leave not_sync not_describe not_list) (is_no_commit _ not_commit not_delete) (c.serve-served.ensures.told honest agree)
