use Rattle.std.proofs.Common.{rules, ◌≡◌, [], false, refl, sym, subst}
use Rattle.std.specs.Ordering.{int_eq}
use Rattle.kb_wire.specs.declared.api_key.TheConstants.{PRODUCE, FETCH, LIST_OFFSETS, METADATA, OFFSET_COMMIT, OFFSET_FETCH}
use Rattle.kb_wire.specs.declared.api_key.TheConstants.{FIND_COORDINATOR, CREATE_TOPICS, DELETE_TOPICS, DELETE_RECORDS, INIT_PRODUCER_ID}
use Rattle.kb_api_data.specs.declared.config_key.TheConstants.{DESCRIBE_CONFIGS}
use Rattle.kb_tenant_state.specs.Parts.{scene, world_of}
use Rattle.kb_tenant.specs.Serve.{plainly_served, IsServed}
use Rattle.kb_tenant.proofs.Answered.{create_topics_told, delete_records_told, delete_topics_told, fetch_told, init_producer_id_told}
use Rattle.kb_tenant.proofs.Answered.{list_offsets_told, looked_up_told, none_told, offset_commit_told, produce_told}
use Rattle.kb_tenant.proofs.Keys.{served_configs, served_find_coordinator, served_metadata, served_offset_fetch}
use Rattle.kb_tenant.proofs.dispatch.serve_by_key.Goals as goal

pub returns-in-3-clause-meets : goal.returns-in-3-clause-meets
returns-in-3-clause-meets g c = λ honest agree calm.
    let files = (g.S.Store.disk c.args.shelf.now.store).files in
    let w = world_of g.L.PartitionLog.log c.args.parts.now files in
    let request = c.args.request.now in
    let key : request.api_key ≡ METADATA = search rules in
    subst (λ ts. IsServed request.correlation_id (plainly_served c.args.node.now w c.args.clock request.connection request.api_key
    request.api_version request.body.now) w ts c.serve_metadata.result) (sym c.requires.untouched)
    (subst (λ o. IsServed request.correlation_id o w [] c.serve_metadata.result) (sym (served_metadata c.args.node.now w c.args.clock
    request.connection request.api_key request.api_version request.body.now key))
    (c.serve_metadata.ensures files))

pub returns-in-32-clause-meets : goal.returns-in-32-clause-meets
returns-in-32-clause-meets g c = λ honest agree calm.
    let files = (g.S.Store.disk c.args.shelf.now.store).files in
    let w = world_of g.L.PartitionLog.log c.args.parts.now files in
    let request = c.args.request.now in
    let key : request.api_key ≡ DESCRIBE_CONFIGS = search rules in
    subst (λ ts. IsServed request.correlation_id (plainly_served c.args.node.now w c.args.clock request.connection request.api_key
    request.api_version request.body.now) w ts c.serve_describe_configs.result) (sym c.requires.untouched)
    (subst (λ o. IsServed request.correlation_id o w [] c.serve_describe_configs.result) (sym (served_configs c.args.node.now w c.args.clock
    request.connection request.api_key request.api_version request.body.now key))
    (c.serve_describe_configs.ensures files))

pub returns-in-9-clause-meets : goal.returns-in-9-clause-meets
returns-in-9-clause-meets g c = λ honest agree calm.
    let files = (g.S.Store.disk c.args.shelf.now.store).files in
    let w = world_of g.L.PartitionLog.log c.args.parts.now files in
    let request = c.args.request.now in
    let key : request.api_key ≡ OFFSET_FETCH = search rules in
    subst (λ ts. IsServed request.correlation_id (plainly_served c.args.node.now w c.args.clock request.connection request.api_key
    request.api_version request.body.now) w ts c.serve_offset_fetch.result) (sym c.requires.untouched)
    (subst (λ o. IsServed request.correlation_id o w [] c.serve_offset_fetch.result) (sym (served_offset_fetch c.args.node.now w
    c.args.clock request.connection request.api_key request.api_version request.body.now key))
    (c.serve_offset_fetch.ensures files))

pub returns-in-10-clause-meets : goal.returns-in-10-clause-meets
returns-in-10-clause-meets g c = λ honest agree calm.
    let files = (g.S.Store.disk c.args.shelf.now.store).files in
    let w = world_of g.L.PartitionLog.log c.args.parts.now files in
    let request = c.args.request.now in
    let key : request.api_key ≡ FIND_COORDINATOR = search rules in
    subst (λ ts. IsServed request.correlation_id (plainly_served c.args.node.now w c.args.clock request.connection request.api_key
    request.api_version request.body.now) w ts c.serve_find_coordinator.result) (sym c.requires.untouched)
    (subst (λ o. IsServed request.correlation_id o w [] c.serve_find_coordinator.result) (sym (served_find_coordinator c.args.node.now w
    c.args.clock request.connection request.api_key request.api_version request.body.now key))
    (c.serve_find_coordinator.ensures w))

pub returns-in-0-clause-told : goal.returns-in-0-clause-told
returns-in-0-clause-told g c =
    let log = g.L.PartitionLog.log in
    let disk = g.S.Store.disk in
    let a = scene log disk c.args.parts.now c.args.shelf.now in
    let b = scene log disk c.serve_produce.new.parts c.serve_produce.new.shelf in
    let key : c.args.request.now.api_key ≡ PRODUCE = search rules in
    produce_told a b c.args.node.now c.args.clock c.args.request.now c.serve_produce.new.touched.items c.serve_produce.result key
    c.serve_produce.ensures.acknowledged c.serve_produce.ensures.shut c.serve_produce.ensures.spared

pub returns-in-1-clause-told : goal.returns-in-1-clause-told
returns-in-1-clause-told g c =
    let log = g.L.PartitionLog.log in
    let disk = g.S.Store.disk in
    let a = scene log disk c.args.parts.now c.args.shelf.now in
    let b = scene log disk c.serve_a_fetch.new.parts c.serve_a_fetch.new.shelf in
    let key : c.args.request.now.api_key ≡ FETCH = search rules in
    fetch_told a b c.args.node.now c.args.clock c.args.request.now c.args.touched.now.items c.serve_a_fetch.result key
    c.serve_a_fetch.ensures.fetched c.serve_a_fetch.ensures.same

pub returns-in-2-clause-told : goal.returns-in-2-clause-told
returns-in-2-clause-told g c =
    let log = g.L.PartitionLog.log in
    let disk = g.S.Store.disk in
    let a = scene log disk c.args.parts.now c.args.shelf.now in
    let b = scene log disk c.serve_list_offsets.new.parts c.serve_list_offsets.new.shelf in
    let key : c.args.request.now.api_key ≡ LIST_OFFSETS = search rules in
    list_offsets_told a b c.args.node.now c.args.clock c.args.request.now c.args.touched.now.items c.serve_list_offsets.result key
    c.serve_list_offsets.ensures.listed c.serve_list_offsets.ensures.same

pub returns-in-8-clause-told : goal.returns-in-8-clause-told
returns-in-8-clause-told g c =
    let log = g.L.PartitionLog.log in
    let disk = g.S.Store.disk in
    let a = scene log disk c.args.parts.now c.args.shelf.now in
    let b = scene log disk c.serve_offset_commit.new.parts c.serve_offset_commit.new.shelf in
    let key : c.args.request.now.api_key ≡ OFFSET_COMMIT = search rules in
    offset_commit_told a b c.args.node.now c.args.clock c.args.request.now c.args.touched.now.items c.serve_offset_commit.result key
    c.serve_offset_commit.ensures.acknowledged c.serve_offset_commit.ensures.cut

pub returns-in-19-clause-told : goal.returns-in-19-clause-told
returns-in-19-clause-told g c =
    let log = g.L.PartitionLog.log in
    let disk = g.S.Store.disk in
    let a = scene log disk c.args.parts.now c.args.shelf.now in
    let b = scene log disk c.serve_create_topics.new.parts c.serve_create_topics.new.shelf in
    let key : c.args.request.now.api_key ≡ CREATE_TOPICS = search rules in
    create_topics_told a b c.args.node.now c.args.clock c.args.request.now c.args.touched.now.items c.serve_create_topics.result key
    c.serve_create_topics.ensures.acknowledged c.serve_create_topics.ensures.cut

pub returns-in-20-clause-told : goal.returns-in-20-clause-told
returns-in-20-clause-told g c =
    let log = g.L.PartitionLog.log in
    let disk = g.S.Store.disk in
    let a = scene log disk c.args.parts.now c.args.shelf.now in
    let b = scene log disk c.serve_delete_topics.new.parts c.serve_delete_topics.new.shelf in
    let key : c.args.request.now.api_key ≡ DELETE_TOPICS = search rules in
    delete_topics_told a b c.args.node.now c.args.clock c.args.request.now c.serve_delete_topics.new.touched.items
    c.serve_delete_topics.result key
    c.serve_delete_topics.ensures.acknowledged c.serve_delete_topics.ensures.cut

pub returns-in-21-clause-told : goal.returns-in-21-clause-told
returns-in-21-clause-told g c =
    let log = g.L.PartitionLog.log in
    let disk = g.S.Store.disk in
    let a = scene log disk c.args.parts.now c.args.shelf.now in
    let b = scene log disk c.serve_delete_records.new.parts c.serve_delete_records.new.shelf in
    let key : c.args.request.now.api_key ≡ DELETE_RECORDS = search rules in
    delete_records_told a b c.args.node.now c.args.clock c.args.request.now c.serve_delete_records.new.touched.items
    c.serve_delete_records.result key
    c.serve_delete_records.ensures.acknowledged c.serve_delete_records.ensures.cut

pub returns-in-22-clause-told : goal.returns-in-22-clause-told
returns-in-22-clause-told g c =
    let log = g.L.PartitionLog.log in
    let disk = g.S.Store.disk in
    let a = scene log disk c.args.parts.now c.args.shelf.now in
    let b = scene log disk c.serve_init_producer_id.new.parts c.serve_init_producer_id.new.shelf in
    let key : c.args.request.now.api_key ≡ INIT_PRODUCER_ID = search rules in
    init_producer_id_told a b c.args.node.now c.args.clock c.args.request.now c.args.touched.now.items c.serve_init_producer_id.result key
    c.serve_init_producer_id.ensures.acknowledged c.serve_init_producer_id.ensures.cut

pub returns-in-3-clause-told : goal.returns-in-3-clause-told
returns-in-3-clause-told g c =
    let files = (g.S.Store.disk c.args.shelf.now.store).files in
    let a = scene g.L.PartitionLog.log g.S.Store.disk c.args.parts.now c.args.shelf.now in
    let request = c.args.request.now in
    let key : request.api_key ≡ METADATA = search rules in
    looked_up_told a a c.args.node.now c.args.clock request c.args.touched.now.items METADATA [] c.serve_metadata.result key
    refl refl refl refl refl refl refl refl
    (subst (λ o. IsServed request.correlation_id o a.state.world [] c.serve_metadata.result)
    (sym (served_metadata c.args.node.now a.state.world c.args.clock request.connection request.api_key request.api_version
    request.body.now key))
    (c.serve_metadata.ensures files)) refl

pub returns-in-9-clause-told : goal.returns-in-9-clause-told
returns-in-9-clause-told g c =
    let files = (g.S.Store.disk c.args.shelf.now.store).files in
    let a = scene g.L.PartitionLog.log g.S.Store.disk c.args.parts.now c.args.shelf.now in
    let request = c.args.request.now in
    let key : request.api_key ≡ OFFSET_FETCH = search rules in
    looked_up_told a a c.args.node.now c.args.clock request c.args.touched.now.items OFFSET_FETCH [] c.serve_offset_fetch.result key
    refl refl refl refl refl refl refl refl
    (subst (λ o. IsServed request.correlation_id o a.state.world [] c.serve_offset_fetch.result)
    (sym (served_offset_fetch c.args.node.now a.state.world c.args.clock request.connection request.api_key request.api_version
    request.body.now key))
    (c.serve_offset_fetch.ensures files)) refl

pub returns-in-10-clause-told : goal.returns-in-10-clause-told
returns-in-10-clause-told g c =
    let files = (g.S.Store.disk c.args.shelf.now.store).files in
    let a = scene g.L.PartitionLog.log g.S.Store.disk c.args.parts.now c.args.shelf.now in
    let request = c.args.request.now in
    let key : request.api_key ≡ FIND_COORDINATOR = search rules in
    looked_up_told a a c.args.node.now c.args.clock request c.args.touched.now.items FIND_COORDINATOR [] c.serve_find_coordinator.result key
    refl refl refl refl refl refl refl refl
    (subst (λ o. IsServed request.correlation_id o a.state.world [] c.serve_find_coordinator.result)
    (sym (served_find_coordinator c.args.node.now a.state.world c.args.clock request.connection request.api_key request.api_version
    request.body.now key))
    (c.serve_find_coordinator.ensures a.state.world)) refl

pub returns-in-32-clause-told : goal.returns-in-32-clause-told
returns-in-32-clause-told g c =
    let files = (g.S.Store.disk c.args.shelf.now.store).files in
    let a = scene g.L.PartitionLog.log g.S.Store.disk c.args.parts.now c.args.shelf.now in
    let request = c.args.request.now in
    let key : request.api_key ≡ DESCRIBE_CONFIGS = search rules in
    looked_up_told a a c.args.node.now c.args.clock request c.args.touched.now.items DESCRIBE_CONFIGS [] c.serve_describe_configs.result key
    refl refl refl refl refl refl refl refl
    (subst (λ o. IsServed request.correlation_id o a.state.world [] c.serve_describe_configs.result)
    (sym (served_configs c.args.node.now a.state.world c.args.clock request.connection request.api_key request.api_version
    request.body.now key))
    (c.serve_describe_configs.ensures files)) refl

pub returns-in_default-clause-told : goal.returns-in_default-clause-told
returns-in_default-clause-told g c = λ honest agree.
    let a = scene g.L.PartitionLog.log g.S.Store.disk c.args.parts.now c.args.shelf.now in
    let request = c.args.request.now in
    let not_produce : int_eq request.api_key PRODUCE ≡ false = search rules in
    let not_fetch : int_eq request.api_key FETCH ≡ false = search rules in
    let not_list : int_eq request.api_key LIST_OFFSETS ≡ false = search rules in
    let not_create : int_eq request.api_key CREATE_TOPICS ≡ false = search rules in
    let not_remove : int_eq request.api_key DELETE_TOPICS ≡ false = search rules in
    let not_trim : int_eq request.api_key DELETE_RECORDS ≡ false = search rules in
    let not_issue : int_eq request.api_key INIT_PRODUCER_ID ≡ false = search rules in
    let not_commit : int_eq request.api_key OFFSET_COMMIT ≡ false = search rules in
    none_told a a c.args.node.now c.args.clock request c.args.touched.now.items not_produce not_fetch not_list not_create not_remove
    not_trim not_issue not_commit refl
