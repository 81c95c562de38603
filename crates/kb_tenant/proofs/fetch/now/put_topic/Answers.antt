use Rattle.std.proofs.Common.{ap, length, sym, subst, w32}
use Rattle.std.proofs.lemmas.Result.{on_ok_weaker}
use Rattle.kb_wire.specs.Codec.{count, string}
use Rattle.kb_tenant_state.specs.Parts.{scene, world_of}
use Rattle.kb_tenant.specs.Told.{HasFailed}
use Rattle.kb_tenant.proofs.Fetched.{topic_fetched}
use Rattle.kb_tenant.proofs.Fetching.{topic_told, topic_name_fits, topic_count_fits}
use Rattle.kb_tenant.proofs.fetch.now.put_topic.Goals as goal

pub put_string-requires : goal.put_string-requires
put_string-requires g c = subst (λ x. string.Fits x) (sym c.name-name.ensures) (topic_name_fits c.args.topic.now c.requires.fits)

pub put_count-requires : goal.put_count-requires
put_count-requires g c = subst (λ n. (count w32).Fits n) (sym (ap length c.partitions-entries.ensures)) (topic_count_fits c.args.topic.now c.requires.fits)

pub returns-clause-meets : goal.returns-clause-meets
returns-clause-meets g c =
    let files = (g.S.Store.disk c.args.shelf.now.store).files in
    on_ok_weaker c.put_partitions.result
    (λ met honest agrees calm. topic_told c.args.has_starts (world_of g.L.PartitionLog.log c.args.parts.now files) c.args.given.now c.put_partitions.new.given c.args.topic.now c.name-name.result.now (length c.partitions-entries.result.now) c.topic_named-instance.result c.partitions-entries.result.now
    c.args.sink.now.bytes c.put_string.new.self.bytes c.put_count.new.self.bytes c.put_partitions.new.sink.bytes c.name-name.ensures (ap length c.partitions-entries.ensures) (c.topic_named-instance.ensures files) c.partitions-entries.ensures
    c.in_ok-put_string.ensures.ok c.in_ok-put_count.ensures.ok (met honest agrees calm))
    c.put_partitions.ensures.meets

pub returns-clause-told : goal.returns-clause-told
returns-clause-told g c =
    let log = g.L.PartitionLog.log in
    let disk = g.S.Store.disk in
    let a = scene log disk c.args.parts.now c.args.shelf.now in
    let b = scene log disk c.put_partitions.new.parts c.put_partitions.new.shelf in
    on_ok_weaker c.put_partitions.result
    (λ told honest agree. topic_fetched (HasFailed a b) c.args.has_starts a.state.world c.args.given.now c.put_partitions.new.given
    c.args.topic.now c.name-name.result.now (length c.partitions-entries.result.now) c.topic_named-instance.result c.partitions-entries.result.now
    c.args.sink.now.bytes c.put_string.new.self.bytes c.put_count.new.self.bytes c.put_partitions.new.sink.bytes
    c.name-name.ensures (ap length c.partitions-entries.ensures) (c.topic_named-instance.ensures a.disk.files) c.partitions-entries.ensures
    c.in_ok-put_string.ensures.ok c.in_ok-put_count.ensures.ok (told honest agree))
    c.put_partitions.ensures.told
