use Rattle.std.proofs.Common.{◌∙◌, ap, sym, subst}
use Rattle.std.proofs.lemmas.Result.{on_ok_weaker}
use Rattle.kb_wire.specs.Codec.{string}
use Rattle.kb_api_data.specs.Layouts.{list_offsets_topic, list_offsets_partition}
use Rattle.kb_topics.specs.Known.{named}
use Rattle.kb_tenant_state.specs.Parts.{scene, world_of}
use Rattle.kb_tenant_state.specs.World.{World}
use Rattle.kb_tenant.proofs.Fitting.{count_fits}
use Rattle.kb_tenant.specs.Told.{HasFailed}
use Rattle.kb_tenant.proofs.Listing.{topic_listing}
use Rattle.kb_tenant.proofs.Offsets.{topic_listed}
use Rattle.kb_tenant.proofs.list_offsets.list_topic.Goals as goal

pub put_string-requires : goal.put_string-requires
unfolding list_offsets_topic
put_string-requires g c = subst string.Fits (sym c.as_str.ensures) c.requires.fits.0

pub put_count-requires : goal.put_count-requires
unfolding list_offsets_topic
put_count-requires g c = count_fits list_offsets_partition c.args.topic.now.partitions c.len.result c.requires.fits.1 c.len.ensures

pub returns-clause-meets : goal.returns-clause-meets
returns-clause-meets g c = on_ok_weaker c.list_partitions.result (λ told honest agree calm.
    let files = (g.S.Store.disk c.args.shelf.now.store).files in
    let w : World = world_of g.L.PartitionLog.log c.args.parts.now files in
    let t = c.args.topic.now in
    topic_listed c.args.has_epochs w t c.as_str.result.now c.len.result c.topic_named-instance.result c.as_slice-entries.result.now c.args.sink.now.bytes c.put_string.new.self.bytes c.put_count.new.self.bytes c.list_partitions.new.sink.bytes
    c.as_str.ensures c.len.ensures (c.topic_named-instance.ensures files ∙ ap (λ m. named m w.known.topics) c.as_str-2.ensures) c.as_slice-entries.ensures c.in_ok-put_string.ensures.ok c.in_ok-put_count.ensures.ok (told honest agree calm)) c.list_partitions.ensures.meets

pub returns-clause-told : goal.returns-clause-told
returns-clause-told g c =
    let log = g.L.PartitionLog.log in
    let disk = g.S.Store.disk in
    let a = scene log disk c.args.parts.now c.args.shelf.now in
    let b = scene log disk c.list_partitions.new.parts c.list_partitions.new.shelf in
    let w = a.state.world in
    let t = c.args.topic.now in
    on_ok_weaker c.list_partitions.result (λ told honest agree.
    topic_listing c.args.has_epochs (HasFailed a b) w t c.as_str.result.now c.len.result c.topic_named-instance.result c.as_slice-entries.result.now
    c.args.sink.now.bytes c.put_string.new.self.bytes c.put_count.new.self.bytes c.list_partitions.new.sink.bytes
    c.as_str.ensures c.len.ensures (c.topic_named-instance.ensures a.disk.files ∙ ap (λ m. named m w.known.topics) c.as_str-2.ensures)
    c.as_slice-entries.ensures c.in_ok-put_string.ensures.ok c.in_ok-put_count.ensures.ok (told honest agree))
    c.list_partitions.ensures.told
