use Rattle.std.proofs.Common.{◌∙◌, List, ap, subst}
use Rattle.std.proofs.lemmas.Result.{on_err_weaker, on_ok_weaker}
use Rattle.kb_topics.specs.Known.{named}
use Rattle.kb_tenant_state.specs.Parts.{scene}
use Rattle.kb_tenant_state.specs.Steps.{meets_so}
use Rattle.kb_tenant_state.specs.World.{World}
use Rattle.kb_tenant_state.specs.declared.topic_partition.TopicPartition.{TopicPartition}
use Rattle.kb_tenant.specs.Told.{CatalogFailed, IsTrimTold}
use Rattle.kb_tenant.specs.Turns.{AreFirstServed}
use Rattle.kb_tenant.proofs.DeletedRecords.{name_fits, entries_fit, topic_told}
use Rattle.kb_tenant.proofs.Trimming.{topic_trimmed}
use Rattle.kb_tenant.proofs.delete_records.delete_in_topic.Goals as goal

pub put_string-requires : goal.put_string-requires
put_string-requires g c = name_fits c.args.topic.now c.as_str-name.result.now c.as_str-name.ensures c.requires.fits

pub put_count-requires : goal.put_count-requires
put_count-requires g c = entries_fit c.args.topic.now c.len.result c.len.ensures c.requires.fits

pub returns-clause-meets : goal.returns-clause-meets
returns-clause-meets g c =
    let log = g.L.PartitionLog.log in
    let disk = g.S.Store.disk in
    let a = scene log disk c.args.parts.now c.args.shelf.now in
    let b = scene log disk c.delete_entries.new.parts c.delete_entries.new.shelf in
    let topic = c.args.topic.now in
    let named_so = c.topic_named-instance.ensures a.disk.files ∙ ap (λ n. named n a.state.world.known.topics) c.as_str-name.ensures in
    on_ok_weaker c.delete_entries.result
    (meets_so a b _ _ (topic_told c.topic_named-instance.result (a.state.world, c.args.touched.now.items) topic c.as_str-name.result.now c.as_slice.result.now c.len.result
    c.args.sink.now.bytes c.put_string.new.self.bytes c.put_count.new.self.bytes _
    c.as_str-name.ensures c.as_slice.ensures c.len.ensures named_so c.in_ok-put_string.ensures.ok c.in_ok-put_count.ensures.ok))
    c.delete_entries.ensures.meets

pub returns-clause-told : goal.returns-clause-told
returns-clause-told g c =
    let log = g.L.PartitionLog.log in
    let disk = g.S.Store.disk in
    let a = scene log disk c.args.parts.now c.args.shelf.now in
    let b = scene log disk c.delete_entries.new.parts c.delete_entries.new.shelf in
    let topic = c.args.topic.now in
    let named_so = c.topic_named-instance.ensures a.disk.files ∙ ap (λ n. named n a.state.world.known.topics) c.as_str-name.ensures in
    on_ok_weaker c.delete_entries.result
    (λ told honest agree. topic_trimmed (CatalogFailed a b) c.topic_named-instance.result (a.state.world, c.args.touched.now.items)
    (b.state.world, c.delete_entries.new.touched.items) topic
    c.as_str-name.result.now c.as_slice.result.now c.len.result c.args.sink.now.bytes c.put_string.new.self.bytes
    c.put_count.new.self.bytes _
    c.as_str-name.ensures c.as_slice.ensures c.len.ensures named_so c.in_ok-put_string.ensures.ok c.in_ok-put_count.ensures.ok
    (told honest agree))
    c.delete_entries.ensures.told

pub returns-clause-cut : goal.returns-clause-cut
returns-clause-cut g c =
    let log = g.L.PartitionLog.log in
    let disk = g.S.Store.disk in
    let a = scene log disk c.args.parts.now c.args.shelf.now in
    let b = scene log disk c.delete_entries.new.parts c.delete_entries.new.shelf in
    let topic = c.args.topic.now in
    let start : World × List TopicPartition = (a.state.world, c.args.touched.now.items) in
    let end : World × List TopicPartition = (b.state.world, c.delete_entries.new.touched.items) in
    let named_so = c.topic_named-instance.ensures a.disk.files ∙ ap (λ n. named n a.state.world.known.topics) c.as_str-name.ensures in
    on_err_weaker c.delete_entries.result
    (λ cut honest agree. subst (λ es. AreFirstServed (IsTrimTold (CatalogFailed a b) (named topic.name a.state.world.known.topics)) start es end)
    c.as_slice.ensures
    (subst (λ i. AreFirstServed (IsTrimTold (CatalogFailed a b) i) start c.as_slice.result.now end) named_so (cut honest agree)))
    c.delete_entries.ensures.cut
