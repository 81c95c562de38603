use Rattle.std.proofs.Common.{◌∙◌, ap, sym, subst}
use Rattle.std.proofs.lemmas.Result.{on_err_weaker, on_ok_weaker}
use Rattle.kb_wire.specs.Codec.{string}
use Rattle.kb_api_group.specs.Layouts.{commit_partition}
use Rattle.kb_topics.specs.Known.{named}
use Rattle.kb_tenant_state.specs.Scene.{Scene}
use Rattle.kb_tenant_state.specs.Parts.{Seen, scene}
use Rattle.kb_tenant_state.specs.Steps.{meets_so}
use Rattle.kb_tenant_state.specs.World.{World}
use Rattle.kb_tenant.specs.Told.{CatalogFailed, IsCommitTold}
use Rattle.kb_tenant.specs.Turns.{AreFirstServed}
use Rattle.kb_tenant.proofs.Committing.{entries_fit, name_fits, topic_told}
use Rattle.kb_tenant.proofs.Fitting.{count_fits}
use Rattle.kb_tenant.proofs.Wanted.{commit_topic_told_so}
use Rattle.kb_tenant.proofs.group_commit.commit_topic.Goals as goal

pub put_string-requires : goal.put_string-requires
put_string-requires g c = subst string.Fits (sym c.as_str.ensures) (name_fits c.args.topic.now c.requires.fits)

pub put_count-requires : goal.put_count-requires
put_count-requires g c = count_fits commit_partition c.args.topic.now.partitions c.len.result (entries_fit c.args.topic.now c.requires.fits) c.len.ensures

pub returns-clause-meets : goal.returns-clause-meets
returns-clause-meets g c =
    let log = g.L.PartitionLog.log in
    let disk = g.S.Store.disk in
    let a : Scene Seen = scene log disk c.args.parts.now c.args.shelf.now in
    let b : Scene Seen = scene log disk c.commit_entries.new.parts c.commit_entries.new.shelf in
    let w : World = a.state.world in
    let t = c.args.topic.now in
    on_ok_weaker c.commit_entries.result
    (meets_so a b _ _ (topic_told c.args.limits c.args.refusal c.args.group.now c.topic_named-instance.result w t c.as_str.result.now c.as_slice-entries.result.now c.len.result
    c.args.sink.now.bytes c.put_string.new.self.bytes c.put_count.new.self.bytes _
    c.as_str.ensures c.as_slice-entries.ensures c.len.ensures (c.topic_named-instance.ensures a.disk.files ∙ ap (λ n. named n w.known.topics) c.as_str-2.ensures) c.in_ok-put_string.ensures.ok c.in_ok-put_count.ensures.ok))
    c.commit_entries.ensures.meets

pub returns-clause-told : goal.returns-clause-told
returns-clause-told g c =
    let log = g.L.PartitionLog.log in
    let disk = g.S.Store.disk in
    let a : Scene Seen = scene log disk c.args.parts.now c.args.shelf.now in
    let b : Scene Seen = scene log disk c.commit_entries.new.parts c.commit_entries.new.shelf in
    let w : World = a.state.world in
    let t = c.args.topic.now in
    on_ok_weaker c.commit_entries.result
    (λ told honest agree. commit_topic_told_so (CatalogFailed a b) c.args.limits c.args.refusal c.args.group.now c.topic_named-instance.result w b.state.world t c.as_str.result.now c.as_slice-entries.result.now c.len.result
    c.args.sink.now.bytes c.put_string.new.self.bytes c.put_count.new.self.bytes _
    c.as_str.ensures c.as_slice-entries.ensures c.len.ensures (c.topic_named-instance.ensures a.disk.files ∙ ap (λ n. named n w.known.topics) c.as_str-2.ensures) c.in_ok-put_string.ensures.ok c.in_ok-put_count.ensures.ok
    (told honest agree))
    c.commit_entries.ensures.told

pub returns-clause-cut : goal.returns-clause-cut
returns-clause-cut g c =
    let log = g.L.PartitionLog.log in
    let disk = g.S.Store.disk in
    let a : Scene Seen = scene log disk c.args.parts.now c.args.shelf.now in
    let b : Scene Seen = scene log disk c.commit_entries.new.parts c.commit_entries.new.shelf in
    let w : World = a.state.world in
    let v : World = b.state.world in
    let t = c.args.topic.now in
    let named_so = c.topic_named-instance.ensures a.disk.files ∙ ap (λ n. named n w.known.topics) c.as_str-2.ensures in
    on_err_weaker c.commit_entries.result
    (λ cut honest agree. subst (λ es. AreFirstServed (IsCommitTold (CatalogFailed a b) c.args.limits c.args.refusal c.args.group.now (named t.name w.known.topics)) w es v) c.as_slice-entries.ensures
    (subst (λ i. AreFirstServed (IsCommitTold (CatalogFailed a b) c.args.limits c.args.refusal c.args.group.now i) w c.as_slice-entries.result.now v) named_so (cut honest agree)))
    c.commit_entries.ensures.cut
