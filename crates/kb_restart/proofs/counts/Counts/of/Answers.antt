use Rattle.std.proofs.Common.{◌≡◌, ◌∙◌, ◌+◌, length, sym, ap, arith}
use Rattle.std.proofs.lemmas.List.Sums.{sum_by_more}
use Rattle.kb_segment_log.specs.declared.log.SegmentLog.{SegmentLog}
use Rattle.kb_topics.specs.Catalog.{known}
use Rattle.kb_tenant_state.specs.declared.parts.Parts.{Parts}
use Rattle.kb_restart.specs.Counts.{partitions_of}
use Rattle.kb_restart.proofs.Counted.{no_files}
use Rattle.kb_restart.proofs.counts.Counts.of.Goals as goal

pub loop-tenant-preserved : goal.loop-tenant-preserved
loop-tenant-preserved c =
    let ps = c.args.tenants.now in
    let place = c.loop-tenant.tenant-index in
    let p = c.tenant-item.result in
    let topics_of = λ (q : Parts SegmentLog). length (known q.catalog).topics in
    let parts_of = λ (q : Parts SegmentLog). partitions_of (known q.catalog) in
    let topics = sum_by_more topics_of ps place p c.loop-tenant-test.true in
    let parts = sum_by_more parts_of ps place p c.loop-tenant-test.true in
    let its_topics = c.topic_count.ensures no_files ∙ ap topics_of c.tenant-item.is in
    let its_parts = ap parts_of c.tenant-item.is in
    let so_far = c.loop-tenant.invariant in
    let topics_so_far = so_far.topics in
    let parts_so_far = so_far.partitions in
    let counted = c.partitions_of.ensures in
    let more_topics = c.saturating_add-topics.ensures in
    let more_parts = c.saturating_add-partitions.ensures in
    record {
      topics = omega (arith, topics, its_topics, topics_so_far, more_topics);
      partitions = omega (arith, parts, its_parts, parts_so_far, counted, more_parts);
    }
