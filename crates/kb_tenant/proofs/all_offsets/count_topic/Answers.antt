use Rattle.std.proofs.Common.{◌≡◌, ◌∙◌, sym, ap, length}
use Rattle.kb_tenant_state.specs.Parts.{world_of}
use Rattle.kb_tenant.specs.OffsetFetch.{told_in}
use Rattle.kb_tenant.proofs.AllOffsets.{topic_counted_none, topic_counted_some}
use Rattle.kb_tenant.proofs.all_offsets.count_topic.Goals as goal

pub returns-then-count-eq0-clause-exact : goal.returns-then-count-eq0-clause-exact
returns-then-count-eq0-clause-exact g c files =
    let w = world_of g.L.PartitionLog.log c.args.parts.now files in
    let t = c.args.topic.now in
    let xs = told_in w c.args.group.now c.args.instance (length t.partitions) in
    let is : c.count_in-count.result ≡ length xs = c.count_in-count.ensures.exact files ∙ ap (λ ps. length (told_in w c.args.group.now c.args.instance (length ps))) c.partitions-partitions.ensures in
    topic_counted_none t.name xs (sym is ∙ c.if-count-eq0.true)

pub returns-clause-exact : goal.returns-clause-exact
returns-clause-exact g c files =
    let w = world_of g.L.PartitionLog.log c.args.parts.now files in
    let t = c.args.topic.now in
    let xs = told_in w c.args.group.now c.args.instance (length t.partitions) in
    let is : c.count_in-count.result ≡ length xs = c.count_in-count.ensures.exact files ∙ ap (λ ps. length (told_in w c.args.group.now c.args.instance (length ps))) c.partitions-partitions.ensures in
    topic_counted_some t.name xs (λ none. c.if-count-eq0.false (is ∙ none))
