use Rattle.std.proofs.Common.{◌∙◌, List, ap, rules}
use Rattle.kb_tenant_state.specs.Ids.{next_id_among}
use Rattle.kb_tenant_state.specs.declared.partition.Partition.{Partition}
use Rattle.kb_tenant_state.proofs.SkippedIds.{next_step}
use Rattle.kb_tenant_state.proofs.partitions.Partitions.next_id.Goals as goal

pub loop-partitions-preserved : goal.loop-partitions-preserved
loop-partitions-preserved g c = record {
  next = search rules;
  finite = search rules;
  all = next_step (c.in-Some.field-0-0.now, c.in-Some.partitions.now) c.loop-partitions.partitions-iterator c.next.new.self c.args.self.now.topics.entries c.loop-partitions.next c.next_id_among.result c.max-next.result
      c.in-Some.ensures.steps (c.next_id_among.ensures ∙ ap (λ (xs : List (Partition g.row.L.Denot)). next_id_among xs) c.as_slice.ensures.value) c.max-next.ensures c.loop-partitions.invariant.all;
}
