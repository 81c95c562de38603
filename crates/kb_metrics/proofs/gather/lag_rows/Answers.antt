use Rattle.std.proofs.Common.{◌∙◌, ◌++◌, map, sym, ap, append_assoc}
use Rattle.std.specs.List.{flat_map}
use Rattle.std.proofs.lemmas.List.{append-nil}
use Rattle.kb_tenant_state.specs.Parts.{world_of}
use Rattle.kb_metrics.specs.Gauges.{topic_lags}
use Rattle.kb_metrics.specs.Rows.{lag_row}
use Rattle.kb_metrics.proofs.gather.lag_rows.Goals as goal

pub loop-instance-preserved : goal.loop-instance-preserved
loop-instance-preserved g c files =
    let T = topic_lags (world_of g.L.PartitionLog.log c.args.parts.now files) in
    let left = flat_map T c.next.new.self in
    let rows = map lag_row c.loop-instance.rows.items in
    ap (λ o. o ++ left) (c.in_ok-push_topic_lags.ensures files) ∙ append_assoc rows (T (c.in-Some.instance, c.in-Some.topic.now)) left
    ∙ ap (λ ts. rows ++ flat_map T ts) (sym c.in-Some.ensures.steps) ∙ c.loop-instance.invariant files

pub returns : goal.returns
returns g c files =
    let T = topic_lags (world_of g.L.PartitionLog.log c.args.parts.now files) in
    let rows = map lag_row c.loop-instance.rows.items in
    sym (append-nil rows) ∙ ap (λ ts. rows ++ flat_map T ts) (sym c.in-None.ensures.steps.0) ∙ c.loop-instance.invariant files
    ∙ ap (flat_map T) (c.into_iter-instance-iterator.ensures.into_iter_gives ∙ c.topics-instance-items.ensures files)
