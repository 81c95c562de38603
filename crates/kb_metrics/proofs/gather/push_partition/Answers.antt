use Rattle.std.proofs.Common.{◌∙◌, ◌++◌, map, ap}
use Rattle.kb_tenant_state.specs.Calls.{numbered, start_of}
use Rattle.kb_tenant_state.specs.Parts.{world_of}
use Rattle.kb_metrics.specs.Gauges.{between}
use Rattle.kb_metrics.specs.Rows.{partition_row}
use Rattle.kb_metrics.proofs.Steps.{on_ok}
use Rattle.kb_metrics.proofs.gather.push_partition.Goals as goal

pub returns : goal.returns
returns g c =
    let rows = map partition_row c.args.rows.now.items in
    let place = numbered c.args.instance c.args.number in
    on_ok c.push_between.result (λ h files.
    h ∙ ap (λ t. rows ++ between t c.args.number c.start.result c.end.result) c.name.ensures
    ∙ ap (λ s. rows ++ between c.args.topic.now.name c.args.number s c.end.result) (c.start.ensures files)
    ∙ ap (λ e. rows ++ between c.args.topic.now.name c.args.number (start_of (world_of g.L.PartitionLog.log c.args.parts.now files) place) e) (c.end.ensures files))
    c.push_between.ensures
