use Rattle.std.proofs.Common.{map, ap}
use Rattle.kb_metrics.specs.Gauges.{group_of, partition_count}
use Rattle.kb_topics.specs.Catalog.{known}
use Rattle.kb_metrics.proofs.gather.tenant_row.Goals as goal

pub returns : goal.returns
returns g c files =
    let counted = ap (λ k. partition_count (known k).topics) c.catalog.ensures in
    let grouped = ap (map group_of) c.groups.ensures in
    cc (c.topic_count.ensures files, c.partition_count.ensures, counted, c.in_ok-group_rows.ensures, grouped, c.in_ok-lag_rows.ensures files, c.refusals.ensures)
