use Rattle.std.proofs.Common.{◌≡◌, ◌∙◌, ◌++◌, map, ap, append_assoc}
use Rattle.kb_tenant_state.specs.Parts.{world_of}
use Rattle.kb_metrics.specs.Families.{committed_text, offsets_text}
use Rattle.kb_metrics.specs.Gauges.{partitions}
use Rattle.kb_metrics.specs.Rows.{commit_row, partition_row}
use Rattle.kb_metrics.proofs.Steps.{on_ok}
use Rattle.kb_metrics.proofs.gauges.push_partitions.Goals as goal

pub returns : goal.returns
returns g c =
    let out = c.args.out.now.items in
    let name = c.args.tenant.now.name.now in
    on_ok c.push_committed.result (λ h files.
    let w = world_of g.L.PartitionLog.log c.args.tenant.now.parts.now files in
    let offsets = offsets_text name (partitions w) in
    let front : c.push_offsets.new.out.items ≡ out ++ offsets
    = c.in_ok-push_offsets.ensures ∙ ap (λ ps. out ++ offsets_text name ps) (ap (map partition_row) c.deref.ensures.value ∙ c.in_ok-partitions.ensures files) in
    h ∙ ap (λ o. o ++ committed_text name (map commit_row c.deref-2.result.now)) front ∙ append_assoc out offsets _
    ∙ ap (λ cs. out ++ (offsets ++ committed_text name cs)) (ap (map commit_row) c.deref-2.ensures.value ∙ c.in_ok-commits.ensures files))
    c.push_committed.ensures
