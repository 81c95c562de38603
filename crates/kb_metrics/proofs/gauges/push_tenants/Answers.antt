use Rattle.std.proofs.Common.{◌∙◌, ◌++◌, map, ap}
use Rattle.kb_metrics.specs.Families.{families_text}
use Rattle.kb_metrics.specs.Rows.{tenant_row}
use Rattle.kb_metrics.proofs.Steps.{on_ok}
use Rattle.kb_metrics.proofs.gauges.push_tenants.Goals as goal

pub returns : goal.returns
returns g c =
    on_ok c.push_families.result (λ h files. h ∙ ap (λ ts. c.args.out.now.items ++ families_text ts)
    (ap (map tenant_row) c.deref.ensures.value ∙ c.in_ok-rows.ensures files)) c.push_families.ensures
