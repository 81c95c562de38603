use Rattle.std.proofs.Common.{◌∙◌, ◌++◌, map, ap}
use Rattle.kb_metrics.specs.Rows.{tenant_row}
use Rattle.kb_metrics.specs.Status.{status_text}
use Rattle.kb_metrics.proofs.Steps.{on_ok}
use Rattle.kb_metrics.proofs.pages.push_status.Goals as goal

pub returns : goal.returns
returns g c =
    on_ok c.push_status_page.result (λ h files.
    h ∙ ap (λ ts. c.args.out.now.items ++ status_text c.args.server.now c.args.process.now ts c.args.rates.now)
    (ap (map tenant_row) c.deref.ensures.value ∙ c.in_ok-rows.ensures files)) c.push_status_page.ensures
