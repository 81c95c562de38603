use Rattle.std.proofs.Common.{◌≡◌, ◌∙◌, ◌++◌, ap, append_assoc, codes}
use Rattle.kb_metrics.specs.Markup.{plot_cell}
use Rattle.kb_metrics.specs.Status.{both_plots}
use Rattle.kb_metrics.proofs.Steps.{on_ok}
use Rattle.kb_metrics.proofs.status.push_both_plots.Goals as goal

pub returns : goal.returns
unfolding both_plots
returns c =
    let out = c.args.out.now.items in
    let into = plot_cell (codes "In a second") c.args.rates.now.requests.samples in
    let front : c.push_plot_cell.new.out.items ≡ out ++ into
    = c.in_ok-push_plot_cell.ensures ∙ ap (λ s. out ++ plot_cell (codes "In a second") s) c.requests.ensures.value in
    on_ok c.push_plot_cell-2.result (λ h.
    h ∙ ap (λ o. o ++ plot_cell (codes "Out a second") c.responses.result.now) front ∙ append_assoc out into _
    ∙ ap (λ s. out ++ (into ++ plot_cell (codes "Out a second") s)) c.responses.ensures.value)
    c.push_plot_cell-2.ensures
