use Rattle.std.proofs.Common.{◌∙◌, ◌++◌, map, sym, ap}
use Rattle.std.specs.Option.{option_copied}
use Rattle.std.proofs.lemmas.List.{append-nil}
use Rattle.kb_metrics.specs.Gauges.{commit_of, commits_to}
use Rattle.kb_metrics.specs.Rows.{commit_row}
use Rattle.kb_metrics.proofs.Steps.{on_ok}
use Rattle.kb_metrics.proofs.gather.push_commits_in.Goals as goal

pub returns-in-Some : goal.returns-in-Some
returns-in-Some c =
    let rows = map commit_row c.args.rows.now.items in
    on_ok c.push_commits.result (λ h.
    h ∙ ap (λ t. rows ++ map (commit_of t c.args.number) c.in-Some.partition.now.commits) c.name.ensures
    ∙ ap (λ o. rows ++ commits_to c.args.topic.now.name c.args.number o) (ap option_copied (sym c.in-Some.is) ∙ c.partition_at.ensures))
    c.push_commits.ensures

pub returns-in-None : goal.returns-in-None
returns-in-None c =
    let rows = map commit_row c.args.rows.now.items in
    sym (append-nil rows)
    ∙ ap (λ o. rows ++ commits_to c.args.topic.now.name c.args.number o) (ap option_copied (sym c.in-None.is) ∙ c.partition_at.ensures)
