use Rattle.std.proofs.Common.{◌∙◌, ◌++◌, map, ap}
use Rattle.kb_metrics.specs.Families.{head_of, start_text, starts_text}
use Rattle.kb_metrics.specs.Rows.{partition_row}
use Rattle.kb_metrics.specs.Text.{rows_text}
use Rattle.kb_metrics.specs.declared.families.Family.TheVariants as families
use Rattle.kb_metrics.proofs.Steps.{on_ok}
use Rattle.kb_metrics.proofs.families.push_starts.Goals as goal

pub returns : goal.returns
unfolding starts_text
returns c =
    let out = c.args.out.now.items in
    let ps = map partition_row c.args.partitions.now in
    on_ok c.push_family.result (λ h.
    h ∙ ap (λ head. out ++ rows_text head (start_text c.deref.result.now) ps) c.head.ensures
    ∙ ap (λ front. out ++ rows_text (head_of families.Start) (start_text front) ps) (c.deref.ensures.value ∙ c.in_ok-front.ensures))
    c.push_family.ensures
