use Rattle.std.proofs.Common.{◌∙◌, ap, sym}
use Rattle.std.specs.FinMap.{keys}
use Rattle.kb_operator.proofs.named.add_names.Goals as goal

pub loop-file-preserved : goal.loop-file-preserved
loop-file-preserved g c = c.loop-file.invariant ∙ ap keys (sym c.add_name.ensures.unchanged.table)
