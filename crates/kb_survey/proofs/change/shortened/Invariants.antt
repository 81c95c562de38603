use Rattle.std.proofs.Common.{◌≡◌, drop}
use Rattle.kb_survey.specs.Changes.{length_after}
use Rattle.kb_survey.proofs.change.shortened.Given as goal

abbrev pub invariant-loop-change : goal.invariant-loop-change
invariant-loop-change l = length_after (drop l.change-index l.changes) l.file l.left ≡ length_after l.changes l.file l.fn.len
