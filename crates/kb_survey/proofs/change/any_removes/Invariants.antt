use Rattle.std.proofs.Common.{◌≡◌, drop}
use Rattle.kb_survey.specs.Changes.{removes}
use Rattle.kb_survey.proofs.change.any_removes.Given as goal

abbrev pub invariant-loop-change : goal.invariant-loop-change
invariant-loop-change l = removes (drop l.change-index l.changes) l.file ≡ removes l.changes l.file
