use Rattle.std.proofs.Common.{◌≡◌, ◌-◌}
use Rattle.kb_operator.specs.Texts.{files_of_all}
use Rattle.kb_operator.proofs.texts.later_files.Given as goal

-- without those that are left
abbrev pub invariant-loop-files : goal.invariant-loop-files
invariant-loop-files l = l.later - files_of_all l.files-iterator ≡ l.initial.later - files_of_all l.initial.files-iterator
