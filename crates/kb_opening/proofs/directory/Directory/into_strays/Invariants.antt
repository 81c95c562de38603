use Rattle.std.proofs.Common.{◌≡◌, ◌++◌}
use Rattle.kb_opening.specs.Directory.{owned_in}
use Rattle.kb_opening.proofs.directory.Directory.into_strays.Given as goal

-- behind the strays stand the files of the owners so far
abbrev pub invariant-loop-files : goal.invariant-loop-files
invariant-loop-files l = l.left.items ≡ l.initial.left.items ++ owned_in l.yielded
