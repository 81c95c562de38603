use Rattle.std.proofs.Common.{◌≡◌, drop}
use Rattle.kb_start.specs.Left.{any_dropped}
use Rattle.kb_start.proofs.left.any_dropped.Given as goal

abbrev pub invariant-loop-file : goal.invariant-loop-file
invariant-loop-file l = any_dropped (drop l.file-index l.files) ≡ any_dropped l.files
