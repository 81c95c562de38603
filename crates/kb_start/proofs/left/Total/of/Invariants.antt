use Rattle.std.proofs.Common.{◌≡◌, drop}
use Rattle.kb_start.specs.Left.{total_of, with_files}
use Rattle.kb_start.proofs.left.Total.of.Given as goal

-- with the files that are left it is the whole
abbrev pub invariant-loop-file : goal.invariant-loop-file
invariant-loop-file l = with_files l.total (drop l.file-index l.files) ≡ total_of l.files
