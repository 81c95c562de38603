use Rattle.std.proofs.Common.{◌≡◌, take}
use Rattle.std.specs.List.{sum_by}
use Rattle.kb_restart.specs.Counts.{told}
use Rattle.kb_restart.proofs.lengths.FileTotal.of.Given as goal

-- the bytes of the first files
abbrev pub invariant-loop-file : goal.invariant-loop-file
invariant-loop-file l = l.bytes ≡ told (sum_by (λ f. f.length) (take l.file-index l.files))
