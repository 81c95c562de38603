use Rattle.std.proofs.Common.{◌≡◌, length}
use Rattle.kb_restart.specs.Lengths.{from_file}
use Rattle.kb_restart.proofs.lengths.from_file.Given as goal

abbrev pub invariant-loop-first : goal.invariant-loop-first
invariant-loop-first l = from_file l.file l.rest ≡ from_file l.file l.files

abbrev pub decreases-loop-first : goal.decreases-loop-first
decreases-loop-first l = length l.rest
