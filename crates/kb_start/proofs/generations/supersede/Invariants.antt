use Rattle.std.proofs.Common.{◌≡◌, drop}
use Rattle.kb_start.specs.Survey.{supersede}
use Rattle.kb_start.proofs.generations.supersede.Given as goal

abbrev pub invariant-loop-other : goal.invariant-loop-other
invariant-loop-other l = supersede (drop l.other-index l.used) l.header ≡ supersede l.used l.header
