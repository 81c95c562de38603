use Rattle.std.proofs.Common.{◌≡◌, drop}
use Rattle.kb_start.specs.Survey.{has_lower}
use Rattle.kb_start.proofs.generations.has_lower.Given as goal

abbrev pub invariant-loop-other : goal.invariant-loop-other
invariant-loop-other l = has_lower (drop l.other-index l.used) l.header ≡ has_lower l.used l.header
