use Rattle.std.proofs.Common.{◌≡◌, drop, option_copied}
use Rattle.kb_start.specs.Kept.{is_lost}
use Rattle.kb_start.proofs.kept.is_lost.Given as goal

abbrev pub invariant-loop-loss : goal.invariant-loop-loss
invariant-loop-loss l = is_lost (drop l.loss-index l.losses) (option_copied l.header) ≡ is_lost l.losses (option_copied l.header)
