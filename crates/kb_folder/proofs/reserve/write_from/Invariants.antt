use Rattle.std.proofs.Common.{◌-◌}
use Rattle.kb_folder.proofs.reserve.write_from.Given as goal

abbrev pub decreases-loop-at : goal.decreases-loop-at
decreases-loop-at l = 4194304 - l.at
