use Rattle.std.proofs.Common.{◌≤◌, ◌-◌, vec_len}
use Rattle.kb_groups.proofs.Place.{Below}
use Rattle.kb_groups.proofs.answer.place_release.Given as goal

abbrev pub invariant-loop-at : goal.invariant-loop-at
invariant-loop-at l = (l.at ≤ vec_len l.out) × Below l.release.connection l.at l.out.items

abbrev pub decreases-loop-at : goal.decreases-loop-at
decreases-loop-at l = vec_len l.out - l.at
