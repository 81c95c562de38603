use Rattle.std.proofs.Common.{◌≡◌, ◌≤◌, ◌+◌, drop}
use Rattle.kb_operator.specs.Sums.{told}
use Rattle.kb_operator.specs.Texts.{batches_lost, bytes_lost}
use Rattle.kb_operator.proofs.texts.lost.Given as goal

-- with those of the files that are left it is the whole
abbrev pub invariant-loop-loss : goal.invariant-loop-loss
invariant-loop-loss l = record {
  batches : told (l.lost.batches + batches_lost (drop l.loss-index l.losses)) ≡ told (batches_lost l.losses);
  bytes : told (l.lost.bytes + bytes_lost (drop l.loss-index l.losses)) ≡ told (bytes_lost l.losses);
  small : l.lost.batches ≤ 18446744073709551615;
  few : l.lost.bytes ≤ 18446744073709551615;
}
