use Rattle.std.proofs.Common.{◌≡◌, take, map}
use Rattle.kb_metrics.specs.Rows.{lag_row}
use Rattle.kb_metrics.specs.Status.{lag_sum}
use Rattle.kb_metrics.proofs.status.lag_sum.Given as goal

-- the sum so far
abbrev pub invariant-loop-lag : goal.invariant-loop-lag
invariant-loop-lag l = l.sum ≡ lag_sum (map lag_row (take l.lag-index l.lags))
