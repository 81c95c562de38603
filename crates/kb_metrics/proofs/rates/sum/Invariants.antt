use Rattle.std.proofs.Common.{◌≡◌, ◌^◌, ◌-◌, take, min}
use Rattle.std.specs.List.{sum_by}
use Rattle.kb_metrics.proofs.rates.sum.Given as goal

-- the sum so far
abbrev pub invariant-loop-sample : goal.invariant-loop-sample
invariant-loop-sample l = l.sum ≡ min (sum_by (λ n. n) (take l.sample-index l.samples)) (2 ^ 64 - 1)
