use Rattle.std.proofs.Common.{◌≡◌, drop, max}
use Rattle.kb_metrics.specs.Markup.{greatest}
use Rattle.kb_metrics.proofs.markup.greatest.Given as goal

-- the greatest so far, and of those that are left, is that of all
abbrev pub invariant-loop-sample : goal.invariant-loop-sample
invariant-loop-sample l = max l.greatest (greatest (drop l.sample-index l.samples)) ≡ greatest l.samples
