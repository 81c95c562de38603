use Rattle.std.proofs.Common.{◌≡◌, drop}
use Rattle.kb_durable.specs.Durable.{is_torn}
use Rattle.kb_durable.proofs.torn.is_torn.Given as goal

abbrev pub invariant-loop-it : goal.invariant-loop-it
invariant-loop-it l = is_torn (drop l.it-index l.torn) l.file ≡ is_torn l.torn l.file
