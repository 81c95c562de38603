use Rattle.std.proofs.Common.{◌≡◌, ◌++◌, drop, map}
use Rattle.kb_coordinator.specs.Requests.{offered}
use Rattle.kb_coordinator.proofs.convert.offers.Given as goal

-- What was made, and what is left, are all.
abbrev pub invariant-loop-protocol : goal.invariant-loop-protocol
invariant-loop-protocol l = l.offers.items ++ map offered (drop l.protocol-index l.protocols) ≡ map offered l.protocols
