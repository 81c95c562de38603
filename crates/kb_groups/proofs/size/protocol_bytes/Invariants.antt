use Rattle.std.proofs.Common.{◌≡◌, ◌≤◌, ◌+◌, drop, map}
use Rattle.kb_groups.specs.Sizes.{counted, protocol_bytes}
use Rattle.kb_groups.specs.Calls.{kept}
use Rattle.kb_groups.proofs.size.protocol_bytes.Given as goal

-- What was counted, and what is left, are all.
abbrev pub invariant-loop-offer : goal.invariant-loop-offer
invariant-loop-offer l = (counted (l.bytes + protocol_bytes (map kept (drop l.offer-index l.offers))) ≡ counted (protocol_bytes (map kept l.offers))) × (l.bytes ≤ 18446744073709551615)
