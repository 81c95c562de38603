use Rattle.std.proofs.Common.{◌≡◌, ◌++◌, drop, map}
use Rattle.kb_groups.specs.Calls.{kept}
use Rattle.kb_groups.specs.Index.{IsIndex}
use Rattle.kb_groups.proofs.listed.ListedProtocols.copy_of.Given as goal

-- What was copied, and what is left, are all; the index is of what was copied.
abbrev pub invariant-loop-offer : goal.invariant-loop-offer
invariant-loop-offer l = (l.items.items ++ map kept (drop l.offer-index l.offers) ≡ map kept l.offers) × IsIndex l.places l.items.items
