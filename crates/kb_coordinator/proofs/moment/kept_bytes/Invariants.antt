use Rattle.std.proofs.Common.{◌≡◌, ◌≤◌, ◌+◌, drop}
use Rattle.kb_groups.specs.Sizes.{counted}
use Rattle.kb_coordinator.specs.Groups.{kept_bytes}
use Rattle.kb_coordinator.proofs.moment.kept_bytes.Given as goal

-- What was counted, and what is left, are all.
abbrev pub invariant-loop-entry : goal.invariant-loop-entry
invariant-loop-entry l = (counted (l.bytes + kept_bytes (drop l.entry-index l.groups)) ≡ counted (kept_bytes l.groups)) × (l.bytes ≤ 18446744073709551615)
