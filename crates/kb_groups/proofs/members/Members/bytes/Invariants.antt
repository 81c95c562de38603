use Rattle.std.proofs.Common.{◌≡◌, ◌≤◌, ◌+◌, drop}
use Rattle.kb_groups.specs.Bytes.{roster_bytes}
use Rattle.kb_groups.specs.Sizes.{counted}
use Rattle.kb_groups.proofs.members.Members.bytes.Given as goal

-- What was counted, and what is left, are all.
abbrev pub invariant-loop-i : goal.invariant-loop-i
invariant-loop-i l = (counted (l.bytes + roster_bytes (drop l.i l.self-inside.map.entries)) ≡ counted (roster_bytes l.self-inside.map.entries)) × (l.bytes ≤ 18446744073709551615)
