use Rattle.std.proofs.Common.{◌≡◌, ◌++◌, drop}
use Rattle.kb_groups.specs.Protocols.{listing}
use Rattle.kb_groups.proofs.members.Members.listing.Given as goal

-- What was listed, and what is left, are all.
abbrev pub invariant-loop-i : goal.invariant-loop-i
invariant-loop-i l = l.items.items ++ listing (drop l.i l.self-inside.map.entries) l.protocol ≡ listing l.self-inside.map.entries l.protocol
