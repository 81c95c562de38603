use Rattle.std.proofs.Common.{◌≡◌, drop}
use Rattle.kb_groups.specs.Calls.{others}
use Rattle.kb_groups.specs.Members.{has_none}
use Rattle.kb_groups.proofs.members.Members.has_none_but.Given as goal

-- What is left says whether there is another member.
abbrev pub invariant-loop-i : goal.invariant-loop-i
invariant-loop-i l = has_none (others l.but (drop l.i l.self-inside.map.entries)) ≡ has_none (others l.but l.self-inside.map.entries)
