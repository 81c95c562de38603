use Rattle.std.proofs.Common.{◌≡◌, drop}
use Rattle.kb_groups.specs.Calls.{others}
use Rattle.kb_groups.specs.Protocols.{all_list}
use Rattle.kb_groups.proofs.members.Members.all_list.Given as goal

-- What is left says whether all list the name.
abbrev pub invariant-loop-i : goal.invariant-loop-i
invariant-loop-i l = all_list (others l.but (drop l.i l.self-inside.map.entries)) l.name ≡ all_list (others l.but l.self-inside.map.entries) l.name
