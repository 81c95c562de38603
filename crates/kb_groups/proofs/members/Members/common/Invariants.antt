use Rattle.std.proofs.Common.{◌≡◌, drop, map}
use Rattle.kb_groups.specs.Calls.{others}
use Rattle.kb_groups.specs.Protocols.{common}
use Rattle.kb_groups.proofs.members.Members.common.Given as goal

-- What is left has the same first common name.
abbrev pub invariant-loop-named : goal.invariant-loop-named
invariant-loop-named g l = common (map g.N.Named.name_of (drop l.named-index l.names)) (others l.but l.self) ≡ common (map g.N.Named.name_of l.names) (others l.but l.self)
