use Rattle.std.proofs.Common.{◌≡◌, ◌++◌, map, take, drop}
use Rattle.kb_coordinator.specs.Calls.{hung_up}
use Rattle.kb_coordinator.proofs.moment.hang_up.Given as goal

-- Those up to here are changed, and those after are to be.
abbrev pub invariant-loop-i : goal.invariant-loop-i
invariant-loop-i l = take l.i l.groups ++ map (hung_up l.clock l.connection) (drop l.i l.groups) ≡ map (hung_up l.clock l.connection) l.initial.groups
