use Rattle.std.specs.List.{All, flat_map}
use Rattle.kb_coordinator.specs.Groups.{AreInOrder}
use Rattle.kb_coordinator.proofs.Ticking.{TickedTo}
use Rattle.kb_coordinator.proofs.moment.tick_each.Given as goal

abbrev pub invariant-loop-i : goal.invariant-loop-i
invariant-loop-i l = TickedTo l.clock l.i l.initial.groups l.groups (flat_map (λ v. v.items) l.released.items) l.refused × All (λ v. AreInOrder v.items) l.released.items
