use Rattle.std.proofs.Common.{arith, ap}
use Rattle.kb_coordinator.specs.Groups.{AreInOrder}
use Rattle.kb_coordinator.proofs.Places.{none_ordered}
use Rattle.kb_coordinator.proofs.Search.{none_sorted}
use Rattle.kb_coordinator.proofs.Steps.{none_due}
use Rattle.kb_coordinator.specs.declared.limits.Limits.{Limits}
use Rattle.kb_coordinator.proofs.Kept.{none_within}
use Rattle.kb_coordinator.proofs.coordinator.Coordinator.new.Goals as goal

pub invariant_of-result : goal.invariant_of-result
invariant_of-result c =
    (omega arith, none_due c.new.result.items c.new.ensures.items, none_sorted c.new.result.items c.new.ensures.items, none_within c.new.result.items c.standard.result c.new.ensures.items (omega (arith, ap (λ (l : Limits). l.bytes) c.standard.ensures)), none_ordered (λ v. AreInOrder v.items) _ c.new-2.ensures.items)
