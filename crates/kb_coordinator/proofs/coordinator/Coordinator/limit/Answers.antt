use Rattle.std.proofs.Common.{arith, ap, sym, ◌≤◌}
use Rattle.kb_coordinator.specs.Groups.{Groups}
use Rattle.kb_coordinator.proofs.Kept.{limited_within}
use Rattle.kb_coordinator.proofs.coordinator.Coordinator.limit.Goals as goal

pub invariant_of-self : goal.invariant_of-self
invariant_of-self c = (
  c.self.invariant.0,
  c.self.invariant.1,
  c.self.invariant.2,
  limited_within c.self.inside.limits c.args.limits c.self.inside.bytes c.self.inside.groups.items c.args.self.now c.self.invariant.3 (ap (λ (gs : Groups). gs.groups) (sym c.self.view_is)) c.requires.early (omega (arith, c.requires.within)),
  c.self.invariant.4,
)
