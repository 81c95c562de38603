use Rattle.std.proofs.Common.{◌∙◌, ◌≤◌, ap, arith, length, map, subst}
use Rattle.kb_coordinator.specs.Groups.{earliest}
use Rattle.kb_coordinator.specs.Calls.{hung_up}
use Rattle.kb_coordinator.proofs.Ticking.{sorted_left}
use Rattle.std.proofs.lemmas.List.{length-map}
use Rattle.kb_coordinator.proofs.Kept.{within_left}
use Rattle.kb_coordinator.proofs.coordinator.Coordinator.left.Goals as goal

pub invariant_of-self : goal.invariant_of-self
invariant_of-self c =
    let hung = c.hang_up.ensures ∙ ap (map (hung_up c.args.clock c.args.connection)) c.deref_mut.ensures.value in (
      c.self.invariant.0,
      subst (λ l. c.quiet_until-self-inside.result ≤ earliest l) c.deref.ensures.value c.quiet_until-self-inside.ensures,
      sorted_left c.args.clock c.args.connection c.self.inside.groups.len c.self.inside.groups.items c.hang_up.new.groups hung (omega (arith, c.self.inside.groups.ok)) c.self.invariant.2,
      within_left c.args.clock c.args.connection c.self.inside.groups.len c.self.inside.limits c.self.inside.bytes c.self.inside.groups.items c.hang_up.new.groups hung (ap length hung ∙ length-map c.self.inside.groups.items (hung_up c.args.clock c.args.connection)) (omega (arith, c.self.inside.groups.ok)) c.self.invariant.3,
      c.self.invariant.4,
    )
