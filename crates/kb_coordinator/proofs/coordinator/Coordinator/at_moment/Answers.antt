use Rattle.std.proofs.Common.{◌∙◌, ◌<◌, ◌≤◌, ap, arith, subst}
use Rattle.std.specs.List.{flat_map}
use Rattle.kb_coordinator.specs.Groups.{earliest, kept_bytes}
use Rattle.kb_coordinator.specs.Calls.{Ticks}
use Rattle.kb_coordinator.proofs.Ticking.{all_moment, each_moment, quiet_each, quiet_moment, sorted_moment}
use Rattle.kb_groups.specs.Sizes.{counted}
use Rattle.kb_coordinator.proofs.Kept.{within_moment}
use Rattle.kb_coordinator.proofs.coordinator.Coordinator.at_moment.Goals as goal

pub returns-then-clock-self-clause-all : goal.returns-then-clock-self-clause-all
returns-then-clock-self-clause-all c none =
    let quiet : c.args.clock < earliest c.self.inside.groups.items = omega (arith, c.if-clock-self.true, c.self.invariant.1) in
    quiet_moment c.args.clock c.self.inside.groups.items c.self.inside.members c.self.inside.limits (flat_map (λ v. v.items) c.self.inside.released.items) _ c.args.self.now c.self.view_is (ap (flat_map (λ v. v.items)) c.clear.ensures.items) quiet

pub returns-then-clock-self-clause-groups : goal.returns-then-clock-self-clause-groups
returns-then-clock-self-clause-groups c =
    let quiet : c.args.clock < earliest c.self.inside.groups.items = omega (arith, c.if-clock-self.true, c.self.invariant.1) in
    quiet_each c.args.clock c.self.inside.groups.items c.self.inside.members c.self.inside.limits (flat_map (λ v. v.items) c.self.inside.released.items) _ c.args.self.now c.self.view_is (ap (flat_map (λ v. v.items)) c.clear.ensures.items) quiet

pub returns-clause-all : goal.returns-clause-all
returns-clause-all c none =
    let ticks = subst (λ es. Ticks c.args.clock es c.tick_each-refused.new.groups (flat_map (λ v. v.items) c.tick_each-refused.new.released.items) c.tick_each-refused.result) c.deref_mut.ensures.value c.tick_each-refused.ensures.ticks in
    all_moment c.args.clock c.self.inside.groups.len c.self.inside.groups.items c.tick_each-refused.new.groups c.self.inside.members c.self.inside.limits (flat_map (λ v. v.items) c.self.inside.released.items) _ c.args.self.now _ c.self.view_is ticks (omega (arith, c.self.inside.groups.ok)) none

pub returns-clause-groups : goal.returns-clause-groups
returns-clause-groups c =
    let ticks = subst (λ es. Ticks c.args.clock es c.tick_each-refused.new.groups (flat_map (λ v. v.items) c.tick_each-refused.new.released.items) c.tick_each-refused.result) c.deref_mut.ensures.value c.tick_each-refused.ensures.ticks in
    each_moment c.args.clock c.self.inside.groups.len c.self.inside.groups.items c.tick_each-refused.new.groups c.self.inside.members c.self.inside.limits (flat_map (λ v. v.items) c.self.inside.released.items) _ c.args.self.now _ c.self.view_is ticks (omega (arith, c.self.inside.groups.ok))

pub invariant_of-self-2 : goal.invariant_of-self-2
invariant_of-self-2 c =
    let ticks = subst (λ es. Ticks c.args.clock es c.tick_each-refused.new.groups (flat_map (λ v. v.items) c.tick_each-refused.new.released.items) c.tick_each-refused.result) c.deref_mut.ensures.value c.tick_each-refused.ensures.ticks in (
      c.self.invariant.0,
      subst (λ l. c.quiet_until-self-inside.result ≤ earliest l) c.deref.ensures.value c.quiet_until-self-inside.ensures,
      sorted_moment c.args.clock c.self.inside.groups.len c.self.inside.groups.items c.tick_each-refused.new.groups _ _ ticks (omega (arith, c.self.inside.groups.ok)) c.self.invariant.2,
      within_moment c.args.clock c.self.inside.groups.len c.self.inside.limits c.self.inside.bytes c.kept_bytes-self-inside.result c.self.inside.groups.items c.tick_each-refused.new.groups _ _ ticks (omega (arith, c.self.inside.groups.ok)) c.self.invariant.3 (c.kept_bytes-self-inside.ensures ∙ ap (λ l. counted (kept_bytes l)) c.deref-2.ensures.value),
      c.tick_each-refused.ensures.order,
    )
