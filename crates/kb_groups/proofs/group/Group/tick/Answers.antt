use Rattle.std.proofs.Common.{◌<◌, ◌≤◌, arith, ap, sym, ◌∙◌}
use Rattle.kb_groups.specs.Moments.{next_due}
use Rattle.kb_groups.proofs.Quiet.{tick_early}
use Rattle.kb_groups.proofs.group.Group.tick.Goals as goal

pub returns-then-clock-self-clause-released : goal.returns-then-clock-self-clause-released
returns-then-clock-self-clause-released c =
    let inv : c.self.inside.quiet_until ≤ next_due c.self.inside.state = c.self.invariant.0 in
    let early : c.args.clock < next_due c.args.self.now = rw (← c.self.view_is) (omega (arith, c.if-clock-self.true, inv)) in
    c.new.ensures.items ∙ sym (ap (λ s. s.released) (tick_early c.args.clock c.args.self.now early))

pub returns-then-clock-self-clause-group : goal.returns-then-clock-self-clause-group
returns-then-clock-self-clause-group c =
    let inv : c.self.inside.quiet_until ≤ next_due c.self.inside.state = c.self.invariant.0 in
    let early : c.args.clock < next_due c.args.self.now = rw (← c.self.view_is) (omega (arith, c.if-clock-self.true, inv)) in
    sym (ap (λ s. s.group) (tick_early c.args.clock c.args.self.now early))
