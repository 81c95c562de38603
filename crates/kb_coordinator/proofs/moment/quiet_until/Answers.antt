use Rattle.std.proofs.Common.{arith}
use Rattle.kb_coordinator.proofs.Lists.{at_get}
use Rattle.kb_coordinator.proofs.Steps.{bound_end, bound_go}
use Rattle.kb_coordinator.proofs.moment.quiet_until.Goals as goal

pub loop-i-preserved : goal.loop-i-preserved
loop-i-preserved c =
    let at = at_get c.args.groups.now c.loop-i.i c.index-groups-i.result (omega (arith, c.loop-i-test.true)) in
    (bound_go c.loop-i.i c.args.groups.now _ c.loop-i.quiet_until c.min-quiet_until.result c.quiet_until.result c.loop-i.invariant.0 at c.quiet_until.ensures c.min-quiet_until.ensures, omega (arith, c.loop-i.invariant.1, c.min-quiet_until.ensures))

pub returns : goal.returns
returns c = bound_end c.loop-i.i c.args.groups.now c.loop-i.quiet_until c.loop-i.invariant.0 c.loop-i.invariant.1 (omega (arith, c.loop-i-test.false))
