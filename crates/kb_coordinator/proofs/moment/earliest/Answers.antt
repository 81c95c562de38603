use Rattle.std.proofs.Common.{arith}
use Rattle.kb_coordinator.proofs.Lists.{at_get}
use Rattle.kb_coordinator.proofs.Steps.{first_end, first_go, first_most}
use Rattle.kb_coordinator.proofs.moment.earliest.Goals as goal

pub loop-i-init : goal.loop-i-init
loop-i-init c = (omega (arith, first_most c.args.groups.now), omega arith)

pub loop-i-preserved : goal.loop-i-preserved
loop-i-preserved c =
    let at = at_get c.args.groups.now c.loop-i.i c.index-groups-i.result (omega (arith, c.loop-i-test.true)) in
    (first_go c.loop-i.i c.args.groups.now _ c.loop-i.earliest c.earlier-earliest.result c.loop-i.invariant.0 at c.earlier-earliest.ensures, omega (arith, c.loop-i.invariant.1, c.earlier-earliest.ensures))

pub returns : goal.returns
returns c = first_end c.loop-i.i c.args.groups.now c.loop-i.earliest c.loop-i.invariant.0 c.loop-i.invariant.1 (omega (arith, c.loop-i-test.false))
