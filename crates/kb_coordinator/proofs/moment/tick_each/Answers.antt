use Rattle.std.proofs.Common.{arith, refl}
use Rattle.std.specs.List.{flat_map}
use Rattle.kb_coordinator.proofs.Lists.{at_get}
use Rattle.kb_coordinator.proofs.Ticking.{tick_begin, tick_end, tick_go}
use Rattle.kb_coordinator.proofs.moment.tick_each.Goals as goal

pub loop-i-init : goal.loop-i-init
loop-i-init c = (tick_begin c.args.clock c.args.groups.now (flat_map (λ v. v.items) c.args.released.now.items) c.requires.silent, c.requires.order)

pub loop-i-preserved : goal.loop-i-preserved
loop-i-preserved c =
    let at = at_get c.loop-i.groups c.loop-i.i c.index-groups-i.result (omega (arith, c.loop-i-test.true, c.loop-i.auto.groups)) in (
      tick_go c.args.clock c.loop-i.i c.args.groups.now c.loop-i.groups _ c.tick_counted-refused.new.entry _ _ c.loop-i.refused _ c.tick_counted-refused.result c.loop-i.invariant.0 at c.tick_counted-refused.ensures.most
          c.tick_counted-refused.ensures.entry c.tick_counted-refused.ensures.released refl,
      c.tick_counted-refused.ensures.order,
    )

pub returns-clause-ticks : goal.returns-clause-ticks
returns-clause-ticks c = tick_end c.args.clock c.loop-i.i c.args.groups.now c.loop-i.groups _ c.loop-i.refused c.loop-i.invariant.0 (omega (arith, c.loop-i-test.false)) (omega (arith, c.loop-i-test.false, c.loop-i.auto.groups))
