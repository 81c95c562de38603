use Rattle.std.proofs.Common.{◌<◌, ap, ◌∙◌, arith, length}
use Rattle.kb_groups.specs.Rebalance.{Step}
use Rattle.kb_groups.specs.Moments.{expired}
use Rattle.kb_groups.proofs.Steps.{expired_go, expired_end, at_index}
use Rattle.kb_groups.proofs.state.State.expire.Goals as goal

pub loop-i-preserved : goal.loop-i-preserved
loop-i-preserved c =
    let within : c.loop-i.i < length c.in_ok-numbers.numbers.items = omega arith in
    expired_go c.args.clock c.loop-i.i c.in_ok-numbers.numbers.items c.index.result.now (record { group = c.loop-i.self; released = c.loop-i.out.items }) _ _ c.loop-i.invariant (at_index c.in_ok-numbers.numbers.items c.loop-i.i c.index.result.now within c.index.ensures) c.in_ok-expire_one.ensures

pub returns : goal.returns
returns c =
    let s : Step = record { group = c.args.self.now; released = c.args.out.now.items } in
    expired_end c.args.clock c.loop-i.i c.in_ok-numbers.numbers.items _ _ c.loop-i.invariant (omega arith) ∙ ap (λ ns. expired c.args.clock ns s) c.in_ok-numbers.ensures
