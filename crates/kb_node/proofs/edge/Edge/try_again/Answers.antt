use Rattle.std.proofs.Common.{refl, sym, arith}
use Rattle.kb_node.proofs.Dealt.{dealt_all, dealt_most, dealt_next, dealt_none}
use Rattle.kb_node.proofs.Goes.{goes_none, goes_then}
use Rattle.kb_node.proofs.edge.Edge.try_again.Goals as goal

pub loop-init : goal.loop-init
loop-init g c = record {
  dealt = dealt_none _ _ _;
  goes = goes_none _;
}

pub loop-preserved : goal.loop-preserved
loop-preserved g c =
    record {
      dealt = dealt_next _ _ c.loop.counter c.in-Some.number c.args.self.now c.loop.self c.write_again.new.self c.loop.invariant.dealt
          (sym c.in-Some.ensures.untried) (c.write_again.ensures.alone, c.write_again.ensures.clock);
      goes = goes_then c.loop.invariant.goes c.write_again.ensures.goes;
    }

pub returns-in_default-clause-tried : goal.returns-in_default-clause-tried
returns-in_default-clause-tried g c = dealt_all _ _ _ c.loop.counter _ _ _ _ c.loop.invariant.dealt (sym c.in_default.ensures.untried) refl

pub returns-after-loop-clause-tried : goal.returns-after-loop-clause-tried
returns-after-loop-clause-tried g c = dealt_most _ _ _ c.loop.counter _ _ _ _ c.loop.invariant.dealt (omega (arith, c.loop-test.false)) refl
