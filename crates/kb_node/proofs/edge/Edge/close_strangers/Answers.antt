use Rattle.std.proofs.Common.{refl, sym, arith}
use Rattle.kb_node.proofs.Dealt.{dealt_all, dealt_most, dealt_next, dealt_none}
use Rattle.kb_node.proofs.Goes.{goes_none, goes_then}
use Rattle.kb_node.proofs.edge.Edge.close_strangers.Goals as goal

pub loop-init : goal.loop-init
loop-init g c = record {
  dealt = dealt_none _ _ _;
  goes = goes_none _;
}

pub loop-preserved : goal.loop-preserved
loop-preserved g c =
    record {
      dealt = dealt_next _ _ c.loop.counter c.in-Some.number c.args.self.now c.loop.self c.close.new.self c.loop.invariant.dealt
          (sym c.in-Some.ensures) (c.close.ensures.closed, c.close.ensures.strangers, c.close.ensures.clock);
      goes = goes_then c.loop.invariant.goes c.close.ensures.goes;
    }

pub returns-in_default-clause-late : goal.returns-in_default-clause-late
returns-in_default-clause-late g c = dealt_all _ _ _ c.loop.counter _ _ _ _ c.loop.invariant.dealt (sym c.in_default.ensures) refl

pub returns-after-loop-clause-late : goal.returns-after-loop-clause-late
returns-after-loop-clause-late g c = dealt_most _ _ _ c.loop.counter _ _ _ _ c.loop.invariant.dealt (omega (arith, c.loop-test.false)) refl
