use Rattle.std.proofs.Common.{◌∙◌, IfSome, refl, sym, subst, arith}
use Rattle.kb_node.specs.Closing.{IsClosedUnless, IsUsedOfLate}
use Rattle.kb_node.specs.Cores.{cores}
use Rattle.kb_node.specs.Numbers.{socket_of}
use Rattle.kb_node.proofs.Dealt.{dealt_all, dealt_most, dealt_next, dealt_none}
use Rattle.kb_node.proofs.Goes.{goes_none, goes_then}
use Rattle.kb_node.proofs.edge.Edge.close_idle.Goals as goal

pub loop-init : goal.loop-init
loop-init g c = record {
  commits = refl;
  dealt = dealt_none _ _ _;
  goes = goes_none _;
}

pub loop-preserved : goal.loop-preserved
loop-preserved g c =
    record {
      commits = c.close_unless_used.ensures.commits ∙ c.loop.invariant.commits;
      dealt = dealt_next _ _ c.loop.counter c.in-Some.number c.args.self.now c.loop.self c.close_unless_used.new.self c.loop.invariant.dealt
          (sym c.in-Some.ensures.looked) (subst (λ m. IsClosedUnless c.in-Some.number (IfSome (socket_of c.in-Some.number c.loop.self.sockets.items) (IsUsedOfLate m c.loop.self.clock)) (cores c.loop.self.sockets.items) (cores c.close_unless_used.new.self.sockets.items)) c.take_looked.ensures.idle c.close_unless_used.ensures.unless, c.close_unless_used.ensures.clock);
      goes = goes_then c.loop.invariant.goes c.close_unless_used.ensures.goes;
    }

pub returns-in_default-clause-late : goal.returns-in_default-clause-late
returns-in_default-clause-late g c = dealt_all _ _ _ c.loop.counter _ _ _ _ c.loop.invariant.dealt (sym c.in_default.ensures.looked) refl

pub returns-after-loop-clause-late : goal.returns-after-loop-clause-late
returns-after-loop-clause-late g c = dealt_most _ _ _ c.loop.counter _ _ _ _ c.loop.invariant.dealt (omega (arith, c.loop-test.false)) refl
