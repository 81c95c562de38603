use Rattle.std.proofs.Common.{◌∙◌, ap, refl, sym, arith}
use Rattle.kb_node.specs.Deadlines.{patience, stalled}
use Rattle.kb_node.proofs.Dealt.{dealt_all, dealt_most, dealt_next, dealt_none}
use Rattle.kb_node.proofs.Goes.{goes_none, goes_then}
use Rattle.kb_node.proofs.edge.Edge.make_way.Goals as goal

pub loop-init : goal.loop-init
loop-init g c = record {
  dealt = dealt_none _ _ _;
  goes = goes_none _;
}

pub loop-preserved : goal.loop-preserved
loop-preserved g c =
    let b = c.loop.self in
    let patient = ap (λ m. stalled c.args.holder b.clock m b.silences.stalls.moments) (sym (c.patience-millis.ensures ∙ ap (λ o. patience o b.reply_millis) c.is_open.ensures.open)) in
    record {
      dealt = dealt_next _ _ c.loop.counter c.in-Some.number c.args.self.now c.loop.self c.close_stalling.new.self c.loop.invariant.dealt
          (patient ∙ sym c.in-Some.ensures) (c.close_stalling.ensures.unless, c.close_stalling.ensures.clock);
      goes = goes_then c.loop.invariant.goes c.close_stalling.ensures.goes;
    }

pub returns-in_default-clause-late : goal.returns-in_default-clause-late
returns-in_default-clause-late g c = let b = c.loop.self in let patient = ap (λ m. stalled c.args.holder b.clock m b.silences.stalls.moments) (sym (c.patience-millis.ensures ∙ ap (λ o. patience o b.reply_millis) c.is_open.ensures.open)) in dealt_all _ _ _ c.loop.counter _ _ _ _ c.loop.invariant.dealt (patient ∙ sym c.in_default.ensures) refl

pub returns-after-loop-clause-late : goal.returns-after-loop-clause-late
returns-after-loop-clause-late g c = dealt_most _ _ _ c.loop.counter _ _ _ _ c.loop.invariant.dealt (omega (arith, c.loop-test.false)) refl
