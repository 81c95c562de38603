use Rattle.std.proofs.Common.{◌∙◌, ap, arith, length, ◌++◌}
use Rattle.std.proofs.lemmas.Map.Keys.{sorted_tail}
use Rattle.kb_waits.specs.Due.{by_deadline, due_of}
use Rattle.kb_waits.proofs.Due.{due-stop, due-more}
use Rattle.kb_waits.proofs.gather.push_due.Goals as goal

pub returns-then-deadline-clock-clause-pushed : goal.returns-then-deadline-clock-clause-pushed
returns-then-deadline-clock-clause-pushed c =
    due-stop c.args.clock c.in-Some.pair.now c.next.new.self c.loop-pair.pair-iterator c.loop-pair.out.items _ c.in-Some.ensures.steps c.loop-pair.invariant.ordered c.if-deadline-clock.true c.loop-pair.invariant.pushed

pub loop-pair-preserved : goal.loop-pair-preserved
loop-pair-preserved c = record {
  pushed = ap (λ xs. xs ++ due_of c.args.clock c.next.new.self) c.push_reserved.ensures.items ∙ due-more c.args.clock c.in-Some.pair.now c.next.new.self c.loop-pair.pair-iterator c.loop-pair.out.items _ c.in-Some.ensures.steps c.if-deadline-clock.false c.loop-pair.invariant.pushed;
  ordered = sorted_tail by_deadline c.in-Some.pair.now c.next.new.self (rw (← c.in-Some.ensures.steps) c.loop-pair.invariant.ordered);
  room = omega (arith, ap length c.in-Some.ensures.steps);
  capacity = omega arith;
}
