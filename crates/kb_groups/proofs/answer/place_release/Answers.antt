use Rattle.std.proofs.Common.{arith, sym, ◌∙◌}
use Rattle.kb_groups.proofs.Place.{Below-more, insert_end, insert_here}
use Rattle.kb_groups.proofs.answer.place_release.Goals as goal
use Rattle.kb_groups.proofs.answer.place_release.Goals.{then-loop-at-test+else-index-release, else-loop-at-test}

pub loop-at-preserved : goal.loop-at-preserved
loop-at-preserved c = (grind arith, Below-more _ _ _ _ c.loop-at.invariant.1 (sym c.index.ensures) c.if-index-release.true)

pub returns : goal.returns
returns c = c.in_ok-insert.ensures.items ∙ elim c.loop-at-test.branch [
  | then-loop-at-test+else-index-release w ↦ insert_here c.args.release c.loop-at.at c.args.out.now.items w.index.result.now c.loop-at.invariant.1 (sym w.index.ensures) w.if-index-release.false
  | else-loop-at-test w ↦ insert_end c.args.release c.loop-at.at c.args.out.now.items c.loop-at.invariant.1 (grind arith)
]
