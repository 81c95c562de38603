use Rattle.std.proofs.Common.{◌≡◌, ◌∙◌, ◌∷◌, [], ap, append-nil, append_assoc, arith, length, subst, sym}
use Rattle.std.specs.Vec.Iter.{into_iter_items}
use Rattle.kb_operator.specs.Logged.{Grows, lines_at}
use Rattle.kb_operator.specs.Report.{bytes_of_each}
use Rattle.kb_operator.proofs.Made.{no_items, told_more}
use Rattle.kb_operator.proofs.lines.tell_each.Goals as goal

pub loop-text-preserved : goal.loop-text-preserved
loop-text-preserved g c =
    let at = c.loop-text in
    let i = at.invariant in
    let text = c.in-Some.text in
    let steps : into_iter_items at.text-iterator ≡ text ∷ into_iter_items c.next.new.self = c.in-Some.ensures.steps.0 in
    record {
      all = append_assoc at.yielded (text ∷ []) _ ∙ rw (← steps) i.all;
      told = told_more c.args.now at.yielded text _ _ _ i.told c.tell.ensures;
      left =
          let was = i.left in
          let gone = c.in-Some.ensures.steps.1 in
          let short = ap length steps in
          omega arith;
    }

pub returns : goal.returns
returns g c =
    let at = c.loop-text in
    let i = at.invariant in
    let empty : into_iter_items at.text-iterator ≡ [] = no_items _ (sym i.left ∙ c.in-None.ensures.steps.0) in
    let all = sym (append-nil at.yielded) ∙ rw empty at i.all ∙ c.into_iter-text-iterator.ensures.into_iter_gives.0 in
    subst (λ ts. Grows (g.T.LineLog.logged c.args.lines.now) (g.T.LineLog.logged at.lines) (lines_at c.args.now (bytes_of_each ts))) all i.told
