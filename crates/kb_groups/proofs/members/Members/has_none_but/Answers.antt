use Rattle.std.proofs.Common.{arith, sym, true≢false}
use Rattle.kb_groups.proofs.ChoiceSteps.{none_but_stop, none_but_go, none_but_end}
use Rattle.kb_groups.proofs.members.Members.has_none_but.Goals as goal
use Rattle.kb_groups.proofs.members.Members.has_none_but.Goals.{in-Some+else-not-is_that, in_default}

pub returns-then-not-is_that : goal.returns-then-not-is_that
returns-then-not-is_that c =
    rw (← c.self.view_is) (none_but_stop c.args.but c.loop-i.i c.self.inside.map.entries c.in-Some.number.now _ _ c.loop-i.invariant c.in-Some.ensures.entry c.if-not-is_that.ensures)

pub loop-i-preserved : goal.loop-i-preserved
loop-i-preserved c = elim c.match-get_index.branch [
  | in-Some+else-not-is_that w ↦ none_but_go c.args.but c.loop-i.i c.self.inside.map.entries w.in-Some.number.now _ _ c.loop-i.invariant w.in-Some.ensures.entry w.if-not-is_that.ensures
  | in_default w ↦ absurd (true≢false (sym (w.in_default.ensures.found.1 (omega (arith, c.loop-i-test.true, c.len-i-end.ensures.len)))))
]

pub returns : goal.returns
returns c = rw (← c.self.view_is) (none_but_end c.args.but c.loop-i.i c.self.inside.map.entries _ c.loop-i.invariant (omega (arith, c.loop-i-test.false, c.len-i-end.ensures.len)))
