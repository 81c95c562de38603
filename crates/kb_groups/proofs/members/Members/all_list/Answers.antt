use Rattle.std.proofs.Common.{arith, sym, true≢false}
use Rattle.kb_groups.proofs.ChoiceSteps.{all_list_stop, all_list_go, all_list_end}
use Rattle.kb_groups.proofs.members.Members.all_list.Goals as goal
use Rattle.kb_groups.proofs.members.Members.all_list.Goals.{in-Some+else-not-passes, in_default}

pub returns-then-not-passes : goal.returns-then-not-passes
returns-then-not-passes c =
    rw (← c.self.view_is) (all_list_stop c.args.but c.loop-i.i c.self.inside.map.entries c.in-Some.number.now c.in-Some.member.now c.args.name.now _ c.loop-i.invariant c.in-Some.ensures.entry c.if-not-passes.ensures)

pub loop-i-preserved : goal.loop-i-preserved
loop-i-preserved c = elim c.match-get_index.branch [
  | in-Some+else-not-passes w ↦ all_list_go c.args.but c.loop-i.i c.self.inside.map.entries w.in-Some.number.now w.in-Some.member.now c.args.name.now _ c.loop-i.invariant w.in-Some.ensures.entry w.if-not-passes.ensures
  | in_default w ↦ absurd (true≢false (sym (w.in_default.ensures.found.1 (omega (arith, c.loop-i-test.true, c.len-i-end.ensures.len)))))
]

pub returns : goal.returns
returns c = rw (← c.self.view_is) (all_list_end c.args.but c.loop-i.i c.self.inside.map.entries c.args.name.now _ c.loop-i.invariant (omega (arith, c.loop-i-test.false, c.len-i-end.ensures.len)))
