use Rattle.std.proofs.Common.{arith, sym, true≢false}
use Rattle.kb_groups.proofs.Steps.{all_join_stop, all_join_go, all_join_end}
use Rattle.kb_groups.proofs.members.Members.all_join.Goals as goal
use Rattle.kb_groups.proofs.members.Members.all_join.Goals.{in-Some+else-not-waits_join, in_default}

pub returns-then-not-waits_join : goal.returns-then-not-waits_join
returns-then-not-waits_join c =
    rw (← c.self.view_is) (all_join_stop c.loop-i.i c.self.inside.map.entries _ c.in-Some.member.now _ c.loop-i.invariant c.in-Some.ensures.entry c.if-not-waits_join.ensures)

pub loop-i-preserved : goal.loop-i-preserved
loop-i-preserved c = elim c.match-get_index.branch [
  | in-Some+else-not-waits_join w ↦ all_join_go c.loop-i.i c.self.inside.map.entries _ w.in-Some.member.now _ c.loop-i.invariant w.in-Some.ensures.entry w.if-not-waits_join.ensures
  | in_default w ↦ absurd (true≢false (sym (w.in_default.ensures.found.1 (omega (arith, c.loop-i-test.true, c.len-i-end.ensures.len)))))
]

pub returns : goal.returns
returns c = rw (← c.self.view_is) (all_join_end c.loop-i.i c.self.inside.map.entries _ c.loop-i.invariant (omega (arith, c.loop-i-test.false, c.len-i-end.ensures.len)))
