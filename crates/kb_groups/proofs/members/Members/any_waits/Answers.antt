use Rattle.std.proofs.Common.{arith, sym, true≢false}
use Rattle.kb_groups.proofs.Waiting.{waits_end, waits_go, waits_stop}
use Rattle.kb_groups.proofs.members.Members.any_waits.Goals as goal
use Rattle.kb_groups.proofs.members.Members.any_waits.Goals.{in-Some+else-is_some, in_default}

pub returns-then-is_some : goal.returns-then-is_some
returns-then-is_some c =
    rw (← c.self.view_is) (waits_stop c.loop-i.i c.self.inside.map.entries _ c.in-Some.member.now _ c.loop-i.invariant c.in-Some.ensures.entry c.if-is_some.ensures)

pub loop-i-preserved : goal.loop-i-preserved
loop-i-preserved c = elim c.match-get_index.branch [
  | in-Some+else-is_some w ↦ waits_go c.loop-i.i c.self.inside.map.entries _ w.in-Some.member.now _ c.loop-i.invariant w.in-Some.ensures.entry w.if-is_some.ensures
  | in_default w ↦ absurd (true≢false (sym (w.in_default.ensures.found.1 (omega (arith, c.loop-i-test.true, c.len-i-end.ensures.len)))))
]

pub returns : goal.returns
returns c = rw (← c.self.view_is) (waits_end c.loop-i.i c.self.inside.map.entries _ c.loop-i.invariant (omega (arith, c.loop-i-test.false, c.len-i-end.ensures.len)))
