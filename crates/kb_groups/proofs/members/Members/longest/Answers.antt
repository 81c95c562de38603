use Rattle.std.proofs.Common.{arith, sym, ◌∙◌, true≢false}
use Rattle.kb_groups.proofs.Longest.{longest_step, longest_end}
use Rattle.kb_groups.proofs.members.Members.longest.Goals as goal
use Rattle.kb_groups.proofs.members.Members.longest.Goals.{in-Some+then-member-longest, in-Some+else-member-longest, in_default}

pub loop-i-preserved : goal.loop-i-preserved
loop-i-preserved c = elim c.match-get_index.branch [
  | in-Some+then-member-longest w ↦ longest_step c.loop-i.i c.self.inside.map.entries _ w.in-Some.member.now c.loop-i.longest c.match-get_index.longest _ c.loop-i.invariant w.in-Some.ensures.entry (omega (arith, w.if-member-longest.true, w.longest-is))
  | in-Some+else-member-longest w ↦ longest_step c.loop-i.i c.self.inside.map.entries _ w.in-Some.member.now c.loop-i.longest c.match-get_index.longest _ c.loop-i.invariant w.in-Some.ensures.entry (omega (arith, w.if-member-longest.false, w.longest-is))
  | in_default w ↦ absurd (true≢false (sym (w.in_default.ensures.found.1 (omega (arith, c.loop-i-test.true, c.len-i-end.ensures.len)))))
]

pub returns : goal.returns
returns c = rw (← c.self.view_is) (sym (longest_end c.loop-i.i c.self.inside.map.entries c.loop-i.longest (omega (arith, c.loop-i-test.false, c.len-i-end.ensures.len))) ∙ c.loop-i.invariant)
