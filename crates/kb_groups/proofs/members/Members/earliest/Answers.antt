use Rattle.std.proofs.Common.{◌≡◌, ◌∙◌, min, arith, sym, true≢false}
use Rattle.kb_groups.specs.Moments.{session_end}
use Rattle.kb_groups.proofs.Steps.{earliest_start, earliest_go, earliest_end}
use Rattle.kb_groups.proofs.members.Members.earliest.Goals as goal
use Rattle.kb_groups.proofs.members.Members.earliest.Goals.{in-Some, in_default}

pub loop-i-init : goal.loop-i-init
loop-i-init c = (earliest_start c.self.inside.map.entries, omega arith)

pub loop-i-preserved : goal.loop-i-preserved
loop-i-preserved c = elim c.match-get_index.branch [
  | in-Some w ↦
      let e : c.match-get_index.earliest ≡ min c.loop-i.earliest (session_end w.in-Some.member.now) = w.earliest-is ∙ w.sooner_end-earliest.ensures in
      (earliest_go c.loop-i.i c.self.inside.map.entries _ w.in-Some.member.now c.loop-i.earliest c.match-get_index.earliest _ c.loop-i.invariant.0 w.in-Some.ensures.entry e, omega (arith, e, c.loop-i.invariant.1))
  | in_default w ↦ absurd (true≢false (sym (w.in_default.ensures.found.1 (omega (arith, c.loop-i-test.true, c.len-i-end.ensures.len)))))
]

pub returns : goal.returns
returns c = rw (← c.self.view_is) (earliest_end c.loop-i.i c.self.inside.map.entries c.loop-i.earliest _ c.loop-i.invariant.0 c.loop-i.invariant.1 (omega (arith, c.loop-i-test.false, c.len-i-end.ensures.len)))
