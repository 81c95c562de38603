use Rattle.std.proofs.Common.{arith, sym, ◌∙◌, ap, true≢false}
use Rattle.kb_groups.proofs.Place.{answers_step, answers_end}
use Rattle.kb_groups.proofs.members.Members.answer.Goals as goal
use Rattle.kb_groups.proofs.members.Members.answer.Goals.{in-Some+in_ok-answer_one, in_default}

pub loop-i-preserved : goal.loop-i-preserved
loop-i-preserved g c = elim c.match-get_index.branch [
  | in-Some+in_ok-answer_one w ↦ answers_step (g.A.Answer.reply c.args.how.now) c.loop-i.i c.self.inside.map.entries w.in-Some.number.now w.in-Some.member.now c.loop-i.out.items c.match-get_index.out.items _ c.loop-i.invariant w.in-Some.ensures.entry (ap (λ o. o.items) w.out-is ∙ w.in_ok-answer_one.ensures)
  | in_default w ↦ absurd (true≢false (sym (w.in_default.ensures.found.1 (omega (arith, c.loop-i-test.true, c.len-i-end.ensures.len)))))
]

pub returns : goal.returns
returns g c = rw (← c.self.view_is) (sym (answers_end (g.A.Answer.reply c.args.how.now) c.loop-i.i c.self.inside.map.entries c.loop-i.out.items (omega (arith, c.loop-i-test.false, c.len-i-end.ensures.len))) ∙ c.loop-i.invariant)
