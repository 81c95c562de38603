use Rattle.std.proofs.Common.{◌≡◌, drop}
use Rattle.kb_groups.specs.Answers.{answers}
use Rattle.kb_groups.proofs.members.Members.answer.Given as goal

-- What is left answers the same.
abbrev pub invariant-loop-i : goal.invariant-loop-i
invariant-loop-i g l = answers (g.A.Answer.reply l.how) (drop l.i l.self-inside.map.entries) l.out.items ≡ answers (g.A.Answer.reply l.how) l.self-inside.map.entries l.initial.out.items
