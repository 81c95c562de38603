use Rattle.std.proofs.Common.{map, take, string_bytes}
use Rattle.kb_operator.specs.Logged.{TellsTexts}
use Rattle.kb_operator.proofs.journal.found.tell_each.Given as goal

-- the texts so far are told
abbrev pub invariant-loop-text : goal.invariant-loop-text
invariant-loop-text g l =
    TellsTexts l.now (map (λ text. string_bytes text) (take l.text-index l.texts)) (g.T.LineLog.logged l.fn.lines) (g.T.LineLog.logged l.lines)
