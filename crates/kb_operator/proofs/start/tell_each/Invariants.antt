use Rattle.std.proofs.Common.{map, take}
use Rattle.kb_operator.specs.Logged.{TellsBare}
use Rattle.kb_operator.specs.Texts.{loss_line}
use Rattle.kb_operator.proofs.start.tell_each.Given as goal

-- the files so far are told of
abbrev pub invariant-loop-loss : goal.invariant-loop-loss
invariant-loop-loss g l =
    TellsBare (map (loss_line l.path) (take l.loss-index l.losses)) (g.T.LineLog.logged l.fn.lines) (g.T.LineLog.logged l.lines)
