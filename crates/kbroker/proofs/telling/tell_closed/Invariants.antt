use Rattle.std.proofs.Common.{take}
use Rattle.kb_node.specs.Traffic.{Along}
use Rattle.kbroker.specs.Telling.{TellsShutOne}
use Rattle.kbroker.proofs.telling.tell_closed.Given as goal

-- those so far are told, one behind the other
abbrev pub invariant-loop-closed : goal.invariant-loop-closed
invariant-loop-closed g l =
    Along (TellsShutOne g.T.LineLog.logged l.now l.second l.request_bytes) (take l.closed-index l.connections) l.fn.journal l.journal
