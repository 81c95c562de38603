use Rattle.std.proofs.Common.{take}
use Rattle.kb_node.specs.Traffic.{Along}
use Rattle.kbroker.specs.Telling.{TellsDenied}
use Rattle.kbroker.proofs.telling.tell_denied.Given as goal

-- those so far are told, one behind the other
abbrev pub invariant-loop-attempt : goal.invariant-loop-attempt
invariant-loop-attempt g l =
    Along (λ a from to. TellsDenied g.T.LineLog.logged l.now l.second a.address a.login from to) (take l.attempt-index l.attempts) l.fn.journal l.journal
