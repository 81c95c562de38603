use Rattle.clap.specs.Words.{found_of, rows_of}
use Rattle.kb_topic_command.proofs.Asked.{connection_tells, prints_for, tells_for, unprinted_same, words_tell}
use Rattle.kb_topic_command.proofs.topic_for.Goals as goal

pub returns-in_err-session-clause-fault : goal.returns-in_err-session-clause-fault
returns-in_err-session-clause-fault g c =
    words_tell c.from_residual.result _ c.args.verb.now (rows_of (found_of c.args.found.now)) c.from_residual.ensures.1 c.in_err-session.ensures.fault

pub returns-in_err-session-clause-unprinted : goal.returns-in_err-session-clause-unprinted
returns-in_err-session-clause-unprinted g c = unprinted_same c.from_residual.result (g.P.Write.contents c.args.printer.now)

pub returns-in_err-stream-clause-fault : goal.returns-in_err-stream-clause-fault
returns-in_err-stream-clause-fault g c =
    connection_tells c.from_residual-in_err-stream.result _ c.args.verb.now c.value.result.now (rows_of (found_of c.args.found.now))
    c.in_ok-session.session c.in_ok-session.ensures.session c.from_residual-in_err-stream.ensures.1 c.value.ensures c.in_err-stream.ensures

pub returns-in_err-stream-clause-unprinted : goal.returns-in_err-stream-clause-unprinted
returns-in_err-stream-clause-unprinted g c = unprinted_same c.from_residual-in_err-stream.result (g.P.Write.contents c.args.printer.now)

pub returns-clause-printed : goal.returns-clause-printed
returns-clause-printed g c =
    prints_for c.perform.result c.args.verb.now (rows_of (found_of c.args.found.now)) c.in_ok-session.session _ _ _ _
    (g.P.Write.contents c.args.printer.now) (g.P.Write.contents c.perform.new.printer) c.in_ok-session.ensures.session c.perform.ensures.printed

pub returns-clause-fault : goal.returns-clause-fault
returns-clause-fault g c =
    tells_for c.perform.result c.args.verb.now (rows_of (found_of c.args.found.now)) c.in_ok-session.session _ _ _ _ c.in_ok-session.ensures.session
    c.perform.ensures.fault
