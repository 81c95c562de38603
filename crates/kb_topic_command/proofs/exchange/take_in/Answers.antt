use Rattle.std.proofs.Common.{Err, []}
use Rattle.std.specs.Io.KnownBytes.{Consumes}
use Rattle.kb_topic_command.specs.Exchange.{Receives}
use Rattle.kb_topic_command.proofs.Going.{hears_ok, fails_silent, fails_heard}
use Rattle.kb_topic_command.proofs.exchange.take_in.Goals as goal

pub returns-in_err-n-clause-fault : goal.returns-in_err-n-clause-fault
returns-in_err-n-clause-fault g c =
    let s = c.args.session.now in
    let r = g.R.Read.remaining c.args.reader.now in
    let r1 = g.R.Read.remaining c.receive.new.reader in
    fails_silent (λ f. Receives s (Err f) r r1 s) (Consumes r r1 []) _ c.from_residual.result c.in_err-n.ensures.fault.0 c.in_err-n.ensures.fault.1
    c.from_residual.ensures.1

pub returns-in_err-input-clause-fault : goal.returns-in_err-input-clause-fault
returns-in_err-input-clause-fault g c =
    fails_heard c.args.session.now c.input.new.self _ _ c.from_residual-in_err-input.result (g.R.Read.remaining c.args.reader.now)
    (g.R.Read.remaining c.receive.new.reader) _ c.from_residual-in_err-input.ensures.1 c.in_err-input.ensures.answer c.in_err-input.ensures.moved
    c.in_ok-n.ensures.came

pub returns-clause-heard : goal.returns-clause-heard
returns-clause-heard g c =
    hears_ok c.args.session.now c.input.new.self _ _ (g.R.Read.remaining c.args.reader.now) (g.R.Read.remaining c.receive.new.reader)
    c.in_ok-input.ensures.answer c.in_ok-input.ensures.moved c.in_ok-n.ensures.came
