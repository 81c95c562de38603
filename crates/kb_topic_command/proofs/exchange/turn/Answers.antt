use Rattle.std.proofs.Common.{Err, [], refl}
use Rattle.std.specs.Io.KnownBytes.{Consumes}
use Rattle.kb_topic_command.specs.Exchange.{Receives, FailsAt, Waits}
use Rattle.kb_topic_command.proofs.Going.{steps_more, steps_next, waits_first, waits_next, fails_weaker}
use Rattle.kb_topic_command.proofs.exchange.turn.Goals as goal

pub returns-in_err-heard-clause-fault : goal.returns-in_err-heard-clause-fault
returns-in_err-heard-clause-fault g c =
    let s = c.args.session.now in
    let on = c.take_in.new.session in
    let r = g.R.Read.remaining c.args.reader.now in
    let r1 = g.R.Read.remaining c.take_in.new.reader in
    let w = g.W.Write.contents c.args.writer.now in
    fails_weaker (λ f. Receives s (Err f) r r1 on) (λ f. FailsAt s f r r1 w w on) (Consumes r r1 []) (Waits s r r1) _ c.from_residual.result
    c.from_residual.ensures.1 (λ f h. (h, refl)) (waits_first s r r1) c.in_err-heard.ensures.fault

pub returns-in-More-clause-turn : goal.returns-in-More-clause-turn
returns-in-More-clause-turn g c =
    steps_more c.args.session.now c.take_in.new.session (g.R.Read.remaining c.args.reader.now) (g.R.Read.remaining c.take_in.new.reader)
    (g.W.Write.contents c.args.writer.now) (rw c.in-More.is at c.in_ok-heard.ensures.heard)

pub returns-in_err-send-in-Next-clause-fault : goal.returns-in_err-send-in-Next-clause-fault
returns-in_err-send-in-Next-clause-fault g c =
    let r = g.R.Read.remaining c.args.reader.now in
    let r1 = g.R.Read.remaining c.take_in.new.reader in
    let w = g.W.Write.contents c.args.writer.now in
    let s = c.args.session.now in
    let on = c.take_in.new.session in
    fails_weaker (λ _. ⊥) (λ f. FailsAt s f r r1 w (g.W.Write.contents c.send.new.writer) on) (Unit {0}) (Waits s r r1) _
    c.from_residual-in_err-send-in-Next.result c.from_residual-in_err-send-in-Next.ensures.1 (λ f b. absurd b)
    (λ _. waits_next s on r r1 (rw c.in-Next.is at c.in_ok-heard.ensures.heard)) c.in_err-send-in-Next.ensures.fault

pub returns-in_ok-send-in-Next-clause-turn : goal.returns-in_ok-send-in-Next-clause-turn
returns-in_ok-send-in-Next-clause-turn g c =
    steps_next c.args.session.now c.take_in.new.session (g.R.Read.remaining c.args.reader.now) (g.R.Read.remaining c.take_in.new.reader)
    (g.W.Write.contents c.args.writer.now) (g.W.Write.contents c.send.new.writer) (rw c.in-Next.is at c.in_ok-heard.ensures.heard)
    c.in_ok-send-in-Next.ensures.sent

pub returns-in-Done-clause-turn : goal.returns-in-Done-clause-turn
returns-in-Done-clause-turn g c = (tt, rw c.in-Done.is at c.in_ok-heard.ensures.heard, refl)

pub returns-in-Topics-clause-turn : goal.returns-in-Topics-clause-turn
returns-in-Topics-clause-turn g c = (tt, rw c.in-Topics.is at c.in_ok-heard.ensures.heard, refl)
