use Rattle.std.proofs.Common.{◌∙◌, Err, Ok, refl}
use Rattle.std.proofs.KnownBytes.{Consumes-nil}
use Rattle.kb_topic_command.specs.Exchange.{Answers, FailsAt, Waits}
use Rattle.kb_topic_command.proofs.Going.{goes_first, goes_turn, answers_last, waits_first, waits_goes, fails_weaker, fails_memory}
use Rattle.kb_topic_command.proofs.exchange.exchange.Goals as goal

pub returns-in_err-buffer-clause-fault : goal.returns-in_err-buffer-clause-fault
returns-in_err-buffer-clause-fault g c =
    let r = g.R.Read.remaining c.args.reader.now in
    let w = g.W.Write.contents c.args.writer.now in
    fails_memory (λ f. Answers c.args.session.now (Err f) r r w w) (Waits c.args.session.now r r) c.from_residual.result c.from_residual.ensures.1

pub returns-in_err-send-clause-fault : goal.returns-in_err-send-clause-fault
returns-in_err-send-clause-fault g c =
    let r = g.R.Read.remaining c.args.reader.now in
    let w = g.W.Write.contents c.args.writer.now in
    let s = c.args.session.now in
    fails_weaker (λ _. ⊥) (λ f. Answers s (Err f) r r w (g.W.Write.contents c.send.new.writer)) (Unit {0}) (Waits s r r) _
    c.from_residual-in_err-send.result c.from_residual-in_err-send.ensures.1 (λ f b. absurd b) (λ _. waits_first s r r (Consumes-nil r)) c.in_err-send.ensures.fault

pub loop-init : goal.loop-init
loop-init g c = record {
  goes = goes_first c.args.session.now (g.R.Read.remaining c.args.reader.now) (g.W.Write.contents c.args.writer.now) (g.W.Write.contents c.send.new.writer) c.in_ok-send.ensures.sent;
  task = refl;
}

pub returns-in_err-answer-clause-fault : goal.returns-in_err-answer-clause-fault
returns-in_err-answer-clause-fault g c =
    let s = c.args.session.now in
    let on = c.turn.new.session in
    let r = g.R.Read.remaining c.args.reader.now in
    let r1 = g.R.Read.remaining c.loop.reader in
    let r2 = g.R.Read.remaining c.turn.new.reader in
    let w = g.W.Write.contents c.args.writer.now in
    let w1 = g.W.Write.contents c.loop.writer in
    let w2 = g.W.Write.contents c.turn.new.writer in
    fails_weaker (λ f. FailsAt c.loop.session f r1 r2 w1 w2 on) (λ f. Answers s (Err f) r r2 w w2) (Waits c.loop.session r1 r2) (Waits s r r2) _
    c.from_residual-in_err-answer.result
    c.from_residual-in_err-answer.ensures.1
    (λ f h. answers_last s c.loop.session on (Err f) r r1 r2 w w1 w2 c.loop.invariant.goes h.0 h.1)
    (waits_goes s c.loop.session r r1 r2 w w1 c.loop.invariant.goes) c.in_err-answer.ensures.fault

pub returns-in_err-answer-clause-task : goal.returns-in_err-answer-clause-task
returns-in_err-answer-clause-task g c = c.in_err-answer.ensures.task ∙ c.loop.invariant.task

pub returns-in-Some-clause-answer : goal.returns-in-Some-clause-answer
returns-in-Some-clause-answer g c =
    let h = rw c.in-Some.is at c.in_ok-answer.ensures.turn in (
      h.0,
      answers_last c.args.session.now c.loop.session c.turn.new.session (Ok c.in-Some.heard) (g.R.Read.remaining c.args.reader.now)
          (g.R.Read.remaining c.loop.reader) (g.R.Read.remaining c.turn.new.reader) (g.W.Write.contents c.args.writer.now)
          (g.W.Write.contents c.loop.writer) (g.W.Write.contents c.turn.new.writer) c.loop.invariant.goes h.1 h.2,
    )

pub returns-in-Some-clause-task : goal.returns-in-Some-clause-task
returns-in-Some-clause-task g c = c.in_ok-answer.ensures.task ∙ c.loop.invariant.task

pub loop-preserved : goal.loop-preserved
loop-preserved g c = record {
  goes = goes_turn c.args.session.now c.loop.session c.turn.new.session (g.R.Read.remaining c.args.reader.now)
      (g.R.Read.remaining c.loop.reader) (g.R.Read.remaining c.turn.new.reader) (g.W.Write.contents c.args.writer.now)
      (g.W.Write.contents c.loop.writer) (g.W.Write.contents c.turn.new.writer) c.loop.invariant.goes
      (rw c.in-None.is at c.in_ok-answer.ensures.turn);
  task = c.in_ok-answer.ensures.task ∙ c.loop.invariant.task;
}
