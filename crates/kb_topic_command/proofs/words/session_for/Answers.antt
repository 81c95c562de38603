use Rattle.std.proofs.Common.{◌∙◌, inl, inr}
use Rattle.clap.specs.Words.{found_of, rows_of}
use Rattle.kb_topic_command.specs.Words.{IsLong, IsWrong, IsWrongTask}
use Rattle.kb_topic_command.proofs.Said.{asks_by, long_is, words_weaker}
use Rattle.kb_topic_command.proofs.words.session_for.Goals as goal

pub returns-in_err-task-clause-fault : goal.returns-in_err-task-clause-fault
returns-in_err-task-clause-fault c =
    let verb = c.args.verb.now in
    let rows = rows_of (found_of c.args.found.now) in
    words_weaker (IsWrongTask verb rows) (IsWrong verb rows) _ c.from_residual.result c.from_residual.ensures.1 (λ m h. inl h) c.in_err-task.ensures.fault

pub returns-in_err-user-clause-fault : goal.returns-in_err-user-clause-fault
returns-in_err-user-clause-fault c =
    let rows = rows_of (found_of c.args.found.now) in
    words_weaker (IsLong c.value.result.now) (IsWrong c.args.verb.now rows) _ c.from_residual-in_err-user.result c.from_residual-in_err-user.ensures.1
    (λ m h. inr (inl (long_is _ _ m c.value.ensures h))) c.in_err-user.ensures.fault

pub returns-in_err-password-clause-fault : goal.returns-in_err-password-clause-fault
returns-in_err-password-clause-fault c =
    let rows = rows_of (found_of c.args.found.now) in
    words_weaker (IsLong c.value-2.result.now) (IsWrong c.args.verb.now rows) _ c.from_residual-in_err-password.result
    c.from_residual-in_err-password.ensures.1 (λ m h. inr (inr (long_is _ _ m c.value-2.ensures h))) c.in_err-password.ensures.fault

pub returns-clause-session : goal.returns-clause-session
returns-clause-session c =
    asks_by c.args.verb.now (rows_of (found_of c.args.found.now)) c.new.result c.in_ok-user.user c.in_ok-password.password c.in_ok-task.task
    c.in_ok-task.ensures.task c.new.ensures (c.in_ok-user.ensures.short ∙ c.value.ensures) (c.in_ok-password.ensures.short ∙ c.value-2.ensures)
