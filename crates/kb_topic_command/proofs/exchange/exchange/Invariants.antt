use Rattle.std.proofs.Common.{◌≡◌}
use Rattle.kb_topic_command.proofs.Going.{Goes}
use Rattle.kb_topic_command.proofs.exchange.exchange.Given as goal

-- the session is on its way, and has its task
abbrev pub invariant-loop : goal.invariant-loop
invariant-loop g l = record {
  goes : Goes l.initial.session (g.R.Read.remaining l.initial.reader) (g.R.Read.remaining l.reader) (g.W.Write.contents l.fn.writer) (g.W.Write.contents l.writer) l.session;
  task : l.session.task ≡ l.initial.session.task;
}
