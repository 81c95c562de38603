use Rattle.kb_operator.specs.Logins.{failed_line}
use Rattle.kb_operator.proofs.Speaks.{speaks_failed}
use Rattle.kb_operator.proofs.journal.Journal.tell_failed.Goals as goal

pub returns : goal.returns
returns g c =
    speaks_failed g.T.LineLog.logged c.args.now c.args.second (failed_line c.args.address c.args.name.now) c.args.self.now c.tell_more_failed.new.self
    c.takes.new.self c.tell.new.self c.takes.result c.failed_text.result c.if-self.false c.tell_more_failed.ensures.told c.tell_more_failed.ensures.others
    c.takes.ensures.takes c.if-not-takes.false c.takes.ensures.bucket c.failed_text.ensures c.tell.ensures
