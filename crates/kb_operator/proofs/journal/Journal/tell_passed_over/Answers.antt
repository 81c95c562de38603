use Rattle.kb_operator.proofs.Speaks.{speaks_passed_over}
use Rattle.kb_operator.proofs.journal.Journal.tell_passed_over.Goals as goal

pub returns : goal.returns
returns g c =
    speaks_passed_over g.T.LineLog.logged c.args.now c.args.second c.args.self.now c.tell_more_logins.new.self c.tell_more_failed.new.self
    c.tell_more_shut.new.self c.if-self.false c.tell_more_logins.ensures.told c.tell_more_logins.ensures.others
    c.tell_more_failed.ensures.told c.tell_more_failed.ensures.others c.tell_more_shut.ensures.told c.tell_more_shut.ensures.others
