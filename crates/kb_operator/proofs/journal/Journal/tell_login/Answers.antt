use Rattle.std.proofs.Common.{◌∙◌, ap}
use Rattle.kb_operator.specs.Known.{known_account}
use Rattle.kb_operator.specs.declared.journal.Journal.{Journal}
use Rattle.kb_operator.proofs.Speaks.{speaks_login, user_is}
use Rattle.kb_operator.proofs.journal.Journal.tell_login.Goals as goal

pub returns : goal.returns
returns g c =
    let old = c.args.self.now in
    let mid = c.tell_more_logins.new.self in
    let user = c.in-Some.user.now in
    let others = c.tell_more_logins.ensures.others in
    let at = user_is old.users.items c.deref.result.now c.args.place user c.in-Some.ensures.lookup.3.0 c.in-Some.ensures.lookup.1
    (c.deref.ensures.value ∙ ap (λ (j : Journal g.row.T.Denot). j.users.items) others) in
    speaks_login g.T.LineLog.logged c.args.now c.args.address c.args.place c.args.second (known_account user) old mid
    c.takes.new.self c.tell.new.self c.takes.result c.login_text.result at c.if-self.false c.tell_more_logins.ensures.told others
    c.takes.ensures.takes c.if-not-takes.false c.takes.ensures.bucket c.login_text.ensures c.tell.ensures
