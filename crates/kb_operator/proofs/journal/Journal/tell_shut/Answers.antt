use Rattle.std.proofs.Common.{◌≡◌, ◌∙◌, ap, subst}
use Rattle.std.specs.Prelude.{IfOk, string_bytes}
use Rattle.kb_operator.specs.Logged.{bytes_or_none}
use Rattle.kb_operator.specs.Logins.{name_at, shut_line}
use Rattle.kb_operator.specs.declared.journal.Journal.{Journal}
use Rattle.kb_operator.proofs.Speaks.{speaks_shut}
use Rattle.kb_operator.proofs.journal.Journal.tell_shut.Goals as goal

pub returns : goal.returns
returns g c =
    let old = c.args.self.now in
    let cause = bytes_or_none c.args.cause in
    let others = c.tell_more_shut.ensures.others in
    let line = shut_line c.args.address (name_at old.tenants.items c.args.tenant) cause in
    let named = c.name_at.ensures
    ∙ ap (λ ts. name_at ts c.args.tenant) (c.deref.ensures.value ∙ ap (λ (j : Journal g.row.T.Denot). j.tenants.items) others) in
    let text = subst (λ name. IfOk c.shut_text-text.result (λ t. string_bytes t ≡ shut_line c.args.address name cause)) named c.shut_text-text.ensures in
    speaks_shut g.T.LineLog.logged c.args.now c.args.second line old c.tell_more_shut.new.self
    c.takes.new.self c.tell.new.self c.takes.result c.shut_text-text.result c.if-self.false c.tell_more_shut.ensures.told others
    c.takes.ensures.takes c.if-not-takes.false c.takes.ensures.bucket text c.tell.ensures
