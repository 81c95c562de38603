use Rattle.std.proofs.Common.{◌∙◌, refl}
use Rattle.kb_connection.proofs.Reacting.{accepts, logs_in, illegal, denies}
use Rattle.kb_connection.proofs.connection.Connection.react.Goals as goal

pub returns-in_ok-reply-in-Accepts-clause-ok : goal.returns-in_ok-reply-in-Accepts-clause-ok
returns-in_ok-reply-in-Accepts-clause-ok c =
    accepts c.args.setup.now _ _ c.args.self.now _ c.args.head _ _ refl c.in-Accepts.is (c.self.view_is ∙ c.in_ok-reply-in-Accepts.ensures.ok) (c.deref-in-Accepts.ensures.value ∙ c.in_ok-body-in-Accepts.ensures)

pub returns-in_ok-body-in-IllegalState-clause-ok :
    goal.returns-in_ok-body-in-IllegalState-clause-ok
returns-in_ok-body-in-IllegalState-clause-ok c =
    illegal c.args.setup.now _ _ c.args.self.now _ c.args.head _ _ _ refl c.in-IllegalState.is c.new-text.ensures (c.deref-in-IllegalState.ensures.value ∙ c.in_ok-body-in-IllegalState.ensures) c.reply-in-IllegalState.ensures.ok

pub returns-in_ok-reply-in-LogsIn-clause-ok : goal.returns-in_ok-reply-in-LogsIn-clause-ok
returns-in_ok-reply-in-LogsIn-clause-ok c =
    logs_in c.args.setup.now _ _ c.args.self.now _ _ c.args.head _ _ refl c.in-LogsIn.is c.in_ok-reply-in-LogsIn.ensures.ok (c.deref-in-LogsIn.ensures.value ∙ c.in_ok-body-in-LogsIn.ensures) c.bind.ensures

pub returns-in_ok-reply-in-Denies-clause-ok : goal.returns-in_ok-reply-in-Denies-clause-ok
returns-in_ok-reply-in-Denies-clause-ok c =
    denies c.args.setup.now _ _ c.args.self.now _ _ c.args.head _ _ _ refl c.in-Denies.is c.new-text-in-Denies.ensures (c.deref-in-Denies.ensures.value ∙ c.in_ok-body-in-Denies.ensures) c.in_ok-reply-in-Denies.ensures.ok c.deny.ensures
