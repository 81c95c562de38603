use Rattle.std.proofs.Common.{subst}
use Rattle.kb_broker.specs.Hosts.{is_honest}
use Rattle.kb_broker.proofs.ScriptEvents.{opens-silently}
use Rattle.kb_broker.proofs.script.open.Goals as goal

pub returns-in-Ok-clause-ok : goal.returns-in-Ok-clause-ok
returns-in-Ok-clause-ok g c honest =
    let was : is_honest g.S.Store.disk c.args.broker.now = subst (λ s. (g.S.Store.disk s).honest) c.connect.ensures.store honest in
    opens-silently c.args.broker.now.state c.connect.new.self.state c.args.connection (c.requires.ready was) (c.requires.quiet was) (c.requires.calm was) c.requires.above c.in-Ok.ensures.ok
