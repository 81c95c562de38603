use Rattle.std.proofs.Common.{subst}
use Rattle.kb_broker.specs.Hosts.{is_honest}
use Rattle.kb_broker.proofs.Honest.{state-is, store-is}
use Rattle.kb_broker.proofs.ScriptEvents.{on-any, closes-silently}
use Rattle.kb_broker.proofs.script.close.Goals as goal

pub returns-clause-ok : goal.returns-clause-ok
returns-clause-ok g c honest =
    let old = c.args.broker.now in
    let new = c.disconnect.new.self in
    let was : is_honest g.S.Store.disk old = subst (λ s. (g.S.Store.disk s).honest) (store-is _ _ c.disconnect.ensures.state) honest in
    on-any c.calm.result _ (closes-silently old.state new.state c.args.connection (c.requires.ready was) (c.requires.quiet was) (c.requires.calm was) (state-is _ _ c.disconnect.ensures.state))
