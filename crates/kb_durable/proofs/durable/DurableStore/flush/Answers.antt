use Rattle.std.proofs.Common.{ap, refl, subst}
use Rattle.kb_store.specs.Loss.{Goes, Same}
use Rattle.kb_store.specs.LossLaws.{same_read, stays_goes}
use Rattle.kb_durable.proofs.durable.DurableStore.flush.Goals as goal

pub returns-then-not-self-clause-loss : goal.returns-then-not-self-clause-loss
returns-then-not-self-clause-loss g c = stays_goes Same (λ f. refl) (g.S.Store.loss c.args.self.now.store)

pub returns-then-not-is_empty-clause-loss : goal.returns-then-not-is_empty-clause-loss
returns-then-not-is_empty-clause-loss g c =
    same_read g.S.Store.loss c.args.self.now.store c.refuse.new.self.store (ap (λ s. s.store) c.refuse.ensures.counted)

pub returns-in_err-sync-clause-loss : goal.returns-in_err-sync-clause-loss
returns-in_err-sync-clause-loss g c =
    let s = c.self.inside.store in
    subst (λ v. Goes Same (g.S.Store.loss v.store) (g.S.Store.loss c.sync.new.self)) c.self.view_is
    (c.in_err-sync.ensures.prompt (g.met.S.Direct.prompt s))

pub returns-clause-loss : goal.returns-clause-loss
returns-clause-loss g c =
    let s = c.self.inside.store in
    subst (λ v. Goes Same (g.S.Store.loss v.store) (g.S.Store.loss c.sync.new.self)) c.self.view_is
    (c.in_ok-sync.ensures.prompt (g.met.S.Direct.prompt s))
