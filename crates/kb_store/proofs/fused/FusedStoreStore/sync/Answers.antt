use Rattle.std.proofs.Common.{ap}
use Rattle.kb_store.specs.LossLaws.{same_cleared, same_read}
use Rattle.kb_store.proofs.fused.FusedStoreStore.sync.Goals as goal

pub returns-then-refuses-clause-loss : goal.returns-then-refuses-clause-loss
returns-then-refuses-clause-loss g c =
    same_cleared g.S.Store.loss (g.S.Store.disk c.args.self.now.store).table c.args.self.now.store c.refuses.new.self.store (ap (λ s. s.store) c.refuses.ensures.counted)

pub returns-then-refuses-clause-prompt : goal.returns-then-refuses-clause-prompt
returns-then-refuses-clause-prompt g c _ =
    same_read g.S.Store.loss c.args.self.now.store c.refuses.new.self.store (ap (λ s. s.store) c.refuses.ensures.counted)
