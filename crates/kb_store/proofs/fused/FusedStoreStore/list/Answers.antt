use Rattle.std.proofs.Common.{ap}
use Rattle.kb_store.specs.LossLaws.{same_read}
use Rattle.kb_store.proofs.fused.FusedStoreStore.list.Goals as goal

pub returns-then-refuses-clause-loss : goal.returns-then-refuses-clause-loss
returns-then-refuses-clause-loss g c =
    same_read g.S.Store.loss c.args.self.now.store c.refuses.new.self.store (ap (λ s. s.store) c.refuses.ensures.counted)
