use Rattle.std.proofs.Common.{ap}
use Rattle.kb_store.specs.LossLaws.{same_made}
use Rattle.kb_store.proofs.fused.FusedStoreStore.create.Goals as goal

pub returns-else-self-gt0-clause-loss : goal.returns-else-self-gt0-clause-loss
returns-else-self-gt0-clause-loss g c =
    same_made g.S.Store.loss c.args.file c.args.self.now.store c.refuses.new.self.store (ap (λ s. s.store) c.refuses.ensures.counted)
