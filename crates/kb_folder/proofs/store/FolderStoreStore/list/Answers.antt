use Rattle.std.proofs.Common.{refl}
use Rattle.kb_store.specs.Loss.{Same}
use Rattle.kb_store.specs.LossLaws.{stays_goes}
use Rattle.kb_folder.proofs.store.FolderStoreStore.list.Goals as goal

pub returns-in_err-numbers_in-clause-loss : goal.returns-in_err-numbers_in-clause-loss
returns-in_err-numbers_in-clause-loss g c = stays_goes Same (λ x. refl) (g.F.Folder.loss c.args.self.now.folder)

pub returns-clause-loss : goal.returns-clause-loss
returns-clause-loss g c = stays_goes Same (λ x. refl) (g.F.Folder.loss c.args.self.now.folder)
