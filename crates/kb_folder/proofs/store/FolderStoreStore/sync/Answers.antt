use Rattle.std.proofs.Common.{subst}
use Rattle.kb_store.specs.Loss.{Goes, Same}
use Rattle.kb_folder.proofs.Goes.{clears_same}
use Rattle.kb_folder.specs.Store.{table_of}
use Rattle.kb_folder.proofs.store.FolderStoreStore.sync.Goals as goal

pub returns-in-Ok-clause-loss : goal.returns-in-Ok-clause-loss
returns-in-Ok-clause-loss g c = clears_same (table_of c.args.self.now.lens) (g.F.Folder.loss c.args.self.now.folder) (g.F.Folder.loss c.sync.new.self) (subst (λ v. Goes Same (g.F.Folder.loss v.folder) (g.F.Folder.loss c.sync.new.self)) c.self.view_is c.sync.ensures.loss)

pub returns-in-Err-clause-loss : goal.returns-in-Err-clause-loss
returns-in-Err-clause-loss g c = clears_same (table_of c.args.self.now.lens) (g.F.Folder.loss c.args.self.now.folder) (g.F.Folder.loss c.sync.new.self) (subst (λ v. Goes Same (g.F.Folder.loss v.folder) (g.F.Folder.loss c.sync.new.self)) c.self.view_is c.sync.ensures.loss)
