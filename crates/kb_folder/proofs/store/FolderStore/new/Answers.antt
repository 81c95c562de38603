use Rattle.kb_folder.proofs.Goes.{goes_same}
use Rattle.kb_folder.proofs.store.FolderStore.new.Goals as goal

pub returns-clause-loss : goal.returns-clause-loss
returns-clause-loss g c =
    goes_same (g.F.Folder.loss c.args.folder) (g.F.Folder.loss c.names.new.self) (g.F.Folder.loss c.lens_in.new.folder) c.names.ensures.loss c.lens_in.ensures.loss
