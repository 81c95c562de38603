use Rattle.kb_folder.proofs.Held.{turns_removed}
use Rattle.kb_folder.proofs.memory.MemoryFolderFolder.remove.Goals as goal

pub returns-clause-removed : goal.returns-clause-removed
returns-clause-removed c = turns_removed c.args.self.now.files.entries c.args.file c.remove.new.self.entries c.remove.ensures.updates.0
