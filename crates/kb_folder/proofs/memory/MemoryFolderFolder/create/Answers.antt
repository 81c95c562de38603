use Rattle.std.proofs.Common.{[]}
use Rattle.kb_folder.proofs.Held.{turns_put}
use Rattle.kb_folder.proofs.memory.MemoryFolderFolder.create.Goals as goal

pub returns-clause-created : goal.returns-clause-created
returns-clause-created c = turns_put c.args.self.now.files.entries c.args.file c.insert.new.self.entries c.new.result [] c.in_ok-insert.ensures.updates.0 c.new.ensures.items
