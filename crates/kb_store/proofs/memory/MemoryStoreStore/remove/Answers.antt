use Rattle.kb_store.proofs.Seen.{becomes_removed}
use Rattle.kb_store.proofs.memory.MemoryStoreStore.remove.Goals as goal

pub returns-clause-removed : goal.returns-clause-removed
returns-clause-removed c = becomes_removed c.args.self.now.files.entries c.args.file c.remove.new.self.entries c.remove.ensures.updates.0
