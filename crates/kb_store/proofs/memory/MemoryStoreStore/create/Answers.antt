use Rattle.std.proofs.Common.{[], length, ap}
use Rattle.kb_store.proofs.Seen.{becomes_put}
use Rattle.kb_store.proofs.memory.MemoryStoreStore.create.Goals as goal

pub returns-clause-created : goal.returns-clause-created
returns-clause-created c = becomes_put c.args.self.now.files.entries c.args.file c.insert.new.self.entries c.new.result 0 [] c.in_ok-insert.ensures.updates.0 (ap length c.new.ensures.items) c.new.ensures.items
