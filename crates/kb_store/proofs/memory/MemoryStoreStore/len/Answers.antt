use Rattle.std.proofs.Common.{◌≡◌, ◌∙◌, length, sym, rules}
use Rattle.kb_store.specs.Disk.{len_of}
use Rattle.kb_store.specs.Memory.{memory_disk}
use Rattle.kb_store.proofs.Seen.{kept_len, is_not_gone}
use Rattle.kb_store.proofs.memory.MemoryStoreStore.len.Goals as goal

pub unreachable-requires : goal.unreachable-requires
unreachable-requires c = is_not_gone c.args.self.now.files.entries c.args.file c.requires c.in-None.ensures.value

pub returns-clause-len : goal.returns-clause-len
returns-clause-len c =
    let had : len_of (memory_disk c.args.self.now.files.entries) c.args.file ≡ length c.in-Some.bytes.now.items = kept_len c.args.self.now.files.entries c.args.file c.in-Some.bytes.now (sym c.in-Some.ensures.value) in
    let len : c.len.result ≡ length c.in-Some.bytes.now.items = search rules in
    len ∙ sym had
