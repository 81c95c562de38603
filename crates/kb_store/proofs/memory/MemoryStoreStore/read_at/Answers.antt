use Rattle.std.proofs.Common.{◌≡◌, ◌∙◌, length, sym, ap, arith, take, drop}
use Rattle.kb_store.specs.Disk.{len_of, bytes_of}
use Rattle.kb_store.specs.Memory.{memory_disk}
use Rattle.kb_store.proofs.Seen.{kept_len, kept_bytes, is_not_gone}
use Rattle.kb_store.proofs.memory.MemoryStoreStore.read_at.Goals as goal

pub unreachable-requires : goal.unreachable-requires
unreachable-requires c = is_not_gone c.args.self.now.files.entries c.args.file c.requires.there c.in-None.ensures.value

pub copy_part-requires : goal.copy_part-requires
copy_part-requires c =
    let had : len_of (memory_disk c.args.self.now.files.entries) c.args.file ≡ length c.in-Some.kept.now.items = kept_len c.args.self.now.files.entries c.args.file c.in-Some.kept.now (sym c.in-Some.ensures.value) in
    omega (arith, had, c.requires.within, ap length c.deref.ensures.value)

pub returns-clause-bytes : goal.returns-clause-bytes
returns-clause-bytes c = λ h.
    let was : bytes_of (memory_disk c.args.self.now.files.entries) c.args.file ≡ c.in-Some.kept.now.items = kept_bytes c.args.self.now.files.entries c.args.file c.in-Some.kept.now (sym c.in-Some.ensures.value) in
    c.copy_part.ensures ∙ ap (λ b. take (length c.args.buffer.now) (drop c.args.at b)) (c.deref.ensures.value ∙ sym was)
