use Rattle.std.proofs.Common.{◌≡◌, ◌∙◌, ◌≤◌, length, sym, ap, arith, take}
use Rattle.std.proofs.lemmas.List.{length-take-le}
use Rattle.kb_store.specs.Disk.{len_of, bytes_of}
use Rattle.kb_store.specs.Memory.{memory_disk}
use Rattle.kb_store.proofs.Seen.{becomes_put, kept_len, kept_bytes, is_kept, is_not_gone}
use Rattle.kb_store.proofs.memory.MemoryStoreStore.cut.Goals as goal

pub unreachable-requires : goal.unreachable-requires
unreachable-requires c = is_not_gone c.args.self.now.files.entries c.args.file c.requires.there c.in-None.ensures.value

pub returns-clause-cut : goal.returns-clause-cut
returns-clause-cut c =
    let es = c.args.self.now.files.entries in
    let had : len_of (memory_disk es) c.args.file ≡ length c.in-Some.kept.now.items = kept_len es c.args.file c.in-Some.kept.now (sym c.in-Some.ensures.value) in
    let was : bytes_of (memory_disk es) c.args.file ≡ c.in-Some.kept.now.items = kept_bytes es c.args.file c.in-Some.kept.now (sym c.in-Some.ensures.value) in
    let w = c.truncate.new.self in
    let u = ((c.get_mut.follows.holds w).3 (is_kept es c.args.file c.requires.there)).0 in
    let within : c.args.len ≤ length c.in-Some.kept.now.items = omega (arith, had, c.requires.within) in
    let counted : length w.items ≡ c.args.len = ap length c.truncate.ensures.items ∙ length-take-le c.args.len c.in-Some.kept.now.items within in
    let kept : w.items ≡ take c.args.len (bytes_of (memory_disk es) c.args.file) = c.truncate.ensures.items ∙ ap (take c.args.len) (sym was) in
    becomes_put es c.args.file (c.get_mut.follows.lender w).entries w c.args.len (take c.args.len (bytes_of (memory_disk es) c.args.file)) u counted kept
