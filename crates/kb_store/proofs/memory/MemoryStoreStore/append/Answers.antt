use Rattle.std.proofs.Common.{◌≡◌, ◌∙◌, ◌+◌, ◌++◌, length, sym, ap, arith, take}
use Rattle.std.proofs.lemmas.List.{length-append, append-nil}
use Rattle.kb_store.specs.Disk.{len_of, bytes_of}
use Rattle.kb_store.specs.Memory.{memory_disk}
use Rattle.kb_store.proofs.Seen.{becomes_put, kept_len, kept_bytes, is_kept, is_not_gone, on_err}
use Rattle.kb_store.proofs.memory.MemoryStoreStore.append.Goals as goal

pub unreachable-requires : goal.unreachable-requires
unreachable-requires c = is_not_gone c.args.self.now.files.entries c.args.file c.requires c.in-None.ensures.value

pub returns-in_err-extend_from_slice-in-Some-clause-refused : goal.returns-in_err-extend_from_slice-in-Some-clause-refused
returns-in_err-extend_from_slice-in-Some-clause-refused c =
    let es = c.args.self.now.files.entries in
    let had : len_of (memory_disk es) c.args.file ≡ length c.in-Some.kept.now.items = kept_len es c.args.file c.in-Some.kept.now (sym c.in-Some.ensures.value) in
    let was : bytes_of (memory_disk es) c.args.file ≡ c.in-Some.kept.now.items = kept_bytes es c.args.file c.in-Some.kept.now (sym c.in-Some.ensures.value) in
    let w = c.extend_from_slice.new.self in
    let u = ((c.get_mut.follows.holds w).3 (is_kept es c.args.file c.requires)).0 in
    let counted : length w.items ≡ len_of (memory_disk es) c.args.file + length (take 0 c.args.bytes.now) = omega (arith, ap length c.in_err-extend_from_slice-in-Some.ensures.items, had) in
    let kept : w.items ≡ bytes_of (memory_disk es) c.args.file ++ take 0 c.args.bytes.now = c.in_err-extend_from_slice-in-Some.ensures.items ∙ sym was ∙ sym (append-nil _) in
    on_err c.from_residual.result (0, omega arith, becomes_put es c.args.file (c.get_mut.follows.lender w).entries w (len_of (memory_disk es) c.args.file + length (take 0 c.args.bytes.now)) (bytes_of (memory_disk es) c.args.file ++ take 0 c.args.bytes.now) u counted kept)

pub returns-clause-appended : goal.returns-clause-appended
returns-clause-appended c =
    let es = c.args.self.now.files.entries in
    let had : len_of (memory_disk es) c.args.file ≡ length c.in-Some.kept.now.items = kept_len es c.args.file c.in-Some.kept.now (sym c.in-Some.ensures.value) in
    let was : bytes_of (memory_disk es) c.args.file ≡ c.in-Some.kept.now.items = kept_bytes es c.args.file c.in-Some.kept.now (sym c.in-Some.ensures.value) in
    let w = c.extend_from_slice.new.self in
    let u = ((c.get_mut.follows.holds w).3 (is_kept es c.args.file c.requires)).0 in
    let counted : length w.items ≡ len_of (memory_disk es) c.args.file + length c.args.bytes.now = omega (arith, ap length c.in_ok-extend_from_slice-in-Some.ensures.items, had, length-append c.in-Some.kept.now.items c.args.bytes.now) in
    let kept : w.items ≡ bytes_of (memory_disk es) c.args.file ++ c.args.bytes.now = c.in_ok-extend_from_slice-in-Some.ensures.items ∙ ap (λ x. x ++ c.args.bytes.now) (sym was) in
    becomes_put es c.args.file (c.get_mut.follows.lender w).entries w (len_of (memory_disk es) c.args.file + length c.args.bytes.now) (bytes_of (memory_disk es) c.args.file ++ c.args.bytes.now) u counted kept
