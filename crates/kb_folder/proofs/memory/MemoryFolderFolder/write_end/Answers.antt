use Rattle.std.proofs.Common.{◌≡◌, ◌∙◌, ◌++◌, sym, ap, take, length, arith}
use Rattle.std.proofs.lemmas.List.{take_all}
use Rattle.kb_store.proofs.Seen.{on_err}
use Rattle.kb_folder.specs.Folder.{bytes_in}
use Rattle.kb_folder.specs.Memory.{memory_contents}
use Rattle.kb_folder.proofs.Held.{turns_put, turns_same, bytes_held, is_held, is_not_gone}
use Rattle.kb_folder.proofs.memory.MemoryFolderFolder.write_end.Goals as goal

pub unreachable-requires : goal.unreachable-requires
unreachable-requires c = is_not_gone c.args.self.now.files.entries c.args.file (c.requires tt).0 c.in-None.ensures.value

pub returns-in_err-extend_from_slice-in-Some-clause-unchanged : goal.returns-in_err-extend_from_slice-in-Some-clause-unchanged
returns-in_err-extend_from_slice-in-Some-clause-unchanged c =
    let es = c.args.self.now.files.entries in
    let was : bytes_in (memory_contents es) c.args.file ≡ c.in-Some.kept.now.items = bytes_held es c.args.file c.in-Some.kept.now (sym c.in-Some.ensures.value) in
    let w = c.extend_from_slice.new.self in
    let u = ((c.get_mut.follows.holds w).3 (is_held es c.args.file (c.requires tt).0)).0 in
    on_err c.from_residual.result (turns_same es c.args.file (c.get_mut.follows.lender w).entries w (c.requires tt).0 u (c.in_err-extend_from_slice-in-Some.ensures.items ∙ sym was))

pub returns-clause-written : goal.returns-clause-written
returns-clause-written c =
    let es = c.args.self.now.files.entries in
    let bytes = c.args.bytes.now in
    let was : bytes_in (memory_contents es) c.args.file ≡ c.in-Some.kept.now.items = bytes_held es c.args.file c.in-Some.kept.now (sym c.in-Some.ensures.value) in
    let w = c.extend_from_slice.new.self in
    let u = ((c.get_mut.follows.holds w).3 (is_held es c.args.file (c.requires tt).0)).0 in
    let all : take (length bytes) bytes ≡ bytes = take_all (length bytes) bytes (omega arith) in
    turns_put es c.args.file (c.get_mut.follows.lender w).entries w (bytes_in (memory_contents es) c.args.file ++ take (length bytes) bytes) u (c.in_ok-extend_from_slice-in-Some.ensures.items ∙ ap (λ x. x ++ bytes) (sym was) ∙ ap (λ x. bytes_in (memory_contents es) c.args.file ++ x) (sym all))
