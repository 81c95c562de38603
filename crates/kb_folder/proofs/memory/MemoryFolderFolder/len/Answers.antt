use Rattle.std.proofs.Common.{◌≡◌, ◌∙◌, length, sym, ap, rules}
use Rattle.kb_folder.proofs.Held.{bytes_held, is_not_gone}
use Rattle.kb_folder.proofs.memory.MemoryFolderFolder.len.Goals as goal

pub unreachable-requires : goal.unreachable-requires
unreachable-requires c = is_not_gone c.args.self.now.files.entries c.args.file (c.requires tt) c.in-None.ensures.value

pub returns-clause-len : goal.returns-clause-len
returns-clause-len c = λ h.
    let len : c.len.result ≡ length c.in-Some.bytes.now.items = search rules in
    len ∙ sym (ap length (bytes_held c.args.self.now.files.entries c.args.file c.in-Some.bytes.now (sym c.in-Some.ensures.value)))
