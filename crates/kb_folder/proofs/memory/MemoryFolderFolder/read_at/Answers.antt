use Rattle.std.proofs.Common.{sym, subst, List, ℕ}
use Rattle.kb_folder.specs.Folder.{ReadsWhole}
use Rattle.kb_folder.proofs.Held.{bytes_held, is_not_gone}
use Rattle.kb_folder.proofs.memory.MemoryFolderFolder.read_at.Goals as goal

pub unreachable-requires : goal.unreachable-requires
unreachable-requires c = is_not_gone c.args.self.now.files.entries c.args.file (c.requires tt) c.in-None.ensures.value

pub returns-clause-bytes : goal.returns-clause-bytes
returns-clause-bytes c = λ h.
    subst (λ (x : List ℕ). ReadsWhole x c.args.at c.args.buffer.now c.copy_within.result c.copy_within.new.buffer) (sym (bytes_held c.args.self.now.files.entries c.args.file c.in-Some.kept.now (sym c.in-Some.ensures.value)))
    (subst (λ (x : List ℕ). ReadsWhole x c.args.at c.args.buffer.now c.copy_within.result c.copy_within.new.buffer) c.deref.ensures.value c.copy_within.ensures)
