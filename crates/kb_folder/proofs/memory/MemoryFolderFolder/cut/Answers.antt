use Rattle.std.proofs.Common.{◌≡◌, ◌∙◌, sym, ap, take}
use Rattle.kb_folder.specs.Folder.{bytes_in}
use Rattle.kb_folder.specs.Memory.{memory_contents}
use Rattle.kb_folder.proofs.Held.{turns_put, bytes_held, is_held, is_not_gone}
use Rattle.kb_folder.proofs.memory.MemoryFolderFolder.cut.Goals as goal

pub unreachable-requires : goal.unreachable-requires
unreachable-requires c = is_not_gone c.args.self.now.files.entries c.args.file (c.requires.there tt) c.in-None.ensures.value

pub returns-clause-cut : goal.returns-clause-cut
returns-clause-cut c =
    let es = c.args.self.now.files.entries in
    let was : bytes_in (memory_contents es) c.args.file ≡ c.in-Some.kept.now.items = bytes_held es c.args.file c.in-Some.kept.now (sym c.in-Some.ensures.value) in
    let w = c.truncate.new.self in
    let u = ((c.get_mut.follows.holds w).3 (is_held es c.args.file (c.requires.there tt))).0 in
    turns_put es c.args.file (c.get_mut.follows.lender w).entries w (take c.args.len (bytes_in (memory_contents es) c.args.file)) u (c.truncate.ensures.items ∙ ap (take c.args.len) (sym was))
