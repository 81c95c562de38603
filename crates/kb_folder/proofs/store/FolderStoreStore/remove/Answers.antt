use Rattle.std.proofs.Common.{subst}
use Rattle.std.specs.FinMap.{remove}
use Rattle.kb_store.specs.Disk.{Removes}
use Rattle.kb_folder.specs.Store.{disk_over, folder_disk, table_of}
use Rattle.kb_folder.proofs.Lens.{lengths_after, lengths_removed, table_removed, becomes}
use Rattle.kb_folder.proofs.store.FolderStoreStore.remove.Goals as goal

pub invariant_of-self : goal.invariant_of-self
invariant_of-self g c =
    let had = g.F.Folder.contents c.self.inside.folder in
    let has = g.F.Folder.contents c.remove.new.self in
    let es = c.self.inside.lens.entries in
    let es' = c.remove-in-Ok.new.self.entries in
    lengths_after had has es es' c.args.file (remove had.files c.args.file) (remove (table_of es) c.args.file)
    (λ h. lengths_removed (table_of es) had.files c.args.file (c.self.invariant h)) (table_removed had has es es' c.args.file c.remove-in-Ok.ensures.updates.0) c.in-Ok.ensures.removed

pub returns-in-Ok-clause-removed : goal.returns-in-Ok-clause-removed
returns-in-Ok-clause-removed g c =
    let had = g.F.Folder.contents c.self.inside.folder in
    let has = g.F.Folder.contents c.remove.new.self in
    let es = c.self.inside.lens.entries in
    let es' = c.remove-in-Ok.new.self.entries in
    subst (λ v. Removes (disk_over g.F.Folder.contents v) c.args.file (folder_disk has es' c.self.inside.failures)) c.self.view_is
    (becomes had has es es' c.args.file c.self.inside.failures c.self.inside.failures (remove had.files c.args.file) (remove (table_of es) c.args.file) c.self.invariant (table_removed had has es es' c.args.file c.remove-in-Ok.ensures.updates.0) c.in-Ok.ensures.removed)
