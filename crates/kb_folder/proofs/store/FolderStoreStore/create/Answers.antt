use Rattle.std.proofs.Common.{ap, subst, sym, refl, [], inl, ◌≡◌, None, lit<}
use Rattle.std.specs.FinMap.{insert, get}
use Rattle.kb_store.specs.Disk.{Creates, Keeps}
use Rattle.kb_folder.specs.Store.{disk_over, folder_disk, table_of}
use Rattle.kb_folder.proofs.Lens.{lengths_after, lengths_put, table_put, table_back, becomes}
use Rattle.kb_store.specs.LossLaws.{same_made}
use Rattle.kb_folder.proofs.store.FolderStoreStore.create.Goals as goal

pub invariant_of-self-in-Ok : goal.invariant_of-self-in-Ok
invariant_of-self-in-Ok g c =
    let had = g.F.Folder.contents c.self.inside.folder in
    let has = g.F.Folder.contents c.create.new.self in
    let es = c.self.inside.lens.entries in
    let es' = c.insert.new.self.entries in
    let k = c.args.file in
    lengths_after had has es es' k (insert had.files k []) (insert (table_of es) k 0)
    (λ h. lengths_put (table_of es) had.files k 0 [] (c.self.invariant h) refl) (table_put had has es es' k 0 0 c.in_ok-insert.ensures.updates.0 (lit< tt) refl) c.in-Ok.ensures.created

pub returns-in-Ok-clause-created : goal.returns-in-Ok-clause-created
returns-in-Ok-clause-created g c =
    let had = g.F.Folder.contents c.self.inside.folder in
    let has = g.F.Folder.contents c.create.new.self in
    let es = c.self.inside.lens.entries in
    let es' = c.insert.new.self.entries in
    let k = c.args.file in
    subst (λ v. Creates (disk_over g.F.Folder.contents v) k (folder_disk has es' c.self.inside.failures)) c.self.view_is
    (becomes had has es es' k c.self.inside.failures c.self.inside.failures (insert had.files k []) (insert (table_of es) k 0) c.self.invariant (table_put had has es es' k 0 0 c.in_ok-insert.ensures.updates.0 (lit< tt) refl) c.in-Ok.ensures.created)

pub invariant_of-self-in-Err : goal.invariant_of-self-in-Err
invariant_of-self-in-Err g c =
    let had = g.F.Folder.contents c.self.inside.folder in
    let has = g.F.Folder.contents c.create.new.self in
    let es = c.self.inside.lens.entries in
    let es' = c.insert.new.self.entries in
    let es'' = c.remove.new.self.entries in
    let k = c.args.file in
    let none = subst (λ v. get (disk_over g.F.Folder.contents v).table k ≡ None) (sym c.self.view_is) c.requires in
    lengths_after had has es es'' k had.files (table_of es) c.self.invariant (table_back es es' es'' k none c.in_ok-insert.ensures.updates.0 c.remove.ensures.updates.0) c.in-Err.ensures.unchanged

pub returns-in-Err-clause-absent : goal.returns-in-Err-clause-absent
returns-in-Err-clause-absent g c =
    let had = g.F.Folder.contents c.self.inside.folder in
    let has = g.F.Folder.contents c.create.new.self in
    let es = c.self.inside.lens.entries in
    let es' = c.insert.new.self.entries in
    let es'' = c.remove.new.self.entries in
    let k = c.args.file in
    let none = subst (λ v. get (disk_over g.F.Folder.contents v).table k ≡ None) (sym c.self.view_is) c.requires in
    subst (λ v. Keeps (disk_over g.F.Folder.contents v) (folder_disk has es'' c.fault_of.new.failures)) c.self.view_is
    (becomes had has es es'' k c.self.inside.failures c.fault_of.new.failures had.files (table_of es) c.self.invariant (table_back es es' es'' k none c.in_ok-insert.ensures.updates.0 c.remove.ensures.updates.0) c.in-Err.ensures.unchanged)

pub returns-in-Err-clause-refused : goal.returns-in-Err-clause-refused
returns-in-Err-clause-refused g c =
    let had = g.F.Folder.contents c.self.inside.folder in
    let has = g.F.Folder.contents c.create.new.self in
    let es = c.self.inside.lens.entries in
    let es' = c.insert.new.self.entries in
    let es'' = c.remove.new.self.entries in
    let k = c.args.file in
    let none = subst (λ v. get (disk_over g.F.Folder.contents v).table k ≡ None) (sym c.self.view_is) c.requires in
    inl (subst (λ v. Keeps (disk_over g.F.Folder.contents v) (folder_disk has es'' c.fault_of.new.failures)) c.self.view_is
    (becomes had has es es'' k c.self.inside.failures c.fault_of.new.failures had.files (table_of es) c.self.invariant (table_back es es' es'' k none c.in_ok-insert.ensures.updates.0 c.remove.ensures.updates.0) c.in-Err.ensures.unchanged))

pub returns-in_err-insert-clause-loss : goal.returns-in_err-insert-clause-loss
returns-in_err-insert-clause-loss g c = same_made g.F.Folder.loss c.args.file c.args.self.now.folder c.self.inside.folder (ap (λ s. s.folder) c.self.view_is)
