use Rattle.std.proofs.Common.{◌≤◌, ◌<◌, sym, subst, take, arith, rules}
use Rattle.std.specs.FinMap.{insert}
use Rattle.std.proofs.lemmas.List.{length-take-le}
use Rattle.kb_store.specs.Disk.{IsThere, Cuts, len_of}
use Rattle.kb_folder.specs.Folder.{bytes_in}
use Rattle.kb_folder.specs.Store.{disk_over, folder_disk, table_of}
use Rattle.kb_folder.proofs.Lens.{is_kept, lengths_after, lengths_put, table_put, becomes, cut_within}
use Rattle.kb_folder.proofs.store.FolderStoreStore.cut.Goals as goal

pub set_len-requires : goal.set_len-requires
set_len-requires g c = is_kept (g.F.Folder.contents c.self.inside.folder) c.self.inside.lens.entries c.self.inside.failures c.args.file (subst (λ v. IsThere (disk_over g.F.Folder.contents v) c.args.file) (sym c.self.view_is) c.requires.there)

pub invariant_of-self : goal.invariant_of-self
invariant_of-self g c =
    let had = g.F.Folder.contents c.self.inside.folder in
    let has = g.F.Folder.contents c.cut.new.self in
    let es = c.self.inside.lens.entries in
    let es' = c.set_len.new.lens.entries in
    let k = c.args.file in
    let small : c.args.len < 18446744073709551616 = search rules in
    let within : c.args.len ≤ len_of (disk_over g.F.Folder.contents c.args.self.now) k = c.requires.within in
    lengths_after had has es es' k (insert had.files k (take c.args.len (bytes_in had k))) (insert (table_of es) k c.args.len)
    (λ h. lengths_put (table_of es) had.files k c.args.len (take c.args.len (bytes_in had k)) (c.self.invariant h)
    (sym (length-take-le c.args.len (bytes_in had k) (cut_within had es c.self.inside.failures k c.args.len (c.self.invariant h) (subst (λ v. c.args.len ≤ len_of (disk_over g.F.Folder.contents v) k) (sym c.self.view_is) within)))))
    (table_put had has es es' k c.args.len c.args.len c.set_len.ensures small (omega arith)) c.in-Ok.ensures.cut

pub returns-in-Ok-clause-cut : goal.returns-in-Ok-clause-cut
returns-in-Ok-clause-cut g c =
    let had = g.F.Folder.contents c.self.inside.folder in
    let has = g.F.Folder.contents c.cut.new.self in
    let es = c.self.inside.lens.entries in
    let es' = c.set_len.new.lens.entries in
    let k = c.args.file in
    let small : c.args.len < 18446744073709551616 = search rules in
    subst (λ v. Cuts (disk_over g.F.Folder.contents v) k c.args.len (folder_disk has es' c.self.inside.failures)) c.self.view_is
    (becomes had has es es' k c.self.inside.failures c.self.inside.failures (insert had.files k (take c.args.len (bytes_in had k))) (insert (table_of es) k c.args.len) c.self.invariant
    (table_put had has es es' k c.args.len c.args.len c.set_len.ensures small (omega arith)) c.in-Ok.ensures.cut)
