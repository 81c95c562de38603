use Rattle.std.proofs.Common.{refl, sym, subst, ◌∙◌, ap, rules, ◌<◌}
use Rattle.kb_store.specs.Disk.{IsThere, len_of}
use Rattle.kb_folder.specs.Store.{disk_over}
use Rattle.kb_folder.proofs.Lens.{is_kept, len_kept}
use Rattle.kb_store.specs.Loss.{Same}
use Rattle.kb_store.specs.LossLaws.{stays_goes}
use Rattle.kb_folder.proofs.store.FolderStoreStore.len.Goals as goal

pub kept_len-requires : goal.kept_len-requires
kept_len-requires g c = is_kept (g.F.Folder.contents c.self.inside.folder) c.self.inside.lens.entries c.self.inside.failures c.args.file (subst (λ v. IsThere (disk_over g.F.Folder.contents v) c.args.file) (sym c.self.view_is) c.requires)

pub returns-clause-len : goal.returns-clause-len
returns-clause-len g c =
    let small : c.kept_len.result < 18446744073709551616 = search rules in
    sym (len_kept (g.F.Folder.contents c.self.inside.folder) c.self.inside.lens.entries c.self.inside.failures c.args.file c.kept_len.result c.kept_len.ensures small) ∙ ap (λ v. len_of (disk_over g.F.Folder.contents v) c.args.file) c.self.view_is

pub returns-clause-loss : goal.returns-clause-loss
returns-clause-loss g c = stays_goes Same (λ x. refl) (g.F.Folder.loss c.args.self.now.folder)
