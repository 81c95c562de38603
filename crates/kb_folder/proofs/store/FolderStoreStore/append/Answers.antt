use Rattle.std.proofs.Common.{ap, ◌≡◌, ◌≤◌, ◌<◌, ◌+◌, ◌-◌, List, ℕ, None, IsSome, length, sym, subst, refl, take, arith, rules}
use Rattle.std.proofs.lemmas.List.{take_all}
use Rattle.kb_store.specs.Disk.{IsThere, Appends, AppendsSome, len_of}
use Rattle.kb_folder.specs.Store.{disk_over, folder_disk}
use Rattle.kb_folder.proofs.Lens.{is_kept, len_kept, held, grown, grown_lengths, grows_none}
use Rattle.kb_store.specs.Loss.{Goes, Tears}
use Rattle.kb_store.specs.LossLaws.{same_torn}
use Rattle.kb_folder.proofs.store.FolderStoreStore.append.Goals as goal

pub kept_len-end-requires : goal.kept_len-end-requires
kept_len-end-requires g c = is_kept (g.F.Folder.contents c.self.inside.folder) c.self.inside.lens.entries c.self.inside.failures c.args.file (subst (λ v. IsThere (disk_over g.F.Folder.contents v) c.args.file) (sym c.self.view_is) c.requires)

pub returns-then-bytes-end-clause-refused : goal.returns-then-bytes-end-clause-refused
returns-then-bytes-end-clause-refused g c =
    let had = g.F.Folder.contents c.self.inside.folder in
    let small : c.kept_len-end.result < 18446744073709551616 = search rules in
    subst (λ v. AppendsSome (disk_over g.F.Folder.contents v) c.args.file c.args.bytes.now (folder_disk had c.self.inside.lens.entries c.refused.new.failures)) c.self.view_is
    (grows_none had had c.self.inside.lens.entries c.self.inside.failures c.refused.new.failures c.args.file c.kept_len-end.result c.args.bytes.now c.self.invariant c.kept_len-end.ensures small (record { honest = λ h. h; files = λ h. refl }))

pub add_whole-added-requires-clause-there : goal.add_whole-added-requires-clause-there
add_whole-added-requires-clause-there g c = λ h.
    let small : c.kept_len-end.result < 18446744073709551616 = search rules in
    held (g.F.Folder.contents c.self.inside.folder) c.self.inside.lens.entries c.args.file c.kept_len-end.result (c.self.invariant h) c.kept_len-end.ensures small

pub invariant_of-self-in-None : goal.invariant_of-self-in-None
invariant_of-self-in-None g c =
    let added = c.add_whole-added in
    let small : c.kept_len-end.result + added.result.0 < 18446744073709551616 = search rules in
    grown_lengths (g.F.Folder.contents c.self.inside.folder) (g.F.Folder.contents added.new.folder) c.self.inside.lens.entries c.set_len.new.lens.entries c.args.file c.kept_len-end.result added.result.0 c.args.bytes.now c.self.invariant c.kept_len-end.ensures small added.ensures.count c.set_len.ensures added.ensures.added

pub invariant_of-self-in-Some : goal.invariant_of-self-in-Some
invariant_of-self-in-Some g c =
    let added = c.add_whole-added in
    let small : c.kept_len-end.result + added.result.0 < 18446744073709551616 = search rules in
    grown_lengths (g.F.Folder.contents c.self.inside.folder) (g.F.Folder.contents added.new.folder) c.self.inside.lens.entries c.set_len.new.lens.entries c.args.file c.kept_len-end.result added.result.0 c.args.bytes.now c.self.invariant c.kept_len-end.ensures small added.ensures.count c.set_len.ensures added.ensures.added

pub returns-in-None-clause-appended : goal.returns-in-None-clause-appended
returns-in-None-clause-appended g c =
    let had = g.F.Folder.contents c.self.inside.folder in
    let added = c.add_whole-added in
    let has = g.F.Folder.contents added.new.folder in
    let small : c.kept_len-end.result + added.result.0 < 18446744073709551616 = search rules in
    let none : added.result.1 ≡ None = search rules in
    let all : take added.result.0 c.args.bytes.now ≡ c.args.bytes.now = take_all added.result.0 c.args.bytes.now (omega (arith, added.ensures.whole none)) in
    subst (λ v. Appends (disk_over g.F.Folder.contents v) c.args.file c.args.bytes.now (folder_disk has c.set_len.new.lens.entries c.self.inside.failures)) c.self.view_is
    (subst (λ (x : List ℕ). Appends (folder_disk had c.self.inside.lens.entries c.self.inside.failures) c.args.file x (folder_disk has c.set_len.new.lens.entries c.self.inside.failures)) all
    (grown had has c.self.inside.lens.entries c.set_len.new.lens.entries c.args.file c.kept_len-end.result added.result.0 c.args.bytes.now c.self.inside.failures c.self.inside.failures c.self.invariant c.kept_len-end.ensures small added.ensures.count c.set_len.ensures added.ensures.added))

pub returns-in-Some-clause-refused : goal.returns-in-Some-clause-refused
returns-in-Some-clause-refused g c =
    let had = g.F.Folder.contents c.self.inside.folder in
    let added = c.add_whole-added in
    let has = g.F.Folder.contents added.new.folder in
    let small : c.kept_len-end.result + added.result.0 < 18446744073709551616 = search rules in
    let some : IsSome added.result.1 = search rules in
    let most : added.result.0 ≤ length c.args.bytes.now - 1 = omega (arith, added.ensures.short some) in
    subst (λ v. AppendsSome (disk_over g.F.Folder.contents v) c.args.file c.args.bytes.now (folder_disk has c.set_len.new.lens.entries c.fault_of.new.failures)) c.self.view_is
    (added.result.0, most, grown had has c.self.inside.lens.entries c.set_len.new.lens.entries c.args.file c.kept_len-end.result added.result.0 c.args.bytes.now c.self.inside.failures c.fault_of.new.failures c.self.invariant c.kept_len-end.ensures small added.ensures.count c.set_len.ensures added.ensures.added)

pub returns-then-bytes-end-clause-loss : goal.returns-then-bytes-end-clause-loss
returns-then-bytes-end-clause-loss g c =
    same_torn g.F.Folder.loss c.args.file (len_of (disk_over g.F.Folder.contents c.args.self.now) c.args.file) c.args.self.now.folder c.self.inside.folder (ap (λ s. s.folder) c.self.view_is)

pub returns-in-None-clause-loss : goal.returns-in-None-clause-loss
returns-in-None-clause-loss g c =
    let had = g.F.Folder.contents c.self.inside.folder in
    let small : c.kept_len-end.result < 18446744073709551616 = search rules in
    let end = len_kept had c.self.inside.lens.entries c.self.inside.failures c.args.file c.kept_len-end.result c.kept_len-end.ensures small in
    subst (λ v. Goes (Tears c.args.file (len_of (disk_over g.F.Folder.contents v) c.args.file)) (g.F.Folder.loss v.folder) (g.F.Folder.loss c.add_whole-added.new.folder)) c.self.view_is
    (subst (λ n. Goes (Tears c.args.file n) (g.F.Folder.loss c.self.inside.folder) (g.F.Folder.loss c.add_whole-added.new.folder)) (sym end) c.add_whole-added.ensures.loss)

pub returns-in-Some-clause-loss : goal.returns-in-Some-clause-loss
returns-in-Some-clause-loss g c =
    let had = g.F.Folder.contents c.self.inside.folder in
    let small : c.kept_len-end.result < 18446744073709551616 = search rules in
    let end = len_kept had c.self.inside.lens.entries c.self.inside.failures c.args.file c.kept_len-end.result c.kept_len-end.ensures small in
    subst (λ v. Goes (Tears c.args.file (len_of (disk_over g.F.Folder.contents v) c.args.file)) (g.F.Folder.loss v.folder) (g.F.Folder.loss c.add_whole-added.new.folder)) c.self.view_is
    (subst (λ n. Goes (Tears c.args.file n) (g.F.Folder.loss c.self.inside.folder) (g.F.Folder.loss c.add_whole-added.new.folder)) (sym end) c.add_whole-added.ensures.loss)
