use Rattle.std.proofs.Common.{false, subst, sym}
use Rattle.kb_store.specs.Disk.{AppendsSome, IsThere, len_of}
use Rattle.kb_store.specs.Loss.{Goes, Tears}
use Rattle.kb_store.specs.LossLaws.{stays_goes, torn_not}
use Rattle.kb_survey.specs.Changes.{disk_after}
use Rattle.kb_survey.specs.Postponed.{disk_with, postponed_lawful}
use Rattle.kb_survey.specs.Lost.{loss_of, loss_with}
use Rattle.kb_survey.proofs.Changes.{appends_none, on_err}
use Rattle.kb_survey.proofs.Lost.{made_goes}
use Rattle.kb_survey.proofs.postponed.PostponedStore.append.Goals as goal

pub returns-in_err-make_all-clause-refused : goal.returns-in_err-make_all-clause-refused
returns-in_err-make_all-clause-refused g c =
    let d = g.S.Store.disk c.self.inside.store in
    let e = g.S.Store.disk c.make_all.new.store in
    on_err c.from_residual.result
    (subst (λ v. AppendsSome (disk_with g.S.Store.disk v) c.args.file c.args.bytes.now (disk_after c.make_all.new.changes.items e)) c.self.view_is
    (appends_none (disk_after c.self.inside.put_off.items d) (disk_after c.make_all.new.changes.items e) c.args.file c.args.bytes.now
    (subst (λ v. IsThere (disk_with g.S.Store.disk v) c.args.file) (sym c.self.view_is) c.requires)
    (postponed_lawful c.self.inside.put_off.items d (g.met.S.Store.lawful c.self.inside.store)) c.make_all.ensures.unchanged))

pub returns-in_err-make_all-clause-loss : goal.returns-in_err-make_all-clause-loss
returns-in_err-make_all-clause-loss g c =
    let s = c.self.inside in
    subst (λ v. Goes (Tears c.args.file (len_of (disk_with g.S.Store.disk v) c.args.file)) (loss_with g.S.Store.loss v) (loss_of false c.make_all.new.changes.items (g.S.Store.loss c.make_all.new.store))) c.self.view_is
    (made_goes g.S.Store.disk g.S.Store.loss (λ d. Tears c.args.file (len_of d c.args.file)) (λ d. torn_not c.args.file (len_of d c.args.file)) s.waits s.put_off.items c.make_all.new.changes.items
    s.store c.make_all.new.store c.make_all.new.store c.make_all.ensures.still (stays_goes (Tears c.args.file (len_of (g.S.Store.disk c.make_all.new.store) c.args.file)) (torn_not c.args.file (len_of (g.S.Store.disk c.make_all.new.store) c.args.file)) (g.S.Store.loss c.make_all.new.store)))

pub returns-clause-loss : goal.returns-clause-loss
returns-clause-loss g c =
    let s = c.self.inside in
    subst (λ v. Goes (Tears c.args.file (len_of (disk_with g.S.Store.disk v) c.args.file)) (loss_with g.S.Store.loss v) (loss_of false c.make_all.new.changes.items (g.S.Store.loss c.append.new.self))) c.self.view_is
    (made_goes g.S.Store.disk g.S.Store.loss (λ d. Tears c.args.file (len_of d c.args.file)) (λ d. torn_not c.args.file (len_of d c.args.file)) s.waits s.put_off.items c.make_all.new.changes.items
    s.store c.make_all.new.store c.append.new.self c.make_all.ensures.still c.append.ensures.loss)
