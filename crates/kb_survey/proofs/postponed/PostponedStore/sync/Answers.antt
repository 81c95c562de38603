use Rattle.std.proofs.Common.{◌≡◌, [], false, refl, subst, sym}
use Rattle.kb_store.specs.Loss.{Clears, Goes, Same}
use Rattle.kb_store.specs.LossLaws.{cleared_not, stays_goes}
use Rattle.kb_survey.specs.Lost.{loss_of, loss_with}
use Rattle.kb_survey.specs.Postponed.{disk_with}
use Rattle.kb_survey.proofs.Lost.{made_goes}
use Rattle.kb_survey.proofs.postponed.PostponedStore.sync.Goals as goal

pub returns-in_err-make_all-clause-loss : goal.returns-in_err-make_all-clause-loss
returns-in_err-make_all-clause-loss g c =
    let s = c.self.inside in
    subst (λ v. Goes (Clears (disk_with g.S.Store.disk v).table) (loss_with g.S.Store.loss v) (loss_of false c.make_all.new.changes.items (g.S.Store.loss c.make_all.new.store))) c.self.view_is
    (made_goes g.S.Store.disk g.S.Store.loss (λ d. Clears d.table) (λ d. cleared_not d.table) s.waits s.put_off.items c.make_all.new.changes.items
    s.store c.make_all.new.store c.make_all.new.store c.make_all.ensures.still (stays_goes (Clears (g.S.Store.disk c.make_all.new.store).table) (cleared_not (g.S.Store.disk c.make_all.new.store).table) (g.S.Store.loss c.make_all.new.store)))

pub returns-clause-loss : goal.returns-clause-loss
returns-clause-loss g c =
    let s = c.self.inside in
    subst (λ v. Goes (Clears (disk_with g.S.Store.disk v).table) (loss_with g.S.Store.loss v) (loss_of false c.make_all.new.changes.items (g.S.Store.loss c.sync.new.self))) c.self.view_is
    (made_goes g.S.Store.disk g.S.Store.loss (λ d. Clears d.table) (λ d. cleared_not d.table) s.waits s.put_off.items c.make_all.new.changes.items
    s.store c.make_all.new.store c.sync.new.self c.make_all.ensures.still c.sync.ensures.loss)

pub returns-in_err-make_all-clause-prompt : goal.returns-in_err-make_all-clause-prompt
returns-in_err-make_all-clause-prompt g c settled =
    let s = c.self.inside in
    subst (λ v. Goes Same (loss_with g.S.Store.loss v) (loss_of false c.make_all.new.changes.items (g.S.Store.loss c.make_all.new.store))) c.self.view_is
    (made_goes g.S.Store.disk g.S.Store.loss (λ d. Same) (λ d f. refl) s.waits s.put_off.items c.make_all.new.changes.items
    s.store c.make_all.new.store c.make_all.new.store c.make_all.ensures.still (stays_goes Same (λ f. refl) (g.S.Store.loss c.make_all.new.store)))

pub returns-clause-prompt : goal.returns-clause-prompt
returns-clause-prompt g c settled =
    let s = c.self.inside in
    let was = subst (λ v. (v.put_off ≡ []) × g.S.Store.settled v.store) (sym c.self.view_is) settled in
    let is = c.make_all.ensures.still was.0 in
    let prompt = c.sync.ensures.prompt (subst (λ x. g.S.Store.settled x) (sym is.0) was.1) in
    subst (λ v. Goes Same (loss_with g.S.Store.loss v) (loss_of false c.make_all.new.changes.items (g.S.Store.loss c.sync.new.self))) c.self.view_is
    (made_goes g.S.Store.disk g.S.Store.loss (λ d. Same) (λ d f. refl) s.waits s.put_off.items c.make_all.new.changes.items
    s.store c.make_all.new.store c.sync.new.self c.make_all.ensures.still prompt)
