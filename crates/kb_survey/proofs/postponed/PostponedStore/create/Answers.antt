use Rattle.std.proofs.Common.{false, subst}
use Rattle.kb_store.specs.Loss.{Goes, Makes}
use Rattle.kb_store.specs.LossLaws.{made_not, stays_goes}
use Rattle.kb_survey.specs.Lost.{loss_of, loss_with}
use Rattle.kb_survey.proofs.Lost.{made_goes}
use Rattle.kb_survey.proofs.postponed.PostponedStore.create.Goals as goal

pub returns-in_err-make_all-clause-loss : goal.returns-in_err-make_all-clause-loss
returns-in_err-make_all-clause-loss g c =
    let s = c.self.inside in
    subst (λ v. Goes (Makes c.args.file) (loss_with g.S.Store.loss v) (loss_of false c.make_all.new.changes.items (g.S.Store.loss c.make_all.new.store))) c.self.view_is
    (made_goes g.S.Store.disk g.S.Store.loss (λ d. Makes c.args.file) (λ d. made_not c.args.file) s.waits s.put_off.items c.make_all.new.changes.items
    s.store c.make_all.new.store c.make_all.new.store c.make_all.ensures.still (stays_goes (Makes c.args.file) (made_not c.args.file) (g.S.Store.loss c.make_all.new.store)))

pub returns-clause-loss : goal.returns-clause-loss
returns-clause-loss g c =
    let s = c.self.inside in
    subst (λ v. Goes (Makes c.args.file) (loss_with g.S.Store.loss v) (loss_of false c.make_all.new.changes.items (g.S.Store.loss c.create.new.self))) c.self.view_is
    (made_goes g.S.Store.disk g.S.Store.loss (λ d. Makes c.args.file) (λ d. made_not c.args.file) s.waits s.put_off.items c.make_all.new.changes.items
    s.store c.make_all.new.store c.create.new.self c.make_all.ensures.still c.create.ensures.loss)
