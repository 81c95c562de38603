use Rattle.std.proofs.Common.{◌≡◌, ◌++◌, ◌∷◌, [], false, sym, subst}
use Rattle.kb_store.specs.Disk.{Removes, IsThere}
use Rattle.kb_store.specs.Loss.{Goes, Drops}
use Rattle.kb_store.specs.LossLaws.{dropped_not, stays_goes}
use Rattle.kb_survey.specs.Changes.{ArePossible, disk_after}
use Rattle.kb_survey.specs.Lost.{loss_of, loss_with}
use Rattle.kb_survey.specs.Postponed.{IsUntouched, disk_with, postponing}
use Rattle.kb_survey.specs.declared.change.Change.TheVariants.{Remove}
use Rattle.kb_survey.proofs.Changes.{possible_push, pushed}
use Rattle.kb_survey.proofs.Lost.{made_goes, untouched, waiting_goes}
use Rattle.kb_survey.proofs.postponed.PostponedStore.remove.Goals as goal

pub invariant_of-self-then-self : goal.invariant_of-self-then-self
invariant_of-self-then-self g c =
    let d = g.S.Store.disk c.self.inside.store in
    let cs = c.self.inside.put_off.items in
    let items : c.push_back.new.self.items ≡ cs ++ Remove c.args.file ∷ [] = c.in_ok-push_back.ensures.items in
    let there = subst (λ v. IsThere (disk_with g.S.Store.disk v) c.args.file) (sym c.self.view_is) c.requires in
    subst (λ x. ArePossible x d.table) (sym items) (possible_push cs (Remove c.args.file) d.table c.self.invariant there)

pub returns-then-self-clause-removed : goal.returns-then-self-clause-removed
returns-then-self-clause-removed g c =
    let d = g.S.Store.disk c.self.inside.store in
    let cs = c.self.inside.put_off.items in
    let items : c.push_back.new.self.items ≡ cs ++ Remove c.args.file ∷ [] = c.in_ok-push_back.ensures.items in
    subst (λ v. Removes (disk_with g.S.Store.disk v) c.args.file (disk_after c.push_back.new.self.items d)) c.self.view_is
    (subst (λ x. Removes (disk_after cs d) c.args.file (disk_after x d)) (sym items) (pushed cs (Remove c.args.file) d))

pub returns-in_err-push_back-clause-loss : goal.returns-in_err-push_back-clause-loss
returns-in_err-push_back-clause-loss g c =
    let s = c.self.inside in
    subst (λ v. Goes (Drops c.args.file) (loss_with g.S.Store.loss v) (loss_of s.waits c.push_back.new.self.items (g.S.Store.loss s.store))) c.self.view_is
    (waiting_goes (Drops c.args.file) (dropped_not c.args.file) s.waits c.if-self.true s.put_off.items c.push_back.new.self.items (g.S.Store.loss s.store) (g.S.Store.loss s.store))

pub returns-then-self-clause-loss : goal.returns-then-self-clause-loss
returns-then-self-clause-loss g c =
    let s = c.self.inside in
    subst (λ v. Goes (Drops c.args.file) (loss_with g.S.Store.loss v) (loss_of s.waits c.push_back.new.self.items (g.S.Store.loss s.store))) c.self.view_is
    (waiting_goes (Drops c.args.file) (dropped_not c.args.file) s.waits c.if-self.true s.put_off.items c.push_back.new.self.items (g.S.Store.loss s.store) (g.S.Store.loss s.store))

pub returns-in_err-make_all-clause-loss : goal.returns-in_err-make_all-clause-loss
returns-in_err-make_all-clause-loss g c =
    let s = c.self.inside in
    subst (λ w. Goes (Drops c.args.file) (loss_with g.S.Store.loss c.args.self.now) (loss_of w c.make_all.new.changes.items (g.S.Store.loss c.make_all.new.store))) (sym c.if-self.false)
    (subst (λ v. Goes (Drops c.args.file) (loss_with g.S.Store.loss v) (loss_of false c.make_all.new.changes.items (g.S.Store.loss c.make_all.new.store))) c.self.view_is
    (made_goes g.S.Store.disk g.S.Store.loss (λ d. Drops c.args.file) (λ d. dropped_not c.args.file) s.waits s.put_off.items c.make_all.new.changes.items
    s.store c.make_all.new.store c.make_all.new.store c.make_all.ensures.still (stays_goes (Drops c.args.file) (dropped_not c.args.file) (g.S.Store.loss c.make_all.new.store))))

pub returns-clause-loss : goal.returns-clause-loss
returns-clause-loss g c =
    let s = c.self.inside in
    subst (λ w. Goes (Drops c.args.file) (loss_with g.S.Store.loss c.args.self.now) (loss_of w c.make_all.new.changes.items (g.S.Store.loss c.remove.new.self))) (sym c.if-self.false)
    (subst (λ v. Goes (Drops c.args.file) (loss_with g.S.Store.loss v) (loss_of false c.make_all.new.changes.items (g.S.Store.loss c.remove.new.self))) c.self.view_is
    (made_goes g.S.Store.disk g.S.Store.loss (λ d. Drops c.args.file) (λ d. dropped_not c.args.file) s.waits s.put_off.items c.make_all.new.changes.items
    s.store c.make_all.new.store c.remove.new.self c.make_all.ensures.still c.remove.ensures.loss))

pub returns-in_err-push_back-clause-untouched : goal.returns-in_err-push_back-clause-untouched
returns-in_err-push_back-clause-untouched g c =
    let s = c.self.inside in
    subst (λ v. IsUntouched g.S.Store.disk g.S.Store.loss v (postponing s.store c.push_back.new.self.items s.waits)) c.self.view_is
    (untouched g.S.Store.disk g.S.Store.loss s.store s.put_off.items c.push_back.new.self.items s.waits)

pub returns-then-self-clause-untouched : goal.returns-then-self-clause-untouched
returns-then-self-clause-untouched g c =
    let s = c.self.inside in
    subst (λ v. IsUntouched g.S.Store.disk g.S.Store.loss v (postponing s.store c.push_back.new.self.items s.waits)) c.self.view_is
    (untouched g.S.Store.disk g.S.Store.loss s.store s.put_off.items c.push_back.new.self.items s.waits)
