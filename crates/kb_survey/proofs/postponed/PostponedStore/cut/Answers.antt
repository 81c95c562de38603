use Rattle.std.proofs.Common.{◌≡◌, ◌≤◌, ◌++◌, ◌∷◌, [], false, sym, subst}
use Rattle.kb_store.specs.Disk.{Cuts, IsThere, len_of}
use Rattle.kb_store.specs.Loss.{Goes, Tears}
use Rattle.kb_store.specs.LossLaws.{torn_not, stays_goes}
use Rattle.kb_survey.specs.Changes.{ArePossible, disk_after}
use Rattle.kb_survey.specs.Lost.{loss_of, loss_with}
use Rattle.kb_survey.specs.Postponed.{IsUntouched, disk_with, postponing}
use Rattle.kb_survey.specs.declared.change.Change.TheVariants.{Cut}
use Rattle.kb_survey.proofs.Changes.{possible_push, cut_last}
use Rattle.kb_survey.proofs.Lost.{made_goes, untouched, waiting_goes}
use Rattle.kb_survey.proofs.postponed.PostponedStore.cut.Goals as goal

pub invariant_of-self-then-self : goal.invariant_of-self-then-self
invariant_of-self-then-self g c =
    let d = g.S.Store.disk c.self.inside.store in
    let cs = c.self.inside.put_off.items in
    let items : c.push_back.new.self.items ≡ cs ++ Cut c.args.file c.args.len ∷ [] = c.in_ok-push_back.ensures.items in
    let there = subst (λ v. IsThere (disk_with g.S.Store.disk v) c.args.file) (sym c.self.view_is) c.requires.there in
    let within = subst (λ v. c.args.len ≤ len_of (disk_with g.S.Store.disk v) c.args.file) (sym c.self.view_is) c.requires.within in
    subst (λ x. ArePossible x d.table) (sym items) (possible_push cs (Cut c.args.file c.args.len) d.table c.self.invariant (there, within))

pub returns-then-self-clause-cut : goal.returns-then-self-clause-cut
returns-then-self-clause-cut g c =
    let d = g.S.Store.disk c.self.inside.store in
    let cs = c.self.inside.put_off.items in
    let items : c.push_back.new.self.items ≡ cs ++ Cut c.args.file c.args.len ∷ [] = c.in_ok-push_back.ensures.items in
    let within = subst (λ v. c.args.len ≤ len_of (disk_with g.S.Store.disk v) c.args.file) (sym c.self.view_is) c.requires.within in
    subst (λ v. Cuts (disk_with g.S.Store.disk v) c.args.file c.args.len (disk_after c.push_back.new.self.items d)) c.self.view_is
    (subst (λ x. Cuts (disk_after cs d) c.args.file c.args.len (disk_after x d)) (sym items) (cut_last cs d c.args.file c.args.len within))

pub returns-in_err-push_back-clause-loss : goal.returns-in_err-push_back-clause-loss
returns-in_err-push_back-clause-loss g c =
    let s = c.self.inside in
    subst (λ v. Goes (Tears c.args.file c.args.len) (loss_with g.S.Store.loss v) (loss_of s.waits c.push_back.new.self.items (g.S.Store.loss s.store))) c.self.view_is
    (waiting_goes (Tears c.args.file c.args.len) (torn_not c.args.file c.args.len) s.waits c.if-self.true s.put_off.items c.push_back.new.self.items (g.S.Store.loss s.store) (g.S.Store.loss s.store))

pub returns-then-self-clause-loss : goal.returns-then-self-clause-loss
returns-then-self-clause-loss g c =
    let s = c.self.inside in
    subst (λ v. Goes (Tears c.args.file c.args.len) (loss_with g.S.Store.loss v) (loss_of s.waits c.push_back.new.self.items (g.S.Store.loss s.store))) c.self.view_is
    (waiting_goes (Tears c.args.file c.args.len) (torn_not c.args.file c.args.len) s.waits c.if-self.true s.put_off.items c.push_back.new.self.items (g.S.Store.loss s.store) (g.S.Store.loss s.store))

pub returns-in_err-make_all-clause-loss : goal.returns-in_err-make_all-clause-loss
returns-in_err-make_all-clause-loss g c =
    let s = c.self.inside in
    subst (λ w. Goes (Tears c.args.file c.args.len) (loss_with g.S.Store.loss c.args.self.now) (loss_of w c.make_all.new.changes.items (g.S.Store.loss c.make_all.new.store))) (sym c.if-self.false)
    (subst (λ v. Goes (Tears c.args.file c.args.len) (loss_with g.S.Store.loss v) (loss_of false c.make_all.new.changes.items (g.S.Store.loss c.make_all.new.store))) c.self.view_is
    (made_goes g.S.Store.disk g.S.Store.loss (λ d. Tears c.args.file c.args.len) (λ d. torn_not c.args.file c.args.len) s.waits s.put_off.items c.make_all.new.changes.items
    s.store c.make_all.new.store c.make_all.new.store c.make_all.ensures.still (stays_goes (Tears c.args.file c.args.len) (torn_not c.args.file c.args.len) (g.S.Store.loss c.make_all.new.store))))

pub returns-clause-loss : goal.returns-clause-loss
returns-clause-loss g c =
    let s = c.self.inside in
    subst (λ w. Goes (Tears c.args.file c.args.len) (loss_with g.S.Store.loss c.args.self.now) (loss_of w c.make_all.new.changes.items (g.S.Store.loss c.cut.new.self))) (sym c.if-self.false)
    (subst (λ v. Goes (Tears c.args.file c.args.len) (loss_with g.S.Store.loss v) (loss_of false c.make_all.new.changes.items (g.S.Store.loss c.cut.new.self))) c.self.view_is
    (made_goes g.S.Store.disk g.S.Store.loss (λ d. Tears c.args.file c.args.len) (λ d. torn_not c.args.file c.args.len) s.waits s.put_off.items c.make_all.new.changes.items
    s.store c.make_all.new.store c.cut.new.self c.make_all.ensures.still c.cut.ensures.loss))

pub returns-in_err-push_back-clause-untouched : goal.returns-in_err-push_back-clause-untouched
returns-in_err-push_back-clause-untouched g c =
    let s = c.self.inside in
    subst (λ v. IsUntouched g.S.Store.disk g.S.Store.loss v (postponing s.store c.push_back.new.self.items s.waits)) c.self.view_is
    (untouched g.S.Store.disk g.S.Store.loss s.store s.put_off.items c.push_back.new.self.items s.waits)

pub returns-then-self-clause-untouched : goal.returns-then-self-clause-untouched
returns-then-self-clause-untouched g c =
    let s = c.self.inside in
    subst (λ v. IsUntouched g.S.Store.disk g.S.Store.loss v (postponing s.store c.push_back.new.self.items s.waits)) c.self.view_is
    (untouched g.S.Store.disk g.S.Store.loss s.store s.put_off.items c.push_back.new.self.items s.waits)
