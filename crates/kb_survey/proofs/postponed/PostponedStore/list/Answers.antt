use Rattle.std.proofs.Common.{◌∙◌, ap, sym, subst, not}
use Rattle.std.specs.FinMap as map
use Rattle.std.specs.List.{filter}
use Rattle.kb_survey.specs.Changes.{removes}
use Rattle.kb_survey.specs.Postponed.{disk_with}
use Rattle.kb_survey.proofs.Keys.{keys_after}
use Rattle.kb_store.specs.Loss.{Goes, Same}
use Rattle.kb_survey.specs.Lost.{loss_of, loss_with}
use Rattle.kb_survey.proofs.Lost.{read_goes}
use Rattle.kb_survey.proofs.postponed.PostponedStore.list.Goals as goal

pub returns-clause-numbers : goal.returns-clause-numbers
returns-clause-numbers g c =
    let d = g.S.Store.disk c.self.inside.store in
    let cs = c.self.inside.put_off.items in
    c.in_ok-numbers_left.ensures ∙ ap (filter (λ q. not (removes cs q))) (c.deref.ensures.value ∙ c.in_ok-numbers.ensures.numbers)
    ∙ sym (keys_after cs d.table c.self.invariant) ∙ ap (λ v. map.keys (disk_with g.S.Store.disk v).table) c.self.view_is

pub returns-in_err-numbers-clause-loss : goal.returns-in_err-numbers-clause-loss
returns-in_err-numbers-clause-loss g c =
    let s = c.self.inside in
    let new = g.S.Store.loss c.list.new.self in
    subst (λ v. Goes Same (loss_with g.S.Store.loss v) (loss_of s.waits s.put_off.items new)) c.self.view_is
    (read_goes s.waits s.put_off.items (g.S.Store.loss s.store) new c.list.ensures.loss)

pub returns-in_err-numbers_left-clause-loss : goal.returns-in_err-numbers_left-clause-loss
returns-in_err-numbers_left-clause-loss g c =
    let s = c.self.inside in
    let new = g.S.Store.loss c.list.new.self in
    subst (λ v. Goes Same (loss_with g.S.Store.loss v) (loss_of s.waits s.put_off.items new)) c.self.view_is
    (read_goes s.waits s.put_off.items (g.S.Store.loss s.store) new c.list.ensures.loss)

pub returns-clause-loss : goal.returns-clause-loss
returns-clause-loss g c =
    let s = c.self.inside in
    let new = g.S.Store.loss c.list.new.self in
    subst (λ v. Goes Same (loss_with g.S.Store.loss v) (loss_of s.waits s.put_off.items new)) c.self.view_is
    (read_goes s.waits s.put_off.items (g.S.Store.loss s.store) new c.list.ensures.loss)
