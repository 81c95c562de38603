use Rattle.std.proofs.Common.{◌∙◌, sym, ap, subst}
use Rattle.kb_store.specs.Disk.{IsThere, len_of}
use Rattle.kb_survey.specs.Changes.{length_after}
use Rattle.kb_survey.specs.Postponed.{disk_with}
use Rattle.kb_survey.proofs.Changes.{there_before, length_is}
use Rattle.kb_store.specs.Loss.{Goes, Same}
use Rattle.kb_survey.specs.Lost.{loss_of, loss_with}
use Rattle.kb_survey.proofs.Lost.{read_goes}
use Rattle.kb_survey.proofs.postponed.PostponedStore.len.Goals as goal

pub len-requires : goal.len-requires
len-requires g c =
    let d = g.S.Store.disk c.self.inside.store in
    there_before c.self.inside.put_off.items d.table c.args.file c.self.invariant
    (subst (λ v. IsThere (disk_with g.S.Store.disk v) c.args.file) (sym c.self.view_is) c.requires)

pub returns-clause-len : goal.returns-clause-len
returns-clause-len g c =
    let d = g.S.Store.disk c.self.inside.store in
    let cs = c.self.inside.put_off.items in
    let there = subst (λ v. IsThere (disk_with g.S.Store.disk v) c.args.file) (sym c.self.view_is) c.requires in
    c.length_after.ensures ∙ ap (length_after cs c.args.file) c.in_ok-len.ensures.len
    ∙ sym (length_is cs d.table c.args.file c.self.invariant there) ∙ ap (λ v. len_of (disk_with g.S.Store.disk v) c.args.file) c.self.view_is

pub returns-in_err-len-clause-loss : goal.returns-in_err-len-clause-loss
returns-in_err-len-clause-loss g c =
    let s = c.self.inside in
    let new = g.S.Store.loss c.len.new.self in
    subst (λ v. Goes Same (loss_with g.S.Store.loss v) (loss_of s.waits s.put_off.items new)) c.self.view_is
    (read_goes s.waits s.put_off.items (g.S.Store.loss s.store) new c.len.ensures.loss)

pub returns-clause-loss : goal.returns-clause-loss
returns-clause-loss g c =
    let s = c.self.inside in
    let new = g.S.Store.loss c.len.new.self in
    subst (λ v. Goes Same (loss_with g.S.Store.loss v) (loss_of s.waits s.put_off.items new)) c.self.view_is
    (read_goes s.waits s.put_off.items (g.S.Store.loss s.store) new c.len.ensures.loss)
