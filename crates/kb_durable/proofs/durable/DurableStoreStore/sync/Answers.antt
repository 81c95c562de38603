use Rattle.std.proofs.Common.{◌≡◌, ◌∙◌, drop, refl, sym, ap, subst}
use Rattle.kb_store.specs.Disk.{Keeps}
use Rattle.kb_store.specs.Loss.{Clears, Goes, Same}
use Rattle.kb_store.specs.LossLaws.{cleared_not, stays_goes}
use Rattle.kb_durable.specs.Waiting.{without_keys}
use Rattle.kb_durable.proofs.Lost.{same_then}
use Rattle.kb_durable.proofs.Run.{loss_after, trims_after, trims_flushed, trims_left}
use Rattle.kb_durable.proofs.durable.DurableStoreStore.sync.Goals as goal

pub returns-then-not-is_changed-clause-synced : goal.returns-then-not-is_changed-clause-synced
returns-then-not-is_changed-clause-synced g c settled h found left =
    c.is_changed.ensures.synced c.if-not-is_changed.true settled.1 h found left
    ∙ sym (ap (λ l. without_keys l (g.S.Store.disk c.args.self.now.store).files) settled.0)

pub returns-then-not-is_changed-clause-loss : goal.returns-then-not-is_changed-clause-loss
returns-then-not-is_changed-clause-loss g c =
    let t = without_keys c.args.self.now.waiting (g.S.Store.disk c.args.self.now.store).table in
    stays_goes (Clears t) (cleared_not t) (g.S.Store.loss c.args.self.now.store)

pub returns-then-not-is_changed-clause-prompt : goal.returns-then-not-is_changed-clause-prompt
returns-then-not-is_changed-clause-prompt g c settled =
    stays_goes Same (λ f. refl) (g.S.Store.loss c.args.self.now.store)

pub returns-then-not-is_changed-clause-torn : goal.returns-then-not-is_changed-clause-torn
returns-then-not-is_changed-clause-torn g c syncs torn =
    absurd (torn (c.is_changed.ensures.whole c.if-not-is_changed.true syncs))

pub returns-then-not-is_changed-clause-first : goal.returns-then-not-is_changed-clause-first
returns-then-not-is_changed-clause-first g c =
    let none = c.is_changed.ensures.none c.if-not-is_changed.true in
    none ∙ sym (ap (drop 16) none)

pub returns-in_err-flush-clause-loss : goal.returns-in_err-flush-clause-loss
returns-in_err-flush-clause-loss g c =
    let t = without_keys c.args.self.now.waiting (g.S.Store.disk c.args.self.now.store).table in
    let l = g.S.Store.loss c.args.self.now.store in
    let m = g.S.Store.loss c.flush.new.self.store in
    same_then (Clears t) l m m (cleared_not t) c.in_err-flush.ensures.loss (stays_goes (Clears t) (cleared_not t) m)

pub returns-in_err-flush-clause-trims : goal.returns-in_err-flush-clause-trims
returns-in_err-flush-clause-trims g c =
    let v = c.args.self.now in
    let w = c.flush.new.self in
    let d = g.S.Store.disk v.store in
    let e = g.S.Store.disk w.store in
    let l = g.S.Store.loss v.store in
    let m = g.S.Store.loss w.store in
    trims_flushed v.waiting w.waiting w.waiting d e e l m m (g.met.S.Store.timely v.store) (ap (λ x. x.waiting) c.in_err-flush.ensures.notes)
    c.in_err-flush.ensures.unchanged c.in_err-flush.ensures.loss 16

pub returns-then-is_empty-clause-loss : goal.returns-then-is_empty-clause-loss
returns-then-is_empty-clause-loss g c =
    let t = without_keys c.args.self.now.waiting (g.S.Store.disk c.args.self.now.store).table in
    let l = g.S.Store.loss c.args.self.now.store in
    let m = g.S.Store.loss c.flush.new.self.store in
    same_then (Clears t) l m m (cleared_not t) c.in_ok-flush.ensures.loss (stays_goes (Clears t) (cleared_not t) m)

pub returns-in_err-remove_some-clause-unchanged : goal.returns-in_err-remove_some-clause-unchanged
returns-in_err-remove_some-clause-unchanged g c =
    let v = c.args.self.now in
    let s = c.self.inside in
    let js = c.remove_some.new.waiting.items in
    let d = g.S.Store.disk v.store in
    let e = g.S.Store.disk s.store in
    let f = g.S.Store.disk c.remove_some.new.store in
    let l = g.S.Store.loss v.store in
    let m = g.S.Store.loss s.store in
    let n = g.S.Store.loss c.remove_some.new.store in
    let same : s.waiting.items ≡ v.waiting = ap (λ x. x.waiting) c.self.view_is ∙ ap (λ x. x.waiting) c.in_ok-flush.ensures.notes in
    let keeps : Keeps d e = subst (λ x. Keeps d (g.S.Store.disk x.store)) (sym c.self.view_is) c.in_ok-flush.ensures.unchanged in
    let goes : Goes Same l m = subst (λ x. Goes Same l (g.S.Store.loss x.store)) (sym c.self.view_is) c.in_ok-flush.ensures.loss in
    trims_left 16 v.waiting js v.refused s.refused d f l n (trims_after v.waiting s.waiting.items js d e f l m n (g.met.S.Store.timely v.store) same keeps goes c.in_err-remove_some.ensures.trims)

pub returns-in_err-remove_some-clause-loss : goal.returns-in_err-remove_some-clause-loss
returns-in_err-remove_some-clause-loss g c =
    let v = c.args.self.now in
    let s = c.self.inside in
    let js = c.remove_some.new.waiting.items in
    let d = g.S.Store.disk v.store in
    let e = g.S.Store.disk s.store in
    let f = g.S.Store.disk c.remove_some.new.store in
    let l = g.S.Store.loss v.store in
    let m = g.S.Store.loss s.store in
    let n = g.S.Store.loss c.remove_some.new.store in
    let same : s.waiting.items ≡ v.waiting = ap (λ x. x.waiting) c.self.view_is ∙ ap (λ x. x.waiting) c.in_ok-flush.ensures.notes in
    let keeps : Keeps d e = subst (λ x. Keeps d (g.S.Store.disk x.store)) (sym c.self.view_is) c.in_ok-flush.ensures.unchanged in
    let goes : Goes Same l m = subst (λ x. Goes Same l (g.S.Store.loss x.store)) (sym c.self.view_is) c.in_ok-flush.ensures.loss in
    loss_after v.waiting s.waiting.items js d e f l m n (g.met.S.Store.timely v.store) same keeps goes c.in_err-remove_some.ensures.loss

pub returns-in_err-remove_some-clause-trims : goal.returns-in_err-remove_some-clause-trims
returns-in_err-remove_some-clause-trims g c =
    let v = c.args.self.now in
    let s = c.self.inside in
    let js = c.remove_some.new.waiting.items in
    let d = g.S.Store.disk v.store in
    let e = g.S.Store.disk s.store in
    let f = g.S.Store.disk c.remove_some.new.store in
    let l = g.S.Store.loss v.store in
    let m = g.S.Store.loss s.store in
    let n = g.S.Store.loss c.remove_some.new.store in
    let same : s.waiting.items ≡ v.waiting = ap (λ x. x.waiting) c.self.view_is ∙ ap (λ x. x.waiting) c.in_ok-flush.ensures.notes in
    let keeps : Keeps d e = subst (λ x. Keeps d (g.S.Store.disk x.store)) (sym c.self.view_is) c.in_ok-flush.ensures.unchanged in
    let goes : Goes Same l m = subst (λ x. Goes Same l (g.S.Store.loss x.store)) (sym c.self.view_is) c.in_ok-flush.ensures.loss in
    trims_after v.waiting s.waiting.items js d e f l m n (g.met.S.Store.timely v.store) same keeps goes c.in_err-remove_some.ensures.trims

pub returns-clause-unchanged : goal.returns-clause-unchanged
returns-clause-unchanged g c =
    let v = c.args.self.now in
    let s = c.self.inside in
    let js = c.remove_some.new.waiting.items in
    let d = g.S.Store.disk v.store in
    let e = g.S.Store.disk s.store in
    let f = g.S.Store.disk c.remove_some.new.store in
    let l = g.S.Store.loss v.store in
    let m = g.S.Store.loss s.store in
    let n = g.S.Store.loss c.remove_some.new.store in
    let same : s.waiting.items ≡ v.waiting = ap (λ x. x.waiting) c.self.view_is ∙ ap (λ x. x.waiting) c.in_ok-flush.ensures.notes in
    let keeps : Keeps d e = subst (λ x. Keeps d (g.S.Store.disk x.store)) (sym c.self.view_is) c.in_ok-flush.ensures.unchanged in
    let goes : Goes Same l m = subst (λ x. Goes Same l (g.S.Store.loss x.store)) (sym c.self.view_is) c.in_ok-flush.ensures.loss in
    trims_left 16 v.waiting js v.refused s.refused d f l n (trims_after v.waiting s.waiting.items js d e f l m n (g.met.S.Store.timely v.store) same keeps goes c.in_ok-remove_some.ensures.trims)

pub returns-clause-loss : goal.returns-clause-loss
returns-clause-loss g c =
    let v = c.args.self.now in
    let s = c.self.inside in
    let js = c.remove_some.new.waiting.items in
    let d = g.S.Store.disk v.store in
    let e = g.S.Store.disk s.store in
    let f = g.S.Store.disk c.remove_some.new.store in
    let l = g.S.Store.loss v.store in
    let m = g.S.Store.loss s.store in
    let n = g.S.Store.loss c.remove_some.new.store in
    let same : s.waiting.items ≡ v.waiting = ap (λ x. x.waiting) c.self.view_is ∙ ap (λ x. x.waiting) c.in_ok-flush.ensures.notes in
    let keeps : Keeps d e = subst (λ x. Keeps d (g.S.Store.disk x.store)) (sym c.self.view_is) c.in_ok-flush.ensures.unchanged in
    let goes : Goes Same l m = subst (λ x. Goes Same l (g.S.Store.loss x.store)) (sym c.self.view_is) c.in_ok-flush.ensures.loss in
    loss_after v.waiting s.waiting.items js d e f l m n (g.met.S.Store.timely v.store) same keeps goes c.in_ok-remove_some.ensures.loss

pub returns-clause-trims : goal.returns-clause-trims
returns-clause-trims g c =
    let v = c.args.self.now in
    let s = c.self.inside in
    let js = c.remove_some.new.waiting.items in
    let d = g.S.Store.disk v.store in
    let e = g.S.Store.disk s.store in
    let f = g.S.Store.disk c.remove_some.new.store in
    let l = g.S.Store.loss v.store in
    let m = g.S.Store.loss s.store in
    let n = g.S.Store.loss c.remove_some.new.store in
    let same : s.waiting.items ≡ v.waiting = ap (λ x. x.waiting) c.self.view_is ∙ ap (λ x. x.waiting) c.in_ok-flush.ensures.notes in
    let keeps : Keeps d e = subst (λ x. Keeps d (g.S.Store.disk x.store)) (sym c.self.view_is) c.in_ok-flush.ensures.unchanged in
    let goes : Goes Same l m = subst (λ x. Goes Same l (g.S.Store.loss x.store)) (sym c.self.view_is) c.in_ok-flush.ensures.loss in
    trims_after v.waiting s.waiting.items js d e f l m n (g.met.S.Store.timely v.store) same keeps goes c.in_ok-remove_some.ensures.trims
