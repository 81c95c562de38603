use Rattle.std.proofs.Common.{◌≡◌, ◌∙◌, false, true, refl, sym, ap, subst, inr}
use Rattle.std.specs.FinMap as map
use Rattle.kb_store.specs.Disk.{Keeps, MayCreate}
use Rattle.kb_store.specs.Loss.{Goes, Makes, Only, Same}
use Rattle.kb_store.specs.LossLaws.{made_not, same_made, stays_goes}
use Rattle.kb_durable.specs.Durable.{disk_of}
use Rattle.kb_durable.specs.Waiting.{has}
use Rattle.kb_durable.proofs.Lost.{made_after, same_then}
use Rattle.kb_durable.proofs.Seen.{kept_changed, made, made_or_not, not_inside, of_either, on_err, on_ok, there_made}
use Rattle.kb_durable.proofs.durable.DurableStoreStore.create.Goals as goal

pub invariant_of-self : goal.invariant_of-self
invariant_of-self g c =
    let s = c.self.inside in
    let d = g.S.Store.disk s.store in
    let e = g.S.Store.disk c.create.new.self in
    let may : MayCreate d c.args.file e = of_either c.create.result c.create.ensures.created c.create.ensures.refused (λ p. inr p) (λ p. p) in
    kept_changed e (g.S.Store.loss c.create.new.self) s.syncs s.changed s.waiting.items s.torn.items
    (there_made s.waiting.items d e c.args.file may c.self.invariant.there) (c.self.invariant.never c.if-not-self.true).1 c.self.invariant.never

pub returns-then-waits-clause-loss : goal.returns-then-waits-clause-loss
returns-then-waits-clause-loss g c =
    same_made g.S.Store.loss c.args.file c.args.self.now.store c.refuse.new.self.store (ap (λ s. s.store) c.refuse.ensures.counted)

pub returns-in_err-flush-clause-loss : goal.returns-in_err-flush-clause-loss
returns-in_err-flush-clause-loss g c =
    let l = g.S.Store.loss c.args.self.now.store in
    let m = g.S.Store.loss c.flush.new.self.store in
    same_then (Makes c.args.file) l m m (made_not c.args.file) c.in_err-flush.ensures.loss (stays_goes (Makes c.args.file) (made_not c.args.file) m)

pub create-requires-2 : goal.create-requires-2
create-requires-2 g c =
    let s = c.self-2.inside in
    let v = c.args.self.now in
    let ks : s.waiting.items ≡ c.self.inside.waiting.items = ap (λ x. x.waiting) c.self-2.view_is ∙ ap (λ x. x.waiting) c.in_ok-flush.ensures.notes ∙ ap (λ x. x.waiting) (sym c.self.view_is) in
    let free : has c.self.inside.waiting.items c.args.file ≡ false = sym c.waits.ensures ∙ c.if-waits.false in
    let table : (g.S.Store.disk s.store).table ≡ (g.S.Store.disk c.self.inside.store).table =
    ap (λ x. (g.S.Store.disk x.store).table) c.self-2.view_is ∙ c.in_ok-flush.ensures.unchanged.table ∙ ap (λ x. (g.S.Store.disk x.store).table) (sym c.self.view_is) in
    ap (λ t. map.get t c.args.file) table
    ∙ not_inside c.self.inside.waiting.items (g.S.Store.disk c.self.inside.store).table c.args.file free
    (ap (λ x. map.get (disk_of g.S.Store.disk x).table c.args.file) c.self.view_is ∙ c.requires)

pub invariant_of-self-2 : goal.invariant_of-self-2
invariant_of-self-2 g c =
    let s = c.self-2.inside in
    let d = g.S.Store.disk s.store in
    let e = g.S.Store.disk c.create-2.new.self in
    let may : MayCreate d c.args.file e = of_either c.create-2.result c.create-2.ensures.created c.create-2.ensures.refused (λ p. inr p) (λ p. p) in
    kept_changed e (g.S.Store.loss c.create-2.new.self) s.syncs true s.waiting.items s.torn.items
    (there_made s.waiting.items d e c.args.file may c.self-2.invariant.there) refl (λ never. ((c.self-2.invariant.never never).0, refl))

pub returns-clause-created : goal.returns-clause-created
returns-clause-created g c =
    let s = c.self-2.inside in
    let v = c.args.self.now in
    let d = g.S.Store.disk v.store in
    let e = g.S.Store.disk s.store in
    let ks : s.waiting.items ≡ v.waiting = ap (λ x. x.waiting) c.self-2.view_is ∙ ap (λ x. x.waiting) c.in_ok-flush.ensures.notes in
    let free : has v.waiting c.args.file ≡ false = ap (λ x. has x.waiting c.args.file) (sym c.self.view_is) ∙ sym c.waits.ensures ∙ c.if-waits.false in
    let stays : Keeps d e = subst (λ x. Keeps d (g.S.Store.disk x.store)) (sym c.self-2.view_is) c.in_ok-flush.ensures.unchanged in
    on_ok c.create-2.result c.create-2.ensures.created
    (λ creates. made v.waiting s.waiting.items v.refused s.refused d e (g.S.Store.disk c.create-2.new.self) c.args.file ks free stays creates)

pub returns-clause-refused : goal.returns-clause-refused
returns-clause-refused g c =
    let s = c.self-2.inside in
    let v = c.args.self.now in
    let d = g.S.Store.disk v.store in
    let e = g.S.Store.disk s.store in
    let ks : s.waiting.items ≡ v.waiting = ap (λ x. x.waiting) c.self-2.view_is ∙ ap (λ x. x.waiting) c.in_ok-flush.ensures.notes in
    let free : has v.waiting c.args.file ≡ false = ap (λ x. has x.waiting c.args.file) (sym c.self.view_is) ∙ sym c.waits.ensures ∙ c.if-waits.false in
    let stays : Keeps d e = subst (λ x. Keeps d (g.S.Store.disk x.store)) (sym c.self-2.view_is) c.in_ok-flush.ensures.unchanged in
    on_err c.create-2.result c.create-2.ensures.refused
    (λ may. made_or_not v.waiting s.waiting.items v.refused s.refused d e (g.S.Store.disk c.create-2.new.self) c.args.file ks free stays may)

pub returns-clause-loss : goal.returns-clause-loss
returns-clause-loss g c =
    let l = g.S.Store.loss c.args.self.now.store in
    let m = g.S.Store.loss c.self-2.inside.store in
    let n = g.S.Store.loss c.create-2.new.self in
    same_then (Makes c.args.file) l m n (made_not c.args.file)
    (subst (λ x. Goes Same l (g.S.Store.loss x.store)) (sym c.self-2.view_is) c.in_ok-flush.ensures.loss) c.create-2.ensures.loss

pub returns-clause-lasts : goal.returns-clause-lasts
returns-clause-lasts g c =
    let d = g.S.Store.disk c.args.self.now.store in
    let e = g.S.Store.disk c.self-2.inside.store in
    let stays : Keeps d e = subst (λ x. Keeps d (g.S.Store.disk x.store)) (sym c.self-2.view_is) c.in_ok-flush.ensures.unchanged in
    let only = subst (λ x. (g.S.Store.disk x.store).honest → Only (g.S.Store.disk x.store).files (g.S.Store.loss x.store)) (sym c.self-2.view_is) c.in_ok-flush.ensures.synced in
    on_ok c.create-2.result c.create-2.ensures.created (λ creates syncs h found left.
    made_after c.args.file d e (g.S.Store.loss c.self-2.inside.store) (g.S.Store.loss c.create-2.new.self) stays only c.create-2.ensures.loss (creates.honest h) found left)
