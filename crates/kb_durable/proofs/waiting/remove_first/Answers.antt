use Rattle.std.proofs.Common.{◌≡◌, ◌∷◌, ◌∙◌, drop, refl, sym}
use Rattle.kb_store.specs.Loss.{Clears}
use Rattle.kb_store.specs.LossLaws.{stays_goes, cleared_not}
use Rattle.kb_durable.specs.Waiting.{without_keys}
use Rattle.kb_durable.proofs.Lost.{first_found, goes_dropped, then_same, trims_refused, trims_removed, trims_synced}
use Rattle.kb_durable.proofs.waiting.remove_first.Goals as goal

pub returns-in_default-clause-loss : goal.returns-in_default-clause-loss
returns-in_default-clause-loss g c =
    let t = without_keys c.args.waiting.now.items (g.S.Store.disk c.args.store.now).table in
    stays_goes (Clears t) (cleared_not t) (g.S.Store.loss c.args.store.now)

pub returns-in_err-remove-clause-trims : goal.returns-in_err-remove-clause-trims
returns-in_err-remove-clause-trims g c =
    let ks = c.args.waiting.now.items in
    let first : ks ≡ c.in-Some.file ∷ drop 1 ks = first_found ks c.front.result c.in-Some.file (sym c.in-Some.is ∙ c.copied.ensures) c.front.ensures.item.0 c.front.ensures.lookup in
    trims_refused c.in-Some.file (drop 1 ks) ks ks first (g.S.Store.disk c.args.store.now) (g.S.Store.disk c.remove.new.self)
    (g.S.Store.loss c.args.store.now) (g.S.Store.loss c.remove.new.self) c.requires.synced c.in_err-remove.ensures.loss refl c.in_err-remove.ensures.refused

pub returns-in_err-remove-clause-loss : goal.returns-in_err-remove-clause-loss
returns-in_err-remove-clause-loss g c =
    let ks = c.args.waiting.now.items in
    let first : ks ≡ c.in-Some.file ∷ drop 1 ks = first_found ks c.front.result c.in-Some.file (sym c.in-Some.is ∙ c.copied.ensures) c.front.ensures.item.0 c.front.ensures.lookup in
    goes_dropped c.in-Some.file (drop 1 ks) ks ks first (g.S.Store.disk c.args.store.now) (g.S.Store.disk c.remove.new.self)
    (g.S.Store.loss c.args.store.now) (g.S.Store.loss c.remove.new.self) c.requires.synced c.in_err-remove.ensures.loss (g.S.Store.disk c.args.store.now).table

pub returns-in_err-sync-clause-trims : goal.returns-in_err-sync-clause-trims
returns-in_err-sync-clause-trims g c =
    let ks = c.args.waiting.now.items in
    let js = c.pop_front.new.self.items in
    let d = g.S.Store.disk c.args.store.now in
    let e = g.S.Store.disk c.remove.new.self in
    let f = g.S.Store.disk c.sync.new.self in
    let l = g.S.Store.loss c.args.store.now in
    let m = g.S.Store.loss c.remove.new.self in
    let n = g.S.Store.loss c.sync.new.self in
    let first : ks ≡ c.in-Some.file ∷ drop 1 ks = first_found ks c.front.result c.in-Some.file (sym c.in-Some.is ∙ c.copied.ensures) c.front.ensures.item.0 c.front.ensures.lookup in
    let timely = g.met.S.Store.timely c.remove.new.self in
    trims_synced 1 ks js d e f l m n c.in_ok-remove.ensures.loss.later timely
    (trims_removed c.in-Some.file (drop 1 ks) ks js first d e l m c.requires.synced c.in_ok-remove.ensures.loss c.pop_front.ensures.rest c.in_ok-remove.ensures.removed)
    c.in_err-sync.ensures.unchanged
    (c.in_err-sync.ensures.prompt (g.met.S.Direct.prompt c.remove.new.self))

pub returns-in_err-sync-clause-loss : goal.returns-in_err-sync-clause-loss
returns-in_err-sync-clause-loss g c =
    let ks = c.args.waiting.now.items in
    let js = c.pop_front.new.self.items in
    let d = g.S.Store.disk c.args.store.now in
    let e = g.S.Store.disk c.remove.new.self in
    let l = g.S.Store.loss c.args.store.now in
    let m = g.S.Store.loss c.remove.new.self in
    let n = g.S.Store.loss c.sync.new.self in
    let first : ks ≡ c.in-Some.file ∷ drop 1 ks = first_found ks c.front.result c.in-Some.file (sym c.in-Some.is ∙ c.copied.ensures) c.front.ensures.item.0 c.front.ensures.lookup in
    let timely = g.met.S.Store.timely c.remove.new.self in
    then_same (Clears (without_keys ks d.table)) l m n
    (goes_dropped c.in-Some.file (drop 1 ks) ks js first d e l m c.requires.synced c.in_ok-remove.ensures.loss d.table)
    (c.in_err-sync.ensures.prompt (g.met.S.Direct.prompt c.remove.new.self))

pub returns-clause-trims : goal.returns-clause-trims
returns-clause-trims g c =
    let ks = c.args.waiting.now.items in
    let js = c.pop_front.new.self.items in
    let d = g.S.Store.disk c.args.store.now in
    let e = g.S.Store.disk c.remove.new.self in
    let f = g.S.Store.disk c.sync.new.self in
    let l = g.S.Store.loss c.args.store.now in
    let m = g.S.Store.loss c.remove.new.self in
    let n = g.S.Store.loss c.sync.new.self in
    let first : ks ≡ c.in-Some.file ∷ drop 1 ks = first_found ks c.front.result c.in-Some.file (sym c.in-Some.is ∙ c.copied.ensures) c.front.ensures.item.0 c.front.ensures.lookup in
    let timely = g.met.S.Store.timely c.remove.new.self in
    trims_synced 1 ks js d e f l m n c.in_ok-remove.ensures.loss.later timely
    (trims_removed c.in-Some.file (drop 1 ks) ks js first d e l m c.requires.synced c.in_ok-remove.ensures.loss c.pop_front.ensures.rest c.in_ok-remove.ensures.removed)
    c.in_ok-sync.ensures.unchanged
    (c.in_ok-sync.ensures.prompt (g.met.S.Direct.prompt c.remove.new.self))

pub returns-clause-loss : goal.returns-clause-loss
returns-clause-loss g c =
    let ks = c.args.waiting.now.items in
    let js = c.pop_front.new.self.items in
    let d = g.S.Store.disk c.args.store.now in
    let e = g.S.Store.disk c.remove.new.self in
    let l = g.S.Store.loss c.args.store.now in
    let m = g.S.Store.loss c.remove.new.self in
    let n = g.S.Store.loss c.sync.new.self in
    let first : ks ≡ c.in-Some.file ∷ drop 1 ks = first_found ks c.front.result c.in-Some.file (sym c.in-Some.is ∙ c.copied.ensures) c.front.ensures.item.0 c.front.ensures.lookup in
    let timely = g.met.S.Store.timely c.remove.new.self in
    then_same (Clears (without_keys ks d.table)) l m n
    (goes_dropped c.in-Some.file (drop 1 ks) ks js first d e l m c.requires.synced c.in_ok-remove.ensures.loss d.table)
    (c.in_ok-sync.ensures.prompt (g.met.S.Direct.prompt c.remove.new.self))
