use Rattle.std.proofs.Common.{◌≡◌, ap, sym, subst}
use Rattle.kb_durable.proofs.Seen.{of_either}
use Rattle.kb_recovered.specs.Windows.{HoldsThrough}
use Rattle.kb_recovered.proofs.commits.remove_goes_on.Goals as goal

pub returns : goal.returns
returns g c = λ syncs past files t first last holds.
    let old = c.args.store.now in
    let new = c.remove.new.self in
    let same : new.store ≡ old.store = of_either c.remove.result c.remove.ensures.waits c.remove.ensures.nothing (λ waits. ap (λ v. v.store) (waits syncs)) (λ nothing. ap (λ v. v.store) (nothing syncs)) in
    subst (λ s. HoldsThrough past files t first last (g.S.Store.disk s) (g.S.Store.loss s)) (sym same) holds
