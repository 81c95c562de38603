use Rattle.std.proofs.Common.{◌≤◌, ◌∙◌, true, refl, sym, ap, subst}
use Rattle.kb_store.specs.Disk.{Cuts, IsThere, len_of}
use Rattle.kb_durable.specs.Durable.{disk_left, disk_of}
use Rattle.kb_durable.proofs.Seen.{cut_seen, kept_changed, len_inside, there_cut, there_inside}
use Rattle.kb_durable.proofs.durable.DurableStoreStore.cut.Goals as goal

pub cut-requires-clause-there : goal.cut-requires-clause-there
cut-requires-clause-there g c =
    let s = c.self.inside in
    there_inside s.waiting.items s.refused (g.S.Store.disk s.store) c.args.file
    (subst (λ v. IsThere (disk_of g.S.Store.disk v) c.args.file) (sym c.self.view_is) c.requires.there)

pub cut-requires-clause-within : goal.cut-requires-clause-within
cut-requires-clause-within g c =
    let s = c.self.inside in
    let there = subst (λ v. IsThere (disk_of g.S.Store.disk v) c.args.file) (sym c.self.view_is) c.requires.there in
    subst (λ n. c.args.len ≤ n) (ap (λ v. len_of (disk_of g.S.Store.disk v) c.args.file) (sym c.self.view_is)
    ∙ len_inside s.waiting.items s.refused (g.S.Store.disk s.store) c.args.file there) c.requires.within

pub invariant_of-self-2 : goal.invariant_of-self-2
invariant_of-self-2 g c =
    let s = c.self.inside in
    let d = g.S.Store.disk s.store in
    let e = g.S.Store.disk c.cut.new.self in
    kept_changed e (g.S.Store.loss c.cut.new.self) s.syncs true s.waiting.items c.mend.new.torn.items
    (there_cut s.waiting.items d e c.args.file c.args.len c.in_ok-cut.ensures.cut c.self.invariant.there) refl (λ never. ((c.self.invariant.never never).0, refl))

pub returns-clause-cut : goal.returns-clause-cut
returns-clause-cut g c =
    let s = c.self.inside in
    let e = g.S.Store.disk c.cut.new.self in
    let there = subst (λ v. IsThere (disk_of g.S.Store.disk v) c.args.file) (sym c.self.view_is) c.requires.there in
    subst (λ v. Cuts (disk_of g.S.Store.disk v) c.args.file c.args.len (disk_left s.waiting.items s.refused e)) c.self.view_is
    (cut_seen s.waiting.items s.refused s.refused (g.S.Store.disk s.store) e c.args.file there c.args.len c.in_ok-cut.ensures.cut)
