use Rattle.std.proofs.Common.{◌∙◌, sym, ap, subst}
use Rattle.kb_store.specs.Disk.{IsThere, len_of}
use Rattle.kb_durable.specs.Durable.{disk_of}
use Rattle.kb_durable.proofs.Seen.{len_inside, there_inside, if_ok}
use Rattle.kb_durable.proofs.durable.DurableStoreStore.len.Goals as goal

pub len-requires : goal.len-requires
len-requires g c =
    let s = c.self.inside in
    there_inside s.waiting.items s.refused (g.S.Store.disk s.store) c.args.file
    (subst (λ v. IsThere (disk_of g.S.Store.disk v) c.args.file) (sym c.self.view_is) c.requires)

pub returns-clause-len : goal.returns-clause-len
returns-clause-len g c =
    let s = c.self.inside in
    let there = subst (λ v. IsThere (disk_of g.S.Store.disk v) c.args.file) (sym c.self.view_is) c.requires in
    if_ok c.len.result c.len.ensures.len (λ n is. is ∙ sym (len_inside s.waiting.items s.refused (g.S.Store.disk s.store) c.args.file there)
    ∙ ap (λ v. len_of (disk_of g.S.Store.disk v) c.args.file) c.self.view_is)
