use Rattle.std.proofs.Common.{◌≤◌, ◌+◌, ◌∙◌, sym, ap, subst, length, take, drop}
use Rattle.kb_store.specs.Disk.{IsThere, len_of, bytes_of}
use Rattle.kb_durable.specs.Durable.{disk_of}
use Rattle.kb_durable.proofs.Seen.{bytes_inside, len_inside, there_inside, on_ok}
use Rattle.kb_durable.proofs.durable.DurableStoreStore.read_at.Goals as goal

pub read_at-requires-clause-there : goal.read_at-requires-clause-there
read_at-requires-clause-there g c =
    let s = c.self.inside in
    there_inside s.waiting.items s.refused (g.S.Store.disk s.store) c.args.file
    (subst (λ v. IsThere (disk_of g.S.Store.disk v) c.args.file) (sym c.self.view_is) c.requires.there)

pub read_at-requires-clause-within : goal.read_at-requires-clause-within
read_at-requires-clause-within g c =
    let s = c.self.inside in
    let there = subst (λ v. IsThere (disk_of g.S.Store.disk v) c.args.file) (sym c.self.view_is) c.requires.there in
    subst (λ n. c.args.at + length c.args.buffer.now ≤ n) (ap (λ v. len_of (disk_of g.S.Store.disk v) c.args.file) (sym c.self.view_is)
    ∙ len_inside s.waiting.items s.refused (g.S.Store.disk s.store) c.args.file there) c.requires.within

pub returns-clause-bytes : goal.returns-clause-bytes
returns-clause-bytes g c =
    let s = c.self.inside in
    let n = length c.args.buffer.now in
    let there = subst (λ v. IsThere (disk_of g.S.Store.disk v) c.args.file) (sym c.self.view_is) c.requires.there in
    on_ok c.read_at.result c.read_at.ensures.bytes (λ got h. got h ∙ ap (λ bytes. take n (drop c.args.at bytes))
    (sym (bytes_inside s.waiting.items s.refused (g.S.Store.disk s.store) c.args.file there)
    ∙ ap (λ v. bytes_of (disk_of g.S.Store.disk v) c.args.file) c.self.view_is))
