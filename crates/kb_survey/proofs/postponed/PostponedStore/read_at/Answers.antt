use Rattle.std.proofs.Common.{◌≤◌, ◌+◌, ◌∙◌, sym, ap, subst, arith, length, take, drop}
use Rattle.kb_store.specs.Disk.{IsThere, len_of, bytes_of}
use Rattle.kb_survey.specs.Changes.{disk_after}
use Rattle.kb_survey.specs.Postponed.{disk_with, shorter_after}
use Rattle.kb_survey.proofs.Changes.{there_before, part_is, on_ok}
use Rattle.kb_store.specs.Loss.{Goes, Same}
use Rattle.kb_survey.specs.Lost.{loss_of, loss_with}
use Rattle.kb_survey.proofs.Lost.{read_goes}
use Rattle.kb_survey.proofs.postponed.PostponedStore.read_at.Goals as goal

pub read_at-requires-clause-there : goal.read_at-requires-clause-there
read_at-requires-clause-there g c =
    let d = g.S.Store.disk c.self.inside.store in
    there_before c.self.inside.put_off.items d.table c.args.file c.self.invariant
    (subst (λ v. IsThere (disk_with g.S.Store.disk v) c.args.file) (sym c.self.view_is) c.requires.there)

pub read_at-requires-clause-within : goal.read_at-requires-clause-within
read_at-requires-clause-within g c =
    let d = g.S.Store.disk c.self.inside.store in
    let within : c.args.at + length c.args.buffer.now ≤ len_of (disk_after c.self.inside.put_off.items d) c.args.file =
    subst (λ v. c.args.at + length c.args.buffer.now ≤ len_of (disk_with g.S.Store.disk v) c.args.file) (sym c.self.view_is) c.requires.within in
    omega (arith, within, shorter_after c.self.inside.put_off.items d.table c.args.file)

pub returns-clause-bytes : goal.returns-clause-bytes
returns-clause-bytes g c =
    let d = g.S.Store.disk c.self.inside.store in
    let n = length c.args.buffer.now in
    let within : c.args.at + n ≤ len_of (disk_after c.self.inside.put_off.items d) c.args.file =
    subst (λ v. c.args.at + n ≤ len_of (disk_with g.S.Store.disk v) c.args.file) (sym c.self.view_is) c.requires.within in
    on_ok c.read_at.result c.read_at.ensures.bytes (λ got h.
    let was = c.read_at.ensures.unchanged.honest h in
    got h ∙ sym (part_is c.self.inside.put_off.items d c.args.file n c.args.at (g.met.S.Store.lawful c.self.inside.store) was within)
    ∙ ap (λ v. take n (drop c.args.at (bytes_of (disk_with g.S.Store.disk v) c.args.file))) c.self.view_is)

pub returns-clause-loss : goal.returns-clause-loss
returns-clause-loss g c =
    let s = c.self.inside in
    let new = g.S.Store.loss c.read_at.new.self in
    subst (λ v. Goes Same (loss_with g.S.Store.loss v) (loss_of s.waits s.put_off.items new)) c.self.view_is
    (read_goes s.waits s.put_off.items (g.S.Store.loss s.store) new c.read_at.ensures.loss)
