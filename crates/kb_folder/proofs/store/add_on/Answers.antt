use Rattle.std.proofs.Common.{◌≡◌, ◌+◌, take, subst, refl, arith, rules}
use Rattle.std.proofs.lemmas.List.{length-take-le}
use Rattle.kb_folder.specs.Folder.{AddsBytes}
use Rattle.kb_folder.proofs.Adding.{adds_none, has_added, adds_next}
use Rattle.kb_folder.proofs.Goes.{goes_torn, torn_none}
use Rattle.kb_folder.proofs.store.add_on.Goals as goal

pub loop-added-init : goal.loop-added-init
loop-added-init g c =
    let had = g.F.Folder.contents c.args.folder.now in
    record {
      count = omega arith;
      adds = adds_none had had c.args.file c.args.end c.requires.there (record { honest = λ h. h; files = λ h. refl });
      torn = torn_none c.args.file c.args.end (g.F.Folder.loss c.args.folder.now);
    }

pub write_end-requires : goal.write_end-requires
write_end-requires g c = λ h.
    let i = c.loop-added.invariant in
    has_added (g.F.Folder.contents c.args.folder.now) (g.F.Folder.contents c.loop-added.folder) c.args.file (take c.loop-added.added c.args.bytes.now) c.args.end (c.args.end + c.loop-added.added) c.requires.there i.adds
    (omega (arith, length-take-le c.loop-added.added c.args.bytes.now i.count)) h

pub returns-in-Ok-eq0-clause-added : goal.returns-in-Ok-eq0-clause-added
returns-in-Ok-eq0-clause-added g c =
    let i = c.loop-added.invariant in
    let had = g.F.Folder.contents c.args.folder.now in
    let new = g.F.Folder.contents c.write_end.new.self in
    let none : c.loop-added.added + c.in-Ok-eq0.field-0 ≡ c.loop-added.added = omega (arith, c.in-Ok-eq0.field-0-is) in
    subst (λ m. AddsBytes had c.args.file (take m c.args.bytes.now) new) none
    (adds_next had (g.F.Folder.contents c.loop-added.folder) c.args.file new c.args.bytes.now c.loop-added.added c.in-Ok-eq0.field-0 i.adds c.in-Ok-eq0.ensures.written)

pub loop-added-preserved : goal.loop-added-preserved
loop-added-preserved g c =
    let i = c.loop-added.invariant in
    record {
      count = search rules;
      adds = adds_next (g.F.Folder.contents c.args.folder.now) (g.F.Folder.contents c.loop-added.folder) c.args.file (g.F.Folder.contents c.write_end.new.self) c.args.bytes.now c.loop-added.added c.in-Ok.taken i.adds c.in-Ok.ensures.written;
      torn = goes_torn c.args.file c.args.end (c.args.end + c.loop-added.added) (g.F.Folder.loss c.args.folder.now) (g.F.Folder.loss c.loop-added.folder)
          (g.F.Folder.loss c.write_end.new.self) (omega arith) i.torn c.write_end.ensures.loss;
    }

pub returns-in-Ok-eq0-clause-loss : goal.returns-in-Ok-eq0-clause-loss
returns-in-Ok-eq0-clause-loss g c =
    goes_torn c.args.file c.args.end (c.args.end + c.loop-added.added) (g.F.Folder.loss c.args.folder.now) (g.F.Folder.loss c.loop-added.folder) (g.F.Folder.loss c.write_end.new.self)
    (omega arith) c.loop-added.invariant.torn c.write_end.ensures.loss

pub returns-in-Err-clause-loss : goal.returns-in-Err-clause-loss
returns-in-Err-clause-loss g c =
    goes_torn c.args.file c.args.end (c.args.end + c.loop-added.added) (g.F.Folder.loss c.args.folder.now) (g.F.Folder.loss c.loop-added.folder) (g.F.Folder.loss c.write_end.new.self)
    (omega arith) c.loop-added.invariant.torn c.write_end.ensures.loss

pub returns-clause-loss : goal.returns-clause-loss
returns-clause-loss g c = c.loop-added.invariant.torn
