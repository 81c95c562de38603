use Rattle.std.proofs.Common.{◌<◌, ◌∙◌, [], length, get_or, ap, refl, arith}
use Rattle.std.specs.Prelude.{unwrap_or}
use Rattle.std.specs.FinMap.{get, insert}
use Rattle.kb_store.specs.Disk.{Files, bytes_of}
use Rattle.kb_move.proofs.Copies.{kept_then, placed_next, placed_none}
use Rattle.kb_move.proofs.Disks.{free_then, spares_then}
use Rattle.kb_move.proofs.copy.copy_all.Goals as goal

pub loop-number-init : goal.loop-number-init
loop-number-init g c =
    record {
      kept = record { table = refl; honest = λ h. h; files = λ h. refl };
      room = refl;
      next = omega arith;
      free = c.requires.free;
      spared = record { honest = λ h. h; files = λ h file there. refl };
      copied = λ h k. placed_none c.args.first (bytes_of (g.F.Store.disk c.args.from.now)) c.args.numbers.now (g.T.Store.disk c.args.to.now).files;
    }

pub loop-number-preserved : goal.loop-number-preserved
loop-number-preserved g c =
    let i = c.loop-number.invariant in
    let e = c.in_ok-copy_file.ensures in
    let had = g.F.Store.disk c.args.from.now in
    let mid = g.F.Store.disk c.loop-number.from in
    let old = g.T.Store.disk c.args.to.now in
    let now = g.T.Store.disk c.loop-number.to in
    let new = g.T.Store.disk c.copy_file.new.to in
    let ns = c.args.numbers.now in
    let at = c.loop-number.number-index in
    let next = c.loop-number.next in
    let lt : at < length ns = omega (arith, c.loop-number-test.true, c.loop-number.auto.number-index-end) in
    record {
      kept = kept_then had mid _ i.kept e.unchanged;
      room = e.buffer ∙ i.room;
      next = omega (arith, i.next);
      free = free_then next now new e.others i.free;
      spared = spares_then next c.args.first old now new c.requires.free (omega (arith, i.next)) i.spared e.others;
      copied = λ h k.
          let before = e.unchanged.honest h in
          placed_next c.args.first at 0 (bytes_of had) ns _ old.files now.files new.files lt (i.copied before (e.others.honest k))
          (ap (λ (f : Files). unwrap_or (get f (get_or ns at 0)) []) (i.kept.files before))
          (e.copied h k ∙ ap (λ j. insert now.files j (bytes_of mid (get_or ns at 0))) i.next);
    }
