use Rattle.std.proofs.Common.{◌≡◌, sym, subst}
use Rattle.kb_store.specs.Disk.{len_of}
use Rattle.kb_restart.specs.Lengths.{AreRising, lengths_of}
use Rattle.kb_restart.proofs.Drops.{all_told, lengths_rise}
use Rattle.kb_restart.proofs.Listed.{all_listed}
use Rattle.kb_restart.proofs.lengths.file_lengths.Goals as goal

pub len-requires : goal.len-requires
len-requires g c =
    all_listed (g.S.Store.disk c.args.store.now) (g.S.Store.disk c.loop-file.store) c.deref-file-items.result.now c.loop-file.invariant.listed c.loop-file.invariant.unchanged c.loop-file.file-index 0 c.loop-file-test.true

pub returns-clause-rise : goal.returns-clause-rise
returns-clause-rise g c =
    let is : c.loop-file.lengths.items ≡ lengths_of (g.S.Store.disk c.args.store.now) = all_told c.loop-file.lengths.items (lengths_of (g.S.Store.disk c.args.store.now)) (len_of (g.S.Store.disk c.args.store.now)) c.deref-file-items.result.now c.loop-file.file-index c.loop-file-test.false c.loop-file.invariant.told in
    subst AreRising (sym is) (lengths_rise (g.S.Store.disk c.args.store.now))
