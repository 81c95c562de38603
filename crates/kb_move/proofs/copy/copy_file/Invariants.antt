use Rattle.std.proofs.Common.{◌≡◌, ◌≤◌, ◌-◌, length, take}
use Rattle.std.specs.FinMap.{insert}
use Rattle.kb_store.specs.Disk.{IsThere, Keeps, bytes_of, len_of}
use Rattle.kb_move.specs.Copied.{IsAlone}
use Rattle.kb_move.proofs.copy.copy_file.Given as goal

-- the first bytes of the file are there
abbrev pub invariant-loop-at : goal.invariant-loop-at
invariant-loop-at g l =
    let had = g.F.Store.disk l.fn.from in
    let has = g.F.Store.disk l.from in
    let old = g.T.Store.disk l.fn.to in
    let now = g.T.Store.disk l.to in
    record {
      kept : Keeps had has;
      there : IsThere now l.fn.number;
      alone : IsAlone l.fn.number old now;
      whole : l.len ≡ len_of had l.fn.file;
      within : l.at ≤ l.len;
      room : length l.buffer ≡ length l.fn.buffer;
      some : 1 ≤ length l.buffer;
      copied : has.honest → now.honest → now.files ≡ insert old.files l.fn.number (take l.at (bytes_of had l.fn.file));
    }

abbrev pub decreases-loop-at : goal.decreases-loop-at
decreases-loop-at g l = l.len - l.at
