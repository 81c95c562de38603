use Rattle.std.proofs.Common.{◌≡◌, ◌<◌, ◌+◌, ℕ, length, map, take}
use Rattle.kb_store.specs.Disk.{IsThere, Keeps, bytes_of}
use Rattle.kb_move.specs.Copied.{KeepsFiles, with_files_from}
use Rattle.kb_move.proofs.copy.copy_all.Given as goal

-- the first files are copied, and all numbers from the next one on are free
abbrev pub invariant-loop-number : goal.invariant-loop-number
invariant-loop-number g l =
    let had = g.F.Store.disk l.fn.from in
    let has = g.F.Store.disk l.from in
    let old = g.T.Store.disk l.fn.to in
    let now = g.T.Store.disk l.to in
    record {
      kept : Keeps had has;
      room : length l.buffer ≡ length l.fn.buffer;
      next : l.next ≡ l.fn.first + l.number-index;
      free : (file : ℕ) → IsThere now file → file < l.next;
      spared : KeepsFiles old now;
      copied : has.honest → now.honest
          → now.files ≡ with_files_from l.fn.first (map (bytes_of had) (take l.number-index l.fn.numbers)) old.files;
    }
