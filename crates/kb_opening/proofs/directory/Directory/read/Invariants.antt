use Rattle.std.proofs.Common.{◌≡◌, ◌≤◌, map, take}
use Rattle.std.specs.Prelude.{IsPermutation}
use Rattle.kb_opening.specs.Directory.{all_files}
use Rattle.kb_opening.proofs.Owned.{AreOwned}
use Rattle.kb_opening.proofs.directory.Directory.read.Given as goal

-- the store is as it was, and the files in front are in the directory
abbrev pub invariant-loop-file : goal.invariant-loop-file
invariant-loop-file g l =
    let had = g.S.Store.disk l.initial.shelf.store in
    let has = g.S.Store.disk l.shelf.store in
    record {
      table : has.table ≡ had.table;
      honest : has.honest → had.honest;
      files : has.honest → has.files ≡ had.files;
      later : had.failures ≤ has.failures;
      next : l.shelf.next ≡ l.initial.shelf.next;
      all : IsPermutation (take l.file-index l.files) (all_files l.directory);
      owned : has.honest → AreOwned had.files (map (λ name. name.now) l.names) (take l.file-index l.files) l.directory;
    }
