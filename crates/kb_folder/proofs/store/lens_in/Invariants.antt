use Rattle.std.proofs.Common.{◌≡◌}
use Rattle.kb_store.specs.Loss.{Goes, Same}
use Rattle.kb_folder.specs.Store.{table_of}
use Rattle.kb_folder.proofs.Listing.{Lists}
use Rattle.kb_folder.proofs.store.lens_in.Given as goal

-- the folder is as it was, and the lengths so far are those of its files of the numbers so far
abbrev pub invariant-loop-number : goal.invariant-loop-number
invariant-loop-number g l =
    let had = g.F.Folder.contents l.initial.folder in
    let has = g.F.Folder.contents l.folder in
    record {
      honest : has.honest → had.honest;
      files : has.honest → has.files ≡ had.files;
      lists : has.honest → Lists l.numbers l.number-index had.files (table_of l.lens.entries);
      same : Goes Same (g.F.Folder.loss l.initial.folder) (g.F.Folder.loss l.folder);
    }
