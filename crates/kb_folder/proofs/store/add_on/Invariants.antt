use Rattle.std.proofs.Common.{◌≤◌, ◌-◌, length, take}
use Rattle.kb_store.specs.Loss.{Goes, Tears}
use Rattle.kb_folder.specs.Folder.{AddsBytes}
use Rattle.kb_folder.proofs.store.add_on.Given as goal

-- the first bytes were added
abbrev pub invariant-loop-added : goal.invariant-loop-added
invariant-loop-added g l = record {
  count : l.added ≤ length l.bytes;
  adds : AddsBytes (g.F.Folder.contents l.initial.folder) l.file (take l.added l.bytes) (g.F.Folder.contents l.folder);
  torn : Goes (Tears l.file l.end) (g.F.Folder.loss l.initial.folder) (g.F.Folder.loss l.folder);
}

abbrev pub decreases-loop-added : goal.decreases-loop-added
decreases-loop-added g l = length l.bytes - l.added
