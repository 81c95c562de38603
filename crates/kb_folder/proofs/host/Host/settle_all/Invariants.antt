use Rattle.std.proofs.Common.{◌<◌, ℕ}
use Rattle.std.specs.List.{slice_index_or}
use Rattle.kb_folder.specs.Folder.{IsAsBefore}
use Rattle.kb_folder.specs.Lasting.{Lasts}
use Rattle.kb_folder.specs.Told.{calls_of, contents_of}
use Rattle.kb_folder.proofs.host.Host.settle_all.Given as goal

-- the first files last
abbrev pub invariant-loop-file : goal.invariant-loop-file
invariant-loop-file g l = record {
  unchanged : IsAsBefore (contents_of (calls_of l.fn.history)) (contents_of (calls_of l.history));
  last : (k : ℕ) → k < l.file-index → Lasts (slice_index_or l.numbers k 0) (calls_of l.history);
}
