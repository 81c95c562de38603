-- Logs that were opened from the files that are there: what is in their files, where they would start again, and which files are left.
use Rattle.std.specs.Prelude.{◌≡◌, ◌⊎◌, ℕ, List, Some, None, slice_get}
use Rattle.std.specs.FinMap.{get}
use Rattle.std.specs.List.{Contains}
use Rattle.std.specs.declared.alloc.Global.{Global}
use Rattle.std.specs.declared.vec.Vec.{Vec}
use Rattle.kb_store.specs.Disk.{Disk}
use Rattle.kb_segment_log.specs.SegmentLog.{segment_log}
use Rattle.kb_segment_log.specs.declared.log.SegmentLog.{SegmentLog}
use Rattle.kb_tenant_state.specs.declared.partition.Partition.{Partition}
use Rattle.kb_opening.specs.Directory.{all_files}
use Rattle.kb_opening.specs.Partition.{Lists}
use Rattle.kb_opening.specs.declared.directory.Directory.{Directory}

-- A log of those files, with a start that was recorded of it: nothing but its batches is in its own; opened again with that start it
-- would start where it does; and each of the files is its own, or is gone.
pub record IsSettledFrom (numbers : List ℕ) (start : ℕ) (log : SegmentLog) (disk : Disk) : Type 0 where
  pub exact : (segment_log log).exact disk.table
  pub resumes : (segment_log log).resumes start
  pub gone : (file : ℕ) → Contains numbers file → (segment_log log).owns file ⊎ (get disk.table file ≡ None)

-- So is the log of each partition of a topic, of its own files and with its own start; and its memory tells what retention asks of its
-- first batch.
abbrev pub AreSettledFrom : Lists → List ℕ → List (Partition SegmentLog) → Disk → Type 0
AreSettledFrom lists starts xs disk = (p : ℕ) (x : Partition SegmentLog) (list : Vec ℕ Global) (start : ℕ)
    → slice_get xs p ≡ Some x → slice_get lists p ≡ Some list → slice_get starts p ≡ Some start
    → IsSettledFrom list.items start x.log disk × (segment_log x.log).timed

-- Each file that stood in a directory is somebody's, or is gone, or stands in it still.
abbrev pub AreAccounted : Directory → (ℕ → Type 0) → Disk → Directory → Type 0
AreAccounted from owns disk left =
    (file : ℕ) → Contains (all_files from) file → owns file ⊎ (get disk.table file ≡ None) ⊎ Contains (all_files left) file
