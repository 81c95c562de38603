-- Partitions that were just made.
use Rattle.std.specs.Prelude.{◌≡◌, ℕ, List, [], Some, slice_get}
use Rattle.kb_log.specs.OnShelf.{Log, IsNew}
use Rattle.kb_tenant_state.specs.Partitions.{partition_identity}
use Rattle.kb_tenant_state.specs.declared.partition.Partition.{Partition}

-- a partition without records: its log is new, and no producer has anything in it
pub record IsEmptyPartition {L : Type 0} (log : L → Log) (x : Partition L) : Type 0 where
  pub begun : IsNew (log x.log)
  pub unproduced : x.producers.kept ≡ []

-- each log of a topic's is that of its number, of that tenant, with files of so many bytes
abbrev pub AreNumbered : {L : Type 0} → (L → Log) → List ℕ → ℕ → ℕ → List (Partition L) → Type 0
AreNumbered {L} log tenant instance size xs =
    (p : ℕ) (x : Partition L) → slice_get xs p ≡ Some x → (log x.log).identity ≡ partition_identity tenant instance p size
