-- The partitions of one topic, in order.
use Rattle.std.specs.Prelude.{◌≡◌, ◌≤◌, ◌^◌, ◌⊎◌, ℕ, List, Some, slice_get, sum_by}
use Rattle.std.specs.List.{AllByRecursion}
use Rattle.kb_store.specs.Disk.{Disk, Files, Grew, Keeps, Table}
use Rattle.kb_log.specs.Log.{size_of}
use Rattle.kb_log.specs.OnShelf.{Log}
use Rattle.kb_tenant_state.specs.declared.fault.PartitionFault.{PartitionFault}
use Rattle.kb_tenant_state.specs.declared.fault.PartitionFault.TheVariants.{Unknown, Range, Full, Store, Memory}
use Rattle.kb_tenant_state.specs.declared.partition.Partition.{Partition}

-- the files that the log of some of these partitions owns
pub record OwnedAmong {L : Type 0} (log : L → Log) (xs : List (Partition L)) (file : ℕ) : Type 0 where
  pub number : ℕ
  pub partition : Partition L
  pub at : slice_get xs number ≡ Some partition
  pub own : (log partition.log).owns file

-- each of their logs is sound, and no file is of two of them
pub record AreApartLogs {L : Type 0} (log : L → Log) (xs : List (Partition L)) (table : Table) (next : ℕ) : Type 0 where
  pub each : (p : ℕ) (x : Partition L) → slice_get xs p ≡ Some x → (log x.log).sound table next
  pub apart : (p q : ℕ) (x y : Partition L) → slice_get xs p ≡ Some x → slice_get xs q ≡ Some y → (p ≡ q → ⊥)
      → (file : ℕ) → (log x.log).owns file → (log y.log).owns file → ⊥

-- ---- a look at each of them

-- each of their logs is sound
abbrev pub AreSoundLogs : {L : Type 0} → (L → Log) → List (Partition L) → Table → ℕ → Type 0
AreSoundLogs {L} log xs table next = AllByRecursion (λ (x : Partition L). (log x.log).sound table next) xs

-- each of their logs agrees with its files
abbrev pub AgreeLogs : {L : Type 0} → (L → Log) → List (Partition L) → Files → Type 0
AgreeLogs {L} log xs files = AllByRecursion (λ (x : Partition L). (log x.log).agrees files) xs

-- the bytes of their batches
abbrev pub size_of_logs : {L : Type 0} → (L → Log) → List (Partition L) → Files → ℕ
size_of_logs {L} log xs files = sum_by (λ (x : Partition L). size_of ((log x.log).batches files)) xs

-- what a look at logs keeps: the store's files, and the next file number
pub record Looks (d d' : Disk) (n n' : ℕ) : Type 0 where
  pub disk : Keeps d d'
  pub next : n' ≡ n
  pub failures : d.failures ≤ d'.failures

-- why a look is refused: by the store, whose failures grew or whose file numbers are used up, or by memory
abbrev pub LookWants : {L : Type 0} → (L → Log) → List (Partition L) → Disk → ℕ → PartitionFault → Disk → Type 0
LookWants log xs d next Unknown d' = ⊥
LookWants log xs d next Range d' = ⊥
LookWants log xs d next Full d' = ⊥
LookWants log xs d next Store d' = d'.honest → AgreeLogs log xs d.files → Grew d.failures d'.failures ⊎ (2 ^ 64 ≤ next)
LookWants log xs d next Memory d' = Unit {0}
