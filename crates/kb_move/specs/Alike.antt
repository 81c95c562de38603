-- Files of two stores that say the same, in the same order, and whose they are.
use Rattle.std.specs.Prelude.{◌≡◌, ℕ, Bool, List, filter, map, bytes_eq}
use Rattle.std.specs.List.{All}
use Rattle.std.specs.Ordering.{nat_cmp}
use Rattle.std.specs.FinMap.{keys}
use Rattle.kb_store.specs.Disk.{Files}
use Rattle.kb_segment.specs.Header.{Header}
use Rattle.kb_segment_log.specs.SegmentLog.{bytes_at}
use Rattle.kb_opening.specs.Opened.{IsOpened, Owners}
use Rattle.kb_opening.specs.Owners.{catalog_of, partition_of, says}
use Rattle.kb_topics.specs.Known.{Known}
use Rattle.kb_tenant_state.specs.Logs.{Logs}
use Rattle.kb_move.specs.Copied.{with_files_from}

-- of pairs of numbers those on this side, and those on the other
abbrev pub numbers_here : List (ℕ × ℕ) → List ℕ
numbers_here pairs = map (λ p. p.0) pairs

abbrev pub numbers_there : List (ℕ × ℕ) → List ℕ
numbers_there pairs = map (λ p. p.1) pairs

-- File by file the bytes are the same, and of two files the same one has the greater number.
pub record AreAlike (here there : Files) (pairs : List (ℕ × ℕ)) : Type 0 where
  pub bytes : All (λ p. bytes_at there p.1 ≡ bytes_at here p.0) pairs
  pub order : All (λ p. All (λ q. nat_cmp p.1 q.1 ≡ nat_cmp p.0 q.0) pairs) pairs

-- which of some files are of which log of a tenant
abbrev pub owners_of : Files → List ℕ → List ℕ → Owners
owners_of files numbers name = record {
  catalog = λ generation. catalog_of files name generation numbers;
  partition = λ i p. partition_of files name i p numbers;
}

-- ---- a tenant among all files of a store

-- a header names that tenant
abbrev pub is_named : List ℕ → Header → Bool
is_named name h = bytes_eq h.tenant name

-- its files
abbrev pub owned_in : List ℕ → Files → List ℕ
owned_in name files = filter (says files (is_named name)) (keys files)

-- what it has, where a broker opens on these files
abbrev pub Opens : Files → List ℕ → Known → Logs → Type 0
Opens files name k logs = IsOpened files (owners_of files (keys files) name) k logs

-- the files of a store with its files of another one behind them, from a number on
abbrev pub with_owned_files : ℕ → List ℕ → Files → Files → Files
with_owned_files n name from to = with_files_from n (map (bytes_at from) (owned_in name from)) to
