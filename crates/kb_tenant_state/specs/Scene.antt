-- What some logs on a shelf are to their tenant, and how each call takes them from one moment to the next.
use Rattle.std.specs.Prelude.{◌≡◌, ◌≤◌, ℕ, List, [], Some}
use Rattle.std.specs.FinMap.{get}
use Rattle.kb_store.specs.Disk.{Disk, Files, IsThere, bytes_of}
use Rattle.kb_log.specs.OnShelf.{Identity, Log, Spares, Accounts}

-- Some logs at one moment: which files are theirs; what holds of the files' numbers and lengths on any store; whether nothing but
-- their batches is in the files, by their lengths, and their memory tells what retention asks of each first batch; whether it tells
-- that, whatever is in the files; what holds of their
-- bytes where the store is honest; which bytes a file may have that was theirs and was given up; the disk of the shelf and
-- its next file number; and what the tenant sees of the logs.
pub record Scene (W : Type 0) : Type 1 where
  pub owns : ℕ → Type 0
  pub sound : Type 0
  pub exact : Type 0
  pub timed : Type 0
  pub agrees : Type 0
  pub wrote : ℕ → List ℕ → Type 0
  pub disk : Disk
  pub next : ℕ
  pub state : W

-- A statement about bytes holds where the store is honest at the end, and the logs agreed with their files before.
abbrev pub WhereHonest : {V W : Type 0} → Scene V → Scene W → Type 0 → Type 0
WhereHonest a b P = b.disk.honest → a.agrees → P

-- What each call keeps, also where it is refused: the files of all others are as they were.
pub record Frame {V W : Type 0} (a : Scene V) (b : Scene W) : Type 0 where
  pub sound : b.sound
  pub others : Spares a.owns b.owns a.disk b.disk a.next b.next
  pub failures : a.disk.failures ≤ b.disk.failures
  pub agrees : b.disk.honest → a.agrees → b.agrees

-- Each file that is there afterwards, has a byte and is not theirs was there before as it is: what was written is in their files.
abbrev pub WritesOwn : {V W : Type 0} → Scene V → Scene W → Type 0
WritesOwn a b = b.disk.honest → (file : ℕ) → IsThere b.disk file → (b.owns file → ⊥) → (bytes_of b.disk file ≡ [] → ⊥)
    → IsThere a.disk file × (get b.disk.files file ≡ get a.disk.files file)

-- So it is, and of those files none was theirs, but for those that were given up.
abbrev pub GivesUp : {V W : Type 0} → (ℕ → Type 0) → Scene V → Scene W → Type 0
GivesUp given a b = b.disk.honest → (file : ℕ) → IsThere b.disk file → (b.owns file → ⊥) → (bytes_of b.disk file ≡ [] → ⊥)
    → IsThere a.disk file × (get b.disk.files file ≡ get a.disk.files file) × (a.owns file → given file)

-- What a call that was refused nothing leaves: each file is accounted for, and what was written is in their files; and logs that had
-- nothing but their batches in their files still have nothing else, and their memory still tells what retention asks of each first batch.
pub record Settles {V W : Type 0} (a : Scene V) (b : Scene W) : Type 0 where
  pub accounts : Accounts a.owns b.owns a.disk b.disk
  pub exact : a.exact → b.exact
  pub timed : a.timed → b.timed
  pub writes : WritesOwn a b

-- ---- files that are left behind

-- A log of that tenant had the file, with those bytes, and agreed with its files.
pub record HadFile {L : Type 0} (log : L → Log) (tenant : List ℕ) (file : ℕ) (bytes : List ℕ) : Type 0 where
  pub of : L
  pub files : Files
  pub tenants : (log of).identity.tenant ≡ tenant
  pub owns : (log of).owns file
  pub agrees : (log of).agrees files
  pub had : get files file ≡ Some bytes

-- Such a log is past: it is one of those that the tenant has no more, nor will have again.
pub record IsGivenUp {L : Type 0} (log : L → Log) (tenant : List ℕ) (Past : Identity → Type 0) (file : ℕ) (bytes : List ℕ) : Type 0 where
  pub had : HadFile log tenant file bytes
  pub past : Past (log had.of).identity

-- Each file that is there afterwards, has a byte and is not theirs was there before as it is, and was not theirs, but for one that was given
-- up, with the bytes that it has.
abbrev pub LeavesOwn : {V W : Type 0} → Scene V → Scene W → Type 0
LeavesOwn a b = (file : ℕ) → IsThere b.disk file → (b.owns file → ⊥) → (bytes_of b.disk file ≡ [] → ⊥)
    → (b.wrote file (bytes_of b.disk file) → ⊥)
    → IsThere a.disk file × (get b.disk.files file ≡ get a.disk.files file) × (a.owns file → ⊥)
