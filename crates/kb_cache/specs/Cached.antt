-- The disk that a store with a cache is, and what its cache says of it.
use Rattle.std.specs.Prelude.{◌≡◌, ◌≤◌, ◌<◌, ◌+◌, ℕ, List, [], length, take, drop, Option, Some, None, Bool, false, cond, ◌⊎◌, ◌||◌, nat_lt, true, Result, Ok, Err}
use Rattle.kb_store.specs.declared.fault.StoreFault.{StoreFault}
use Rattle.std.specs.BTreeMap.{is_at}
use Rattle.std.specs.List.{AllByRecursion, list_any}
use Rattle.std.specs.Ordering.{nat_cmp}
use Rattle.std.specs.declared.vec.Vec.{Vec}
use Rattle.lru.specs.LruCache.{LruCache}
use Rattle.kb_store.specs.Disk.{Disk, IsThere, len_of, bytes_of}
use Rattle.kb_cache.specs.Kept.{Entry, AreWithin, after_keep, behind_cut, is_kept, reads, seen, total}

-- what callers see of the store: the one inside, what is kept of its files, the limits, the files that were read since something was
-- appended, and whether anything was
pub record Caching (S : Type 0) : Type 0 where
  pub store : S
  pub entries : List Entry
  pub most_entries : ℕ
  pub most_bytes : ℕ
  pub asked : List ℕ
  pub writes : Bool

abbrev pub caching : {S : Type 0} → S → List Entry → ℕ → ℕ → List ℕ → Bool → Caching S
caching s es n b a w = record { store = s; entries = es; most_entries = n; most_bytes = b; asked = a; writes = w }

-- the entries of a cache that is made at its first use
abbrev pub entries_in : {A : Type 0} → Option (LruCache (ℕ × ℕ) (Vec ℕ A)) → List Entry
entries_in None = []
entries_in (Some c) = seen c.entries

-- it is the disk inside
abbrev pub disk_behind : {S : Type 0} → (S → Disk) → Caching S → Disk
disk_behind inner s = inner s.store

-- The entry's file is there with its bytes, and where the disk is honest they are the file's own.
pub record IsRight (d : Disk) (e : Entry) : Type 0 where
  pub there : IsThere d e.0.0
  pub some : 0 < length e.1
  pub within : e.0.1 + length e.1 ≤ len_of d e.0.0
  pub bytes : d.honest → e.1 ≡ take (length e.1) (drop e.0.1 (bytes_of d e.0.0))

abbrev pub AreRight : Disk → List Entry → Type 0
AreRight d es = AllByRecursion (IsRight d) es

-- The n bytes of a file from a place on are kept.
abbrev pub is_kept_in : {S : Type 0} → Caching S → ℕ → ℕ → ℕ → Bool
is_kept_in s file at n = is_kept s.entries file at n

-- The file was read since something was appended.
abbrev pub is_asked : {S : Type 0} → Caching S → ℕ → Bool
is_asked s file = list_any (is_at (nat_cmp file)) s.asked

-- The limits and the notes are as they were.
pub record KeepsLimits {S : Type 0} (old new : Caching S) : Type 0 where
  pub most_entries : new.most_entries ≡ old.most_entries
  pub most_bytes : new.most_bytes ≡ old.most_bytes
  pub asked : new.asked ≡ old.asked
  pub writes : new.writes ≡ old.writes

-- The entries, the limits and the notes are as they were.
abbrev pub StaysThere : {S : Type 0} → Caching S → Caching S → Type 0
StaysThere old new = (new.entries ≡ old.entries) × KeepsLimits old new

-- The entries and the limits are as they were, and so are the notes, but that something was appended.
pub record PassesBy {S : Type 0} (old new : Caching S) : Type 0 where
  pub entries : new.entries ≡ old.entries
  pub most_entries : new.most_entries ≡ old.most_entries
  pub most_bytes : new.most_bytes ≡ old.most_bytes
  pub asked : new.asked ≡ old.asked
  pub writes : new.writes ≡ true

-- The entries of the file that end behind the length are gone, and the others are in their order.
pub record Drops {S : Type 0} (old : Caching S) (file len : ℕ) (new : Caching S) : Type 0 where
  pub entries : new.entries ≡ behind_cut file len old.entries
  pub most_entries : new.most_entries ≡ old.most_entries
  pub most_bytes : new.most_bytes ≡ old.most_bytes
  pub writes : new.writes ≡ old.writes

-- more than a read may have that is kept
abbrev pub is_long : ℕ → Bool
is_long n = nat_lt 16384 n

-- What is kept after a read: what was kept, with what was used in front; and where the read was not answered from it and is not long,
-- what was read is kept beside it or not, as the answer tells.
abbrev pub after_read : {S : Type 0} → Caching S → ℕ → ℕ → ℕ → Result Bool StoreFault → List ℕ → List Entry
after_read old file at n (Ok kept) bytes =
    let used = (reads n old.entries file at n).1 in
    cond (is_kept old.entries file at n || is_long n) used (after_keep old.most_entries old.most_bytes used file at bytes kept)
after_read old file at n (Err e) bytes = (reads n old.entries file at n).1

pub record ReadsThrough {S : Type 0} (old : Caching S) (file at n : ℕ) (result : Result Bool StoreFault) (bytes : List ℕ) (new : Caching S) : Type 0 where
  pub entries : new.entries ≡ after_read old file at n result bytes
  pub rest : KeepsLimits old new

-- What is kept after an append: the bytes under the place where they begin, or not, as the answer tells; and nothing more after a
-- refusal, of the append or of the file's length.
abbrev pub IsAfterAppend : {S : Type 0} → Caching S → ℕ → ℕ → List ℕ → Result Bool StoreFault → List Entry → Type 0
IsAfterAppend old file at bytes (Ok kept) es =
    (es ≡ after_keep old.most_entries old.most_bytes old.entries file at bytes kept) ⊎ ((kept ≡ false) × (es ≡ old.entries))
IsAfterAppend old file at bytes (Err e) es = es ≡ old.entries

pub record WritesThrough {S : Type 0} (old : Caching S) (file at : ℕ) (bytes : List ℕ) (result : Result Bool StoreFault) (new : Caching S) : Type 0 where
  pub entries : IsAfterAppend old file at bytes result new.entries
  pub rest : KeepsLimits old new

-- a cache that has not been made, or one that has room for so many entries
abbrev pub HasCap : {A : Type 0} → ℕ → Option (LruCache (ℕ × ℕ) (Vec ℕ A)) → Type 0
HasCap most None = Unit {0}
HasCap most (Some c) = c.cap ≡ most

-- The entries are counted, within the limits, and right of the disk.
pub record IsTidy {A : Type 0} (d : Disk) (cache : Option (LruCache (ℕ × ℕ) (Vec ℕ A))) (bytes most_entries most_bytes : ℕ) : Type 0 where
  pub counted : bytes ≡ total (entries_in cache)
  pub cap : HasCap most_entries cache
  pub within : AreWithin most_entries most_bytes (entries_in cache)
  pub right : AreRight d (entries_in cache)
