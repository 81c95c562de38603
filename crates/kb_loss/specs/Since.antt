-- What a loss of power may leave of the files of a commit, by what calls did since.
use Rattle.std.specs.Prelude.{◌≡◌, ◌≤◌, ◌<◌, ◌++◌, ◌⊎◌, ℕ, Bool, true, false, List, [], ◌∷◌, length, take, nat_eq, nat_le, Some, IsSome}
use Rattle.std.specs.FinMap.{get}
use Rattle.std.specs.List.{Contains, IsDistinct}
use Rattle.kb_store.specs.Disk.{Files}
use Rattle.kb_store.specs.Loss.{Loss}
use Rattle.kb_segment.specs.Header.{Header, header_in}
use Rattle.kb_segment_log.specs.SegmentLog.{bytes_at}
use Rattle.kb_segment_log.specs.Chain.{Chain, base_at, numbers_in}
use Rattle.kb_opening.specs.Owners.{says}
use Rattle.kb_durable.specs.Waiting.{has, without_keys}
use Rattle.kb_loss.specs.Chains.{first_at}

-- All that a loss may have left since a moment has it.
abbrev pub HoldsSince : (Files → Type 0) → ℕ → Loss → Type 0
HoldsSince X t l = (found : Files) → l.left_since t found → X found

-- Under which numbers files were made since a commit, and to which of its files bytes were added. A file of the commit that had no header
-- yet, and got one, counts as made.
pub record Touched : Type 0 where
  pub made : ℕ → Bool
  pub grown : ℕ → Bool

-- Nothing was changed.
abbrev pub untouched : Touched
untouched = record { made = λ n. false; grown = λ n. false }

-- All files that were made have numbers from a next one on. So they do where each number is given out once, rising.
abbrev pub made_from : ℕ → (ℕ → Bool) → Touched
made_from next grown = record { made = λ n. nat_le next n; grown = grown }

-- All files have numbers below a next one.
abbrev pub AreBelow : ℕ → Files → Type 0
AreBelow next files = (n : ℕ) → IsSome (get files n) → n < next

-- The files of a commit are there: each has its bytes as a front, and one that has not grown has no others. Under a number that was given
-- out since there may be anything.
pub record AreStill (files : Files) (t : Touched) (found : Files) : Type 0 where
  pub same : (n : ℕ) → t.made n ≡ false → t.grown n ≡ false → get found n ≡ get files n
  pub front : (n : ℕ) (bytes : List ℕ) → t.made n ≡ false → get files n ≡ Some bytes
      → (rest : List ℕ) × (get found n ≡ Some (bytes ++ rest))

-- But first ones of those whose removal waits are gone, or none.
pub record AreLeft (files : Files) (t : Touched) (waiting : List ℕ) (found : Files) : Type 0 where
  pub whole : Files
  pub still : AreStill files t whole
  pub count : ℕ
  pub is : found ≡ without_keys (take count waiting) whole

-- The files of a commit are still there; or a sync removes, and of the files that it made last first ones of those that wait are gone.
abbrev pub StayOrGo : Files → Touched → Files → List ℕ → Files → Type 0
StayOrGo files t synced waiting found = AreStill files t found ⊎ AreLeft synced untouched waiting found

-- A call may change a file that was made since; or one of a commit that has grown, behind the bytes that it had.
abbrev pub MayChange : Files → Touched → ℕ → ℕ → Type 0
MayChange files t n keep =
    (t.made n ≡ true) ⊎ ((t.grown n ≡ true) × ((bytes : List ℕ) → get files n ≡ Some bytes → length bytes ≤ keep))

-- ---- the files of one log

-- Those are the files whose header passes a test, each once.
pub record AreOf (files : Files) (test : Header → Bool) (numbers : List ℕ) : Type 0 where
  pub passes : (n : ℕ) → Contains numbers n → says files test n ≡ true
  pub all : (n : ℕ) → says files test n ≡ true → Contains numbers n
  pub once : IsDistinct nat_eq numbers

-- the last of some numbers is that one
abbrev pub IsLast : List ℕ → ℕ → Type 0
IsLast [] n = ⊥
IsLast (m ∷ []) n = m ≡ n
IsLast (m ∷ k ∷ ns) n = IsLast (k ∷ ns) n

-- Of the files of a chain those go that are among some numbers: they are the first ones, and the others begin at a start or below it.
pub record GoInOrder {files : Files} {numbers : List ℕ} {from : ℕ} {bs : List (List ℕ)} (c : Chain files numbers from bs)
    (going : List ℕ) (start : ℕ) : Type 0 where
  pub gone : List ℕ
  pub kept : List ℕ
  pub split : numbers_in c ≡ gone ++ kept
  pub went : (n : ℕ) → Contains gone n → has going n ≡ true
  pub stay : (n : ℕ) → Contains kept n → has going n ≡ false
  pub below : (gone ≡ []) ⊎ (first_at files c.end kept ≤ start)

-- How a log is written. Its chain goes through all its files, none of which was made since the commit; it has grown in the last one alone,
-- and each file that grew had a header that can be read. A file that was made since begins at the end of the chain or behind it, if it has
-- the log's header. Removals wait in the order of the files, and a file that may go ends at the start or below it.
pub record IsWritten {files : Files} {numbers : List ℕ} {from : ℕ} {bs : List (List ℕ)} (c : Chain files numbers from bs)
    (test : Header → Bool) (t : Touched) (waiting : List ℕ) (start : ℕ) (found : Files) : Type 0 where
  pub all : (n : ℕ) → Contains numbers n → Contains (numbers_in c) n
  pub old : (n : ℕ) → Contains numbers n → t.made n ≡ false
  pub grown : (n : ℕ) → Contains numbers n → t.grown n ≡ true → IsLast (numbers_in c) n
  pub made : (n : ℕ) → t.made n ≡ true → says found test n ≡ true → c.end ≤ base_at found n
  pub readable : (n : ℕ) → t.made n ≡ false → t.grown n ≡ true → IsSome (header_in (bytes_at files n))
  pub removals : (count : ℕ) → GoInOrder c (take count waiting) start
