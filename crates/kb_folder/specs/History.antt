-- What the system answered of a folder's files so far, and when all of it was true of them.
use Rattle.std.specs.Prelude.{◌≡◌, ◌≤◌, ◌-◌, ◌+◌, ◌++◌, ℕ, zero, suc, List, [], ◌∷◌, length, take, drop, replicate, unwrap_or}
use Rattle.std.specs.FinMap.{get, insert, remove}
use Rattle.kb_store.specs.Disk.{Files}
use Rattle.kb_folder.specs.Folder.{Contents, AreNumbersOf}

-- A call that the system answered: numbers, of which the first says which call it was, and bytes.
abbrev pub Answer : Type 0
Answer = List ℕ × List ℕ

-- the folder was listed, and these were its files
abbrev pub listing_answer : List ℕ → Answer
listing_answer numbers = (0 ∷ numbers, [])

-- a file had this length
abbrev pub measured : ℕ → ℕ → Answer
measured file len = (1 ∷ file ∷ len ∷ [], [])

-- a file had these bytes at a place
abbrev pub read : ℕ → ℕ → List ℕ → Answer
read file at bytes = (2 ∷ file ∷ at ∷ [], bytes)

-- a file took these bytes at a place
abbrev pub wrote : ℕ → ℕ → List ℕ → Answer
wrote file at bytes = (3 ∷ file ∷ at ∷ [], bytes)

-- a file got this length
abbrev pub resized : ℕ → ℕ → Answer
resized file len = (4 ∷ file ∷ len ∷ [], [])

-- an empty file was made
abbrev pub made : ℕ → Answer
made file = (5 ∷ file ∷ [], [])

-- a file was removed
abbrev pub removed : ℕ → Answer
removed file = (6 ∷ file ∷ [], [])

-- a file's bytes were made to last
abbrev pub synced : ℕ → Answer
synced file = (7 ∷ file ∷ [], [])

-- the folder's names were made to last
abbrev pub synced_names : Answer
synced_names = (8 ∷ [], [])

-- ---- what is true of files, and what becomes of them

abbrev pub of_file : Files → ℕ → List ℕ
of_file files file = unwrap_or (get files file) []

-- so many bytes: the first ones, and zeros where they are fewer
unfoldable pub sized : List ℕ → ℕ → List ℕ
sized bytes len = take len (bytes ++ replicate (len - length bytes) 0)

-- bytes, with others over them at a place
unfoldable pub overlaid : List ℕ → ℕ → List ℕ → List ℕ
overlaid old at new = sized old at ++ new ++ drop (at + length new) old

-- A read gave bytes that are at that place. It gave none at the end alone.
pub record IsPart (whole : List ℕ) (at : ℕ) (given : List ℕ) : Type 0 where
  pub bytes : given ≡ take (length given) (drop at whole)
  pub none : given ≡ [] → length whole ≤ at

-- What was answered is true of the files. What a call did is no claim.
abbrev pub Confirms : Files → List ℕ → List ℕ → Type 0
Confirms files (zero ∷ numbers) bytes = AreNumbersOf numbers files
Confirms files (suc zero ∷ file ∷ len ∷ []) bytes = len ≡ length (of_file files file)
Confirms files (suc (suc zero) ∷ file ∷ at ∷ []) bytes = IsPart (of_file files file) at bytes
Confirms files call bytes = Unit {0}

-- the files after the call
abbrev pub after : Files → List ℕ → List ℕ → Files
after files (suc (suc (suc zero)) ∷ file ∷ at ∷ []) bytes = insert files file (overlaid (of_file files file) at bytes)
after files (suc (suc (suc (suc zero))) ∷ file ∷ len ∷ []) bytes = insert files file (sized (of_file files file) len)
after files (suc (suc (suc (suc (suc zero)))) ∷ file ∷ []) bytes = insert files file []
after files (suc (suc (suc (suc (suc (suc zero))))) ∷ file ∷ []) bytes = remove files file
after files call bytes = files

-- The folder after these answers, of which the newest comes first. It is honest where each was true when it was given.
abbrev pub told : Files → List Answer → Contents
told start [] = record { files = start; honest = Unit {0} }
told start (a ∷ earlier) =
    record {
      files = after (told start earlier).files a.0 a.1;
      honest = (told start earlier).honest × Confirms (told start earlier).files a.0 a.1;
    }
