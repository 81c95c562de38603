-- What a loss of power may leave of a folder, by what the system answered (POSIX.1-2017, fsync, fdatasync). Until it is synced a write may
-- be there, in part or not at all, and so may a name.
use Rattle.std.specs.Prelude.{◌≡◌, ◌≤◌, ◌⊎◌, ℕ, zero, suc, List, [], ◌∷◌, length, IsSome, true, false, Option, is_some}
use Rattle.std.specs.FinMap.{get}
use Rattle.kb_store.specs.Disk.{Files}
use Rattle.kb_store.specs.Loss.{Loss, Goes, Same, Tears, Makes, Drops}
use Rattle.kb_folder.specs.Folder.{IsAsBefore}
use Rattle.kb_folder.specs.History.{Answer, told}
use Rattle.kb_folder.specs.Told.{Calls, contents_of}
use Rattle.kb_folder.specs.Changed.{is_noted, are_names_noted}
use Rattle.kb_folder.specs.declared.changed.Changed.{Changed}

-- of a file that is in a folder, what is found is what it has
abbrev pub IsKeptOf : Files → Files → ℕ → Type 0
IsKeptOf files found file = IsSome (get found file) → IsSome (get files file) → get found file ≡ get files file

-- a name is found where the folder has it
pub record HasNameOf (files found : Files) (file : ℕ) : Type 0 where
  pub only : IsSome (get found file) → IsSome (get files file)
  pub all : IsSome (get files file) → IsSome (get found file)

-- What a call changes of what a loss may leave, where the folder had these files. What is synced a loss leaves as it is.
abbrev pub Loses : Files → List ℕ → Files → Files → Type 0
Loses files (suc (suc (suc zero)) ∷ file ∷ at ∷ []) before found = Tears file at before found
Loses files (suc (suc (suc (suc zero))) ∷ file ∷ len ∷ []) before found = Tears file len before found
Loses files (suc (suc (suc (suc (suc zero)))) ∷ file ∷ []) before found = Makes file before found
Loses files (suc (suc (suc (suc (suc (suc zero))))) ∷ file ∷ []) before found = Drops file before found
Loses files (suc (suc (suc (suc (suc (suc (suc zero)))))) ∷ file ∷ []) before found = Same before found × IsKeptOf files found file
Loses files (suc (suc (suc (suc (suc (suc (suc (suc zero))))))) ∷ []) before found = Same before found × ((file : ℕ) → HasNameOf files found file)
Loses files call before found = Same before found

-- What a loss may leave after these answers, of which the newest comes first. Of what was there at first nothing is known.
abbrev pub leaves : Files → List Answer → Files → Type 0
leaves start [] found = Unit {0}
leaves start (a ∷ earlier) found =
    (before : Files) × leaves start earlier before × Loses (told start earlier).files a.0 before found

-- .. and one at some moment since there were so many answers
abbrev pub left_since : Files → List Answer → ℕ → Files → Type 0
left_since start [] t found = Unit {0}
left_since start (a ∷ earlier) t found =
    leaves start (a ∷ earlier) found ⊎ ((t ≤ length earlier) × left_since start earlier t found)

abbrev pub folder_loss : Calls → Loss
folder_loss h = record { leaves = leaves h.start h.answers; moment = length h.answers; left_since = left_since h.start h.answers }

-- ---- what lasts

-- A loss leaves the file as it is, or its name is lost.
abbrev pub Lasts : ℕ → Calls → Type 0
Lasts file h = (found : Files) → (folder_loss h).leaves found → IsKeptOf (contents_of h).files found file

-- A loss leaves the names that there are.
abbrev pub NamesLast : Calls → Type 0
NamesLast h = (found : Files) → (folder_loss h).leaves found → (file : ℕ) → HasNameOf (contents_of h).files found file

-- All files last, and the names.
pub record AllLast (h : Calls) : Type 0 where
  pub files : (file : ℕ) → Lasts file h
  pub names : NamesLast h

-- What is not noted as changed lasts.
pub record IsNoted (changed : Option Changed) (h : Calls) : Type 0 where
  pub files : (file : ℕ) → is_noted changed file ≡ false → Lasts file h
  pub names : are_names_noted changed ≡ false → NamesLast h

-- So it is in a folder that keeps in mind what it has changed, as long as the system's answers are true.
abbrev pub IsMinded : Option Changed → Calls → Type 0
IsMinded changed h = is_some changed ≡ true → (contents_of h).honest → IsNoted changed h

-- The folder is looked at alone: a loss leaves no more, and what lasted lasts.
pub record Looks (h h' : Calls) : Type 0 where
  pub loss : Goes Same (folder_loss h) (folder_loss h')
  pub files : (file : ℕ) → Lasts file h → Lasts file h'
  pub names : NamesLast h → NamesLast h'

-- Syncs change nothing that the folder has, nor leave more to a loss. What may not last is noted still.
pub record Syncs (changed : Option Changed) (h : Calls) (changed' : Option Changed) (h' : Calls) : Type 0 where
  pub contents : IsAsBefore (contents_of h) (contents_of h')
  pub loss : Goes Same (folder_loss h) (folder_loss h')
  pub minds : is_some changed' ≡ is_some changed
  pub noted : IsMinded changed h → IsMinded changed' h'
