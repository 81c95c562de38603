-- What of a folder has changed since it was made to last.
use Rattle.std.specs.Prelude.{◌≡◌, ℕ, Bool, true, false, [], Option, Some, None, is_some}
use Rattle.std.specs.BTreeSet.{contains}
use Rattle.std.specs.Ordering.{nat_cmp}
use Rattle.kb_folder.specs.declared.changed.Changed.{Changed}
use Rattle.kb_folder.specs.declared.refusal.Refusal.{Refusal}

-- Nothing has changed, and no sync was refused.
pub record IsLasting (c : Changed) : Type 0 where
  pub files : c.files.keys ≡ []
  pub names : c.names ≡ false
  pub refused : c.refused ≡ None

-- the same of a folder that keeps it in mind; of one that does not it is not known
abbrev pub AllLasts : Option Changed → Type 0
AllLasts None = ⊥
AllLasts (Some c) = IsLasting c

-- the first sync that was refused
abbrev pub refused_in : Option Changed → Option Refusal
refused_in None = None
refused_in (Some c) = c.refused

-- what was refused first stays
abbrev pub first_refused : Option Refusal → Refusal → Option Refusal
first_refused None new = Some new
first_refused (Some old) new = Some old

-- ---- what is noted

-- whether a file is noted as changed
abbrev pub is_noted : Option Changed → ℕ → Bool
is_noted None file = false
is_noted (Some c) file = contains nat_cmp c.files file

-- whether the names are
abbrev pub are_names_noted : Option Changed → Bool
are_names_noted None = false
are_names_noted (Some c) = c.names

-- What was noted is noted still, but for the files that may be forgotten.
pub record NotesBut (gone : ℕ → Type 0) (old new : Option Changed) : Type 0 where
  pub minds : is_some new ≡ is_some old
  pub files : (file : ℕ) → (gone file → ⊥) → is_noted old file ≡ true → is_noted new file ≡ true
  pub names : are_names_noted old ≡ true → are_names_noted new ≡ true

-- All that was noted is noted still.
abbrev pub NotesOn : Option Changed → Option Changed → Type 0
NotesOn old new = NotesBut (λ _. ⊥) old new

-- A folder that keeps in mind what has changed has noted the file.
abbrev pub HasNoted : Option Changed → ℕ → Type 0
HasNoted changed file = is_some changed ≡ true → is_noted changed file ≡ true

-- .. and the names
abbrev pub HasNotedNames : Option Changed → Type 0
HasNotedNames changed = is_some changed ≡ true → are_names_noted changed ≡ true
