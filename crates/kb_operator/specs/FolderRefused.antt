-- What is told of what the system refuses to a data folder.
use Rattle.std.specs.Prelude.{◌≡◌, ◌⊎◌, ◌++◌, ℕ, List, [], ◌∷◌, codes, Bool, true, false, nat_lt, Option, None, Some, string_bytes}
use Rattle.std.specs.Int.{abs_diff}
use Rattle.kb_folder.specs.declared.refusal.FolderCall.{FolderCall}
use Rattle.kb_folder.specs.declared.refusal.FolderCall.TheVariants as calls
use Rattle.kb_folder.specs.declared.folder.FolderFault.{FolderFault}
use Rattle.kb_folder.specs.declared.folder.FolderFault.TheVariants as folder_faults
use Rattle.kb_folder.specs.declared.folder.FolderFault.TheVariants.{Refused}
use Rattle.kb_store.specs.declared.fault.StoreFault.{StoreFault}
use Rattle.kb_store.specs.declared.fault.StoreFault.TheVariants as store_faults
use Rattle.kb_store.specs.declared.fault.StoreFault.TheVariants.{Device}
use Rattle.kb_operator.specs.declared.fault.OperatorFault.{OperatorFault}
use Rattle.kb_operator.specs.declared.fault.OperatorFault.TheVariants as faults
use Rattle.kb_operator.specs.declared.refused.FolderJournal.{FolderJournal}
use Rattle.kb_operator.specs.FileNames.{path_of}
use Rattle.kb_operator.specs.Logged.{LogLine, TellsTexts}

-- a line was told less than a minute before or behind a moment
abbrev pub is_within_minute : Option ℕ → ℕ → Bool
is_within_minute None moment = false
is_within_minute (Some told) moment = nat_lt (abs_diff moment told) 60000

-- a file of a folder, or the folder itself
abbrev pub folder_or_file : List ℕ → Option ℕ → List ℕ
folder_or_file folder None = folder
folder_or_file folder (Some file) = path_of folder file

abbrev pub call_word : FolderCall → List ℕ
call_word calls.List = codes "list"
call_word calls.Length = codes "measure"
call_word calls.Create = codes "make"
call_word calls.Write = codes "write"
call_word calls.Read = codes "read"
call_word calls.Cut = codes "cut"
call_word calls.Remove = codes "remove"
call_word calls.Sync = codes "sync"

-- a full disk is told as such
abbrev pub kind_word : Bool → List ℕ
kind_word true = codes "disk full"
kind_word false = codes "data folder"

-- a call that the system refused, and what it said, in its words
abbrev pub refusal_line : List ℕ → Bool → FolderCall → Option ℕ → List ℕ → List ℕ
refusal_line folder is_full call file said =
    kind_word is_full ++ (codes ": cannot " ++ (call_word call ++ (codes " " ++ (folder_or_file folder file ++ (codes ": " ++ said)))))

-- The line of some refusal is told, and that moment is kept.
pub record TellsRefusal {T : Type 0} (logged : T → Option (List LogLine)) (moment : ℕ) (old new : FolderJournal) (from to : T) : Type 0 where
  pub now : ℕ
  pub is_full : Bool
  pub call : FolderCall
  pub file : Option ℕ
  pub said : List ℕ
  pub line : TellsTexts now (refusal_line (string_bytes old.folder) is_full call file said ∷ []) (logged from) (logged to)
  pub told : new ≡ record old { told = Some moment }

-- .. or there was none, and nothing changed
abbrev pub MayTellRefusal : {T : Type 0} → (T → Option (List LogLine)) → ℕ → FolderJournal → FolderJournal → T → T → Type 0
MayTellRefusal logged moment old new from to = TellsRefusal logged moment old new from to ⊎ ((new ≡ old) × (to ≡ from))

-- what stands behind the fault of a folder: where a call was refused, and what the system said; nothing where no call was, or no memory
-- is left for it
abbrev pub IsBehindFault : List ℕ → List ℕ → Type 0
IsBehindFault folder why =
    (why ≡ []) ⊎ ((file : Option ℕ) × (said : List ℕ) × (why ≡ codes ": " ++ (folder_or_file folder file ++ (codes ": " ++ said))))

-- It is a fault of the folder's store, with that behind it.
abbrev pub IsStoreFault : List ℕ → OperatorFault → Type 0
IsStoreFault folder (faults.Store why) = IsBehindFault folder (string_bytes why)
IsStoreFault folder other = ⊥

-- what a fault of the folder, or of its store, is to a start
abbrev pub IsOfFolder : List ℕ → FolderFault → OperatorFault → Type 0
IsOfFolder folder Refused fault = IsStoreFault folder fault
IsOfFolder folder folder_faults.Memory fault = fault ≡ faults.Memory

abbrev pub IsOfStore : List ℕ → StoreFault → OperatorFault → Type 0
IsOfStore folder Device fault = IsStoreFault folder fault
IsOfStore folder store_faults.Memory fault = fault ≡ faults.Memory
