-- What is told of a refusal of the folder.
use Rattle.std.proofs.Common.{◌≡◌, ◌∷◌, [], ℕ, Bool, false, List, Option, Some, None, Result, Ok, Err, refl}
use Rattle.std.specs.Prelude.{IfOk, string_bytes}
use Rattle.std.specs.declared.string.String.{String}
use Rattle.kb_folder.specs.declared.refusal.FolderCall.{FolderCall}
use Rattle.kb_operator.specs.declared.refused.FolderJournal.{FolderJournal}
use Rattle.kb_operator.specs.FolderRefused.{TellsRefusal, refusal_line}
use Rattle.kb_operator.specs.Logged.{Grows, LogLine, text_in}

-- its line is told, or that there was no memory for it
pub told_refusal : {A E T : Type 0} (logged : T → Option (List LogLine)) (now moment : ℕ) (old : FolderJournal) (call : FolderCall) (file : Option ℕ)
    (r : Result (String A) E) (a b : T)
    → IfOk r (λ line. (is_full : Bool) × (said : List ℕ) × (string_bytes line ≡ refusal_line (string_bytes old.folder) is_full call file said))
    → Grows (logged a) (logged b) (record { moment = Some now; text = text_in r } ∷ [])
    → TellsRefusal logged moment old (record old { told = Some moment }) a b
told_refusal logged now moment old call file (Ok line) a b h g = record {
  now = now;
  is_full = h.0;
  call = call;
  file = file;
  said = h.1;
  line = record { lines = record { moment = Some now; text = Some (string_bytes line) } ∷ []; are = (refl, h.2, tt); grown = g };
  told = refl;
}
told_refusal logged now moment old call file (Err e) a b h g = record {
  now = now;
  is_full = false;
  call = call;
  file = file;
  said = [];
  line = record { lines = record { moment = Some now; text = None } ∷ []; are = (refl, tt, tt); grown = g };
  told = refl;
}
