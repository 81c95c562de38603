-- What a history says of a folder.
use Rattle.std.specs.Prelude.{List, ◌∷◌}
use Rattle.kb_store.specs.Disk.{Files}
use Rattle.kb_folder.specs.Folder.{Contents}
use Rattle.kb_folder.specs.History.{Answer, told}
use Rattle.kb_folder.specs.declared.history.History.{History}

-- What there was at first, and the system's answers since, of which the newest comes first.
pub record Calls : Type 0 where
  pub start : Files
  pub answers : List Answer

abbrev pub calls_of : History → Calls
calls_of h = record { start = h.start; answers = h.answers }

-- The files that the answers make of what was there at first, and whether each answer was true of them.
abbrev pub contents_of : Calls → Contents
contents_of h = told h.start h.answers

-- one more answer
abbrev pub with : Calls → Answer → Calls
with h answer = record { start = h.start; answers = answer ∷ h.answers }
