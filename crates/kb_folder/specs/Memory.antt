-- A folder in memory.
use Rattle.std.specs.Prelude.{ℕ, List}
use Rattle.std.specs.FinMap.{from_entries}
use Rattle.std.specs.declared.vec.Vec.{Vec}
use Rattle.kb_store.specs.Memory.{pairs_of}
use Rattle.kb_folder.specs.Folder.{Contents}

-- what is kept, as a folder: always honest
abbrev pub memory_contents : {A : Type 0} → List (ℕ × Vec ℕ A) → Contents
memory_contents es = record { files = from_entries (pairs_of es); honest = Unit {0} }
