-- What a person sees of the files of a store.
use Rattle.std.specs.Prelude.{◌≡◌, ◌≤◌, ◌+◌, ◌++◌, ℕ, zero, suc, ℤ, List, [], ◌∷◌, length, drop, codes, decimal, Option, Some, None}
use Rattle.std.specs.Prelude.{unwrap_or, if◌then◌else◌, Result, IsErrOf}
use Rattle.std.specs.Fmt.{signed_decimal}
use Rattle.std.specs.List.{flat_map}
use Rattle.std.specs.FinMap.{get}
use Rattle.std.specs.Io.KnownBytes.{Appends}
use Rattle.kb_store.specs.Disk.{Disk, Files, Grew}
use Rattle.kb_store.specs.declared.fault.StoreFault.{StoreFault}
use Rattle.kb_store.specs.declared.fault.StoreFault.TheVariants as refusals
use Rattle.kb_batch.specs.Batch.{is_natural, count_of, front}
use Rattle.kb_batch.specs.Header.{base_offset_of}
use Rattle.kb_segment.specs.Header.{Header, header_in}
use Rattle.kb_dump.specs.declared.fault.DumpFault.{DumpFault}
use Rattle.kb_dump.specs.declared.fault.DumpFault.TheVariants as faults

-- ---- a file's first line

-- what a header says between the tenant and the base: a partition, or a generation of a catalog
abbrev pub kind_text : Header → List ℕ
kind_text h =
    if is_natural 0 h.kind then codes " instance " ++ signed_decimal h.instance ++ codes " partition " ++ signed_decimal h.partition
    else if is_natural 0 h.generation then codes " meta"
    else codes " meta generation " ++ signed_decimal h.generation

abbrev pub header_line : ℕ → Header → List ℕ
header_line number h =
    codes "file " ++ decimal number ++ codes " tenant " ++ h.tenant ++ kind_text h ++ codes " base " ++ signed_decimal h.base ++ codes "\n"

-- of a file with no readable header
abbrev pub stray_line : ℕ → List ℕ
stray_line number = codes "file " ++ decimal number ++ codes " stray\n"

-- ---- its batches

abbrev pub batch_words : ℤ → ℕ → ℕ → List ℕ
batch_words base count size =
    codes "batch base " ++ signed_decimal base ++ codes " count " ++ decimal count ++ codes " size " ++ decimal size ++ codes "\n"

abbrev pub batch_line : List ℕ → List ℕ
batch_line b = batch_words (base_offset_of b) (count_of b) (length b)

-- of bytes that begin with no accepted batch
abbrev pub damaged_line : ℕ → List ℕ
damaged_line place = codes "damaged at " ++ decimal place ++ codes "\n"

-- the batch in front, if there is one, and then the lines of what stands behind it
abbrev pub lines_by : (ℕ → List ℕ → List ℕ) → ℕ → List ℕ → Option (List ℕ) → List ℕ
lines_by behind place s None = damaged_line place
lines_by behind place s (Some b) = batch_line b ++ behind (place + length b) (drop (length b) s)

-- the lines of the bytes from a place on, of at most so many batches
abbrev pub some_lines : ℕ → ℕ → List ℕ → List ℕ
some_lines zero place s = []
some_lines (suc n) place [] = []
some_lines (suc n) place (x ∷ s) = lines_by (λ p rest. some_lines n p rest) place (x ∷ s) (front (x ∷ s))

-- Each batch has a byte, so that there are no more than bytes.
unfoldable pub body_text : ℕ → List ℕ → List ℕ
body_text place s = some_lines (length s) place s

-- ---- all files

abbrev pub text_by : ℕ → List ℕ → Option Header → List ℕ
text_by number s None = stray_line number
text_by number s (Some h) = header_line number h ++ body_text h.size (drop h.size s)

-- a file with those bytes
abbrev pub file_text : ℕ → List ℕ → List ℕ
file_text number s = text_by number s (header_in s)

-- The files of those numbers, in that order.
unfoldable pub dump_text : List ℕ → Files → List ℕ
dump_text numbers files = flat_map (λ n. file_text n (unwrap_or (get files n) [])) numbers

-- ---- what a call leaves

-- Of a text some front was written.
pub record WritesFront (text : List ℕ) (from to : Option (List ℕ)) : Type 0 where
  pub front : List ℕ
  pub rest : List ℕ
  pub split : text ≡ front ++ rest
  pub wrote : Appends from to front

abbrev pub of_store : StoreFault → DumpFault
of_store refusals.Device = faults.Store
of_store refusals.Memory = faults.Memory

-- Failures do not fall, and the store is blamed only where they grew.
pub record Blames {T : Type 0} (old : Disk) (result : Result T DumpFault) (new : Disk) : Type 0 where
  pub later : old.failures ≤ new.failures
  pub store : IsErrOf result faults.Store → Grew old.failures new.failures
