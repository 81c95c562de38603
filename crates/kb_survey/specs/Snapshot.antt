-- How far a catalog's snapshot reaches, as its first command tells it.
use Rattle.std.specs.Prelude.{◌+◌, ◌==◌, ℕ, List, [], ◌∷◌, Option, Some, None, if◌then◌else◌}
use Rattle.std.specs.Int.{w32, from_be_bytes}
use Rattle.kb_batch.specs.declared.record.RecordView.{RecordView}
use Rattle.kb_batch.specs.Batch.{front}
use Rattle.kb_batch.specs.Scan.{views_of}

-- by the value of that command: its kind, 6, and how many commands follow, an INT32
abbrev pub end_told : List ℕ → ℕ
end_told (kind ∷ a ∷ b ∷ c ∷ d ∷ rest) = if kind == 6 then 1 + from_be_bytes w32 (a ∷ b ∷ c ∷ d ∷ []) else 0
end_told value = 0

abbrev pub end_valued : Option (List ℕ) → ℕ
end_valued None = 0
end_valued (Some value) = end_told value

-- by the first record of its batch
abbrev pub end_recorded : List RecordView → ℕ
end_recorded [] = 0
end_recorded (r ∷ rs) = end_valued r.value

abbrev pub end_by : List ℕ → ℕ
end_by b = end_recorded (views_of b)

abbrev pub end_in : Option (List ℕ) → ℕ
end_in None = 0
end_in (Some b) = end_by b

-- The offset behind the last command of the snapshot that the bytes begin with: the first one has the offset 0. It is 0 where they begin
-- with no such command.
abbrev pub snapshot_end : List ℕ → ℕ
snapshot_end s = end_in (front s)
