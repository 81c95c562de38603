-- Partitions of a topic as the code looks at them for lag, and the groups that committed to them.
use Rattle.std.specs.Prelude.{◌≡◌, ◌<◌, ℕ, ℤ, pos, ◌^◌, ◌-◌, Bool, false, List, length, min, Option, None, Some, option_copied}
use Rattle.std.specs.Prelude.{slice_get, slice_index_or}
use Rattle.std.specs.Option.{option_and_then, option_map}
use Rattle.std.specs.List.{list_any, sum_by}
use Rattle.std.specs.Str.{bytes_eq}
use Rattle.kb_topics.specs.Known.{CommittedOffset, PartitionState, committed_at}
use Rattle.kb_tenant_state.specs.Calls.{end_of, known_at, numbered}
use Rattle.kb_tenant_state.specs.World.{World}
use Rattle.kb_metrics.specs.Gauges.{behind}
use Rattle.kb_metrics.specs.Rows.{Lag}
use Rattle.kb_metrics.specs.declared.lag.Slot.{Slot}

abbrev pub slot_of : Slot → Option ℤ × Option PartitionState
slot_of s = (s.end, option_copied s.partition)

-- where a partition of a topic ends, and what is known of it
abbrev pub slot_at : World → ℕ → ℕ → Option ℤ × Option PartitionState
slot_at w instance number = (end_of w (numbered instance number), known_at w.known (numbered instance number))

abbrev pub lag_in : List ℕ → Option ℤ × Option PartitionState → ℕ
lag_in group s = behind s.0 (option_and_then (committed_at group) s.1)

abbrev pub lag_among : List ℕ → List (Option ℤ × Option PartitionState) → ℕ
lag_among group ss = min (sum_by (lag_in group) ss) (2 ^ 64 - 1)

abbrev pub lag_row_among : List (Option ℤ × Option PartitionState) → List ℕ → List ℕ → Lag
lag_row_among ss topic group = record { group = group; topic = topic; value = lag_among group ss }

-- what a group committed to a partition, if it did
abbrev pub offset_of : List ℕ → Option PartitionState → Option ℤ
offset_of group p = option_map (λ (c : CommittedOffset). c.offset) (option_and_then (committed_at group) p)

-- each of these offsets is what the group at its place committed to a partition
abbrev pub AreOffsets : List (List ℕ) → Option PartitionState → List ℤ → Type 0
AreOffsets groups p os = (place : ℕ) (d : List ℕ) → place < length groups → place < length os
    → offset_of (slice_index_or groups place d) p ≡ Some (slice_index_or os place (pos 0))

-- what is kept of these groups is what they committed
abbrev pub AreCommitted : List (List ℕ) → Slot → Type 0
AreCommitted groups s = AreOffsets groups (option_copied s.partition) s.offsets.items

-- what is kept of the group at a place, if anything is, is what it committed
abbrev pub IsKept : ℕ → List ℕ → Slot → Type 0
IsKept place group s =
    place < length s.offsets.items → offset_of group (option_copied s.partition) ≡ Some (slice_index_or s.offsets.items place (pos 0))

abbrev pub is_name : List ℕ → Option (List ℕ) → Bool
is_name name None = false
is_name name (Some there) = bytes_eq there name

-- whether a name stands at a place of names
abbrev pub is_at : List (List ℕ) → ℕ → List ℕ → Bool
is_at names place name = is_name name (slice_get names place)

-- the same names stand in both, in whatever order and however often
abbrev pub HaveSame : List (List ℕ) → List (List ℕ) → Type 0
HaveSame xs ys = (q : List ℕ) → list_any (bytes_eq q) xs ≡ list_any (bytes_eq q) ys
