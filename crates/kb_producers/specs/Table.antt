-- What the table of a partition's producers stands for.
use Rattle.std.specs.Prelude.{◌≡◌, ◌<◌, ◌+◌, ◌-◌, ◌%◌, ◌^◌, ◌+ℤ◌, ℕ, zero, suc, ℤ, pos, List, [], ◌∷◌, Bool, true, false, length, take, map, min, Option, Some, None, int_le, if◌then◌else◌}
use Rattle.std.specs.List.{slice_index_or}
use Rattle.std.specs.Ordering.{int_eq}
use Rattle.kb_producers.specs.declared.kept.Kept.{Kept}
use Rattle.kb_producers.specs.declared.link.Link.{Link}
use Rattle.kb_producers.specs.Verdict.{last_sequence}

-- The batches of idempotent producers that are in the partition's list, oldest first, and how many more take no memory.
pub record TableState : Type 0 where
  pub kept : List Kept
  pub room : ℕ

-- The offset behind its last record.
abbrev pub end_of : Kept → ℤ
end_of k = k.base_offset +ℤ pos k.record_count

-- The list from the first batch on that ends above the start.
unfoldable pub since : ℤ → List Kept → List Kept
since start [] = []
since start (k ∷ ks) = if int_le (end_of k) start then since start ks else k ∷ ks

-- What is kept of a link's batch.
abbrev pub kept_from : Link → Kept
kept_from l = record {
  producer_id = l.producer_id;
  producer_epoch = l.producer_epoch;
  base_sequence = l.base_sequence;
  last_sequence = last_sequence l.base_sequence l.record_count;
  base_offset = l.base_offset;
  record_count = l.record_count;
}

-- What a table stands for: its places fit 32 bits, and its list and its map have room for so many more.
abbrev pub table_state : List Link → ℕ → ℕ → TableState
table_state links list_room map_room = record { kept = map kept_from links; room = min (2 ^ 32 - 1 - length links) (min list_room map_room) }

-- The place of the last batch that passes, one further on; and else whether that in front of the list passes.
abbrev pub one_on : ℕ → Bool → ℕ
one_on (suc n) first = suc (suc n)
one_on zero true = 1
one_on zero false = 0

-- The place of a producer's newest batch, where the oldest of the list is at 1; 0 where it has none.
abbrev pub newest_place : ℤ → List Kept → ℕ
newest_place id [] = 0
newest_place id (k ∷ ks) = one_on (newest_place id ks) (int_eq k.producer_id id)

-- Of a link at the i-th place from 0, so many places back stands the batch of its producer before it; or the front, where there is none.
abbrev pub IsLinked : Link → ℕ → List Kept → Type 0
IsLinked l i older = suc i - l.before ≡ newest_place l.producer_id older

-- Each link leads so to one of those in front of it.
abbrev pub AreLinked : List Link → Type 0
AreLinked links = (i : ℕ) (d : Link) → i < length links → IsLinked (slice_index_or links i d) i (take i (map kept_from links))

-- A producer's entry tells the place of its newest batch, with the batches that are gone, modulo 2 ^ 32: nothing where it has none.
abbrev pub IsNewest : ℕ → ℕ → Option ℕ → Type 0
IsNewest gone place None = place ≡ 0
IsNewest gone place (Some count) = (0 < place) × (count ≡ (gone + place) % 2 ^ 32)

-- Each producer's entry does.
abbrev pub AreNewest : ℕ → List Kept → (ℤ → Option ℕ) → Type 0
AreNewest gone kept entry = (id : ℤ) → IsNewest gone (newest_place id kept) (entry id)

-- What holds of the table: fewer than 2 ^ 32 links, each leads to the one before it, and the entries to the newest.
pub record IsTable (links : List Link) (entry : ℤ → Option ℕ) (gone : ℕ) : Type 0 where
  pub few : length links < 2 ^ 32
  pub linked : AreLinked links
  pub newest : AreNewest gone (map kept_from links) entry
