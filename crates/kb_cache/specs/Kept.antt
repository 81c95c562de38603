-- What is kept of files in memory: bytes under a file and a place, those used last at the front.
use Rattle.std.specs.Prelude.{ℕ, zero, suc, ◌≤◌, ◌+◌, ◌-◌, ◌++◌, ◌&&◌, ◌==◌, Bool, cond, not, List, [], ◌∷◌, length, take, drop, map, nat_eq, nat_le, nat_lt, unwrap_or}
use Rattle.std.specs.List.{AllByRecursion, filter}
use Rattle.std.specs.Map.{lookup, remove_entry}
use Rattle.std.specs.declared.vec.Vec.{Vec}
use Rattle.lru.specs.LruCache.{promoted}

-- The bytes under a file and a place.
abbrev pub Entry : Type 0
Entry = (ℕ × ℕ) × List ℕ

-- what is in the memory's cache, with its vectors seen by their bytes
abbrev pub seen : {A : Type 0} → List ((ℕ × ℕ) × Vec ℕ A) → List Entry
seen es = map (λ e. (e.0, e.1.items)) es

-- the same file and the same place
abbrev pub same_place : ℕ × ℕ → ℕ × ℕ → Bool
same_place p q = nat_eq p.0 q.0 && nat_eq p.1 q.1

-- the bytes under a file and a place, none where there are none
abbrev pub cached_at : List Entry → ℕ → ℕ → List ℕ
cached_at es file at = unwrap_or (lookup (same_place (file, at)) es) []

-- what is under a file and a place goes to the front
abbrev pub used : List Entry → ℕ → ℕ → List Entry
used es file at = promoted (same_place (file, at)) es

-- and what is there is gone
abbrev pub without_entry : List Entry → ℕ → ℕ → List Entry
without_entry es file at = remove_entry (same_place (file, at)) es

-- how many bytes there are in all
abbrev pub total : List Entry → ℕ
total [] = 0
total (e ∷ es) = length e.1 + total es

-- At most n bytes from a place on: those of the entry that begins there, then those of the one that begins where it ends, and so on
-- as long as there is one, in at most so many steps; and the entries, those that were used at the front.
abbrev pub prepended : List ℕ → List Entry → List ℕ × List Entry → List ℕ × List Entry
prepended [] es r = ([], es)
prepended (x ∷ b) es r = (x ∷ b ++ r.0, r.1)

abbrev pub reads : ℕ → List Entry → ℕ → ℕ → ℕ → List ℕ × List Entry
reads zero es file at n = ([], es)
reads (suc k) es file at n =
    let b = take n (cached_at es file at) in
    cond (n == 0) ([], es) (prepended b (used es file at) (reads k (used es file at) file (at + length b) (n - length b)))

-- The n bytes from a place on are kept: entries that begin at the place, and where the one before ends, have them all.
abbrev pub is_kept : List Entry → ℕ → ℕ → ℕ → Bool
is_kept es file at n = length (reads n es file at n).0 == n

-- an entry of another file, or one that ends in front of a length
abbrev pub stays : ℕ → ℕ → Entry → Bool
stays file len e = not (nat_eq e.0.0 file && nat_lt len (e.0.1 + length e.1))

-- what a cut leaves
abbrev pub behind_cut : ℕ → ℕ → List Entry → List Entry
behind_cut file len es = filter (stays file len) es

-- There are at most so many entries with at most so many bytes, and none has more than 1 MiB.
pub record AreWithin (most_entries most_bytes : ℕ) (es : List Entry) : Type 0 where
  pub entries : length es ≤ most_entries
  pub bytes : total es ≤ most_bytes
  pub each : AllByRecursion (λ e. length e.1 ≤ 1048576) es

-- of some entries those that were used last, at most so many with at most so many bytes
abbrev pub latest : ℕ → ℕ → List Entry → List Entry
latest zero room es = []
latest (suc n) room [] = []
latest (suc n) room (e ∷ es) = cond (nat_le (length e.1) room) (e ∷ latest n (room - length e.1) es) []

-- what is left where there is to be room for bytes under a file and a place, where fewer are
abbrev pub with_room : ℕ → ℕ → List Entry → ℕ → ℕ → List ℕ → List Entry
with_room most_entries most_bytes es file at bytes = latest (most_entries - 1) (most_bytes - length bytes) (without_entry es file at)

-- and with these bytes in front
abbrev pub with_bytes : ℕ → ℕ → List Entry → ℕ → ℕ → List ℕ → List Entry
with_bytes most_entries most_bytes es file at bytes = ((file, at), bytes) ∷ with_room most_entries most_bytes es file at bytes

-- there are some bytes, and not more than an entry may have
abbrev pub is_fit : ℕ → ℕ → List ℕ → Bool
is_fit most_entries most_bytes bytes = nat_lt 0 most_entries && nat_lt 0 (length bytes) && nat_le (length bytes) 1048576 && nat_le (length bytes) most_bytes

-- What is kept when bytes were to be kept under a file and a place, and were or not: what is there and is not shorter stays, and else
-- those that were used last stay, as far as there is room beside the bytes.
abbrev pub after_keep : ℕ → ℕ → List Entry → ℕ → ℕ → List ℕ → Bool → List Entry
after_keep most_entries most_bytes es file at bytes kept =
    cond (not (is_fit most_entries most_bytes bytes)) es
    (cond (nat_le (length bytes) (length (cached_at es file at))) (used es file at)
    (cond kept (with_bytes most_entries most_bytes es file at bytes) (with_room most_entries most_bytes es file at bytes)))

-- the last entry goes to the front if it stays, and else is gone
abbrev pub turned : ℕ → ℕ → List Entry → List Entry
turned file len es = filter (stays file len) (drop (length es - 1) es) ++ take (length es - 1) es
