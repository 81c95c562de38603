-- Which producer ids batches have.
use Rattle.std.specs.Prelude.{ℕ, ℤ, pos, negsuc, ◌+◌, List, fold, map, max}
use Rattle.kb_batch.specs.Header.{producer_id_of}
use Rattle.kb_producers.specs.declared.kept.Kept.{Kept}

-- the number behind an id; 0 where the id is below 0
abbrev pub behind : ℤ → ℕ
behind (pos id) = id + 1
behind (negsuc n) = 0

-- the least number from 0 on that is above each of some ids
abbrev pub least_above : List ℤ → ℕ
least_above ids = fold max 0 (map behind ids)

-- the producer ids of batches, by what is kept of them
abbrev pub ids_kept : List Kept → List ℤ
ids_kept list = map (λ (k : Kept). k.producer_id) list

-- ... by their bytes
abbrev pub ids_of : List (List ℕ) → List ℤ
ids_of batches = map producer_id_of batches
