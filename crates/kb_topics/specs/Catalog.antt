-- A catalog: what is known, and the meta log.
use Rattle.std.specs.Prelude.{ℕ, ℤ, pos, negsuc, List, Option, Some, None}
use Rattle.kb_log.specs.OnShelf.{Identity}
use Rattle.kb_topics.specs.declared.catalog.Catalog.{Catalog}
use Rattle.kb_topics.specs.Known.{Known}

-- what its meta log comes to
abbrev pub known : {L : Type 0} → Catalog L → Known
known c = c.known

abbrev pub meta_log : {L : Type 0} → Catalog L → L
meta_log c = c.log

-- an instance and a partition that are not negative
abbrev pub place_in : ℤ → ℤ → Option (ℕ × ℕ)
place_in (pos i) (pos p) = Some (i, p)
place_in (pos i) (negsuc p) = None
place_in (negsuc i) p = None

-- whose the meta log of a tenant is in a generation, with files of so many bytes
abbrev pub catalog_identity : List ℕ → ℤ → ℕ → Identity
catalog_identity tenant generation size = record {
  tenant = tenant;
  kind = pos 1;
  instance = pos 0;
  partition = pos 0;
  generation = generation;
  segment_bytes = size;
}
