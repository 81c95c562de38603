-- Files of topics that are deleted, by their tenants' catalogs.
use Rattle.std.specs.Prelude.{◌≤◌, ◌&&◌, ◌||◌, ℕ, Bool, false, List, [], ◌∷◌, length, take, nat_lt, Option, Some, None, is_none}
use Rattle.std.specs.FinMap.{FinMap, remove}
use Rattle.std.specs.List.{filter}
use Rattle.std.specs.Str.{bytes_eq}
use Rattle.std.specs.Ordering.{nat_cmp}
use Rattle.kb_store.specs.Disk.{Becomes, Disk}
use Rattle.kb_batch.specs.Batch.{is_natural, natural}
use Rattle.kb_segment.specs.Header.{Header}
use Rattle.kb_topics.specs.Catalog.{known}
use Rattle.kb_topics.specs.Known.{topic_at}
use Rattle.kb_start.specs.Starts.{header_at}
use Rattle.kb_start.specs.declared.deleted.CatalogOf.{CatalogOf}

-- A tenant's catalog gave out the number of its topic, and has no such topic any more.
abbrev pub was_deleted : {L : Type 0} → CatalogOf L → Header → Bool
was_deleted c h =
    let all = known c.catalog.now in
    bytes_eq c.tenant.now h.tenant && nat_lt (natural h.instance) all.creates && is_none (topic_at (natural h.instance) all.topics)

-- for one of some tenants
abbrev pub any_deleted : {L : Type 0} → List (CatalogOf L) → Header → Bool
any_deleted [] h = false
any_deleted (c ∷ cs) h = was_deleted c h || any_deleted cs h

-- A header is that of a partition of such a topic.
abbrev pub is_deleted : {L : Type 0} → List (CatalogOf L) → Option Header → Bool
is_deleted cs None = false
is_deleted cs (Some h) = is_natural 0 h.kind && any_deleted cs h

-- of some files those of deleted topics
abbrev pub deleted_among : {L : Type 0} → List (CatalogOf L) → Disk → List ℕ → List ℕ
deleted_among cs d files = filter (λ file. is_deleted cs (header_at d file)) files

-- ---- files that are removed

-- the numbers and lengths, or the files, without some
abbrev pub without_files : {X : Type 0} → List ℕ → FinMap nat_cmp X → FinMap nat_cmp X
without_files [] m = m
without_files (file ∷ files) m = without_files files (remove m file)

-- the first ones are gone, and all else is as it was
abbrev pub DeletesFirst : ℕ → List ℕ → Disk → Disk → Type 0
DeletesFirst count files d e = Becomes d (without_files (take count files) d.table) (without_files (take count files) d.files) e

-- some first ones are
abbrev pub LeavesBehind : List ℕ → Disk → Disk → Type 0
LeavesBehind files d e = (count : ℕ) × (count ≤ length files) × DeletesFirst count files d e
