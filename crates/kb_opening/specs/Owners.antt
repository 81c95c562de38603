-- Whose the files of a store are, by their headers.
use Rattle.std.specs.Prelude.{◌≡◌, ◌≤◌, ◌&&◌, ◌+◌, ℕ, Bool, false, not, List, [], ◌∷◌, Option, Some, None, Result, Err, IsErrOf, option_map}
use Rattle.std.specs.Prelude.{if◌then◌else◌}
use Rattle.std.specs.List.{filter, list_any}
use Rattle.std.specs.Option.{option_and_then}
use Rattle.std.specs.Ordering.{eq_by_cmp}
use Rattle.std.specs.Str.{bytes_eq}
use Rattle.std.specs.declared.cmp.Ordering.{Ordering}
use Rattle.kb_store.specs.Disk.{Disk, Files, Grew}
use Rattle.kb_batch.specs.Batch.{is_natural, natural}
use Rattle.kb_segment.specs.Header.{Header, header_in}
use Rattle.kb_segment_log.specs.SegmentLog.{bytes_at}
use Rattle.kb_log.specs.declared.fault.LogFault.{LogFault}
use Rattle.kb_log.specs.declared.fault.LogFault.TheVariants as faults
use Rattle.kb_opening.specs.declared.owner.Owner.{Owner}
use Rattle.kb_opening.specs.declared.owner.Owner.TheVariants.{Catalog, Partition}
use Rattle.kb_opening.specs.contracts.owner.OwnerOrd.TheImpl as owner_ord

-- ---- what a header says

-- the file is of that generation of the tenant's catalog
abbrev pub is_of_catalog : List ℕ → ℕ → Header → Bool
is_of_catalog tenant generation h = bytes_eq h.tenant tenant && is_natural 1 h.kind && is_natural generation h.generation

-- it is of that tenant's partition of that number, of the topic of that instance
abbrev pub is_of_partition : List ℕ → ℕ → ℕ → Header → Bool
is_of_partition tenant instance number h =
    bytes_eq h.tenant tenant && is_natural 0 h.kind && is_natural instance h.instance && is_natural number h.partition
    && is_natural 0 h.generation

-- it is of one of these tenants
abbrev pub is_of_one : List (List ℕ) → Header → Bool
is_of_one tenants h = list_any (bytes_eq h.tenant) tenants

-- ---- the files

-- a file has a readable header, and it passes a test
abbrev pub passes : (Header → Bool) → Option Header → Bool
passes test None = false
passes test (Some h) = test h

abbrev pub says : Files → (Header → Bool) → ℕ → Bool
says files test n = passes test (header_in (bytes_at files n))

-- of the files of some numbers, those of a generation of a tenant's catalog
abbrev pub catalog_of : Files → List ℕ → ℕ → List ℕ → List ℕ
catalog_of files tenant generation numbers = filter (says files (is_of_catalog tenant generation)) numbers

-- those of a partition
abbrev pub partition_of : Files → List ℕ → ℕ → ℕ → List ℕ → List ℕ
partition_of files tenant instance number numbers = filter (says files (is_of_partition tenant instance number)) numbers

-- those that are of none of these tenants
abbrev pub strays_of : Files → List (List ℕ) → List ℕ → List ℕ
strays_of files tenants numbers = filter (λ n. not (says files (is_of_one tenants) n)) numbers

-- ---- owners

-- the place of a name among others
abbrev pub place_among : List ℕ → List (List ℕ) → Option ℕ
place_among name [] = None
place_among name (n ∷ names) = if bytes_eq name n then Some 0 else option_map (λ i. 1 + i) (place_among name names)

-- the log that a header of a tenant at that place names
abbrev pub owner_at : Header → ℕ → Owner
owner_at h tenant =
    if is_natural 0 h.kind then Partition tenant (natural h.instance) (natural h.partition) else Catalog tenant (natural h.generation)

abbrev pub owner_of : List (List ℕ) → Header → Option Owner
owner_of names h = option_map (owner_at h) (place_among h.tenant names)

-- the same, where there may be no readable header
abbrev pub owner_by : List (List ℕ) → Option Header → Option Owner
owner_by names found = option_and_then (owner_of names) found

abbrev pub owner_cmp : Owner → Owner → Ordering
owner_cmp = (owner_ord.ghosts).cmp

abbrev pub same_owner : Owner → Owner → Bool
same_owner a b = eq_by_cmp owner_cmp a b

abbrev pub is_owner : Owner → Option Owner → Bool
is_owner o None = false
is_owner o (Some owner) = same_owner owner o

-- ---- refusals

-- Failures do not fall, the store is blamed only where they grew, and no offset is.
pub record HasFault {T : Type 0} (old : Disk) (result : Result T LogFault) (new : Disk) : Type 0 where
  pub later : old.failures ≤ new.failures
  pub store : IsErrOf result faults.Store → Grew old.failures new.failures
  pub range : result ≡ Err faults.Range → ⊥
  pub full : result ≡ Err faults.Full → ⊥
