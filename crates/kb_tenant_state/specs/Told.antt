-- What each call answers, whatever memory and the store refuse: what is defined, or else a fault that names what refused it.
use Rattle.std.specs.Prelude.{◌≡◌, ◌≤◌, ◌+◌, ◌^◌, ◌⊎◌, Result, Ok, Err}
use Rattle.kb_store.specs.Disk.{Grew}
use Rattle.kb_topics.specs.declared.fault.CatalogFault.{CatalogFault}
use Rattle.kb_topics.specs.declared.fault.CatalogFault.TheVariants as catalog
use Rattle.kb_tenant_state.specs.Scene.{Scene, WhereHonest}
use Rattle.kb_tenant_state.specs.declared.fault.PartitionFault.{PartitionFault}
use Rattle.kb_tenant_state.specs.declared.fault.PartitionFault.TheVariants as partition
use Rattle.kb_tenant_state.specs.Parts.{Seen}
use Rattle.kb_tenant_state.specs.Counts.{counted_once}

-- It did what is defined, and no refusal was counted.
pub record IsDone (a b : Scene Seen) (P : Type 0) : Type 0 where
  pub counted : b.state.refusals ≡ a.state.refusals
  pub met : WhereHonest a b P

-- It was refused for a want that there was. That was counted once, and the tenant's world is as it was.
pub record IsRefused (a b : Scene Seen) (Want : Type 0) : Type 0 where
  pub want : Want
  pub counted : b.state.refusals ≡ counted_once a.state.refusals
  pub stays : WhereHonest a b (b.state.world ≡ a.state.world)

-- the store's failures grew, or no file number is left
abbrev pub Failed : Scene Seen → Scene Seen → Type 0
Failed a b = WhereHonest a b (Grew a.disk.failures b.disk.failures ⊎ (2 ^ 64 ≤ a.next))

-- It did what is defined, but the removal of a file or a look at a size was refused, which was counted once.
pub record IsLeft (a b : Scene Seen) (P : Type 0) : Type 0 where
  pub counted : b.state.refusals ≡ counted_once a.state.refusals
  pub met : WhereHonest a b P

-- what a fault names
abbrev pub IsWant : Scene Seen → Scene Seen → PartitionFault → Type 0
IsWant a b partition.Unknown = ⊥
IsWant a b partition.Range = ⊥
IsWant a b partition.Full = ⊥
IsWant a b partition.Store = Failed a b
IsWant a b partition.Memory = Unit {0}

-- the meta log has no room for one more command
abbrev pub IsLogFull : Scene Seen → Type 0
IsLogFull a = 2 ^ 63 ≤ a.state.commands + 1

-- each instance of a topic was given out
abbrev pub AreInstancesUsedUp : Scene Seen → Type 0
AreInstancesUsedUp a = 2 ^ 63 ≤ a.state.world.known.creates + 1

-- the same of the catalog, which is full where its log is
abbrev pub IsCatalogWant : Scene Seen → Scene Seen → CatalogFault → Type 0
IsCatalogWant a b catalog.Full = IsLogFull a
IsCatalogWant a b catalog.Store = Failed a b
IsCatalogWant a b catalog.Memory = Unit {0}
IsCatalogWant a b _ = ⊥

-- the same of a topic that is to be made, for which the catalog is full also where each instance was given out
abbrev pub IsCreationWant : Scene Seen → Scene Seen → CatalogFault → Type 0
IsCreationWant a b catalog.Full = IsLogFull a ⊎ AreInstancesUsedUp a
IsCreationWant a b f = IsCatalogWant a b f

-- the same of a deletion of records, which the meta log records: that is full, or the store failed
abbrev pub IsDeletionWant : Scene Seen → Scene Seen → PartitionFault → Type 0
IsDeletionWant a b partition.Store = Failed a b ⊎ IsLogFull a
IsDeletionWant a b partition.Memory = Unit {0}
IsDeletionWant a b _ = ⊥

-- An accepted call did what is defined. A refused one is refused by the definition, or for the want that its fault names.
abbrev pub Tells : {T F : Type 0} → Scene Seen → Scene Seen → Type 0 → (F → Type 0) → Result T F → Type 0
Tells a b P want (Ok x) = IsDone a b P
Tells a b P want (Err f) = IsDone a b P ⊎ IsRefused a b (want f)

-- The same of a deletion, which is accepted also where the removal of a file or a look at a size is refused.
abbrev pub Deletes : {T F : Type 0} → Scene Seen → Scene Seen → Type 0 → (F → Type 0) → Result T F → Type 0
Deletes a b P want (Ok x) = IsDone a b P ⊎ IsLeft a b P
Deletes a b P want (Err f) = IsDone a b P ⊎ IsRefused a b (want f)
