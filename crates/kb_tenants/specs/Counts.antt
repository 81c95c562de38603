-- What is counted for a tenant beside its refusals: how many of them were the store's, and how often it was told that it is past a limit.
use Rattle.std.specs.Prelude.{◌≡◌, ◌≤◌, ◌+◌, ◌-◌, ◌⊎◌, ℕ, zero, suc, List, get_or, length, map, max, min}
use Rattle.kb_over_limit.specs.Over.{both, none}
use Rattle.kb_over_limit.specs.declared.over.OverLimit.{OverLimit}
use Rattle.kb_store.specs.Disk.{Disk}
use Rattle.kb_log.specs.OnShelf.{Log}
use Rattle.kb_tenant_state.specs.Counts.{END}
use Rattle.kb_tenant_api.specs.Hosted.{TenantState, refusals_of}
use Rattle.kb_tenant_api.specs.Turns.{IsAccounted}
use Rattle.kb_tenants.specs.Tenants.{hosted}
use Rattle.kb_tenants.specs.declared.counts.Counts.{Counts}
use Rattle.kb_tenants.specs.declared.tenants.Tenant.{Tenant}
use Rattle.kb_tenants.specs.declared.tenants.Tenants.{Tenants}

-- nothing is counted yet
abbrev pub no_counts : Counts
no_counts = record { by_store = 0; over = none }

-- a count that rises by so many, and stays at its end
abbrev pub risen : ℕ → ℕ → ℕ
risen n count = max count (min (count + n) END)

-- the store has refused so many calls more
abbrev pub with_store : ℕ → Counts → Counts
with_store n c = record c { by_store = risen n c.by_store }

-- a reply told so many entries more that they are past a limit
abbrev pub with_over : OverLimit → Counts → Counts
with_over told c = record c { over = both c.over told }

-- what is counted for the tenant at a place
abbrev pub counts_of : {L S : Type 0} → Tenants L S → ℕ → Counts
counts_of {L} ts t = get_or (map (λ (x : Tenant L). x.counts) ts.tenants.items) t no_counts

-- what is counted for each tenant, by place
abbrev pub all_counts : {L S : Type 0} → Tenants L S → List Counts
all_counts {L} ts = map (λ (x : Tenant L). x.counts) ts.tenants.items

-- of so many refusals of the tenant at a place so many are told as the store's: the others were of memory
abbrev pub store_share : List Counts → ℕ → ℕ → ℕ
store_share counts t refusals = min (get_or counts t no_counts).by_store refusals

-- how often the tenant at a place was told that it is past a limit
abbrev pub over_at : List Counts → ℕ → OverLimit
over_at counts t = (get_or counts t no_counts).over

-- ---- a call for one of them

-- A call for the tenant at a place, in which the store's failures went from one number to another. What the store refused was counted;
-- as many refusals more are the store's, all of them among those that were counted for the tenant; what it was told of its limits became
-- that; and for another tenant nothing is.
pub record IsCountedBy (told : OverLimit → OverLimit) (t : ℕ) (before after : List TenantState) (failures later : ℕ) (old new : ℕ → Counts)
    : Type 0 where
  pub accounted : IsAccounted before after failures later
  pub store : (new t).by_store ≡ risen (later - failures) (old t).by_store
  pub among : min (refusals_of before t + (later - failures)) END ≤ refusals_of after t
  pub over : (new t).over ≡ told (old t).over
  pub others : (u : ℕ) → (u ≡ t → ⊥) → new u ≡ old u

-- ... in which it was told nothing of its limits
abbrev pub IsCounted : (t : ℕ) (before after : List TenantState) (failures later : ℕ) (old new : ℕ → Counts) → Type 0
IsCounted = IsCountedBy (λ over. over)

-- so it is of tenants on their shelf
abbrev pub IsCountedFor : {L S : Type 0} → (L → Log) → (S → Disk) → ℕ → Tenants L S → Tenants L S → Type 0
IsCountedFor log disk t old new = IsCounted t (hosted log disk old) (hosted log disk new) (disk old.shelf.store).failures
    (disk new.shelf.store).failures (counts_of old) (counts_of new)

-- so it is where its reply tells it that of its limits
abbrev pub IsCountedWith : {L S : Type 0} → OverLimit → (L → Log) → (S → Disk) → ℕ → Tenants L S → Tenants L S → Type 0
IsCountedWith told log disk t old new = IsCountedBy (λ over. both over told) t (hosted log disk old) (hosted log disk new)
    (disk old.shelf.store).failures (disk new.shelf.store).failures (counts_of old) (counts_of new)

-- none of these counts is another
abbrev pub AreSameCounts : {L S : Type 0} → Tenants L S → Tenants L S → Type 0
AreSameCounts old new = (t : ℕ) → counts_of new t ≡ counts_of old t

-- none of them was told of its limits
abbrev pub AreSameOver : {L S : Type 0} → Tenants L S → Tenants L S → Type 0
AreSameOver old new = (t : ℕ) → (counts_of new t).over ≡ (counts_of old t).over

-- ---- calls for any of them

-- how many refusals of the first so many tenants are the store's
abbrev pub store_total : ℕ → (ℕ → Counts) → ℕ
store_total zero cs = 0
store_total (suc n) cs = store_total n cs + (cs n).by_store

-- such a count of some tenant has come to its end
abbrev pub HasEndedAtStore : (ℕ → Counts) → Type 0
HasEndedAtStore cs = (t : ℕ) × (END ≤ (cs t).by_store)

-- Calls for any tenants, in which the store's failures went from one number to another. What the store refused was counted; of all tenants
-- together as many refusals more are the store's, unless a count has come to its end; and those of each are among the refusals that were
-- counted for it.
pub record AreCounted (before after : List TenantState) (failures later : ℕ) (old new : ℕ → Counts) : Type 0 where
  pub accounted : IsAccounted before after failures later
  pub store : (store_total (length before) new + failures ≡ store_total (length before) old + later) ⊎ HasEndedAtStore new
  pub among : (t : ℕ) → min (refusals_of before t + ((new t).by_store - (old t).by_store)) END ≤ refusals_of after t
  pub rise : (t : ℕ) → (old t).by_store ≤ (new t).by_store

-- what is counted for the tenant at a place, of those counts
abbrev pub shared_as : List Counts → ℕ → Counts
shared_as counts t = get_or counts t no_counts

-- so it is where that is counted for each tenant
abbrev pub AreShared : List TenantState → List TenantState → ℕ → ℕ → List Counts → List Counts → Type 0
AreShared before after failures later old new = AreCounted before after failures later (shared_as old) (shared_as new)

-- so it is of tenants on their shelf
abbrev pub AreCountedFor : {L S : Type 0} → (L → Log) → (S → Disk) → Tenants L S → Tenants L S → Type 0
AreCountedFor log disk old new = AreCounted (hosted log disk old) (hosted log disk new) (disk old.shelf.store).failures
    (disk new.shelf.store).failures (counts_of old) (counts_of new)

-- ... and none of them was told of its limits
abbrev pub AreCountedUntold : {L S : Type 0} → (L → Log) → (S → Disk) → Tenants L S → Tenants L S → Type 0
AreCountedUntold log disk old new = AreCountedFor log disk old new × AreSameOver old new
