-- What a call for one of a broker's tenants leaves of all of them.
use Rattle.std.specs.Prelude.{◌≡◌, ◌≤◌, ◌+◌, ◌⊎◌, ◌==◌, ◌&&◌, ℕ, zero, suc, List, [], ◌∷◌, length, Bool, true, if◌then◌else◌}
use Rattle.std.specs.List.{sum_by}
use Rattle.std.specs.Str.{bytes_eq}
use Rattle.kb_coordinator.specs.Calls as groups
use Rattle.kb_coordinator.specs.Groups.{Groups}
use Rattle.kb_tenant_state.specs.Calls.{all_places}
use Rattle.kb_tenant_state.specs.Counts.{END, IsCalm, counted_by}
use Rattle.kb_tenant_state.specs.Retained.{some_retained, unmarked}
use Rattle.kb_tenant_state.specs.World.{World}
use Rattle.kb_tenant_api.specs.Waiters.{AreTicked}
use Rattle.kb_tenant_api.specs.Hosted.{TenantState, passed, refusals_of, Kept, kept_of, names_of}

-- the tenants, where the one at a place keeps something else
unfoldable pub with_kept : ℕ → Kept → List TenantState → List TenantState
with_kept t kept [] = []
with_kept zero kept (x ∷ xs) = record x { kept = kept } ∷ xs
with_kept (suc t) kept (x ∷ xs) = x ∷ with_kept t kept xs

-- ---- a call for one of them

-- names stay, and counts only rise; nothing is counted for another tenant; and on an honest store each of the others keeps what it kept
pub record IsTurn (t : ℕ) (honest : Type 0) (old new : List TenantState) : Type 0 where
  pub names : names_of new ≡ names_of old
  pub grows : (u : ℕ) → refusals_of old u ≤ refusals_of new u
  pub counts : (u : ℕ) → (u ≡ t → ⊥) → refusals_of new u ≡ refusals_of old u
  pub others : honest → (u : ℕ) → (u ≡ t → ⊥) → kept_of new u ≡ kept_of old u

-- what holds of the tenant's own part where nothing was refused to it, on an honest store
abbrev pub IsMet : ℕ → Type 0 → List TenantState → List TenantState → (Kept → Kept → Type 0) → Type 0
IsMet t honest old new P = honest → IsCalm (refusals_of old t) (refusals_of new t) → P (kept_of old t) (kept_of new t)

-- ---- a moment of all of them

-- Some groups after a moment in which that many were refused memory: all had it, if anything was due. Or something was due, and each had
-- it, and those who waited are told what these give; or it is as it was. So none is refused where nothing is due.
abbrev pub PassGroups : (clock refused : ℕ) (old new : Groups) → Type 0
PassGroups clock refused old new = ((refused ≡ 0) × (new ≡ groups.passed clock old))
    ⊎ ((groups.is_due clock old ≡ true) × groups.Ticks clock old.groups new.groups new.released refused
    × (new.members ≡ old.members) × (new.limits ≡ old.limits))

-- Some topics after it, where there were so many refusals: each partition in turn, by topic name and number, had its part of retention, or
-- was refused it and is as it was. Or the list of them was refused memory, and all are as they were.
abbrev pub PassTopics : (clock refused : ℕ) (old new : World) → Type 0
PassTopics clock refused old new = ((marks : List Bool) × (length marks ≡ length (all_places old)) × (unmarked marks ≤ refused)
    × (new ≡ (some_retained clock marks (all_places old) old).0)) ⊎ ((1 ≤ refused) × (new ≡ old))

-- What a tenant keeps after a moment, whatever was refused, and its count of refusals: each of its groups and of its partitions had its part
-- of the moment, or was refused it, which was counted, and is as it was.
pub record PassesPartly (clock before after : ℕ) (old new : Kept) : Type 0 where
  pub of_groups : ℕ
  pub of_topics : ℕ
  pub groups : PassGroups clock of_groups old.groups new.groups
  pub topics : PassTopics clock of_topics old.world new.world
  pub counted : counted_by (of_groups + of_topics) before ≤ after

-- Names stay, and counts only rise; and on an honest store each to which nothing was refused keeps what a moment leaves at that time. Of
-- each, whatever was refused, each group and each partition had its part of the moment or was refused it, which was counted, and is as it
-- was; and no member more waits on any connection, nor one who was answered.
pub record HavePassed (clock : ℕ) (honest : Type 0) (old new : List TenantState) : Type 0 where
  pub names : names_of new ≡ names_of old
  pub grows : (u : ℕ) → refusals_of old u ≤ refusals_of new u
  pub kept : honest → (u : ℕ) → IsCalm (refusals_of old u) (refusals_of new u) → kept_of new u ≡ passed clock (kept_of old u)
  pub partly : honest → (u : ℕ) → PassesPartly clock (refusals_of old u) (refusals_of new u) (kept_of old u) (kept_of new u)
  pub waits : honest → (u : ℕ) → AreTicked (kept_of old u).groups (kept_of new u).groups

-- ---- counts

-- the counts of all tenants together
abbrev pub total : List TenantState → ℕ
total ts = sum_by (λ (x : TenantState). x.refusals) ts

-- the count of some tenant has come to its end
abbrev pub HasEnded : List TenantState → Type 0
HasEnded ts = (t : ℕ) × (END ≤ refusals_of ts t)

-- What the store refused was counted: the counts together have risen by at least as much as the store's failures, unless one has
-- come to its end.
abbrev pub IsAccounted : (old new : List TenantState) (failures later : ℕ) → Type 0
IsAccounted old new failures later = (total old + later ≤ total new + failures) ⊎ HasEnded new

-- the count of the first tenant of that name, or 0
abbrev pub count_named : List ℕ → List TenantState → ℕ
count_named name [] = 0
count_named name (x ∷ xs) = if bytes_eq x.name name then x.refusals else count_named name xs

-- no refusal has been counted for a tenant
abbrev pub all_calm : List TenantState → Bool
all_calm [] = true
all_calm (x ∷ xs) = x.refusals == 0 && all_calm xs
