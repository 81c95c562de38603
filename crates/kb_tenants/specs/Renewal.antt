-- When the catalog of a tenant is written anew, and what a look at it leaves.
use Rattle.std.specs.Prelude.{◌≡◌, ◌≤◌, ◌<◌, ◌+◌, ◌-◌, ◌*◌, ◌⊎◌, ◌&&◌, ℕ, Bool, true, nat_le, nat_lt, List, length, map, get_or, max, min, if◌then◌else◌}
use Rattle.kb_store.specs.Disk.{Disk}
use Rattle.kb_log.specs.OnShelf.{Log}
use Rattle.kb_snapshot.specs.Snapshot as snapshots
use Rattle.kb_tenant_state.specs.Counts.{END, IsCalm, counted_by}
use Rattle.kb_tenant_api.specs.Hosted.{Kept, TenantState, kept_of, refusals_of}
use Rattle.kb_tenant_api.specs.Turns.{IsTurn}
use Rattle.kb_tenants.specs.Counts.{IsCountedFor}
use Rattle.kb_tenants.specs.Tenants.{AreLeftAlone, all_commands, commands_of, hosted, parts_of, shelf_is_honest, strays_of}
use Rattle.kb_tenants.specs.declared.tenants.Tenant.{Tenant}
use Rattle.kb_tenants.specs.declared.tenants.Tenants.{Tenants}

-- up to so many commands no meta log is looked at
abbrev pub MIN_COMMANDS : ℕ
MIN_COMMANDS = 4096

-- a snapshot of more commands is not written
abbrev pub MAX_SNAPSHOT : ℕ
MAX_SNAPSHOT = 16384

-- the most commands that are left in a meta log beside a snapshot of so many
abbrev pub limit : ℕ → ℕ
limit snapshot = max MIN_COMMANDS (4 * snapshot)

-- a meta log of so many commands has more than are left in it, and its snapshot can be written
abbrev pub is_due : (commands snapshot : ℕ) → Bool
is_due commands snapshot = nat_lt (limit snapshot) commands && nat_le snapshot MAX_SNAPSHOT

-- Above how many commands a meta log of so many is looked at next: those that are left in it; or, where it has more, once as many came
-- as a look goes over.
abbrev pub next_look : (commands snapshot : ℕ) → ℕ
next_look commands snapshot = min (if nat_lt (limit snapshot) commands then commands + max MIN_COMMANDS snapshot else limit snapshot) END

-- how many commands the snapshot has of what a tenant keeps
abbrev pub snapshot_of : Kept → ℕ
snapshot_of k = length (snapshots.snapshot_of k.world.known)

-- above how many commands the meta log of the tenant at a place is looked at; 0 where there is no such tenant
abbrev pub renew_at_of : {L S : Type 0} → Tenants L S → ℕ → ℕ
renew_at_of {L} ts t = get_or (map (λ (x : Tenant L). x.renew_at) ts.tenants.items) t 0

-- the place of the tenant whose turn it is: behind the last it is the first
abbrev pub renewal_place : {L S : Type 0} → Tenants L S → ℕ
renewal_place ts = if nat_lt ts.next_renewal (length ts.tenants.items) then ts.next_renewal else 0

-- the catalog of the tenant at a place is looked at
abbrev pub IsLookedAt : {L S : Type 0} → (L → Log) → Tenants L S → ℕ → Type 0
IsLookedAt log ts t = renew_at_of ts t < commands_of log ts t

-- ... and is to be written anew
abbrev pub IsRenewalDue : {L S : Type 0} → (L → Log) → (S → Disk) → Tenants L S → ℕ → Type 0
IsRenewalDue log disk ts t = IsLookedAt log ts t × (is_due (commands_of log ts t) (snapshot_of (kept_of (hosted log disk ts) t)) ≡ true)

-- What becomes of the meta log of the tenant at a place: one that is not due stays; one that is due has as many commands then as the
-- snapshot, where nothing was refused.
pub record IsRenewedIfDue {L S : Type 0} (log : L → Log) (disk : S → Disk) (t : ℕ) (old new : Tenants L S) : Type 0 where
  pub stays : (IsRenewalDue log disk old t → ⊥) → (parts_of new.tenants.items ≡ parts_of old.tenants.items) × (new.shelf ≡ old.shelf)
  pub renews : IsRenewalDue log disk old t → IsCalm (refusals_of (hosted log disk old) t) (refusals_of (hosted log disk new) t)
      → commands_of log new t ≡ snapshot_of (kept_of (hosted log disk old) t)
  -- where nothing was refused a log that was looked at is bounded, unless its snapshot is not to be written
  pub limited : IsLookedAt log old t → IsCalm (refusals_of (hosted log disk old) t) (refusals_of (hosted log disk new) t)
      → (commands_of log new t ≤ limit (snapshot_of (kept_of (hosted log disk old) t)))
      ⊎ (MAX_SNAPSHOT < snapshot_of (kept_of (hosted log disk old) t))
  pub unlooked : (IsLookedAt log old t → ⊥) → renew_at_of new t ≡ renew_at_of old t
  pub looked : IsLookedAt log old t
      → renew_at_of new t ≡ next_look (commands_of log new t) (snapshot_of (kept_of (hosted log disk old) t))

-- What a call keeps that writes the catalog of the tenant at a place anew, or looks at it, also where it is refused: no tenant sees it, and
-- what was refused is counted for that one. The files that are left alone have the bytes that they had.
pub record IsUnseen {L S : Type 0} (log : L → Log) (disk : S → Disk) (t : ℕ) (old new : Tenants L S) : Type 0 where
  pub strays : new.strays ≡ old.strays
  pub left_alone : AreLeftAlone (strays_of old.strays) (disk old.shelf.store) (disk new.shelf.store)
  pub turn : IsTurn t (shelf_is_honest disk new) (hosted log disk old) (hosted log disk new)
  pub honest : shelf_is_honest disk new → shelf_is_honest disk old
  pub failures : (disk old.shelf.store).failures ≤ (disk new.shelf.store).failures
  pub accounted : IsCountedFor log disk t old new
  pub stays : shelf_is_honest disk new → (u : ℕ) → kept_of (hosted log disk new) u ≡ kept_of (hosted log disk old) u

-- what is counted for a tenant where the store refuses so many of a call's calls: so many, or one refusal where it refused none
abbrev pub IsCountedOnce : (refused before after : ℕ) → Type 0
IsCountedOnce refused before after = (after ≡ counted_by refused before) ⊎ (after ≡ counted_by (max 1 refused) before)

-- What a start makes of the catalogs' logs, where it shortens that of the tenant at a place, and the store refuses so many calls. Where
-- nothing was refused that log has at most as many commands as its snapshot. Whatever was refused, it has those of the snapshot, or those
-- that it had; a refusal is counted once, or as often as the store refused; and the others have the commands that they had.
pub record IsShortened (t refused : ℕ) (before after : List TenantState) (commands later : List ℕ) : Type 0 where
  pub shorter : IsCalm (refusals_of before t) (refusals_of after t) → get_or later t 0 ≤ snapshot_of (kept_of before t)
  pub either : (get_or later t 0 ≡ get_or commands t 0) ⊎ (get_or later t 0 ≡ snapshot_of (kept_of before t))
  pub counted : IsCountedOnce refused (refusals_of before t) (refusals_of after t)
  pub others : (u : ℕ) → (u ≡ t → ⊥) → get_or later u 0 ≡ get_or commands u 0

-- so it is of tenants on their shelf
abbrev pub IsShortenedFor : {L S : Type 0} → (L → Log) → (S → Disk) → ℕ → Tenants L S → Tenants L S → Type 0
IsShortenedFor log disk t old new = IsShortened t ((disk new.shelf.store).failures - (disk old.shelf.store).failures) (hosted log disk old)
    (hosted log disk new) (all_commands log old) (all_commands log new)
