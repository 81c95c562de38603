-- A call for one tenant, as a step of the parts of all of them.
use Rattle.std.specs.Prelude.{◌≡◌, ◌≤◌, ℕ, List, Option, Some, length, slice_get, option_map}
use Rattle.kb_store.specs.Disk.{Disk, Files}
use Rattle.kb_log.specs.OnShelf.{Log}
use Rattle.kb_tenant_state.specs.Parts as parts
use Rattle.kb_tenant_state.specs.Parts.{world_of}
use Rattle.kb_tenant_state.specs.Steps.{Meets}
use Rattle.kb_tenant_state.specs.World.{World}
use Rattle.kb_tenant_state.specs.declared.parts.Parts.{Parts}
use Rattle.kb_tenants.specs.Tenants.{AllAreSound, AllAgree}

-- what a tenant sees
abbrev pub seen_at : {L : Type 0} → (L → Log) → List (Parts L) → Files → ℕ → Option World
seen_at {L} log ps files t = option_map (λ (p : Parts L). world_of log p files) (slice_get ps t)

-- how many refusals were counted for a tenant
abbrev pub refusals_at : {L : Type 0} → List (Parts L) → ℕ → Option ℕ
refusals_at {L} ps t = option_map (λ (p : Parts L). p.refusals) (slice_get ps t)

-- Of the tenants on their shelf before and after a call for one of them: all are sound; the others see what they saw, byte for
-- byte, and nothing was counted for them; and the logs still agree with their files.
pub record IsShelfTurn {L : Type 0} (log : L → Log) (t : ℕ) (ps qs : List (Parts L)) (d e : Disk) (next last : ℕ) : Type 0 where
  pub sound : AllAreSound log qs e.table last
  pub counts : (u : ℕ) → (u ≡ t → ⊥) → refusals_at qs u ≡ refusals_at ps u
  pub worlds : e.honest → (u : ℕ) → (u ≡ t → ⊥) → seen_at log qs e.files u ≡ seen_at log ps d.files u
  pub agree : e.honest → AllAgree log ps d.files → AllAgree log qs e.files
  pub honest : e.honest → d.honest
  pub failures : d.failures ≤ e.failures
  pub many : length qs ≡ length ps
  pub grows : (u : ℕ) (p q : Parts L) → slice_get ps u ≡ Some p → slice_get qs u ≡ Some q → p.refusals ≤ q.refusals

-- What a call makes of the tenant's own world, where nothing was refused to the tenant and the store is honest.
abbrev pub IsShelfMet : {L : Type 0} → (L → Log) → ℕ → List (Parts L) → List (Parts L) → Disk → Disk → ℕ → ℕ → (World → World → Type 0)
    → Type 0
IsShelfMet {L} log t ps qs d e next last P = (p q : Parts L) → slice_get ps t ≡ Some p → slice_get qs t ≡ Some q
    → Meets (parts.scene_on log p d next) (parts.scene_on log q e last) (P (world_of log p d.files) (world_of log q e.files))
