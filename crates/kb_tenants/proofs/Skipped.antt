-- Producer ids that a tenant's catalog had lost.
use Rattle.std.proofs.Common.{◌≡◌, ◌≤◌, ◌+◌, ◌^◌, ℕ, ap, refl}
use Rattle.std.specs.Prelude.{OnErr, Result, Ok, Err}
use Rattle.kb_coordinator.specs.Groups.{Groups}
use Rattle.kb_topics.specs.declared.fault.CatalogFault.{CatalogFault}
use Rattle.kb_topics.specs.declared.fault.CatalogFault.TheVariants as catalog
use Rattle.kb_tenant.specs.Told.{FailedBy}
use Rattle.kb_tenant_state.specs.Counts.{IsCalm, counted_once}
use Rattle.kb_tenant_state.specs.Ids.{IsSkipWant, Skips}
use Rattle.kb_tenant_state.specs.Parts.{Seen}
use Rattle.kb_tenant_state.specs.Scene.{Scene, WhereHonest}
use Rattle.kb_tenant_state.proofs.SkippedIds.{loud}
use Rattle.kb_tenant_api.specs.Hosted.{kept_in}
use Rattle.kb_tenants.specs.Ids.{IsSkipCause, KeepsSkipped}

-- why it was refused
cause : (a b : Scene Seen) (f : CatalogFault) → IsSkipWant a b f → b.disk.honest → a.agrees → IsSkipCause (FailedBy a.disk.failures b.disk.failures b.next) (2 ^ 63 ≤ b.state.commands + 1) f
cause a b catalog.Name w honest agree = w
cause a b catalog.Exists w honest agree = w
cause a b catalog.Partitions w honest agree = w
cause a b catalog.Limit w honest agree = w
cause a b catalog.TooMany w honest agree = w
cause a b catalog.Unknown w honest agree = w
cause a b catalog.Metadata w honest agree = w
cause a b catalog.Back w honest agree = w
cause a b catalog.UsedUp w honest agree = w
cause a b catalog.Full w honest agree = w
cause a b catalog.Store w honest agree = w honest agree
cause a b catalog.Memory w honest agree = w

-- what the tenant keeps
pub skipped_kept : (a b : Scene Seen) (gs : Groups) (r : Result (Unit {0}) CatalogFault) → Skips a b r
    → WhereHonest a b (KeepsSkipped (FailedBy a.disk.failures b.disk.failures b.next) (2 ^ 63 ≤ b.state.commands + 1) r (kept_in a.state.world gs) (kept_in b.state.world gs))
skipped_kept a b gs (Ok u) told honest agree = ap (λ w. kept_in w gs) (told.met honest agree)
skipped_kept a b gs (Err f) told honest agree = (
  cause a b f told.want honest agree,
  record { some = told.some; short = told.short honest agree; stays = ap (λ w. kept_in w gs) (told.stays honest agree) },
)

-- what was refused was counted
pub skipped_loud : (a b : Scene Seen) (f : CatalogFault) (n : ℕ) → Skips a b (Err f) → b.state.refusals ≤ n → IsCalm a.state.refusals n → ⊥
skipped_loud a b f n told le calm = loud a.state.refusals b.state.refusals n told.counted le calm

-- what holds of each refusal holds where there is one
pub each_err : {P : Type 0} (r : Result (Unit {0}) CatalogFault) → ((f : CatalogFault) → r ≡ Err f → P) → OnErr r P
each_err (Ok u) h = tt
each_err (Err f) h = h f refl
