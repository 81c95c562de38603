-- What each tenant sees is tied, and on an honest store no two of its topics have one name.
use Rattle.std.proofs.Common.{◌≡◌, ℕ, zero, suc, List, [], ◌∷◌, Some, refl}
use Rattle.std.specs.Prelude.{map, slice_get}
use Rattle.kb_store.specs.Disk.{Disk, Files, Table}
use Rattle.kb_log.specs.OnShelf.{Log}
use Rattle.kb_tenant_state.specs.Parts.{IsSound}
use Rattle.kb_tenant_state.specs.Tied.{IsTied}
use Rattle.kb_tenant_state.specs.declared.parts.Parts.{Parts}
use Rattle.kb_tenant_state.proofs.Tied.{tied_world}
use Rattle.kb_tenant_api.specs.Hosted.{kept_of}
use Rattle.kb_tenant.proofs.Tied.{new_tied}
use Rattle.kb_tenant.specs.Waiting.{HasOwnNames}
use Rattle.kb_tenant.proofs.Folding.{agreed_names}
use Rattle.kb_tenants.specs.Tenants.{AllAgree, shelf_is_honest, AreKept, hosted, parts_of, state_of}
use Rattle.kb_tenants.specs.declared.tenants.Tenant.{Tenant}
use Rattle.kb_tenants.specs.declared.tenants.Tenants.{Tenants}

tied_among : {L : Type 0} (log : L → Log) (files : Files) (table : Table) (next : ℕ) (xs : List (Tenant L))
    → ((t : ℕ) (p : Parts L) → slice_get (parts_of xs) t ≡ Some p → IsSound log p table next) → (t : ℕ) → IsTied (kept_of (map (state_of log files) xs) t).world
tied_among log files table next [] each t = new_tied
tied_among log files table next (x ∷ xs) each zero = tied_world log x.parts table next files (each 0 x.parts refl)
tied_among log files table next (x ∷ xs) each (suc t) = tied_among log files table next xs (λ u p at. each (suc u) p at) t

-- of a tenant that is not there as well
pub kept_tied : {L S : Type 0} (log : L → Log) (disk : S → Disk) (ts : Tenants L S) → AreKept log disk ts → (t : ℕ) → IsTied (kept_of (hosted log disk ts) t).world
kept_tied log disk ts kept t = tied_among log (disk ts.shelf.store).files (disk ts.shelf.store).table ts.shelf.next ts.tenants.items kept.sound.each t

named_among : {L : Type 0} (log : L → Log) (files : Files) (xs : List (Tenant L)) → AllAgree log (parts_of xs) files → (t : ℕ) → HasOwnNames (kept_of (map (state_of log files) xs) t).world
named_among log files [] each t = tt
named_among log files (x ∷ xs) each zero = agreed_names log x.parts files (each 0 x.parts refl)
named_among log files (x ∷ xs) each (suc t) = named_among log files xs (λ u p at. each (suc u) p at) t

pub kept_names : {L S : Type 0} (log : L → Log) (disk : S → Disk) (ts : Tenants L S) → AreKept log disk ts → shelf_is_honest disk ts → (t : ℕ) → HasOwnNames (kept_of (hosted log disk ts) t).world
kept_names log disk ts kept honest t = named_among log (disk ts.shelf.store).files ts.tenants.items (kept.agree honest) t
