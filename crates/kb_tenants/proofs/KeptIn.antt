-- What a tenant has is in the files, whatever was refused.
use Rattle.std.proofs.Common.{◌≡◌, ◌<◌, ℕ, zero, suc, List, [], ◌∷◌, Some, length, sym, ap, refl, arith}
use Rattle.std.specs.Prelude.{IsSome, map, slice_get, string_bytes}
use Rattle.kb_store.specs.Disk.{Disk, Files}
use Rattle.kb_log.specs.OnShelf.{Log}
use Rattle.kb_topics.specs.Catalog.{known}
use Rattle.kb_tenant_state.specs.Partitions.{logs_of}
use Rattle.kb_tenant_state.specs.Parts.{entries}
use Rattle.kb_tenant_state.specs.declared.parts.Parts.{Parts}
use Rattle.kb_tenant_api.specs.Hosted.{kept_of, names_of}
use Rattle.kb_tenants.specs.Tenants.{AreKept, IsKeptIn, hosted, parts_of, shelf_is_honest, state_of, strays_of}
use Rattle.kb_tenants.specs.declared.tenants.Tenant.{Tenant}
use Rattle.kb_tenants.specs.declared.tenants.Tenants.{Tenants}

module _ {L : Type 0} (log : L → Log) (files : Files) where
  named_in : (ts : List (Tenant L)) → ((t : ℕ) (x : Tenant L) → slice_get ts t ≡ Some x → string_bytes x.parts.tenant ≡ string_bytes x.name)
      → names_of (map (state_of log files) ts) ≡ map (λ (p : Parts L). string_bytes p.tenant) (parts_of ts)
  named_in [] each = refl
  named_in (x ∷ ts) each =
      let here = sym (each 0 x refl) in
      let rest = named_in ts (λ t y at. each (suc t) y at) in
      λ i. here i ∷ rest i

  known_in : (ts : List (Tenant L)) (t : ℕ) (p : Parts L) → slice_get (parts_of ts) t ≡ Some p → (kept_of (map (state_of log files) ts) t).world.known ≡ known p.catalog
  known_in [] t p at = absurd cc
  known_in (x ∷ ts) zero p at = let same : x.parts ≡ p = cc in ap (λ (v : Parts L). known v.catalog) same
  known_in (x ∷ ts) (suc t) p at = known_in ts t p at

  logs_in : (ts : List (Tenant L)) (t : ℕ) (p : Parts L) → slice_get (parts_of ts) t ≡ Some p → (kept_of (map (state_of log files) ts) t).world.logs ≡ logs_of log (entries p) files
  logs_in [] t p at = absurd cc
  logs_in (x ∷ ts) zero p at = let same : x.parts ≡ p = cc in ap (λ (v : Parts L). logs_of log (entries v) files) same
  logs_in (x ∷ ts) (suc t) p at = logs_in ts t p at

  parts_in : (ts : List (Tenant L)) (t : ℕ) → t < length (map (state_of log files) ts) → (p : Parts L) × (slice_get (parts_of ts) t ≡ Some p)
  parts_in [] t lt = absurd (omega (arith, lt))
  parts_in (x ∷ ts) zero lt = (x.parts, refl)
  parts_in (x ∷ ts) (suc t) lt = parts_in ts t (omega (arith, lt))

-- where it is known which files are left alone
pub is_kept_in : {L S : Type 0} (log : L → Log) (disk : S → Disk) (ts : Tenants L S) → AreKept log disk ts → shelf_is_honest disk ts → IsSome ts.strays → (t : ℕ) → t < length (hosted log disk ts)
    → IsKeptIn log (disk ts.shelf.store) (strays_of ts.strays) (hosted log disk ts) t
is_kept_in log disk ts kept honest known t lt =
    let files = (disk ts.shelf.store).files in
    let items = ts.tenants.items in
    let own = parts_in log files items t lt in
    record {
      parts = parts_of items;
      next = ts.shelf.next;
      sound = kept.sound;
      agree = kept.agree honest;
      apart = kept.apart;
      named = named_in log files items kept.named;
      own = own.0;
      at = own.1;
      accounts = kept.accounts known honest;
      known_is = known_in log files items t own.0 own.1;
      logs_are = logs_in log files items t own.0 own.1;
    }
