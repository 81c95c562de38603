-- What a tenant has is in the files of the store.
use Rattle.std.proofs.Common.{◌≡◌, ◌∙◌, ◌<◌, ℕ, List, [], Option, Some, None, length, refl, ap, sym, subst, unwrap_or}
use Rattle.std.specs.Prelude.{IsSome}
use Rattle.std.specs.declared.alloc.Global.{Global}
use Rattle.std.specs.declared.vec.Vec.{Vec}
use Rattle.kb_store.specs.Disk.{Disk}
use Rattle.kb_log.specs.OnShelf.{Log}
use Rattle.kb_tenants.specs.Tenants.{IsKeptIn, numbers_in, shelf_is_honest}
use Rattle.kb_tenants.specs.declared.tenants.Tenants.{Tenants}
use Rattle.kb_tenants.proofs.KeptIn.{is_kept_in}
use Rattle.kb_broker.specs.Hosts.{OnStore, tenants_in, AreHosted, IsInFiles}

-- it is known which files are left alone
known-some : (o : Option (Vec ℕ Global)) (strays : List ℕ) → numbers_in o ≡ Some strays → IsSome o
known-some None strays e = absurd (cc)
known-some (Some v) strays e = refl

pub hosted-in-files : {L S : Type 0} (log : L → Log) (disk : S → Disk) (ts : Tenants L S) → AreHosted log disk ts → shelf_is_honest disk ts → (strays : List ℕ) → numbers_in ts.strays ≡ Some strays
    → (t : ℕ) → t < length (tenants_in log disk ts) → IsKeptIn log (disk ts.shelf.store) strays (tenants_in log disk ts) t
hosted-in-files log disk ts kept honest strays e t lt =
    subst (λ files. IsKeptIn log (disk ts.shelf.store) files (tenants_in log disk ts) t) (ap (λ o. unwrap_or o []) e) (is_kept_in log disk ts kept honest (known-some ts.strays strays e) t lt)

-- another state on the same store, with the same tenants
pub in-files-same : {L S : Type 0} (log : L → Log) (disk : S → Disk) (a b : OnStore S) → b.store ≡ a.store → b.strays ≡ a.strays → b.state.tenants ≡ a.state.tenants → IsInFiles log disk a → IsInFiles log disk b
in-files-same log disk a b store left tenants is = λ honest strays e t lt.
    let here = is (subst (λ s. (disk s).honest) store honest) strays (sym left ∙ e) t (subst (λ ts. t < length ts) tenants lt) in
    subst (λ s. IsKeptIn log (disk s) strays b.state.tenants t) (sym store) (subst (λ ts. IsKeptIn log (disk a.store) strays ts t) (sym tenants) here)
