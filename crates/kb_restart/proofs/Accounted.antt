-- Each file that is there is of a tenant's log, or is left alone.
use Rattle.std.proofs.Common.{◌≡◌, ◌∙◌, ◌⊎◌, ◌<◌, ◌++◌, inl, inr, ⊎_elim, ℕ, zero, suc, true, List, [], ◌∷◌, Some, None, refl, sym, ap, subst, arith, length}
use Rattle.std.specs.Prelude.{nat_eq, slice_get, is_some, IsSome, IsPermutation}
use Rattle.std.specs.FinMap.{get, keys, contains_key-keys}
use Rattle.std.specs.Ordering.{nat_cmp, eq_by_cmp}
use Rattle.std.specs.Cmp.{unsigned_tied, nat_eq_equiv}
use Rattle.std.specs.List.{All, Contains, list_any}
use Rattle.std.proofs.lemmas.Bool.{or_cases, eqb-true, false≢true}
use Rattle.std.proofs.lemmas.List.Elements.{All-contains}
use Rattle.std.proofs.lemmas.List.Sorted.{IsPermutation-sym, Contains-permutation}
use Rattle.kb_store.specs.Disk.{Disk, Table, IsThere, Keeps}
use Rattle.kb_segment_log.specs.SegmentLog.{segment_log, Clears}
use Rattle.kb_segment_log.specs.declared.log.SegmentLog.{SegmentLog}
use Rattle.kb_tenant_state.specs.Parts.{Owns}
use Rattle.kb_tenant_state.specs.declared.parts.Parts.{Parts}
use Rattle.kb_tenants.specs.Tenants.{AreSettled, IsLeftAlone, IsOfSome}
use Rattle.kb_opening.specs.Directory.{all_files}
use Rattle.kb_opening.specs.Settled.{AreAccounted}
use Rattle.kb_opening.specs.Tenant.{AreListed, IsOfTenant}
use Rattle.kb_opening.specs.declared.directory.Directory.{Directory}
use Rattle.kb_opening.proofs.Settled.{not_there}
use Rattle.kb_restart.specs.Restart.{AreRestored}
use Rattle.kb_opening.proofs.Apart.{listed_at}

-- ---- one tenant more

front_at : {A : Type 0} (xs ys : List A) (t : ℕ) (x : A) → slice_get xs t ≡ Some x → slice_get (xs ++ ys) t ≡ Some x
front_at [] ys t x at = absurd cc
front_at (z ∷ zs) ys zero x at = at
front_at (z ∷ zs) ys (suc t) x at = front_at zs ys t x at

last_at : {A : Type 0} (xs : List A) (x : A) → slice_get (xs ++ x ∷ []) (length xs) ≡ Some x
last_at [] x = refl
last_at (z ∷ zs) x = last_at zs x

pub next_accounted : (had has left : Directory) (ps : List (Parts SegmentLog)) (p : Parts SegmentLog) (mid now : Disk) (next : ℕ) → AreListed has mid next → Clears (IsOfTenant has (length ps)) mid now
    → AreAccounted had (IsOfSome segment_log ps) mid has → AreAccounted has (Owns segment_log p) now left → AreAccounted had (IsOfSome segment_log (ps ++ p ∷ [])) now left
next_accounted had has left ps p mid now next listed clears before its file stood = ⊎_elim
    (λ (own : IsOfSome segment_log ps file). inl (record { tenant = own.tenant; parts = own.parts; at = front_at ps (p ∷ []) own.tenant own.parts own.at; owns = own.owns }))
    (λ (more : (get mid.table file ≡ None) ⊎ Contains (all_files has) file). ⊎_elim
    (λ none. inr (inl (clears.lengths file (λ o. not_there mid.table file none (All-contains (λ n. IsThere mid n) (all_files has) file listed.there (listed_at o.owner has file o.has))) ∙ none)))
    (λ here. ⊎_elim (λ own. inl (record { tenant = length ps; parts = p; at = last_at ps p; owns = own })) (λ rest. inr rest) (its file here))
    more)
    (before file stood)

-- ---- all of them

module _ (old mid now : Disk) (next : ℕ) (numbers strays : List ℕ) (d left : Directory) (ps : List (Parts SegmentLog)) (kept : Keeps old mid) (there : All (λ n. IsThere old n) numbers)
    (all : IsPermutation numbers (all_files d)) (restored : AreRestored mid d ps now next left) (these : IsPermutation (all_files left) strays) where
  -- a file that is there now was there before
  was_there : (file : ℕ) → get old.table file ≡ None → get now.table file ≡ None
  was_there file none =
      restored.clears.lengths file (λ f. not_there old.table file none (All-contains (λ n. IsThere old n) numbers file there
      (Contains-permutation (all_files d) numbers file (IsPermutation-sym numbers (all_files d) all) (listed_at f.has.owner d file f.has.has))))
      ∙ ap (λ (t : Table). get t file) kept.table ∙ none

  accounts : ((file : ℕ) → IsThere old file → Contains numbers file) → (file : ℕ) → IsThere now file → IsOfSome segment_log ps file ⊎ Contains strays file
  accounts each file is = elim (get old.table file) as (λ o. get old.table file ≡ o → IsOfSome segment_log ps file ⊎ Contains strays file) [
    | None ↦ λ none. absurd (not_there now.table file (was_there file none) is)
    | Some n ↦ λ some. ⊎_elim
        (λ own. inl own)
        (λ (more : (get now.table file ≡ None) ⊎ Contains (all_files left) file). ⊎_elim
        (λ none. absurd (not_there now.table file none is))
        (λ here. inr (Contains-permutation (all_files left) strays file these here))
        more)
        (restored.accounts file (Contains-permutation numbers (all_files d) file all (each file (ap is_some some))))
  ] refl

  pub all_settled : ((file : ℕ) → IsThere old file → Contains numbers file) → AreSettled segment_log ps strays now
  all_settled each = record {
    accounts = λ file there not. ⊎_elim (λ own. absurd (not own)) (λ here. here) (accounts each file there);
  }

  pub all_alone : (file : ℕ) → Contains strays file → IsLeftAlone segment_log ps next file
  all_alone file is =
      let here = Contains-permutation strays (all_files left) file (IsPermutation-sym (all_files left) strays these) is in
      record {
        given_out = All-contains (λ n. n < next) (all_files left) file restored.listed.given_out here;
        nobodys = λ o. (restored.each o.tenant o.parts o.at).apart file o.owns here;
      }

-- ---- the files that a store lists are all that are there

has_any : (xs : List ℕ) (file : ℕ) → list_any (λ y. nat_eq y file) xs ≡ true → Contains xs file
has_any [] file e = absurd (false≢true e)
has_any (x ∷ xs) file e = ⊎_elim
    (λ is. (0, omega arith, eqb-true x file is))
    (λ later. let h = has_any xs file later in (suc h.0, omega (arith, h.1), h.2))
    (or_cases (nat_eq x file) (list_any (λ y. nat_eq y file) xs) e)

pub there_listed : (old mid new : Disk) (numbers : List ℕ) → numbers ≡ keys old.table → Keeps old mid → Keeps mid new → (file : ℕ) → IsThere new file → Contains numbers file
there_listed old mid new numbers listed before kept file is =
    let alike : list_any (eq_by_cmp nat_cmp file) (keys old.table) ≡ list_any (λ y. nat_eq y file) (keys old.table) = λ i. list_any (λ y. (unsigned_tied file y ∙ nat_eq_equiv.symm file y) i) (keys old.table) in
    let was : IsSome (get old.table file) = subst (λ (t : Table). IsSome (get t file)) (kept.table ∙ before.table) is in
    subst (λ (ns : List ℕ). Contains ns file) (sym listed) (has_any (keys old.table) file (sym alike ∙ sym (contains_key-keys old.table file) ∙ was))
