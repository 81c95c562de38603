-- Each tenant's parts are under its own name.
use Rattle.std.proofs.Common.{◌≡◌, ◌∙◌, ℕ, zero, suc, List, [], ◌∷◌, Bor, Some, refl, sym, ap, arith, map, length}
use Rattle.std.specs.Prelude.{slice_get, option_map, string_bytes}
use Rattle.std.specs.List.{zip}
use Rattle.std.proofs.lemmas.List.{length-map}
use Rattle.std.proofs.lemmas.Option.{same_Some, slice_get-map}
use Rattle.std.proofs.lemmas.Simd.{map-map}
use Rattle.kb_store.specs.Disk.{Files}
use Rattle.kb_coordinator.specs.Groups.{none}
use Rattle.kb_segment_log.specs.SegmentLog.{segment_log}
use Rattle.kb_segment_log.specs.declared.log.SegmentLog.{SegmentLog}
use Rattle.kb_tenant_state.specs.declared.parts.Parts.{Parts}
use Rattle.kb_tenant_api.specs.Hosted.{kept_of}
use Rattle.kb_tenants.specs.Tenants.{restored_tenant}
use Rattle.kb_restart.specs.Restart.{names_in}
use Rattle.kb_restart.proofs.Hosting.{zip_second}

zip_first : {A B : Type 0} (xs : List A) (ys : List B) (k : ℕ) (e : A × B) → slice_get (zip xs ys) k ≡ Some e → slice_get xs k ≡ Some e.0
zip_first [] ys k e at = absurd cc
zip_first (x ∷ xs) [] k e at = absurd cc
zip_first (x ∷ xs) (y ∷ ys) zero e at = ap (λ q. Some q.0) (same_Some (x, y) e at)
zip_first (x ∷ xs) (y ∷ ys) (suc k) e at = zip_first xs ys k e at

zip_seconds : {A B : Type 0} (xs : List A) (ys : List B) → length ys ≡ length xs → map (λ e. e.1) (zip xs ys) ≡ ys
zip_seconds [] [] many = refl
zip_seconds [] (y ∷ ys) many = absurd (omega (arith, many))
zip_seconds (x ∷ xs) [] many = absurd (omega (arith, many))
zip_seconds (x ∷ xs) (y ∷ ys) many = ap (λ zs. y ∷ zs) (zip_seconds xs ys (omega (arith, many)))

module _ (names : List (Bor (List ℕ))) (ps : List (Parts SegmentLog)) (same : names_in ps ≡ map (λ name. name.now) names) where
  pub own_name : (k : ℕ) (e : Bor (List ℕ) × Parts SegmentLog) → slice_get (zip names ps) k ≡ Some e → string_bytes e.1.tenant ≡ e.0.now
  own_name k e at =
      let said : Parts SegmentLog → List ℕ = λ p. string_bytes p.tenant in
      let shown : Bor (List ℕ) → List ℕ = λ name. name.now in
      let its = slice_get-map said ps k ∙ ap (option_map said) (zip_second names ps k e at) in
      let own = slice_get-map shown names k ∙ ap (option_map shown) (zip_first names ps k e at) in
      same_Some (said e.1) (shown e.0) (sym its ∙ ap (λ (ns : List (List ℕ)). slice_get ns k) same ∙ own)

  as_many : length ps ≡ length names
  as_many = sym (length-map ps (λ (p : Parts SegmentLog). string_bytes p.tenant)) ∙ ap length same ∙ length-map names (λ (name : Bor (List ℕ)). name.now)

  -- all of them are seated
  pub all_seated : (xs : List (Bor (Bor (List ℕ)) × Parts SegmentLog)) → map (λ e. (e.0.now, e.1)) xs ≡ zip names ps → map (λ e. e.1) xs ≡ ps
  all_seated xs end =
      sym (map-map (λ (e : Bor (List ℕ) × Parts SegmentLog). e.1) (λ (e : Bor (Bor (List ℕ)) × Parts SegmentLog). (e.0.now, e.1)) xs)
      ∙ ap (map (λ (e : Bor (List ℕ) × Parts SegmentLog). e.1)) end ∙ zip_seconds names ps as_many

-- none of them has groups
pub no_groups : (now : Files) (es : List (List ℕ × Parts SegmentLog)) (t : ℕ) → (kept_of (map (λ e. restored_tenant segment_log now e.0 e.1) es) t).groups ≡ none
no_groups now [] t = refl
no_groups now (e ∷ es) zero = refl
no_groups now (e ∷ es) (suc t) = no_groups now es t
