-- The numbers of a map in order.
use Rattle.std.proofs.Common.{◌≡◌, ◌∙◌, ℕ, Bool, true, false, ◌&&◌, List, [], ◌∷◌, map, sym, ap, subst, refl, T}
use Rattle.std.specs.Ordering.{nat_cmp, is_lt}
use Rattle.std.specs.Cmp.{nat_cmp_total}
use Rattle.std.specs.declared.cmp.Ordering.TheVariants.{Less}
use Rattle.std.specs.List.{AllByRecursion}
use Rattle.std.specs.List.Sorted.{IsStrictlySortedBy}
use Rattle.std.specs.FinMap as fin
use Rattle.std.specs.FinMap.{from_entries, from_sorted, entries, entries-from_sorted, get-from_entries, get-from_sorted, same_map, nat_cmp-IsAntisymmetric}
use Rattle.std.specs.FinMap.Entries.{is_sorted, below_all}
use Rattle.kb_store.specs.Memory.{seen_as}

both : (a b : Bool) → T a → T b → T (a && b)
both true b p q = q
both false b p q = p

module _ {V X : Type 0} (h : V → X) where
  below_seen : (x : ℕ) (es : List (ℕ × V)) → AllByRecursion (λ y. nat_cmp x y ≡ Less) (map (λ e. e.0) es) → T (below_all nat_cmp x (seen_as h es))
  below_seen x [] all = tt
  below_seen x (e ∷ es) all = both (is_lt (nat_cmp x e.0)) (below_all nat_cmp x (seen_as h es)) (subst (λ r. T (is_lt r)) (sym all.0) tt) (below_seen x es all.1)

  sorted_seen : (es : List (ℕ × V)) → IsStrictlySortedBy nat_cmp (map (λ e. e.0) es) → T (is_sorted nat_cmp (seen_as h es))
  unfolding IsStrictlySortedBy
  sorted_seen [] s = tt
  sorted_seen (e ∷ es) s = both (below_all nat_cmp e.0 (seen_as h es)) (is_sorted nat_cmp (seen_as h es)) (below_seen e.0 es s.0) (sorted_seen es s.1)

  keys_seen : (es : List (ℕ × V)) → map (λ e. e.0) (seen_as h es) ≡ map (λ e. e.0) es
  keys_seen [] = refl
  keys_seen (e ∷ es) = ap (λ ks. e.0 ∷ ks) (keys_seen es)

  pub keys_from : (es : List (ℕ × V)) → IsStrictlySortedBy nat_cmp (map (λ e. e.0) es) → fin.keys (from_entries {R = nat_cmp} (seen_as h es)) ≡ map (λ e. e.0) es
  keys_from es s =
      let sorted = sorted_seen es s in
      let same = same_map nat_cmp_total nat_cmp-IsAntisymmetric (from_entries (seen_as h es)) (from_sorted (seen_as h es)) (λ q. get-from_entries nat_cmp_total (seen_as h es) q ∙ sym (get-from_sorted nat_cmp (seen_as h es) q sorted)) in
      ap (λ m. map (λ e. e.0) (entries m)) same ∙ ap (map (λ e. e.0)) (entries-from_sorted nat_cmp (seen_as h es) sorted) ∙ keys_seen es
