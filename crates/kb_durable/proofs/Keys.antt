-- The numbers of the files that are left.
use Rattle.std.proofs.Common.{◌≡◌, ◌∙◌, ℕ, Bool, true, false, cond, not, T, List, [], ◌∷◌, map, Option, None, refl, sym, ap}
use Rattle.std.specs.List.{filter}
use Rattle.std.specs.Ordering.{nat_cmp}
use Rattle.std.specs.Cmp.{nat_cmp_total}
use Rattle.std.specs.FinMap as fin
use Rattle.std.specs.FinMap.{FinMap, get, entries, entries_sorted, entries-from_sorted, from_sorted, get-entries, get-from_sorted, same_map, nat_cmp-IsAntisymmetric}
use Rattle.std.specs.FinMap.Entries.{find-where_key, is_sorted, is_sorted-where_key, where_key}
use Rattle.kb_store.specs.Disk.{Table}
use Rattle.kb_durable.specs.Lawful.{get_without}
use Rattle.kb_durable.specs.Waiting.{has, without_keys}

module _ {X : Type 0} where
  keys_where : (p : ℕ → Bool) (es : List (ℕ × X)) → map (λ e. e.0) (where_key nat_cmp p es) ≡ filter p (map (λ e. e.0) es)
  keys_where p [] = refl
  keys_where p (e ∷ es) = elim (p e.0) as (λ b. map (λ e. e.0) (cond b (e ∷ where_key nat_cmp p es) (where_key nat_cmp p es)) ≡ cond b (e.0 ∷ filter p (map (λ e. e.0) es)) (filter p (map (λ e. e.0) es))) [
    | true ↦ ap (λ ks. e.0 ∷ ks) (keys_where p es)
    | false ↦ keys_where p es
  ]

  where_number : (ℕ → Bool) → FinMap nat_cmp X → FinMap nat_cmp X
  where_number p m = from_sorted (where_key nat_cmp p (entries m))

  sorted_where : (p : ℕ → Bool) (m : FinMap nat_cmp X) → T (is_sorted nat_cmp (where_key nat_cmp p (entries m)))
  sorted_where p m = is_sorted-where_key nat_cmp p (entries m) (entries_sorted m)

  keys_where_number : (p : ℕ → Bool) (m : FinMap nat_cmp X) → fin.keys (where_number p m) ≡ filter p (fin.keys m)
  unfolding where_number
  keys_where_number p m = ap (map (λ (e : ℕ × X). e.0)) (entries-from_sorted nat_cmp (where_key nat_cmp p (entries m)) (sorted_where p m)) ∙ keys_where p (entries m)

  get_where : (p : ℕ → Bool) (m : FinMap nat_cmp X) (q : ℕ) → get (where_number p m) q ≡ cond (p q) (get m q) None
  unfolding where_number
  get_where p m q =
      get-from_sorted nat_cmp (where_key nat_cmp p (entries m)) q (sorted_where p m)
      ∙ find-where_key nat_cmp p q (λ x tied. ap p (sym (nat_cmp-IsAntisymmetric q x tied))) (entries m)
      ∙ ap (λ o. cond (p q) o None) (sym (get-entries m q))

  turned : (b : Bool) (o : Option X) → cond b None o ≡ cond (not b) o None
  turned true o = refl
  turned false o = refl

-- those that are left are those that do not wait
pub keys_without : (ks : List ℕ) (t : Table) → fin.keys (without_keys ks t) ≡ filter (λ q. not (has ks q)) (fin.keys t)
keys_without ks t =
    let p : ℕ → Bool = λ q. not (has ks q) in
    ap fin.keys (same_map nat_cmp_total nat_cmp-IsAntisymmetric (without_keys ks t) (where_number p t) (λ q. get_without ks t q ∙ turned (has ks q) (get t q) ∙ sym (get_where p t q)))
    ∙ keys_where_number p t
