-- What the files that wait leave of a table.
use Rattle.std.proofs.Common.{◌≡◌, ◌≢◌, ◌∙◌, ◌+◌, ◌++◌, ◌==◌, ◌||◌, ℕ, Bool, true, false, cond, zero, suc, List, [], ◌∷◌, take, drop, Option, None, IsSome}
use Rattle.std.proofs.Common.{refl, sym, ap, subst, arith, ⊎_elim}
use Rattle.std.proofs.lemmas.Bool.{cases_eq}
use Rattle.std.specs.Ordering.{nat_cmp}
use Rattle.std.specs.Cmp.{nat_cmp_total}
use Rattle.std.specs.FinMap.{FinMap, get, insert, remove, same_map, nat_cmp-IsAntisymmetric}
use Rattle.kb_store.proofs.Maps.{get_inserted, get_other, get_removed, get_kept}
use Rattle.kb_durable.specs.Waiting.{has, without_keys, AreThere}
use Rattle.kb_durable.specs.Lawful.{get_without}

-- ---- two rows of numbers

pub has_both : (xs ys : List ℕ) (file : ℕ) → has (xs ++ ys) file ≡ (has xs file || has ys file)
has_both [] ys file = refl
has_both (x ∷ xs) ys file = ap (λ b. (x == file) || b) (has_both xs ys file) ∙ grouped (x == file) (has xs file) (has ys file)
  where
    grouped : (a b c : Bool) → (a || (b || c)) ≡ ((a || b) || c)
    grouped true b c = refl
    grouped false b c = refl

-- ---- what is found

module _ {X : Type 0} where
  some_kept : (b : Bool) (o : Option X) → IsSome (cond b None o) → b ≡ false
  some_kept true o s = absurd cc
  some_kept false o s = refl

  -- what is left is as it was
  pub left_not : (ks : List ℕ) (m : FinMap nat_cmp X) (q : ℕ) → IsSome (get (without_keys ks m) q) → has ks q ≡ false
  left_not ks m q some = some_kept (has ks q) (get m q) (subst (λ o. IsSome o) (get_without ks m q) some)

  pub not_gone : (ks : List ℕ) (m : FinMap nat_cmp X) (q : ℕ) → has ks q ≡ false → get (without_keys ks m) q ≡ get m q
  not_gone ks m q free = get_without ks m q ∙ ap (λ b. cond b None (get m q)) free

  pub gone : (ks : List ℕ) (m : FinMap nat_cmp X) (q : ℕ) → has ks q ≡ true → get (without_keys ks m) q ≡ None
  gone ks m q waits = get_without ks m q ∙ ap (λ b. cond b None (get m q)) waits

  pub left_is : (ks : List ℕ) (m : FinMap nat_cmp X) (q : ℕ) → IsSome (get (without_keys ks m) q) → get (without_keys ks m) q ≡ get m q
  left_is ks m q some = not_gone ks m q (left_not ks m q some)

  pub left_there : (ks : List ℕ) (m : FinMap nat_cmp X) (q : ℕ) → IsSome (get (without_keys ks m) q) → IsSome (get m q)
  left_there ks m q some = subst (λ o. IsSome o) (left_is ks m q some) some

  -- a file is put that does not wait
  pub put_left : (ks : List ℕ) (m : FinMap nat_cmp X) (k : ℕ) (v : X) → has ks k ≡ false → without_keys ks (insert m k v) ≡ insert (without_keys ks m) k v
  put_left ks m k v free = same_map nat_cmp_total nat_cmp-IsAntisymmetric (without_keys ks (insert m k v)) (insert (without_keys ks m) k v) (λ q.
      ⊎_elim
      (λ (same : q ≡ k). subst (λ x. get (without_keys ks (insert m k v)) x ≡ get (insert (without_keys ks m) k v) x) (sym same)
      (not_gone ks (insert m k v) k free ∙ get_inserted m k v ∙ sym (get_inserted (without_keys ks m) k v)))
      (λ (ne : q ≢ k). get_without ks (insert m k v) q ∙ ap (cond (has ks q) None) (get_other m k v q ne) ∙ sym (get_without ks m q) ∙ sym (get_other (without_keys ks m) k v q ne))
      (cases_eq q k))

  -- one more at the end
  pub without_push : (ks : List ℕ) (k : ℕ) (m : FinMap nat_cmp X) → without_keys (ks ++ k ∷ []) m ≡ remove (without_keys ks m) k
  without_push [] k m = refl
  without_push (x ∷ ks) k m = without_push ks k (remove m x)

  -- some first ones, and then the others
  pub without_both : (n : ℕ) (ks : List ℕ) (m : FinMap nat_cmp X) → without_keys (drop n ks) (without_keys (take n ks) m) ≡ without_keys ks m
  without_both zero ks m = refl
  without_both (suc n) [] m = refl
  without_both (suc n) (k ∷ ks) m = without_both n ks (remove m k)

  nothing_taken : (j : ℕ) (m : FinMap nat_cmp X) → m ≡ without_keys (take j []) m
  nothing_taken zero m = refl
  nothing_taken (suc j) m = refl

  pub without_next : (n : ℕ) (i : ℕ) (ks : List ℕ) (m : FinMap nat_cmp X) → without_keys (take i (drop n ks)) (without_keys (take n ks) m) ≡ without_keys (take (n + i) ks) m
  without_next zero i ks m = let e : i ≡ 0 + i = omega arith in ap (λ j. without_keys (take j ks) m) e
  without_next (suc n) zero [] m = nothing_taken (suc n + 0) m
  without_next (suc n) (suc i) [] m = nothing_taken (suc n + suc i) m
  without_next (suc n) i (k ∷ ks) m =
      let e : suc (n + i) ≡ suc n + i = omega arith in
      without_next n i ks (remove m k) ∙ ap (λ j. without_keys (take j (k ∷ ks)) m) e

pub there_push : (ks : List ℕ) (k : ℕ) (t : FinMap nat_cmp ℕ) → AreThere ks t → IsSome (get (without_keys ks t) k) → AreThere (ks ++ k ∷ []) t
there_push [] k t are is = (is, tt)
there_push (x ∷ ks) k t are is = (are.0, there_push ks k (remove t x) are.1 is)

-- ---- files that are there are there still

pub there_alike : (ks : List ℕ) (t u : FinMap nat_cmp ℕ) → ((q : ℕ) → IsSome (get t q) → IsSome (get u q)) → AreThere ks t → AreThere ks u
there_alike [] t u alike are = tt
there_alike (k ∷ ks) t u alike are = (
  alike k are.0,
  there_alike ks (remove t k) (remove u k) (λ q some.
      ⊎_elim
      (λ (same : q ≡ k). absurd (none_there (get (remove t k) q) (ap (get (remove t k)) same ∙ get_removed t k) some))
      (λ (ne : q ≢ k). subst (λ o. IsSome o) (sym (get_kept u k q ne)) (alike q (subst (λ o. IsSome o) (get_kept t k q ne) some)))
      (cases_eq q k)) are.1,
)
  where
    none_there : (o : Option ℕ) → o ≡ None → IsSome o → ⊥
    none_there o e some = let s : IsSome {T = ℕ} None = subst (λ o. IsSome o) e some in absurd cc

pub there_same : (ks : List ℕ) (t u : FinMap nat_cmp ℕ) → u ≡ t → AreThere ks t → AreThere ks u
there_same ks t u e are = subst (AreThere ks) (sym e) are

pub there_put : (ks : List ℕ) (t u : FinMap nat_cmp ℕ) (k n : ℕ) → u ≡ insert t k n → AreThere ks t → AreThere ks u
there_put ks t u k n e are = subst (AreThere ks) (sym e) (there_alike ks t (insert t k n) (λ q some.
    ⊎_elim
    (λ (same : q ≡ k). subst (λ o. IsSome o) (sym (ap (get (insert t k n)) same ∙ get_inserted t k n)) refl)
    (λ (ne : q ≢ k). subst (λ o. IsSome o) (sym (get_other t k n q ne)) some)
    (cases_eq q k)) are)
