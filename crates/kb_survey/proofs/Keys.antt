-- The numbers of the files that are left.
use Rattle.std.proofs.Common.{◌≡◌, ◌≢◌, ◌∙◌, ◌&&◌, ◌||◌, ℕ, Bool, true, false, cond, not, T, List, [], ◌∷◌, map, Option, Some, None, IsSome, refl, sym, ap, subst, ⊎_elim}
use Rattle.std.specs.Prelude.{is_some, min, unwrap_or}
use Rattle.std.specs.List.{filter}
use Rattle.std.proofs.lemmas.Bool.{cases_eq, eq-eqb, ne_eqb}
use Rattle.std.specs.Ordering.{nat_cmp, eq_by_cmp, is_lt}
use Rattle.std.specs.Cmp.{nat_cmp_total}
use Rattle.std.specs.FinMap as fin
use Rattle.std.specs.FinMap.{FinMap, get, insert, remove, entries, entries_sorted, entries-from_sorted, from_sorted, get-entries, get-from_sorted, same_map, nat_cmp-IsAntisymmetric}
use Rattle.std.specs.FinMap.Entries.{find, find-where_key, is_sorted, is_sorted-where_key, below_all, where_key}
use Rattle.kb_store.proofs.Maps.{get_inserted, get_other, get_removed, get_kept}
use Rattle.kb_store.specs.Disk.{Table}
use Rattle.kb_survey.specs.Changes.{ArePossible, IsPossible, is_removal, length_after, removes, table_after, table_with}
use Rattle.kb_survey.proofs.Changes.{length_is}
use Rattle.kb_survey.specs.declared.change.Change.{Change}
use Rattle.kb_survey.specs.declared.change.Change.TheVariants.{Cut, Remove}

-- ---- the keys alone

abbrev marked : {X : Type 0} → List (ℕ × X) → List (ℕ × Unit {0})
marked {X} es = map (λ (e : ℕ × X). (e.0, tt {0})) es

module _ {X : Type 0} where
  below_marked : (x : ℕ) (es : List (ℕ × X)) → below_all nat_cmp x (marked es) ≡ below_all nat_cmp x es
  below_marked x [] = refl
  below_marked x (e ∷ es) = ap (λ b. is_lt (nat_cmp x e.0) && b) (below_marked x es)

  sorted_marked : (es : List (ℕ × X)) → is_sorted nat_cmp (marked es) ≡ is_sorted nat_cmp es
  sorted_marked [] = refl
  sorted_marked (e ∷ es) = ap (λ b. b && is_sorted nat_cmp (marked es)) (below_marked e.0 es) ∙ ap (λ b. below_all nat_cmp e.0 es && b) (sorted_marked es)

  abbrev mark : Option X → Option (Unit {0})
  mark None = None
  mark (Some x) = Some tt

  mark_cond : (b : Bool) (x : X) (o : Option X) → cond b (Some tt) (mark o) ≡ mark (cond b (Some x) o)
  mark_cond true x o = refl
  mark_cond false x o = refl

  find_marked : (q : ℕ) (es : List (ℕ × X)) → find nat_cmp q (marked es) ≡ mark (find nat_cmp q es)
  find_marked q [] = refl
  find_marked q (e ∷ es) = ap (λ o. cond (eq_by_cmp nat_cmp q e.0) (Some tt) o) (find_marked q es) ∙ mark_cond (eq_by_cmp nat_cmp q e.0) e.1 (find nat_cmp q es)

  keys_marked : (es : List (ℕ × X)) → map (λ (e : ℕ × Unit {0}). e.0) (marked es) ≡ map (λ (e : ℕ × X). e.0) es
  keys_marked [] = refl
  keys_marked (e ∷ es) = ap (λ ks. e.0 ∷ ks) (keys_marked es)

  marks : FinMap nat_cmp X → FinMap nat_cmp (Unit {0})
  marks m = from_sorted (marked (entries m))

  sorted_marks : (m : FinMap nat_cmp X) → T (is_sorted nat_cmp (marked (entries m)))
  sorted_marks m = subst T (sym (sorted_marked (entries m))) (entries_sorted m)

  get_marks : (m : FinMap nat_cmp X) (q : ℕ) → get (marks m) q ≡ mark (get m q)
  unfolding marks
  get_marks m q = get-from_sorted nat_cmp (marked (entries m)) q (sorted_marks m) ∙ find_marked q (entries m) ∙ ap mark (sym (get-entries m q))

  keys_marks : (m : FinMap nat_cmp X) → fin.keys (marks m) ≡ fin.keys m
  unfolding marks
  keys_marks m = ap (map (λ (e : ℕ × Unit {0}). e.0)) (entries-from_sorted nat_cmp (marked (entries m)) (sorted_marks m)) ∙ keys_marked (entries m)

  same_mark : (o p : Option X) → is_some o ≡ is_some p → mark o ≡ mark p
  same_mark None None e = refl
  same_mark None (Some y) e = absurd cc
  same_mark (Some x) None e = absurd cc
  same_mark (Some x) (Some y) e = refl

  -- maps that have the same keys
  pub same_keys : (m n : FinMap nat_cmp X) → ((q : ℕ) → is_some (get m q) ≡ is_some (get n q)) → fin.keys m ≡ fin.keys n
  same_keys m n is =
      let same = same_map nat_cmp_total nat_cmp-IsAntisymmetric (marks m) (marks n) (λ q. get_marks m q ∙ same_mark (get m q) (get n q) (is q) ∙ sym (get_marks n q)) in
      sym (keys_marks m) ∙ ap fin.keys same ∙ keys_marks n

  keys_where : (p : ℕ → Bool) (es : List (ℕ × X)) → map (λ e. e.0) (where_key nat_cmp p es) ≡ filter p (map (λ e. e.0) es)
  keys_where p [] = refl
  keys_where p (e ∷ es) = elim (p e.0) as (λ b. map (λ e. e.0) (cond b (e ∷ where_key nat_cmp p es) (where_key nat_cmp p es)) ≡ cond b (e.0 ∷ filter p (map (λ e. e.0) es)) (filter p (map (λ e. e.0) es))) [
    | true ↦ ap (λ ks. e.0 ∷ ks) (keys_where p es)
    | false ↦ keys_where p es
  ]

  pub where_number : (ℕ → Bool) → FinMap nat_cmp X → FinMap nat_cmp X
  where_number p m = from_sorted (where_key nat_cmp p (entries m))

  sorted_where : (p : ℕ → Bool) (m : FinMap nat_cmp X) → T (is_sorted nat_cmp (where_key nat_cmp p (entries m)))
  sorted_where p m = is_sorted-where_key nat_cmp p (entries m) (entries_sorted m)

  pub keys_where_number : (p : ℕ → Bool) (m : FinMap nat_cmp X) → fin.keys (where_number p m) ≡ filter p (fin.keys m)
  unfolding where_number
  keys_where_number p m = ap (map (λ (e : ℕ × X). e.0)) (entries-from_sorted nat_cmp (where_key nat_cmp p (entries m)) (sorted_where p m)) ∙ keys_where p (entries m)

  pub get_where : (p : ℕ → Bool) (m : FinMap nat_cmp X) (q : ℕ) → get (where_number p m) q ≡ cond (p q) (get m q) None
  unfolding where_number
  get_where p m q =
      get-from_sorted nat_cmp (where_key nat_cmp p (entries m)) q (sorted_where p m)
      ∙ find-where_key nat_cmp p q (λ x tied. ap p (sym (nat_cmp-IsAntisymmetric q x tied))) (entries m)
      ∙ ap (λ o. cond (p q) o None) (sym (get-entries m q))

  is_some_cond : (b : Bool) (o : Option X) → is_some (cond b o None) ≡ (b && is_some o)
  is_some_cond true o = refl
  is_some_cond false o = refl

-- ---- with some changes made

some_is : {X : Type 0} (o : Option X) → IsSome o → is_some o ≡ true
some_is None s = absurd cc
some_is (Some x) s = refl

left_with : (c : Change) (t : Table) (q : ℕ) → IsPossible c t → is_some (get (table_with c t) q) ≡ (not (is_removal c q) && is_some (get t q))
left_with (Cut k len) t q can =
    ⊎_elim
    (λ (same : q ≡ k). subst (λ x. is_some (get (insert t k (min len (unwrap_or (get t k) 0))) x) ≡ is_some (get t x)) (sym same)
    (ap is_some (get_inserted t k (min len (unwrap_or (get t k) 0))) ∙ sym (some_is (get t k) can.0)))
    (λ (ne : q ≢ k). ap is_some (get_other t k (min len (unwrap_or (get t k) 0)) q ne))
    (cases_eq q k)
left_with (Remove k) t q can =
    ⊎_elim
    (λ (same : q ≡ k).
    ap (λ x. is_some (get (remove t k) x)) same ∙ ap is_some (get_removed t k)
    ∙ sym (ap (λ b. not b && is_some (get t q)) (eq-eqb k q (sym same))))
    (λ (ne : q ≢ k).
    ap is_some (get_kept t k q ne)
    ∙ sym (ap (λ b. not b && is_some (get t q)) (ne_eqb k q (λ e. ne (sym e)))))
    (cases_eq q k)

both_not : (a b c : Bool) → (not b && (not a && c)) ≡ (not (a || b) && c)
both_not true true c = refl
both_not true false c = refl
both_not false b c = refl

left_after : (cs : List Change) (t : Table) (q : ℕ) → ArePossible cs t → is_some (get (table_after cs t) q) ≡ (not (removes cs q) && is_some (get t q))
left_after [] t q can = refl
left_after (c ∷ cs) t q can =
    left_after cs (table_with c t) q can.1 ∙ ap (λ b. not (removes cs q) && b) (left_with c t q can.0) ∙ both_not (is_removal c q) (removes cs q) (is_some (get t q))

-- the numbers that are left are those that no change removes
pub keys_after : (cs : List Change) (t : Table) → ArePossible cs t → fin.keys (table_after cs t) ≡ filter (λ q. not (removes cs q)) (fin.keys t)
keys_after cs t can =
    same_keys (table_after cs t) (where_number (λ q. not (removes cs q)) t) (λ q.
    left_after cs t q can ∙ sym (ap is_some (get_where (λ q. not (removes cs q)) t q) ∙ is_some_cond (not (removes cs q)) (get t q)))
    ∙ keys_where_number (λ q. not (removes cs q)) t

none_is : {X : Type 0} (o : Option X) → is_some o ≡ false → None ≡ o
none_is None e = refl
none_is (Some x) e = absurd cc

some_least : (o : Option ℕ) → is_some o ≡ true → o ≡ Some (unwrap_or o 0)
some_least None e = absurd cc
some_least (Some x) e = refl

there_is : (o : Option ℕ) → is_some o ≡ true → IsSome o
there_is None e = absurd cc
there_is (Some x) e = refl

-- what is left of a file that some change removes
pub left_none : (cs : List Change) (t : Table) (q : ℕ) → ArePossible cs t → removes cs q ≡ true → None ≡ get (table_after cs t) q
left_none cs t q can gone = none_is (get (table_after cs t) q) (left_after cs t q can ∙ ap (λ b. not b && is_some (get t q)) gone)

-- and of one that none does
pub left_some : (cs : List Change) (t : Table) (q n : ℕ) → ArePossible cs t → removes cs q ≡ false → get t q ≡ Some n
    → Some (length_after cs q n) ≡ get (table_after cs t) q
left_some cs t q n can stays has =
    let there : is_some (get (table_after cs t) q) ≡ true = left_after cs t q can ∙ ap (λ b. not b && is_some (get t q)) stays ∙ ap is_some has in
    ap (λ o. Some (length_after cs q (unwrap_or o 0))) (sym has)
    ∙ ap Some (sym (length_is cs t q can (there_is (get (table_after cs t) q) there))) ∙ sym (some_least (get (table_after cs t) q) there)
