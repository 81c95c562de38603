-- The files of a folder in memory.
use Rattle.std.proofs.Common.{◌≡◌, ◌≢◌, ◌∙◌, ◌<◌, ◌++◌, ℕ, zero, suc, Bool, true, false, List, [], ◌∷◌, length, map, Option, Some, None, IsSome, Contains, ⊎_elim, sym, ap, subst, refl, cond, arith, eq-eqb}
use Rattle.std.specs.Prelude.{option_map, unwrap_or, string_bytes}
use Rattle.std.specs.List.{slice_index_or, cons_option}
use Rattle.std.specs.Ordering.{nat_cmp}
use Rattle.std.specs.Cmp.{nat_cmp_total, unsigned_tied}
use Rattle.std.specs.BTreeMap.{is_at}
use Rattle.std.specs.Map.{lookup}
use Rattle.std.specs.FinMap.{FinMap, from_entries, get, insert, remove, same_map, nat_cmp-IsAntisymmetric}
use Rattle.std.specs.declared.vec.Vec.{Vec}
use Rattle.std.specs.declared.string.String.{String}
use Rattle.std.proofs.lemmas.Bool.{cases_eq, eqb-true}
use Rattle.std.proofs.lemmas.List.Elements.{filter_map-append}
use Rattle.kb_store.specs.Memory.{seen_as}
use Rattle.kb_store.proofs.Maps.{get_inserted, get_other}
use Rattle.kb_store.proofs.Seen.{get_seen, seen_as_insert, seen_remove, there_seen, at_seen, none_there}
use Rattle.kb_folder.specs.Folder.{Turns, Stays, bytes_in, AreNumbersOf}
use Rattle.kb_folder.specs.Memory.{memory_contents}
use Rattle.kb_folder.specs.Names.{number_named, numbers_named}

some_or : (o : Option (List ℕ)) → IsSome o → o ≡ Some (unwrap_or o [])
some_or None s = absurd cc
some_or (Some x) s = refl

module _ {A : Type 0} (es : List (ℕ × Vec ℕ A)) (k : ℕ) where
  pub is_held : IsSome (get (memory_contents es).files k) → IsSome (lookup (is_at (nat_cmp k)) es)
  is_held there = there_seen (λ v. v.items) es k there

  pub is_not_gone : IsSome (get (memory_contents es).files k) → None ≡ lookup (is_at (nat_cmp k)) es → ⊥
  is_not_gone there none = none_there (λ v. v.items) es k there none

  pub bytes_held : (v : Vec ℕ A) → lookup (is_at (nat_cmp k)) es ≡ Some v → bytes_in (memory_contents es) k ≡ v.items
  bytes_held v e = at_seen (λ v. v.items) es k v [] e

  pub turns_put : (es' : List (ℕ × Vec ℕ A)) (w : Vec ℕ A) (bytes : List ℕ) → ((q : ℕ) → lookup (is_at (nat_cmp q)) es' ≡ cond (is_at (nat_cmp k) q) (Some w) (lookup (is_at (nat_cmp q)) es)) → w.items ≡ bytes → Turns (memory_contents es) (insert (memory_contents es).files k bytes) (memory_contents es')
  turns_put es' w bytes u e = record {
    honest = λ h. h;
    files = λ h. seen_as_insert (λ v. v.items) es es' k w bytes u e;
  }

  pub turns_removed : (es' : List (ℕ × Vec ℕ A)) → ((q : ℕ) → lookup (is_at (nat_cmp q)) es' ≡ cond (is_at (nat_cmp k) q) None (lookup (is_at (nat_cmp q)) es)) → Turns (memory_contents es) (remove (memory_contents es).files k) (memory_contents es')
  turns_removed es' u = record {
    honest = λ h. h;
    files = λ h. seen_remove (λ v. v.items) es es' k u;
  }

  same_put : {X : Type 0} (t : FinMap nat_cmp X) (v : X) → get t k ≡ Some v → insert t k v ≡ t
  same_put t v e = same_map nat_cmp_total nat_cmp-IsAntisymmetric (insert t k v) t (λ q.
      ⊎_elim
      (λ (same : q ≡ k). subst (λ x. get (insert t k v) x ≡ get t x) (sym same) (get_inserted t k v ∙ sym e))
      (λ (ne : q ≢ k). get_other t k v q ne)
      (cases_eq q k))

  -- the bytes that the file had are put again
  pub turns_same : (es' : List (ℕ × Vec ℕ A)) (w : Vec ℕ A) → IsSome (get (memory_contents es).files k) → ((q : ℕ) → lookup (is_at (nat_cmp q)) es' ≡ cond (is_at (nat_cmp k) q) (Some w) (lookup (is_at (nat_cmp q)) es)) → w.items ≡ bytes_in (memory_contents es) k → Stays (memory_contents es) (memory_contents es')
  turns_same es' w some u e =
      let put = turns_put es' w (bytes_in (memory_contents es) k) u e in
      record {
        honest = λ h. h;
        files = λ h. put.files h ∙ same_put (memory_contents es).files (bytes_in (memory_contents es) k) (some_or (get (memory_contents es).files k) some);
      }

-- ---- the numbers of what is kept

module _ {V : Type 0} where
  pub number_listed : (es : List (ℕ × V)) (q : ℕ) → IsSome (lookup (is_at (nat_cmp q)) es) → Contains (map (λ e. e.0) es) q
  number_listed [] q some = absurd cc
  number_listed (e ∷ es) q some = each (number_listed es q) (is_at (nat_cmp q) e.0) refl some
    where
      each : (IsSome (lookup (is_at (nat_cmp q)) es) → Contains (map (λ e. e.0) es) q) → (b : Bool) → is_at (nat_cmp q) e.0 ≡ b → IsSome (cond b (Some e.1) (lookup (is_at (nat_cmp q)) es)) → Contains (e.0 ∷ map (λ e. e.0) es) q
      each rest true is s = (0, omega arith, sym (eqb-true q e.0 (sym (unsigned_tied q e.0) ∙ is)))
      each rest false is s = let r = rest s in (suc r.0, omega (arith, r.1), r.2)

  same_at : (e : ℕ × V) (es : List (ℕ × V)) (q : ℕ) → e.0 ≡ q → IsSome (lookup (is_at (nat_cmp q)) (e ∷ es))
  same_at e es q same = subst (λ b. IsSome (cond b (Some e.1) (lookup (is_at (nat_cmp q)) es))) (sym (unsigned_tied q e.0 ∙ eq-eqb q e.0 (sym same))) refl

  later_at : (e : ℕ × V) (es : List (ℕ × V)) (q : ℕ) (b : Bool) → IsSome (lookup (is_at (nat_cmp q)) es) → IsSome (cond b (Some e.1) (lookup (is_at (nat_cmp q)) es))
  later_at e es q true some = refl
  later_at e es q false some = some

  pub listed_number : (es : List (ℕ × V)) (q k : ℕ) → k < length (map (λ e. e.0) es) → slice_index_or (map (λ e. e.0) es) k q ≡ q → IsSome (lookup (is_at (nat_cmp q)) es)
  listed_number [] q k l e = absurd (omega (arith, l))
  listed_number (x ∷ es) q zero l e = same_at x es q e
  listed_number (x ∷ es) q (suc k) l e = later_at x es q (is_at (nat_cmp q) x.0) (listed_number es q k (omega (arith, l)) e)

mapped : {Y X : Type 0} (h : Y → X) (o : Option Y) → IsSome o → IsSome (option_map h o)
mapped h None s = absurd cc
mapped h (Some v) s = refl

pub there_of : {Y X : Type 0} (h : Y → X) (es : List (ℕ × Y)) (q : ℕ) → IsSome (lookup (is_at (nat_cmp q)) es) → IsSome (get (from_entries {R = nat_cmp} (seen_as h es)) q)
there_of h es q some = subst (λ o. IsSome o) (sym (get_seen h es q)) (mapped h (lookup (is_at (nat_cmp q)) es) some)

-- the numbers are those of the files
pub are_numbers : {A : Type 0} (es : List (ℕ × Vec ℕ A)) (numbers : List ℕ) → numbers ≡ map (λ e. e.0) es → AreNumbersOf numbers (memory_contents es).files
are_numbers es numbers e = record {
  all = λ q some. subst (λ (ns : List ℕ). Contains ns q) (sym e) (number_listed es q (is_held es q some));
  only = λ q c. let d = subst (λ (ns : List ℕ). Contains ns q) e c in there_of (λ v. v.items) es q (listed_number es q d.0 d.1 d.2);
}

pub named_more : {A : Type 0} (names : List (String A)) (name : String A) (n : ℕ) → number_named (string_bytes name) ≡ Some n → numbers_named (names ++ name ∷ []) ≡ numbers_named names ++ n ∷ []
named_more names name n e = filter_map-append (λ x. number_named (string_bytes x)) names (name ∷ []) ∙ ap (λ o. numbers_named names ++ cons_option o []) e
