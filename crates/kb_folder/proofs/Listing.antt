-- The lengths of the files of some numbers, one after another.
use Rattle.std.proofs.Common.{◌≡◌, ◌≢◌, ◌∙◌, ◌<◌, ◌+◌, ℕ, zero, suc, List, [], ◌∷◌, length, ap, sym, subst, refl, arith, Option, Some, None, IsSome, ⊎_elim}
use Rattle.std.specs.Prelude.{option_map, unwrap_or}
use Rattle.std.specs.List.{slice_index_or}
use Rattle.std.specs.FinMap.{get, insert}
use Rattle.std.proofs.lemmas.Bool.{cases_eq}
use Rattle.kb_store.specs.Disk.{Table, Files}
use Rattle.kb_store.proofs.Maps.{get_inserted, get_other}
use Rattle.kb_folder.specs.Folder.{AreNumbersOf}

-- each length in the table is that of a file, and the first numbers are in it
pub record Lists (numbers : List ℕ) (i : ℕ) (files : Files) (table : Table) : Type 0 where
  pub given : (q : ℕ) → IsSome (get table q) → get table q ≡ option_map length (get files q)
  pub listed : (k : ℕ) → k < i → IsSome (get table (slice_index_or numbers k 0))

pub lists_none : (numbers : List ℕ) (files : Files) (table : Table) → ((q : ℕ) → get table q ≡ None) → Lists numbers 0 files table
lists_none numbers files table none = record {
  given = λ q some. let n : IsSome {T = ℕ} None = subst (λ o. IsSome o) (none q) some in absurd cc;
  listed = λ k l. absurd (omega (arith, l));
}

pub lists_next : (numbers : List ℕ) (i len : ℕ) (files : Files) (table : Table) → Lists numbers i files table → option_map length (get files (slice_index_or numbers i 0)) ≡ Some len → Lists numbers (i + 1) files (insert table (slice_index_or numbers i 0) len)
lists_next numbers i len files table l e =
    let n = slice_index_or numbers i 0 in
    record {
      given = λ q some.
          ⊎_elim
          (λ (same : q ≡ n). subst (λ x. get (insert table n len) x ≡ option_map length (get files x)) (sym same) (get_inserted table n len ∙ sym e))
          (λ (ne : q ≢ n). let o = get_other table n len q ne in o ∙ l.given q (subst (λ o. IsSome o) o some))
          (cases_eq q n);
      listed = λ k less.
          let q = slice_index_or numbers k 0 in
          ⊎_elim
          (λ (same : q ≡ n). subst (λ x. IsSome (get (insert table n len) x)) (sym same) (subst (λ o. IsSome o) (sym (get_inserted table n len)) refl))
          (λ (ne : q ≢ n). subst (λ o. IsSome o) (sym (get_other table n len q ne)) (l.listed k (below k less ne)))
          (cases_eq q n);
    }
  where
    below : (k : ℕ) → k < i + 1 → slice_index_or numbers k 0 ≢ slice_index_or numbers i 0 → k < i
    below k less ne =
        ⊎_elim
        (λ (same : k ≡ i). absurd (ne (ap (λ x. slice_index_or numbers x 0) same)))
        (λ (other : k ≢ i). omega (arith, less, other))
        (cases_eq k i)

same_default : (xs : List ℕ) (k d e : ℕ) → k < length xs → slice_index_or xs k d ≡ slice_index_or xs k e
same_default [] k d e l = absurd (omega (arith, l))
same_default (x ∷ xs) zero d e l = refl
same_default (x ∷ xs) (suc k) d e l = same_default xs k d e (omega (arith, l))

-- a number of the list is that of a file
pub is_there : (numbers : List ℕ) (files : Files) (k : ℕ) → AreNumbersOf numbers files → k < length numbers → IsSome (get files (slice_index_or numbers k 0))
is_there numbers files k are l = are.only (slice_index_or numbers k 0) (k, l, same_default numbers k (slice_index_or numbers k 0) 0 l)

is_none : {X : Type 0} (o : Option X) → (IsSome o → ⊥) → o ≡ None
is_none None h = refl
is_none (Some x) h = absurd (h refl)

pub of_length : (o : Option (List ℕ)) (len : ℕ) → IsSome o → len ≡ length (unwrap_or o []) → option_map length o ≡ Some len
of_length None len some e = absurd cc
of_length (Some s) len some e = ap Some (sym e)
