-- A disk without the files that wait is a lawful one.
use Rattle.std.specs.Prelude.{◌≡◌, ◌≢◌, ◌≤◌, ◌||◌, ℕ, Bool, true, false, List, [], ◌∷◌, length, cond, Option, None, option_map, unwrap_or}
use Rattle.std.proofs.Common.{◌∙◌, refl, sym, ap, arith, ⊎_elim}
use Rattle.std.proofs.lemmas.Bool.{cases_eq, eq-eqb, ne_eqb}
use Rattle.std.specs.Ordering.{nat_cmp}
use Rattle.std.specs.FinMap.{FinMap, get, remove}
use Rattle.kb_store.proofs.Maps.{get_removed, get_kept}
use Rattle.kb_store.specs.Disk.{Disk, IsLawfulDisk}
use Rattle.kb_durable.specs.Durable.{disk_left}
use Rattle.kb_durable.specs.Waiting.{has, without_keys}

-- what is found without them
module _ {X : Type 0} where
  none_either : (b : Bool) → cond {A = Option X} b None None ≡ None
  none_either true = refl
  none_either false = refl

  pub get_without : (ks : List ℕ) (m : FinMap nat_cmp X) (q : ℕ) → get (without_keys ks m) q ≡ cond (has ks q) None (get m q)
  get_without [] m q = refl
  get_without (k ∷ ks) m q =
      ⊎_elim
      (λ (same : q ≡ k).
      get_without ks (remove m k) q ∙ ap (cond (has ks q) None) (ap (get (remove m k)) same ∙ get_removed m k) ∙ none_either (has ks q)
      ∙ sym (ap (λ b. cond (b || has ks q) None (get m q)) (eq-eqb k q (sym same))))
      (λ (ne : q ≢ k).
      get_without ks (remove m k) q ∙ ap (cond (has ks q) None) (get_kept m k q ne)
      ∙ sym (ap (λ b. cond (b || has ks q) None (get m q)) (ne_eqb k q (λ e. ne (sym e)))))
      (cases_eq q k)

pub disk_lawful : (waiting : List ℕ) (refused : ℕ) (d : Disk) → IsLawfulDisk d → IsLawfulDisk (disk_left waiting refused d)
disk_lawful waiting refused d lawful = record {
  lengths = λ h file. get_without waiting d.table file ∙ ap (cond (has waiting file) None) (lawful.lengths h file)
      ∙ none_mapped (has waiting file) (get d.files file) ∙ ap (option_map length) (sym (get_without waiting d.files file));
  fits = λ file. omega (arith, ap (λ o. unwrap_or o 0) (get_without waiting d.table file), none_least (has waiting file) (get d.table file), lawful.fits file);
}
  where
    none_mapped : (b : Bool) (o : Option (List ℕ)) → cond b None (option_map length o) ≡ option_map length (cond b None o)
    none_mapped true o = refl
    none_mapped false o = refl

    none_least : (b : Bool) (o : Option ℕ) → unwrap_or (cond b None o) 0 ≤ unwrap_or o 0
    none_least true o = omega arith
    none_least false o = omega arith
