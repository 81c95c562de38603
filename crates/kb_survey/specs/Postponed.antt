-- The disk that a store is which puts off what is cut and removed.
use Rattle.std.specs.Prelude.{◌≡◌, ◌≢◌, ◌≤◌, ℕ, Bool, true, false, List, [], ◌∷◌, length, take, min, Option, Some, None, unwrap_or, option_map}
use Rattle.std.proofs.Common.{◌∙◌, refl, sym, ap, subst, arith, ⊎_elim, length-take}
use Rattle.std.proofs.lemmas.Bool.{cases_eq}
use Rattle.std.specs.FinMap.{get, insert, remove}
use Rattle.kb_store.proofs.Maps.{get_inserted, get_other, get_removed, get_kept}
use Rattle.kb_store.specs.Disk.{Disk, Files, IsLawfulDisk, Keeps, Table}
use Rattle.kb_store.specs.Loss.{Goes, Loss, Same}
use Rattle.kb_survey.specs.Changes.{disk_after, files_after, files_with, table_after, table_with}
use Rattle.kb_survey.specs.declared.change.Change.{Change}
use Rattle.kb_survey.specs.declared.change.Change.TheVariants.{Cut, Remove}

-- what callers see of the store: the one inside, what is put off, and whether there was no write yet
pub record Postponing (S : Type 0) : Type 0 where
  pub store : S
  pub put_off : List Change
  pub waits : Bool

abbrev pub postponing : {S : Type 0} → S → List Change → Bool → Postponing S
postponing s cs w = record { store = s; put_off = cs; waits = w }

-- what the disk inside would be with all of it made
abbrev pub disk_with : {S : Type 0} → (S → Disk) → Postponing S → Disk
disk_with inner s = disk_after s.put_off (inner s.store)

-- Where there was no write the store inside stays as it is, and so does what a loss of power leaves of it.
pub record IsUntouched {S : Type 0} (inner : S → Disk) (loss : S → Loss) (old new : Postponing S) : Type 0 where
  pub waits : new.waits ≡ old.waits
  pub inside : old.waits ≡ true → Keeps (inner old.store) (inner new.store)
  pub lost : old.waits ≡ true → Goes Same (loss old.store) (loss new.store)

-- Nothing is put off, nor will be.
pub record HasMade {S : Type 0} (s : Postponing S) : Type 0 where
  pub none : s.put_off ≡ []
  pub waits : s.waits ≡ false

-- ---- such a disk is a lawful one

length_or : (o : Option (List ℕ)) → unwrap_or (option_map length o) 0 ≡ length (unwrap_or o [])
length_or None = refl
length_or (Some s) = refl

module _ (t : Table) (f : Files) (is : (file : ℕ) → get t file ≡ option_map length (get f file)) where
  lengths_with : (c : Change) (file : ℕ) → get (table_with c t) file ≡ option_map length (get (files_with c f) file)
  lengths_with (Cut k len) q =
      let n = unwrap_or (get t k) 0 in
      let s = unwrap_or (get f k) [] in
      let had : n ≡ length s = ap (λ o. unwrap_or o 0) (is k) ∙ length_or (get f k) in
      let e : min len n ≡ length (take len s) = ap (min len) had ∙ sym (length-take len s) in
      ⊎_elim
      (λ (same : q ≡ k). subst (λ x. get (insert t k (min len n)) x ≡ option_map length (get (insert f k (take len s)) x)) (sym same)
      (get_inserted t k (min len n) ∙ ap Some e ∙ sym (ap (option_map length) (get_inserted f k (take len s)))))
      (λ (ne : q ≢ k). get_other t k (min len n) q ne ∙ is q ∙ sym (ap (option_map length) (get_other f k (take len s) q ne)))
      (cases_eq q k)
  lengths_with (Remove k) q =
      ⊎_elim
      (λ (same : q ≡ k). subst (λ x. get (remove t k) x ≡ option_map length (get (remove f k) x)) (sym same)
      (get_removed t k ∙ sym (ap (option_map length) (get_removed f k))))
      (λ (ne : q ≢ k). get_kept t k q ne ∙ is q ∙ sym (ap (option_map length) (get_kept f k q ne)))
      (cases_eq q k)

pub lengths_after : (cs : List Change) (t : Table) (f : Files) → ((file : ℕ) → get t file ≡ option_map length (get f file))
    → (file : ℕ) → get (table_after cs t) file ≡ option_map length (get (files_after cs f) file)
lengths_after [] t f is = is
lengths_after (c ∷ cs) t f is = lengths_after cs (table_with c t) (files_with c f) (lengths_with t f is c)

-- no file is longer than it was
pub shorter_with : (c : Change) (t : Table) (q : ℕ) → unwrap_or (get (table_with c t) q) 0 ≤ unwrap_or (get t q) 0
shorter_with (Cut k len) t q =
    let n = unwrap_or (get t k) 0 in
    ⊎_elim
    (λ (same : q ≡ k). subst (λ x. unwrap_or (get (insert t k (min len n)) x) 0 ≤ unwrap_or (get t x) 0) (sym same)
    (subst (λ o. unwrap_or o 0 ≤ n) (sym (get_inserted t k (min len n))) (omega arith)))
    (λ (ne : q ≢ k). subst (λ o. unwrap_or o 0 ≤ unwrap_or (get t q) 0) (sym (get_other t k (min len n) q ne)) (omega arith))
    (cases_eq q k)
shorter_with (Remove k) t q =
    ⊎_elim
    (λ (same : q ≡ k). subst (λ x. unwrap_or (get (remove t k) x) 0 ≤ unwrap_or (get t x) 0) (sym same)
    (subst (λ o. unwrap_or o 0 ≤ unwrap_or (get t k) 0) (sym (get_removed t k)) (omega arith)))
    (λ (ne : q ≢ k). subst (λ o. unwrap_or o 0 ≤ unwrap_or (get t q) 0) (sym (get_kept t k q ne)) (omega arith))
    (cases_eq q k)

pub shorter_after : (cs : List Change) (t : Table) (q : ℕ) → unwrap_or (get (table_after cs t) q) 0 ≤ unwrap_or (get t q) 0
shorter_after [] t q = omega arith
shorter_after (c ∷ cs) t q = omega (arith, shorter_after cs (table_with c t) q, shorter_with c t q)

pub postponed_lawful : (cs : List Change) (d : Disk) → IsLawfulDisk d → IsLawfulDisk (disk_after cs d)
postponed_lawful cs d l = record {
  lengths = λ h file. lengths_after cs d.table d.files (l.lengths h) file;
  fits = λ file. omega (arith, shorter_after cs d.table file, l.fits file);
}
