-- Files of deleted topics, file by file, on a disk of the same files.
use Rattle.std.proofs.Common.{◌≡◌, ◌≢◌, ◌∙◌, ◌<◌, ◌+◌, ◌++◌, ◌==◌, ◌||◌, ℕ, List, [], ◌∷◌, length, take, drop, get_or, drop-cons, add-one, sym, ap}
use Rattle.std.proofs.Common.{Bool, true, false, not, cond, append_assoc, if◌then◌else◌, Option, None, Some, is_some, option_map, refl, subst}
use Rattle.std.proofs.Common.{⊎_elim, nat_eq}
use Rattle.std.proofs.Math.Seq.{take-suc}
use Rattle.std.proofs.lemmas.Bool.{cases_eq}
use Rattle.std.specs.Ordering.{nat_cmp, eq_by_cmp}
use Rattle.std.specs.Cmp.{nat_cmp_total, nat_eq_equiv, unsigned_tied}
use Rattle.std.specs.FinMap.{FinMap, get, remove, keys, same_map, nat_cmp-IsAntisymmetric, contains_key-keys}
use Rattle.std.specs.List.{filter, list_any}
use Rattle.kb_store.proofs.Maps.{get_removed, get_kept}
use Rattle.kb_store.specs.Disk.{Disk, IsLawfulDisk, IsThere, Keeps, Removes}
use Rattle.kb_survey.proofs.Keys.{keys_after}
use Rattle.kb_survey.specs.declared.change.Change.TheVariants.{Remove}
use Rattle.kb_survey.specs.Listed.{is_in}
use Rattle.kb_start.specs.Starts.{header_at}
use Rattle.kb_start.specs.Deleted.{deleted_among, is_deleted, without_files, DeletesFirst}
use Rattle.kb_start.specs.declared.deleted.CatalogOf.{CatalogOf}
use Rattle.kb_start.proofs.Recorded.{same_header}

-- on a disk of the same files
pub same_deleted : {L : Type 0} (ts : List (CatalogOf L)) (d e : Disk) (files : List ℕ) → e.table ≡ d.table → e.files ≡ d.files
    → deleted_among ts e files ≡ deleted_among ts d files
same_deleted ts d e [] t f = refl
same_deleted ts d e (x ∷ xs) t f =
    ap (λ o. cond (is_deleted ts o) (x ∷ deleted_among ts e xs) (deleted_among ts e xs)) (same_header d e x t f)
    ∙ ap (λ cs. cond (is_deleted ts (header_at d x)) (x ∷ cs) cs) (same_deleted ts d e xs t f)

-- with one more file
pub deleted_next : {L : Type 0} (ts : List (CatalogOf L)) (d e : Disk) (files : List ℕ) (i other : ℕ) (before now all : List ℕ)
    → i < length files → e.table ≡ d.table → e.files ≡ d.files
    → now ≡ (if is_deleted ts (header_at e (get_or files i other)) then before ++ get_or files i other ∷ [] else before)
    → before ++ deleted_among ts d (drop i files) ≡ all → now ++ deleted_among ts d (drop (i + 1) files) ≡ all
deleted_next ts d e files i other before now all in_range t f is told =
    let file = get_or files i other in
    let rest = deleted_among ts d (drop (i + 1) files) in
    let next : drop i files ≡ file ∷ drop (i + 1) files = rw (add-one, drop-cons files i other in_range) in
    ap (λ cs. cs ++ rest) is
    ∙ ap (λ o. (if is_deleted ts o then before ++ file ∷ [] else before) ++ rest) (same_header d e file t f)
    ∙ moved (is_deleted ts (header_at d file)) ∙ ap (λ fs. before ++ deleted_among ts d fs) (sym next) ∙ told
  where
    moved : (b : Bool) → (if b then before ++ get_or files i other ∷ [] else before) ++ deleted_among ts d (drop (i + 1) files)
        ≡ before ++ cond b (get_or files i other ∷ deleted_among ts d (drop (i + 1) files)) (deleted_among ts d (drop (i + 1) files))
    moved true = append_assoc before (get_or files i other ∷ []) (deleted_among ts d (drop (i + 1) files))
    moved false = refl

-- ---- files that are removed

-- what is not there, is not listed
none_is : {X : Type 0} (o : Option X) → is_some o ≡ false → o ≡ None
none_is None e = refl
none_is (Some x) e = absurd cc

pub not_there : (d : Disk) (listed : List ℕ) (file : ℕ) → listed ≡ keys d.table → is_in listed file ≡ false → is_some (get d.table file) ≡ false
not_there d listed file same found = both (is_some (get d.table file)) (is_in listed file) is_listed found
  where
    both : (b c : Bool) → (b ≡ true → c ≡ true) → c ≡ false → b ≡ false
    both true c h e = sym (h refl) ∙ e
    both false c h e = refl

    is_listed : is_some (get d.table file) ≡ true → is_in listed file ≡ true
    is_listed there =
        let alike : list_any (eq_by_cmp nat_cmp file) listed ≡ list_any (λ y. nat_eq y file) listed = λ i. list_any (λ y. (unsigned_tied file y ∙ nat_eq_equiv.symm file y) i) listed in
        sym alike ∙ ap (list_any (eq_by_cmp nat_cmp file)) same ∙ sym (contains_key-keys d.table file) ∙ there

module _ {X : Type 0} where
  -- where a file is not there, nothing is removed
  absent : (m : FinMap nat_cmp X) (k : ℕ) → get m k ≡ None → m ≡ remove m k
  absent m k none = same_map nat_cmp_total nat_cmp-IsAntisymmetric m (remove m k) (λ q.
      ⊎_elim
      (λ (same : q ≡ k). subst (λ x. get m x ≡ get (remove m k) x) (sym same) (none ∙ sym (get_removed m k)))
      (λ (ne : q ≢ k). sym (get_kept m k q ne))
      (cases_eq q k))

  -- one more at the end
  without_push : (ks : List ℕ) (k : ℕ) (m : FinMap nat_cmp X) → without_files (ks ++ k ∷ []) m ≡ remove (without_files ks m) k
  without_push [] k m = refl
  without_push (x ∷ ks) k m = without_push ks k (remove m x)

  pub without_next : (files : List ℕ) (i other : ℕ) (m : FinMap nat_cmp X) → i < length files
      → without_files (take (i + 1) files) m ≡ remove (without_files (take i files) m) (get_or files i other)
  without_next files i other m in_range =
      let next : take (i + 1) files ≡ take i files ++ get_or files i other ∷ [] = rw (add-one, take-suc files i other in_range) in
      ap (λ ks. without_files ks m) next ∙ without_push (take i files) (get_or files i other) m

no_length : (o : Option (List ℕ)) → None ≡ option_map length o → o ≡ None
no_length None e = refl
no_length (Some s) e = absurd cc

pub nothing_goes : (d : Disk) (file : ℕ) → IsLawfulDisk d → is_some (get d.table file) ≡ false → Removes d file d
nothing_goes d file lawful none =
    let gone : get d.table file ≡ None = none_is (get d.table file) none in
    record {
      table = absent d.table file gone;
      honest = λ h. h;
      files = λ h. absent d.files file (no_length (get d.files file) (sym gone ∙ lawful.lengths h file));
    }

-- the numbers without one
without_one : (file : ℕ) (ns : List ℕ) → filter (λ q. not ((file == q) || false)) ns ≡ filter (λ q. not (file == q)) ns
without_one file [] = refl
without_one file (n ∷ ns) =
    ap (λ b. cond (not b) (n ∷ filter (λ q. not ((file == q) || false)) ns) (filter (λ q. not ((file == q) || false)) ns)) (or_false (file == n))
    ∙ ap (λ rest. cond (not (file == n)) (n ∷ rest) rest) (without_one file ns)
  where
    or_false : (b : Bool) → (b || false) ≡ b
    or_false true = refl
    or_false false = refl

pub listed_next : (d e : Disk) (listed next : List ℕ) (file : ℕ) → listed ≡ keys d.table → IsThere d file → Removes d file e
    → next ≡ filter (λ n. not (file == n)) listed → next ≡ keys e.table
listed_next d e listed next file is there removed left =
    left ∙ ap (filter (λ n. not (file == n))) is ∙ sym (without_one file (keys d.table))
    ∙ sym (keys_after (Remove file ∷ []) d.table (there, tt)) ∙ ap keys (sym removed.table)

-- one file more is gone
pub leaves_next : (files : List ℕ) (i other : ℕ) (d e f : Disk) → i < length files → DeletesFirst i files d e → Removes e (get_or files i other) f
    → DeletesFirst (i + 1) files d f
leaves_next files i other d e f in_range before now = record {
  table = now.table ∙ ap (λ t. remove t (get_or files i other)) before.table ∙ sym (without_next files i other d.table in_range);
  honest = λ h. before.honest (now.honest h);
  files = λ h. now.files h ∙ ap (λ t. remove t (get_or files i other)) (before.files (now.honest h)) ∙ sym (without_next files i other d.files in_range);
}

-- a refused removal leaves what was left before
pub leaves_still : (files : List ℕ) (i : ℕ) (d e f : Disk) → DeletesFirst i files d e → Keeps e f → DeletesFirst i files d f
leaves_still files i d e f before now = record {
  table = now.table ∙ before.table;
  honest = λ h. before.honest (now.honest h);
  files = λ h. now.files h ∙ before.files (now.honest h);
}
