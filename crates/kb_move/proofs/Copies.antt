-- Files that are listed, and what one file more makes of a list of files.
use Rattle.std.proofs.Common.{◌≡◌, ◌∙◌, ◌<◌, ◌+◌, ◌++◌, ap, ℕ, suc, true, nat_eq, Bool, cond, List, [], ◌∷◌, length, length-take, filter, map, take, get_or, sym, subst, refl, arith}
use Rattle.std.specs.Prelude.{unwrap_or}
use Rattle.std.specs.FinMap.{get, insert, keys, contains_key-keys}
use Rattle.std.specs.Ordering.{nat_cmp, eq_by_cmp}
use Rattle.std.specs.Cmp.{unsigned_tied, nat_eq_equiv}
use Rattle.std.specs.List.{All, list_any}
use Rattle.std.proofs.lemmas.Bool.{eq-eqb}
use Rattle.std.proofs.lemmas.List.{length-map, map-append, take_more}
use Rattle.std.proofs.lemmas.List.Elements.{All-append, filter_more}
use Rattle.std.proofs.lemmas.List.Folds.{list_any_at}
use Rattle.kb_store.specs.Disk.{Disk, Files, IsThere, Keeps}
use Rattle.kb_segment.specs.Header.{header_in}
use Rattle.kb_move.specs.Copied.{is_owned, names, with_files_from}

-- what is listed is there
pub is_listed : (d : Disk) (numbers : List ℕ) (k other : ℕ) → numbers ≡ keys d.table → k < length numbers → IsThere d (get_or numbers k other)
is_listed d numbers k other listed lt =
    let file = get_or numbers k other in
    let found : list_any (λ y. nat_eq y file) numbers ≡ true = list_any_at (λ y. nat_eq y file) numbers k other lt (eq-eqb file file refl) in
    let alike : list_any (eq_by_cmp nat_cmp file) numbers ≡ list_any (λ y. nat_eq y file) numbers = λ i. list_any (λ y. (unsigned_tied file y ∙ nat_eq_equiv.symm file y) i) numbers in
    contains_key-keys d.table file ∙ ap (list_any (eq_by_cmp nat_cmp file)) (sym listed) ∙ alike ∙ found

-- one more that holds
pub all_more : (P : ℕ → Type 0) (old new : List ℕ) (n : ℕ) → All P old → P n → new ≡ old ++ n ∷ [] → All P new
all_more P old new n each here is =
    subst (All P) (sym is)
    (All-append P old (n ∷ []) each (λ k d lt. subst (λ j. P (get_or (n ∷ []) j d)) (let first : 0 ≡ k = omega (arith, lt) in first) here))

-- nothing changed twice
pub kept_then : (a b c : Disk) → Keeps a b → Keeps b c → Keeps a c
kept_then a b c p q = record {
  table = q.table ∙ p.table;
  honest = λ h. p.honest (q.honest h);
  files = λ h. q.files h ∙ p.files (q.honest h);
}

-- one number more is looked at, and noted where its file is the tenant's
pub noted_more : (tenant : List ℕ) (had now : Disk) (ks old new : List ℕ) (i other : ℕ) (b : Bool) → i < length ks → now.files ≡ had.files
    → b ≡ is_owned tenant now (get_or ks i other) → old ≡ filter (is_owned tenant had) (take i ks)
    → new ≡ old ++ cond b (get_or ks i other ∷ []) [] → new ≡ filter (is_owned tenant had) (take (i + 1) ks)
noted_more tenant had now ks old new i other b lt same is was more =
    let n = get_or ks i other in
    let p = is_owned tenant had in
    let here : b ≡ p n = is ∙ ap (λ (f : Files). names tenant (header_in (unwrap_or (get f n) []))) same in
    more
    ∙ ap (λ xs. xs ++ cond b (n ∷ []) []) was
    ∙ ap (λ c. filter p (take i ks) ++ cond c (n ∷ []) []) here
    ∙ sym (filter_more p ks i other lt)

-- one file more, behind the others
pub placed_more : (bs : List (List ℕ)) (n : ℕ) (b : List ℕ) (f : Files)
    → with_files_from n (bs ++ b ∷ []) f ≡ insert (with_files_from n bs f) (n + length bs) b
unfolding with_files_from
placed_more [] n b f = ap (λ k. insert f k b) (omega arith)
placed_more (c ∷ bs) n b f = placed_more bs (suc n) b (insert f n c) ∙ ap (λ k. insert (with_files_from (suc n) bs (insert f n c)) k b) (omega arith)

pub placed_none : (n : ℕ) (bytes : ℕ → List ℕ) (ns : List ℕ) (f : Files) → f ≡ with_files_from n (map bytes (take 0 ns)) f
unfolding with_files_from
placed_none n bytes ns f = refl

-- the next of some files, behind those before it
pub placed_next : (first i other : ℕ) (bytes : ℕ → List ℕ) (ns : List ℕ) (b : List ℕ) (old now new : Files) → i < length ns
    → now ≡ with_files_from first (map bytes (take i ns)) old → b ≡ bytes (get_or ns i other) → new ≡ insert now (first + i) b
    → new ≡ with_files_from first (map bytes (take (i + 1) ns)) old
placed_next first i other bytes ns b old now new lt was is more =
    let n = get_or ns i other in
    let done = map bytes (take i ns) in
    let len : length done ≡ i = length-map (take i ns) bytes ∙ length-take i ns ∙ omega (arith, lt) in
    more
    ∙ ap (λ f. insert f (first + i) b) was
    ∙ ap (λ k. insert (with_files_from first done old) (first + k) b) (sym len)
    ∙ sym (placed_more done first b old)
    ∙ ap (λ x. with_files_from first (done ++ x ∷ []) old) is
    ∙ ap (λ xs. with_files_from first xs old) (sym (map-append bytes (take i ns) (n ∷ [])))
    ∙ ap (λ xs. with_files_from first (map bytes xs) old) (sym (take_more ns i other lt))
