-- The files that a store lists are there, each once, and below the next number of its shelf.
use Rattle.std.proofs.Common.{◌≡◌, ◌∙◌, ◌<◌, ℕ, true, false, ◌&&◌, T, nat_eq, List, [], ◌∷◌, map, get_or, IsSome, refl, sym, ap, subst}
use Rattle.std.specs.declared.cmp.Ordering.{Ordering}
use Rattle.std.specs.declared.cmp.Ordering.TheVariants.{Less, Equal, Greater}
use Rattle.std.specs.Ordering.{nat_cmp, eq_by_cmp, is_lt, is_eq}
use Rattle.std.specs.Cmp.{unsigned_tied, nat_eq_equiv}
use Rattle.std.specs.FinMap.{get, keys, entries, entries_sorted, contains_key-keys}
use Rattle.std.specs.FinMap.Entries.{is_sorted, below_all}
use Rattle.std.specs.List.{All, AllByRecursion, IsDistinct, list_any}
use Rattle.std.proofs.lemmas.Bool.{eq-eqb}
use Rattle.std.proofs.lemmas.List.Folds.{list_any_at}
use Rattle.kb_store.specs.Disk.{Disk, Table, IsThere, Keeps}
use Rattle.kb_log.specs.Shelf.{one_above}
use Rattle.kb_log.proofs.Numbers.{tidy}

-- ---- a file that is listed is there

in_table : (table : Table) (numbers : List ℕ) (file : ℕ) → numbers ≡ keys table → list_any (λ y. nat_eq y file) numbers ≡ true → IsSome (get table file)
in_table table numbers file listed found =
    let alike : list_any (eq_by_cmp nat_cmp file) numbers ≡ list_any (λ y. nat_eq y file) numbers = λ i. list_any (λ y. (unsigned_tied file y ∙ nat_eq_equiv.symm file y) i) numbers in
    contains_key-keys table file ∙ ap (list_any (eq_by_cmp nat_cmp file)) (sym listed) ∙ alike ∙ found

pub listed_is_there : (old new : Disk) (numbers : List ℕ) (file : ℕ) → numbers ≡ keys old.table → Keeps old new → list_any (λ y. nat_eq y file) numbers ≡ true → IsThere new file
listed_is_there old new numbers file listed kept found = subst (λ t. IsSome (get t file)) (sym kept.table) (in_table old.table numbers file listed found)

pub all_listed : (old new : Disk) (numbers : List ℕ) → numbers ≡ keys old.table → Keeps old new → All (λ n. IsThere new n) numbers
all_listed old new numbers listed kept k d lt =
    let n = get_or numbers k d in
    listed_is_there old new numbers n listed kept (list_any_at (λ y. nat_eq y n) numbers k d lt (eq-eqb n n refl))

pub all_shelved : (old mid new : Disk) (numbers : List ℕ) → numbers ≡ keys old.table → Keeps old mid → Keeps mid new → All (λ n. IsThere new n) numbers
all_shelved old mid new numbers listed before kept = all_listed mid new numbers (listed ∙ ap keys (sym before.table)) kept

pub all_given_out : (old mid new : Disk) (numbers : List ℕ) (next : ℕ) → numbers ≡ keys old.table → Keeps old mid → Keeps mid new → next ≡ one_above (keys mid.table) → All (λ n. n < next) numbers
all_given_out old mid new numbers next listed before kept above k d lt =
    (tidy mid new (keys mid.table) next kept refl above).below (get_or numbers k d) (all_shelved old mid new numbers listed before kept k d lt)

-- ---- none is listed twice

first : (a b : _) → T (a && b) → T a
first true b h = tt
first false b h = absurd h

second : (a b : _) → T (a && b) → T b
second true b h = h
second false b h = absurd h

not_equal : (o : Ordering) → T (is_lt o) → is_eq o ≡ false
not_equal Less h = refl
not_equal Equal h = absurd h
not_equal Greater h = refl

module _ {X : Type 0} where
  none_below : (x : ℕ) (es : List (ℕ × X)) → T (below_all nat_cmp x es) → AllByRecursion (λ y. nat_eq x y ≡ false) (map (λ e. e.0) es)
  none_below x [] h = tt
  none_below x (e ∷ es) h =
      (sym (unsigned_tied x e.0) ∙ not_equal (nat_cmp x e.0) (first (is_lt (nat_cmp x e.0)) (below_all nat_cmp x es) h), none_below x es (second (is_lt (nat_cmp x e.0)) (below_all nat_cmp x es) h))

  apart : (es : List (ℕ × X)) → T (is_sorted nat_cmp es) → IsDistinct nat_eq (map (λ e. e.0) es)
  unfolding IsDistinct
  apart [] h = tt
  apart (e ∷ es) h =
      (none_below e.0 es (first (below_all nat_cmp e.0 es) (is_sorted nat_cmp es) h), apart es (second (below_all nat_cmp e.0 es) (is_sorted nat_cmp es) h))

pub listed_apart : (old : Disk) (numbers : List ℕ) → numbers ≡ keys old.table → IsDistinct nat_eq numbers
listed_apart old numbers listed = subst (IsDistinct nat_eq) (sym listed) (apart (entries old.table) (entries_sorted old.table))
