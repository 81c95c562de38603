-- Entries under texts, seen under the bytes of the texts, and commits that are taken back.
use Rattle.std.proofs.Common.{◌≡◌, ◌∙◌, ℕ, Bool, true, false, cond, List, [], ◌∷◌, Option, Some, None, refl, sym, ap}
use Rattle.std.specs.Prelude.{ℤ}
use Rattle.std.specs.declared.cmp.Ordering.{Ordering}
use Rattle.std.specs.declared.cmp.Ordering.TheVariants.{Less, Equal, Greater}
use Rattle.std.specs.declared.string.String.{String}
use Rattle.std.specs.Ordering.{is_eq, match_ordering, nat_cmp}
use Rattle.std.specs.Cmp.{IsTotalOrder}
use Rattle.std.specs.Cmp.Lexicographic.{slice_cmp}
use Rattle.std.specs.String.{string_bytes, string_cmp, string_cmp_total}
use Rattle.std.specs.List.Sorted.{IsStrictlySortedBy}
use Rattle.std.specs.Map.{keys_of, lookup, remove_entry, set_value}
use Rattle.std.specs.BTreeMap.{insert_entry, is_at}
use Rattle.std.proofs.lemmas.Slice.Eq.{bytes_eq-Decides}
use Rattle.std.proofs.lemmas.Map.{lookup-none}
use Rattle.std.proofs.lemmas.Map.Entries.{none_below_head}
use Rattle.std.proofs.lemmas.Map.Keys.{sorted_tail}
use Rattle.std.proofs.lemmas.Map.Lookups.{map_keys}
use Rattle.std.proofs.lemmas.Map.Text.{is_eq-slice_cmp}
use Rattle.kb_topics.specs.Known.{CommittedOffset, PartitionState, with_commit, with_former}

pub lookup_keys : {K B X : Type 0} (f : K → B) (test : B → Bool) (es : List (K × X)) → lookup test (map_keys f es) ≡ lookup (λ k. test (f k)) es
lookup_keys f test [] = refl
lookup_keys f test (e ∷ es) = ap (cond (test (f e.0)) (Some e.1)) (lookup_keys f test es)

insert_keys_by : {K B X : Type 0} (f : K → B) (cmp : B → B → Ordering) (e : K × X) (es : List (K × X)) (k : K) (v : X) (o : Ordering) → map_keys f (insert_entry (λ x y. cmp (f x) (f y)) es k v) ≡ insert_entry cmp (map_keys f es) (f k) v → map_keys f (match_ordering o ((k, v) ∷ e ∷ es) ((e.0, v) ∷ es) (e ∷ insert_entry (λ x y. cmp (f x) (f y)) es k v)) ≡ match_ordering o ((f k, v) ∷ (f e.0, e.1) ∷ map_keys f es) ((f e.0, v) ∷ map_keys f es) ((f e.0, e.1) ∷ insert_entry cmp (map_keys f es) (f k) v)
insert_keys_by f cmp e es k v Less more = refl
insert_keys_by f cmp e es k v Equal more = refl
insert_keys_by f cmp e es k v Greater more = ap (λ xs. (f e.0, e.1) ∷ xs) more

pub insert_keys : {K B X : Type 0} (f : K → B) (cmp : B → B → Ordering) (es : List (K × X)) (k : K) (v : X) → map_keys f (insert_entry (λ x y. cmp (f x) (f y)) es k v) ≡ insert_entry cmp (map_keys f es) (f k) v
insert_keys f cmp [] k v = refl
insert_keys f cmp (e ∷ es) k v = insert_keys_by f cmp e es k v (cmp (f k) (f e.0)) (insert_keys f cmp es k v)

set_keys_by : {K B X : Type 0} (f : K → B) (test : B → Bool) (e : K × X) (es : List (K × X)) (w : X) (b : Bool) → map_keys f (set_value (λ k. test (f k)) es w) ≡ set_value test (map_keys f es) w → map_keys f (cond b ((e.0, w) ∷ es) (e ∷ set_value (λ k. test (f k)) es w)) ≡ cond b ((f e.0, w) ∷ map_keys f es) ((f e.0, e.1) ∷ set_value test (map_keys f es) w)
set_keys_by f test e es w true more = refl
set_keys_by f test e es w false more = ap (λ xs. (f e.0, e.1) ∷ xs) more

pub set_keys : {K B X : Type 0} (f : K → B) (test : B → Bool) (es : List (K × X)) (w : X) → map_keys f (set_value (λ k. test (f k)) es w) ≡ set_value test (map_keys f es) w
set_keys f test [] w = refl
set_keys f test (e ∷ es) w = set_keys_by f test e es w (test (f e.0)) (set_keys f test es w)

remove_keys_by : {K B X : Type 0} (f : K → B) (test : B → Bool) (e : K × X) (es : List (K × X)) (b : Bool) → map_keys f (remove_entry (λ k. test (f k)) es) ≡ remove_entry test (map_keys f es) → map_keys f (cond b es (e ∷ remove_entry (λ k. test (f k)) es)) ≡ cond b (map_keys f es) ((f e.0, e.1) ∷ remove_entry test (map_keys f es))
remove_keys_by f test e es true more = refl
remove_keys_by f test e es false more = ap (λ xs. (f e.0, e.1) ∷ xs) more

pub remove_keys : {K B X : Type 0} (f : K → B) (test : B → Bool) (es : List (K × X)) → map_keys f (remove_entry (λ k. test (f k)) es) ≡ remove_entry test (map_keys f es)
remove_keys f test [] = refl
remove_keys f test (e ∷ es) = remove_keys_by f test e es (test (f e.0)) (remove_keys f test es)

-- ---- what was put, and undone

removed_by : {K X : Type 0} (R : K → K → Ordering) (k : K) → is_at (R k) k ≡ true → (c : X) (e : K × X) (es : List (K × X)) (o : Ordering) → R k e.0 ≡ o → lookup (is_at (R k)) (e ∷ es) ≡ None → (lookup (is_at (R k)) es ≡ None → remove_entry (is_at (R k)) (insert_entry R es k c) ≡ es) → remove_entry (is_at (R k)) (match_ordering o ((k, c) ∷ e ∷ es) ((e.0, c) ∷ es) (e ∷ insert_entry R es k c)) ≡ e ∷ es
removed_by R k own c e es Less at none more = ap (λ b. cond b (e ∷ es) ((k, c) ∷ remove_entry (is_at (R k)) (e ∷ es))) own
removed_by R k own c e es Equal at none more =
    let here : lookup (is_at (R k)) (e ∷ es) ≡ Some e.1 = ap (λ o. cond (is_eq o) (Some e.1) (lookup (is_at (R k)) es)) at in
    absurd cc
removed_by R k own c e es Greater at none more =
    let later : lookup (is_at (R k)) es ≡ None = sym (ap (λ o. cond (is_eq o) (Some e.1) (lookup (is_at (R k)) es)) at) ∙ none in
    ap (λ o. cond (is_eq o) (insert_entry R es k c) (e ∷ remove_entry (is_at (R k)) (insert_entry R es k c))) at ∙ ap (λ us. e ∷ us) (more later)

-- what was put under a new key and taken out
pub removed_inserted : {K X : Type 0} (R : K → K → Ordering) (k : K) → is_at (R k) k ≡ true → (c : X) (es : List (K × X)) → lookup (is_at (R k)) es ≡ None → remove_entry (is_at (R k)) (insert_entry R es k c) ≡ es
removed_inserted R k own c [] none = ap (λ b. cond b [] ((k, c) ∷ [])) own
removed_inserted R k own c (e ∷ es) none = removed_by R k own c e es (R k e.0) refl none (removed_inserted R k own c es)

set_by : {K X : Type 0} (R : K → K → Ordering) → IsTotalOrder R → (k : K) (c d : X) (e : K × X) (es : List (K × X)) (o : Ordering) → R k e.0 ≡ o → IsStrictlySortedBy R (keys_of (e ∷ es)) → lookup (is_at (R k)) (e ∷ es) ≡ Some d → (lookup (is_at (R k)) es ≡ Some d → set_value (is_at (R k)) (insert_entry R es k c) d ≡ es) → set_value (is_at (R k)) (match_ordering o ((k, c) ∷ e ∷ es) ((e.0, c) ∷ es) (e ∷ insert_entry R es k c)) d ≡ e ∷ es
set_by R total k c d e es Less at s found more =
    let none : lookup (is_at (R k)) (e ∷ es) ≡ None = lookup-none (is_at (R k)) (e ∷ es) (none_below_head total k e es s at) in
    absurd cc
set_by R total k c d e es Equal at s found more =
    let here : lookup (is_at (R k)) (e ∷ es) ≡ Some e.1 = ap (λ o. cond (is_eq o) (Some e.1) (lookup (is_at (R k)) es)) at in
    let same : d ≡ e.1 = cc in
    ap (λ o. cond (is_eq o) ((e.0, d) ∷ es) ((e.0, c) ∷ set_value (is_at (R k)) es d)) at ∙ ap (λ w. (e.0, w) ∷ es) same
set_by R total k c d e es Greater at s found more =
    let later : lookup (is_at (R k)) es ≡ Some d = sym (ap (λ o. cond (is_eq o) (Some e.1) (lookup (is_at (R k)) es)) at) ∙ found in
    ap (λ o. cond (is_eq o) ((e.0, d) ∷ insert_entry R es k c) (e ∷ set_value (is_at (R k)) (insert_entry R es k c) d)) at ∙ ap (λ us. e ∷ us) (more later)

-- what was put over an old value, and the old value again
set_inserted : {K X : Type 0} (R : K → K → Ordering) → IsTotalOrder R → (k : K) (c d : X) (es : List (K × X)) → IsStrictlySortedBy R (keys_of es) → lookup (is_at (R k)) es ≡ Some d → set_value (is_at (R k)) (insert_entry R es k c) d ≡ es
set_inserted R total k c d [] s found = absurd cc
set_inserted R total k c d (e ∷ es) s found = set_by R total k c d e es (R k e.0) refl s found (set_inserted R total k c d es (sorted_tail R e.0 (keys_of es) s))

unset_by : {K X : Type 0} (test : K → Bool) (e : K × X) (es : List (K × X)) (w : X) (b : Bool) → test e.0 ≡ b → lookup test (e ∷ es) ≡ None → (lookup test es ≡ None → set_value test es w ≡ es) → cond b ((e.0, w) ∷ es) (e ∷ set_value test es w) ≡ e ∷ es
unset_by test e es w true at none more =
    let here : lookup test (e ∷ es) ≡ Some e.1 = ap (λ b. cond b (Some e.1) (lookup test es)) at in
    absurd cc
unset_by test e es w false at none more = ap (λ us. e ∷ us) (more (sym (ap (λ b. cond b (Some e.1) (lookup test es)) at) ∙ none))

-- no value is put where no key passes
pub not_there : {K X : Type 0} (test : K → Bool) (es : List (K × X)) (w : X) → lookup test es ≡ None → set_value test es w ≡ es
not_there test [] w none = refl
not_there test (e ∷ es) w none = unset_by test e es w (test e.0) refl none (not_there test es w)

-- ---- a partition's commits

abbrev pub part_of : {Y : Type 0} → ℤ → List (String Y × CommittedOffset) → PartitionState
part_of start es = record { start = start; commits = map_keys string_bytes es }

module _ {Y : Type 0} (start : ℤ) (es : List (String Y × CommittedOffset)) where
  pub committed_seen : (fs : List (String Y × CommittedOffset)) (k : String Y) (c : CommittedOffset) → fs ≡ insert_entry string_cmp es k c → part_of start fs ≡ with_commit (part_of start es) (string_bytes k) c
  committed_seen fs k c e = ap (part_of start) e ∙ ap (λ cs. record (part_of start es) { commits = cs }) (insert_keys string_bytes (slice_cmp nat_cmp) es k c)

  own_text : (k : String Y) → is_at (string_cmp k) k ≡ true
  own_text k = is_eq-slice_cmp (string_bytes k) (string_bytes k) ∙ (bytes_eq-Decides (string_bytes k) (string_bytes k)).1 refl

  -- what a group had committed, in place of its next commit
  pub commit_undone : (k : String Y) (c : CommittedOffset) (former : Option CommittedOffset) → IsStrictlySortedBy string_cmp (keys_of es) → former ≡ lookup (is_at (string_cmp k)) es → with_former (with_commit (part_of start es) (string_bytes k) c) (string_bytes k) former ≡ part_of start es
  commit_undone k c None s e =
      ap (λ cs. record (part_of start es) { commits = cs }) (
      ap (remove_entry (is_at (slice_cmp nat_cmp (string_bytes k)))) (sym (insert_keys string_bytes (slice_cmp nat_cmp) es k c))
      ∙ sym (remove_keys string_bytes (is_at (slice_cmp nat_cmp (string_bytes k))) (insert_entry string_cmp es k c))
      ∙ ap (map_keys string_bytes) (removed_inserted string_cmp k (own_text k) c es (sym e)))
  commit_undone k c (Some d) s e =
      ap (λ cs. record (part_of start es) { commits = cs }) (
      ap (λ cs. set_value (is_at (slice_cmp nat_cmp (string_bytes k))) cs d) (sym (insert_keys string_bytes (slice_cmp nat_cmp) es k c))
      ∙ sym (set_keys string_bytes (is_at (slice_cmp nat_cmp (string_bytes k))) (insert_entry string_cmp es k c) d)
      ∙ ap (map_keys string_bytes) (set_inserted string_cmp string_cmp_total k c d es s (sym e)))

  -- what a group had committed, taken out or put back
  pub removed_seen : (fs : List (String Y × CommittedOffset)) (group : List ℕ) → fs ≡ remove_entry (λ k. is_at (slice_cmp nat_cmp group) (string_bytes k)) es → part_of start fs ≡ with_former (part_of start es) group None
  removed_seen fs group e = ap (part_of start) e ∙ ap (λ cs. record (part_of start es) { commits = cs }) (remove_keys string_bytes (is_at (slice_cmp nat_cmp group)) es)

  pub set_seen : (fs : List (String Y × CommittedOffset)) (group : List ℕ) (c : CommittedOffset) → fs ≡ set_value (λ k. is_at (slice_cmp nat_cmp group) (string_bytes k)) es c → part_of start fs ≡ with_former (part_of start es) group (Some c)
  set_seen fs group c e = ap (part_of start) e ∙ ap (λ cs. record (part_of start es) { commits = cs }) (set_keys string_bytes (is_at (slice_cmp nat_cmp group)) es c)
