-- What stands under the other keys of a list of entries, and how many items each entry has, after one entry was changed.
use Rattle.std.proofs.Common.{◌≡◌, ◌∙◌, ℕ, zero, suc, Bool, true, false, cond, List, [], ◌∷◌, Some, None, refl, sym, ap}
use Rattle.std.specs.Prelude.{slice_get, slice_set}
use Rattle.std.specs.Ordering.{nat_cmp, match_ordering, is_eq}
use Rattle.std.specs.declared.cmp.Ordering.{Ordering}
use Rattle.std.specs.declared.cmp.Ordering.TheVariants.{Less, Equal, Greater}
use Rattle.std.specs.Map.{lookup, remove_entry, set_value}
use Rattle.std.specs.BTreeMap.{insert_entry, is_at}
use Rattle.kb_topics.proofs.Links.{own_number, same_number}
use Rattle.kb_tenant_state.specs.Tied.{counted}

-- a key that is one number is not another
apart : (i j k : ℕ) → (j ≡ i → ⊥) → is_at (nat_cmp i) k ≡ true → is_at (nat_cmp j) k ≡ false
apart i j k ne e = by (is_at (nat_cmp j) k) refl
  where
    by : (b : Bool) → is_at (nat_cmp j) k ≡ b → is_at (nat_cmp j) k ≡ false
    by false f = f
    by true f = absurd (ne (same_number j k f ∙ sym (same_number i k e)))

-- ---- under another key

pub set_other : {A : Type 0} (es : List (ℕ × A)) (i j : ℕ) (u : A) → (j ≡ i → ⊥) → lookup (is_at (nat_cmp j)) (set_value (is_at (nat_cmp i)) es u) ≡ lookup (is_at (nat_cmp j)) es
set_other [] i j u ne = refl
set_other {A} (e ∷ es) i j u ne = by (is_at (nat_cmp i) e.0) refl (set_other es i j u ne)
  where
    by : (b : Bool) → is_at (nat_cmp i) e.0 ≡ b → lookup (is_at (nat_cmp j)) (set_value (is_at (nat_cmp i)) es u) ≡ lookup (is_at (nat_cmp j)) es
        → lookup (is_at (nat_cmp j)) (cond {A = List (ℕ × A)} b ((e.0, u) ∷ es) (e ∷ set_value (is_at (nat_cmp i)) es u)) ≡ lookup (is_at (nat_cmp j)) (e ∷ es)
    by true here rest =
        let past = apart i j e.0 ne here in
        ap (λ b. cond b (Some u) (lookup (is_at (nat_cmp j)) es)) past ∙ sym (ap (λ b. cond b (Some e.1) (lookup (is_at (nat_cmp j)) es)) past)
    by false here rest = ap (λ o. cond (is_at (nat_cmp j) e.0) (Some e.1) o) rest

pub remove_other : {A : Type 0} (es : List (ℕ × A)) (i j : ℕ) → (j ≡ i → ⊥) → lookup (is_at (nat_cmp j)) (remove_entry (is_at (nat_cmp i)) es) ≡ lookup (is_at (nat_cmp j)) es
remove_other [] i j ne = refl
remove_other {A} (e ∷ es) i j ne = by (is_at (nat_cmp i) e.0) refl (remove_other es i j ne)
  where
    by : (b : Bool) → is_at (nat_cmp i) e.0 ≡ b → lookup (is_at (nat_cmp j)) (remove_entry (is_at (nat_cmp i)) es) ≡ lookup (is_at (nat_cmp j)) es
        → lookup (is_at (nat_cmp j)) (cond {A = List (ℕ × A)} b es (e ∷ remove_entry (is_at (nat_cmp i)) es)) ≡ lookup (is_at (nat_cmp j)) (e ∷ es)
    by true here rest = sym (ap (λ b. cond b (Some e.1) (lookup (is_at (nat_cmp j)) es)) (apart i j e.0 ne here))
    by false here rest = ap (λ o. cond (is_at (nat_cmp j) e.0) (Some e.1) o) rest

pub insert_other : {A : Type 0} (es : List (ℕ × A)) (i j : ℕ) (v : A) → (j ≡ i → ⊥) → lookup (is_at (nat_cmp j)) (insert_entry nat_cmp es i v) ≡ lookup (is_at (nat_cmp j)) es
insert_other [] i j v ne = ap (λ b. cond b (Some v) None) (apart i j i ne (own_number i))
insert_other {A} (e ∷ es) i j v ne = by (nat_cmp i e.0) refl (insert_other es i j v ne)
  where
    by : (o : Ordering) → nat_cmp i e.0 ≡ o → lookup (is_at (nat_cmp j)) (insert_entry nat_cmp es i v) ≡ lookup (is_at (nat_cmp j)) es
        → lookup (is_at (nat_cmp j)) (match_ordering {X = List (ℕ × A)} o ((i, v) ∷ e ∷ es) ((e.0, v) ∷ es) (e ∷ insert_entry nat_cmp es i v)) ≡ lookup (is_at (nat_cmp j)) (e ∷ es)
    by Less here rest = ap (λ b. cond b (Some v) (lookup (is_at (nat_cmp j)) (e ∷ es))) (apart i j i ne (own_number i))
    by Equal here rest =
        let past = apart i j e.0 ne (ap is_eq here) in
        ap (λ b. cond b (Some v) (lookup (is_at (nat_cmp j)) es)) past ∙ sym (ap (λ b. cond b (Some e.1) (lookup (is_at (nat_cmp j)) es)) past)
    by Greater here rest = ap (λ o. cond (is_at (nat_cmp j) e.0) (Some e.1) o) rest

-- ---- under the same key

pub set_same : {A : Type 0} (test : ℕ → Bool) (es : List (ℕ × A)) (t u : A) → lookup test es ≡ Some t → lookup test (set_value test es u) ≡ Some u
set_same test [] t u here = absurd cc
set_same {A} test (e ∷ es) t u here = by (test e.0) refl here (set_same test es t u)
  where
    by : (b : Bool) → test e.0 ≡ b → cond b (Some e.1) (lookup test es) ≡ Some t → (lookup test es ≡ Some t → lookup test (set_value test es u) ≡ Some u)
        → lookup test (cond {A = List (ℕ × A)} b ((e.0, u) ∷ es) (e ∷ set_value test es u)) ≡ Some u
    by true is found rest = ap (λ b. cond b (Some u) (lookup test es)) is
    by false is found rest = ap (λ b. cond b (Some e.1) (lookup test (set_value test es u))) is ∙ rest found

-- ---- a key that no entry has

pub none_set : {A : Type 0} (test other : ℕ → Bool) (es : List (ℕ × A)) (u : A) → lookup test es ≡ None → lookup test (set_value other es u) ≡ None
none_set test other [] u none = refl
none_set {A} test other (e ∷ es) u none = by (test e.0) (other e.0) refl none (none_set test other es u)
  where
    by : (b c : Bool) → test e.0 ≡ b → cond b (Some e.1) (lookup test es) ≡ None → (lookup test es ≡ None → lookup test (set_value other es u) ≡ None)
        → lookup test (cond {A = List (ℕ × A)} c ((e.0, u) ∷ es) (e ∷ set_value other es u)) ≡ None
    by true c is gone rest = absurd cc
    by false true is gone rest = ap (λ b. cond b (Some u) (lookup test es)) is ∙ gone
    by false false is gone rest = ap (λ b. cond b (Some e.1) (lookup test (set_value other es u))) is ∙ rest gone

pub none_removed : {A : Type 0} (test other : ℕ → Bool) (es : List (ℕ × A)) → lookup test es ≡ None → lookup test (remove_entry other es) ≡ None
none_removed test other [] none = refl
none_removed {A} test other (e ∷ es) none = by (test e.0) (other e.0) refl none (none_removed test other es)
  where
    by : (b c : Bool) → test e.0 ≡ b → cond b (Some e.1) (lookup test es) ≡ None → (lookup test es ≡ None → lookup test (remove_entry other es) ≡ None)
        → lookup test (cond {A = List (ℕ × A)} c es (e ∷ remove_entry other es)) ≡ None
    by true c is gone rest = absurd cc
    by false true is gone rest = gone
    by false false is gone rest = ap (λ b. cond b (Some e.1) (lookup test (remove_entry other es))) is ∙ rest gone

-- ---- how many items there are

pub counted_set : {A : Type 0} (size : A → ℕ) (test : ℕ → Bool) (es : List (ℕ × A)) (t u : A) → lookup test es ≡ Some t → size u ≡ size t → counted size (set_value test es u) ≡ counted size es
counted_set size test [] t u here same = refl
counted_set {A} size test (e ∷ es) t u here same = by (test e.0) here (counted_set size test es t u)
  where
    by : (b : Bool) → cond b (Some e.1) (lookup test es) ≡ Some t → (lookup test es ≡ Some t → size u ≡ size t → counted size (set_value test es u) ≡ counted size es)
        → counted size (cond {A = List (ℕ × A)} b ((e.0, u) ∷ es) (e ∷ set_value test es u)) ≡ counted size (e ∷ es)
    by true found rest = let one : e.1 ≡ t = cc in ap (λ (n : ℕ). (e.0, n) ∷ counted size es) (same ∙ sym (ap size one))
    by false found rest = ap (λ (l : List (ℕ × ℕ)). (e.0, size e.1) ∷ l) (rest found same)

pub counted_removed : {A : Type 0} (size : A → ℕ) (test : ℕ → Bool) (es : List (ℕ × A)) → counted size (remove_entry test es) ≡ remove_entry test (counted size es)
counted_removed size test [] = refl
counted_removed {A} size test (e ∷ es) = by (test e.0) (counted_removed size test es)
  where
    by : (b : Bool) → counted size (remove_entry test es) ≡ remove_entry test (counted size es)
        → counted size (cond {A = List (ℕ × A)} b es (e ∷ remove_entry test es)) ≡ cond b (counted size es) ((e.0, size e.1) ∷ remove_entry test (counted size es))
    by true rest = refl
    by false rest = ap (λ (l : List (ℕ × ℕ)). (e.0, size e.1) ∷ l) rest

pub counted_inserted : {A : Type 0} (size : A → ℕ) (es : List (ℕ × A)) (i : ℕ) (v : A) → counted size (insert_entry nat_cmp es i v) ≡ insert_entry nat_cmp (counted size es) i (size v)
counted_inserted size [] i v = refl
counted_inserted {A} size (e ∷ es) i v = by (nat_cmp i e.0) (counted_inserted size es i v)
  where
    by : (o : Ordering) → counted size (insert_entry nat_cmp es i v) ≡ insert_entry nat_cmp (counted size es) i (size v)
        → counted size (match_ordering {X = List (ℕ × A)} o ((i, v) ∷ e ∷ es) ((e.0, v) ∷ es) (e ∷ insert_entry nat_cmp es i v))
        ≡ match_ordering o ((i, size v) ∷ (e.0, size e.1) ∷ counted size es) ((e.0, size v) ∷ counted size es) ((e.0, size e.1) ∷ insert_entry nat_cmp (counted size es) i (size v))
    by Less rest = refl
    by Equal rest = refl
    by Greater rest = ap (λ (l : List (ℕ × ℕ)). (e.0, size e.1) ∷ l) rest

-- ---- at another place of a list

pub get_other : {A : Type 0} (xs : List A) (p q : ℕ) (y : A) → (q ≡ p → ⊥) → slice_get (slice_set xs p y) q ≡ slice_get xs q
get_other [] p q y ne = refl
get_other (x ∷ xs) zero zero y ne = absurd (ne refl)
get_other (x ∷ xs) zero (suc q) y ne = refl
get_other (x ∷ xs) (suc p) zero y ne = refl
get_other (x ∷ xs) (suc p) (suc q) y ne = get_other xs p q y (λ same. ne (ap suc same))
