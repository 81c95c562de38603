-- The one file that a store lists is there; where it lists none, none is.
use Rattle.std.proofs.Common.{◌≡◌, ◌∙◌, ℕ, true, false, nat_eq, List, [], ◌∷◌, Option, Some, None, is_some, IsSome, refl, sym, ap, subst, true≢false}
use Rattle.std.proofs.lemmas.Bool.{eqb-true}
use Rattle.std.specs.Cmp.{first_so}
use Rattle.std.specs.FinMap.{get, keys, contains_key-keys}
use Rattle.std.specs.List.{list_any}
use Rattle.std.specs.Ordering.{nat_cmp, eq_by_cmp}
use Rattle.std.specs.Str.{bytes_eq}
use Rattle.kb_store.specs.Disk.{Disk, IsThere, Keeps}

has_first : (xs : List ℕ) → bytes_eq xs (0 ∷ []) ≡ true → list_any (eq_by_cmp nat_cmp 0) xs ≡ true
has_first [] h = absurd (true≢false (sym h))
has_first (x ∷ xs) h = subst (λ y. list_any (eq_by_cmp nat_cmp 0) (y ∷ xs) ≡ true) (sym (eqb-true x 0 (first_so (nat_eq x 0) (bytes_eq xs []) h))) refl

pub alone_is_there : (old new : Disk) (numbers : List ℕ) → numbers ≡ keys old.table → Keeps old new → bytes_eq numbers (0 ∷ []) ≡ true → IsThere new 0
alone_is_there old new numbers listed kept alone =
    subst (λ t. IsSome (get t 0)) (sym kept.table) (contains_key-keys old.table 0 ∙ ap (list_any (eq_by_cmp nat_cmp 0)) (sym listed) ∙ has_first numbers alone)

none_in : {X : Type 0} → (o : Option X) → is_some o ≡ false → o ≡ None
none_in None h = refl
none_in (Some x) h = absurd (true≢false h)

none_of : (xs : List ℕ) → bytes_eq xs [] ≡ true → list_any (eq_by_cmp nat_cmp 0) xs ≡ false
none_of [] h = refl
none_of (x ∷ xs) h = absurd (true≢false (sym h))

pub none_listed : (old new : Disk) (numbers : List ℕ) → numbers ≡ keys old.table → Keeps old new → bytes_eq numbers [] ≡ true → get new.table 0 ≡ None
none_listed old new numbers listed kept none =
    none_in (get new.table 0) (ap (λ t. is_some (get t 0)) kept.table ∙ contains_key-keys old.table 0 ∙ ap (list_any (eq_by_cmp nat_cmp 0)) (sym listed) ∙ none_of numbers none)
