-- The groups of a topic in order, whichever of its partitions they were put from.
use Rattle.std.proofs.Common.{◌≡◌, ◌∙◌, ◌||◌, ℕ, List, [], ◌∷◌, ◌++◌, Bool, Some, true, false, refl, sym, ap, subst, append_assoc}
use Rattle.std.proofs.lemmas.List.{append-nil}
use Rattle.std.proofs.lemmas.Option.{get_or_from_slice_get, slice_get_within}
use Rattle.std.specs.List.{Contains, list_any, slice_get}
use Rattle.std.specs.Str.{bytes_eq}
use Rattle.std.specs.Cmp.Lexicographic.{same_text}
use Rattle.std.proofs.lemmas.List.Folds.{list_any-append}
use Rattle.kb_settings.proofs.NamesInOrder.{any-in_order, any-of, only-in_order, rises-in_order}
use Rattle.kb_settings.specs.Names.{in_order}
use Rattle.kb_metrics.specs.Slots.{HaveSame, is_at}
use Rattle.kb_metrics.proofs.Commits.{is_there}

pub in_order-same : (xs ys : List (List ℕ)) → HaveSame xs ys → in_order xs ≡ in_order ys
in_order-same xs ys h = only-in_order ys (in_order xs) (rises-in_order xs) (λ q. any-in_order q xs ∙ h q)

pub append-same : (xs ys zs : List (List ℕ)) → HaveSame xs ys → HaveSame (xs ++ zs) (ys ++ zs)
append-same xs ys zs h q =
    list_any-append (bytes_eq q) xs zs ∙ ap (λ b. b || list_any (bytes_eq q) zs) (h q) ∙ sym (list_any-append (bytes_eq q) ys zs)

-- a name that is there, once more
pub once_more : (xs zs : List (List ℕ)) (n : List ℕ) → Contains xs n → HaveSame (xs ++ zs) (xs ++ n ∷ zs)
once_more xs zs n there q =
    let any : List (List ℕ) → Bool = list_any (bytes_eq q) in
    let same : (any xs || any zs) ≡ (any xs || (bytes_eq q n || any zs)) =
    elim (bytes_eq q n) as (λ b. bytes_eq q n ≡ b → (any xs || any zs) ≡ (any xs || (b || any zs))) [
      | true ↦ λ e.
          let found : any xs ≡ true = subst (λ (k : List ℕ). list_any (bytes_eq k) xs ≡ true) (sym (same_text q n (sym e))) (any-of n xs there) in
          ap (λ b. b || any zs) found ∙ sym (ap (λ b. b || (true || any zs)) found)
      | false ↦ λ e. refl
    ] refl in
    list_any-append (bytes_eq q) xs zs ∙ same ∙ sym (list_any-append (bytes_eq q) xs (n ∷ zs))

at_place : (ns : List (List ℕ)) (i : ℕ) (n : List ℕ) → is_at ns i n ≡ true → Contains ns n
at_place ns i n h =
    let get : slice_get ns i ≡ Some n = is_there n (slice_get ns i) h in
    (i, slice_get_within ns i n get, get_or_from_slice_get ns i n n get)

-- a name that is at a place is there
pub there : (ns : List (List ℕ)) (i : ℕ) (n : List ℕ) → is_at ns i n ≡ true → HaveSame ns (ns ++ n ∷ [])
there ns i n h q = ap (list_any (bytes_eq q)) (sym (append-nil ns)) ∙ once_more ns [] n (at_place ns i n h) q

-- one more of the names that are still to come
pub one_more : (ns new rest more all : List (List ℕ)) (n : List ℕ) → HaveSame (ns ++ rest) all → rest ≡ n ∷ more → HaveSame new (ns ++ n ∷ [])
    → HaveSame (new ++ more) all
one_more ns new rest more all n h first put q =
    append-same new (ns ++ n ∷ []) more put q ∙ ap (list_any (bytes_eq q)) (append_assoc ns (n ∷ []) more)
    ∙ ap (λ xs. list_any (bytes_eq q) (ns ++ xs)) (sym first) ∙ h q
