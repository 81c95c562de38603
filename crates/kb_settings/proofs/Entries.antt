-- Users of the entries of a document.
use Rattle.std.proofs.Common.{◌≡◌, ◌==◌, ◌≤◌, ◌<◌, ℕ, Bool, true, false, ◌&&◌, leb, MatchBool, List, ◌++◌, map, length, Option, option_map, refl, sym, ap, ◌∙◌, arith, string_bytes}
use Rattle.std.proofs.Math.ListN.{length-map}
use Rattle.std.proofs.lemmas.Simd.{map-map}
use Rattle.std.proofs.lemmas.Bool.{false≢true}
use Rattle.std.proofs.lemmas.Bool.Decides.{nat_tests}
use Rattle.kb_settings.specs.Settings.{is_within, are_different}
use Rattle.kb_settings.specs.Names.{in_order}
use Rattle.kb_settings.specs.Values.{Account, account_of}
use Rattle.kb_settings.specs.Document.{are_users}
use Rattle.kb_settings.specs.declared.settings.User.{User}
use Rattle.kb_settings.proofs.NamesInOrder.{different-counted}

-- 1. The entries read so far, and the others

abbrev pub joined : {A : Type 0} → List A → Option (List A) → Option (List A)
joined front rest = option_map (λ back. front ++ back) rest

-- 2. Users together

-- what is asked of users, over the users themselves
abbrev together : List User → Bool
together us = is_within 1 1000 (length us) && are_different (map (λ u. string_bytes u.name) us) && is_within 0 256 (length (in_order (map (λ u. string_bytes u.tenant) us)))

asked : (us : List User) → are_users (map account_of us) ≡ together us
asked us =
    ap (λ n. is_within 1 1000 n && are_different (map (λ u. u.name) (map account_of us)) && is_within 0 256 (length (in_order (map (λ u. u.tenant) (map account_of us))))) (length-map us account_of)
    ∙ ap (λ names. is_within 1 1000 (length us) && are_different names && is_within 0 256 (length (in_order (map (λ u. u.tenant) (map account_of us))))) (map-map (λ (a : Account). a.name) account_of us)
    ∙ ap (λ names. is_within 1 1000 (length us) && are_different (map (λ u. string_bytes u.name) us) && is_within 0 256 (length (in_order names))) (map-map (λ (a : Account). a.tenant) account_of us)

within : (low high n : ℕ) → low ≤ n → n ≤ high → is_within low high n ≡ true
within low high n a b = grind (arith, nat_tests)

up-to : (high n : ℕ) → leb n high ≡ is_within 0 high n
up-to high n = grind (arith, nat_tests)

within-parts : (low high n : ℕ) → is_within low high n ≡ true → (low ≤ n) × (n ≤ high)
within-parts low high n h = grind (arith, nat_tests)

pub same-count : (d : Bool) (n m : ℕ) → MatchBool d (n ≡ m) (n < m) → n ≡ m → d ≡ true
same-count true n m h e = refl
same-count false n m h e = absurd (omega (arith, h, e))

pub other-count : (d : Bool) (n m : ℕ) → MatchBool d (n ≡ m) (n < m) → (n ≡ m → ⊥) → d ≡ false
other-count true n m h e = absurd (e h)
other-count false n m h e = refl

and-false : (a b : Bool) → (a && false && b) ≡ false
and-false true b = refl
and-false false b = refl

pub some-there : (b : Bool) (n : ℕ) → b ≡ (n == 0) → b ≡ false → 1 ≤ n
some-there b n h e = grind (arith, nat_tests)

-- a name stands twice
pub users-twice : (us : List User) → (length (in_order (map (λ u. string_bytes u.name) us)) ≡ length us → ⊥) → false ≡ are_users (map account_of us)
users-twice us other =
    let names : List (List ℕ) = map (λ u. string_bytes u.name) us in
    let twice : are_different names ≡ false = other-count (are_different names) _ _ (different-counted names) (λ e. other (e ∙ length-map us (λ u. string_bytes u.name))) in
    sym (asked us ∙ ap (λ d. is_within 1 1000 (length us) && d && is_within 0 256 (length (in_order (map (λ u. string_bytes u.tenant) us)))) twice ∙ and-false _ _)

-- no name does
pub users-once : (us : List User) (tenants : ℕ) → 1 ≤ length us → length us ≤ 1000 → length (in_order (map (λ u. string_bytes u.name) us)) ≡ length us
    → tenants ≡ length (in_order (map (λ u. string_bytes u.tenant) us)) → leb tenants 256 ≡ are_users (map account_of us)
users-once us tenants some few as-many is =
    let names : List (List ℕ) = map (λ u. string_bytes u.name) us in
    let once : are_different names ≡ true = same-count (are_different names) _ _ (different-counted names) (as-many ∙ sym (length-map us (λ u. string_bytes u.name))) in
    let right : together us ≡ is_within 0 256 (length (in_order (map (λ u. string_bytes u.tenant) us))) =
    ap (λ w. w && are_different names && is_within 0 256 (length (in_order (map (λ u. string_bytes u.tenant) us)))) (within 1 1000 (length us) some few)
    ∙ ap (λ d. d && is_within 0 256 (length (in_order (map (λ u. string_bytes u.tenant) us)))) once in
    ap (λ n. leb n 256) is ∙ up-to 256 _ ∙ sym (asked us ∙ right)

three : (a b c : Bool) → (a && b && c) ≡ true → (a ≡ true) × (b ≡ true) × (c ≡ true)
three true true true h = (refl, refl, refl)
three false b c h = absurd (false≢true h)
three true false c h = absurd (false≢true h)
three true true false h = absurd (false≢true h)

-- what a broker's settings ask of users
pub users-fit : (us : List User) → are_users (map account_of us) ≡ true
    → (1 ≤ length us) × (length us ≤ 1000) × (are_different (map (λ u. string_bytes u.name) us) ≡ true) × (length (in_order (map (λ u. string_bytes u.tenant) us)) ≤ 256)
users-fit us h =
    let (count, different, tenants) = three _ _ _ (sym (asked us) ∙ h) in
    let (some, few) = within-parts 1 1000 (length us) count in
    (some, few, different, (within-parts 0 256 _ tenants).1)
