-- Limits of tenants.
use Rattle.std.proofs.Common.{◌≡◌, ◌≤◌, ◌<◌, ◌+◌, ℕ, Bool, true, false, not, ◌&&◌, nat_lt, cond, List, [], ◌∷◌, map, length, Option, Some, None, option_map, refl, sym, ap, subst, ◌∙◌, arith, string_bytes}
use Rattle.std.specs.Prelude.{IsTrue, if◌then◌else◌, option_and_then}
use Rattle.toml.specs.Data.{Data, array, Items}
use Rattle.kb_settings.specs.Document.{all_limits, checked_limits, tenants_in}
use Rattle.std.specs.Borrow.{Bor}
use Rattle.std.proofs.Math.ListN.{length-map}
use Rattle.std.proofs.lemmas.Simd.{map-map}
use Rattle.std.proofs.lemmas.Bool.{false≢true}
use Rattle.std.proofs.lemmas.Bool.Decides.{nat_tests}
use Rattle.std.specs.List.{list_all, list_any, find, fold, sum_by}
use Rattle.std.specs.Str.{bytes_eq}
use Rattle.kb_settings.specs.Settings.{is_within, are_different}
use Rattle.kb_settings.specs.Names.{in_order}
use Rattle.kb_settings.specs.Limits.{Limits, limits_in, is_allowed, are_limits}
use Rattle.kb_settings.specs.Values.{Account, account_of}
use Rattle.kb_settings.specs.declared.settings.User.{User}
use Rattle.kb_settings.specs.declared.tenant_limits.TenantLimits.{TenantLimits}
use Rattle.kb_settings.proofs.NamesInOrder.{any-map, different-counted}
use Rattle.kb_settings.proofs.Entries.{same-count, other-count}

-- 1. The users' tenants

pub any_tenant : (name : List ℕ) (us : List User) → list_any (bytes_eq name) (map (λ u. string_bytes u.tenant) us) ≡ list_any (λ u. bytes_eq name (string_bytes u.tenant)) us
any_tenant name us = any-map (λ u. string_bytes u.tenant) (bytes_eq name) us

names_of_users : (us : List User) → map (λ u. string_bytes u.tenant) us ≡ map (λ a. a.tenant) (map account_of us)
names_of_users us = sym (map-map (λ (a : Account). a.tenant) account_of us)

-- 2. Limits by name

find_limits : (name : List ℕ) (ts : List TenantLimits) → find (λ t. bytes_eq t.name name) (map limits_in ts) ≡ option_map limits_in (find (λ t. bytes_eq (string_bytes t.name) name) ts)
find_limits name [] = refl
find_limits name (t ∷ ts) =
    elim (bytes_eq (string_bytes t.name) name) as (λ b. cond b (Some (limits_in t)) (find (λ t. bytes_eq t.name name) (map limits_in ts)) ≡ option_map limits_in (cond b (Some t) (find (λ t. bytes_eq (string_bytes t.name) name) ts))) [
      | true ↦ refl
      | false ↦ find_limits name ts
    ]

pub found_limits : (name : List ℕ) (ts : List TenantLimits) (r : Option (Bor TenantLimits)) → option_map (λ t. t.now) r ≡ find (λ t. bytes_eq (string_bytes t.name) name) ts → option_map (λ t. limits_in t.now) r ≡ find (λ t. bytes_eq t.name name) (map limits_in ts)
found_limits name ts None e = ap (option_map limits_in) e ∙ sym (find_limits name ts)
found_limits name ts (Some t) e = ap (option_map limits_in) e ∙ sym (find_limits name ts)

both : (a b : Bool) → (a && b) ≡ true → (a ≡ true) × (b ≡ true)
both true true h = (refl, refl)
both true false h = absurd (false≢true h)
both false b h = absurd (false≢true h)

not-below : (a b : ℕ) → not (nat_lt a b) ≡ true → b ≤ a
not-below a b h = grind (arith, nat_tests)

allowed-most : (connections : ℕ) (names : List (List ℕ)) (t : Limits) → is_allowed connections names t ≡ true → t.connections ≤ connections
allowed-most connections names t h = not-below connections t.connections (both _ _ h).0

same-some : {A : Type 0} (x y : A) → Some x ≡ Some y → x ≡ y
same-some x y e = cc

-- what is found among allowed limits is allowed
found-within : (connections : ℕ) (names : List (List ℕ)) (test : Limits → Bool) (ts : List Limits) (t : Limits)
    → list_all (is_allowed connections names) ts ≡ true → find test ts ≡ Some t → t.connections ≤ connections
found-within connections names test [] t all is = absurd cc
found-within connections names test (u ∷ ts) t all is =
    let (here, there) = both (is_allowed connections names u) _ all in
    elim (test u) as (λ b. cond b (Some u) (find test ts) ≡ Some t → t.connections ≤ connections) [
      | true ↦ λ e. subst (λ (x : Limits). x.connections ≤ connections) (same-some u t e) (allowed-most connections names u here)
      | false ↦ λ e. found-within connections names test ts t there e
    ] is

three : (a b c d : Bool) → (a && b && c && d) ≡ true → c ≡ true
three a b true d h = refl
three true true false d h = absurd (false≢true h)
three true false false d h = absurd (false≢true h)
three false b false d h = absurd (false≢true h)

pub found_allowed : (connections : ℕ) (names : List (List ℕ)) (test : Limits → Bool) (ts : List Limits) (t : Limits)
    → IsTrue (are_limits connections names ts) → find test ts ≡ Some t → t.connections ≤ connections
found_allowed connections names test ts t fit is = found-within connections names test ts t (three (is_within 0 256 (length ts)) (are_different (map (λ t. t.name) ts)) _ _ fit) is

-- 3. Limits together

all-limits : (p : Limits → Bool) (ts : List TenantLimits) → list_all p (map limits_in ts) ≡ list_all (λ t. p (limits_in t)) ts
all-limits p [] = refl
all-limits p (t ∷ ts) = ap (λ b. p (limits_in t) && b) (all-limits p ts)

sum-from : (n : ℕ) (ts : List TenantLimits) → fold (λ a (t : Limits). a + t.reserved_connections) n (map limits_in ts) ≡ fold (λ a (t : TenantLimits). a + t.reserved_connections) n ts
sum-from n [] = refl
sum-from n (t ∷ ts) = sum-from (n + t.reserved_connections) ts

-- what is asked of limits, over the limits themselves
abbrev pub together : ℕ → List (List ℕ) → List TenantLimits → Bool
together connections names ts =
    is_within 0 256 (length ts) && are_different (map (λ t. string_bytes t.name) ts)
    && list_all (λ t. is_allowed connections names (limits_in t)) ts
    && nat_lt (sum_by (λ t. t.reserved_connections) ts) connections

four : {a b c d e f g h : Bool} → a ≡ e → b ≡ f → c ≡ g → d ≡ h → (a && b && c && d) ≡ (e && f && g && h)
four p q r s = cc

pub asked : (connections : ℕ) (names : List (List ℕ)) (ts : List TenantLimits) → are_limits connections names (map limits_in ts) ≡ together connections names ts
asked connections names ts = four (ap (is_within 0 256) (length-map ts limits_in)) (ap are_different (map-map (λ (t : Limits). t.name) limits_in ts)) (all-limits (is_allowed connections names) ts) (ap (λ n. nat_lt n connections) (sum-from 0 ts))

first-false : (a b c d : Bool) → a ≡ false → false ≡ (a && b && c && d)
first-false false b c d e = refl
first-false true b c d e = absurd (false≢true (sym e))

second-false : (a b c d : Bool) → b ≡ false → false ≡ (a && b && c && d)
second-false a true c d e = absurd (false≢true (sym e))
second-false true false c d e = refl
second-false false false c d e = refl

above : (high n : ℕ) → high < n → is_within 0 high n ≡ false
above high n h = grind (arith, nat_tests)

up-to : (high n : ℕ) → n ≤ high → is_within 0 high n ≡ true
up-to high n h = grind (arith, nat_tests)

-- they are too many
pub limits_many : (connections : ℕ) (names : List (List ℕ)) (ts : List TenantLimits) → 256 < length ts → false ≡ are_limits connections names (map limits_in ts)
limits_many connections names ts h = first-false _ _ _ _ (above 256 (length ts) h) ∙ sym (asked connections names ts)

-- a name stands twice
pub limits_twice : (connections : ℕ) (names : List (List ℕ)) (ts : List TenantLimits) → (length (in_order (map (λ t. string_bytes t.name) ts)) ≡ length ts → ⊥) → false ≡ are_limits connections names (map limits_in ts)
limits_twice connections names ts other =
    let all : List (List ℕ) = map (λ t. string_bytes t.name) ts in
    let twice : are_different all ≡ false = other-count (are_different all) _ _ (different-counted all) (λ e. other (e ∙ length-map ts (λ t. string_bytes t.name))) in
    second-false (is_within 0 256 (length ts)) _ _ _ twice ∙ sym (asked connections names ts)

both-true : (a b c d : Bool) → a ≡ true → b ≡ true → (c && d) ≡ (a && b && c && d)
both-true true true c d p q = refl
both-true false b c d p q = absurd (false≢true p)
both-true true false c d p q = absurd (false≢true q)

-- no name does
pub limits_once : (connections : ℕ) (names : List (List ℕ)) (ts : List TenantLimits) (a b : Bool) → a ≡ list_all (λ t. is_allowed connections names (limits_in t)) ts
    → b ≡ nat_lt (sum_by (λ t. t.reserved_connections) ts) connections → length ts ≤ 256 → length (in_order (map (λ t. string_bytes t.name) ts)) ≡ length ts
    → (a && b) ≡ are_limits connections names (map limits_in ts)
limits_once connections names ts a b allowed leaves few as-many =
    let all : List (List ℕ) = map (λ t. string_bytes t.name) ts in
    let once : are_different all ≡ true = same-count (are_different all) _ _ (different-counted all) (as-many ∙ sym (length-map ts (λ t. string_bytes t.name))) in
    ap (λ l. l && b) allowed
    ∙ ap (λ n. list_all (λ t. is_allowed connections names (limits_in t)) ts && n) leaves
    ∙ both-true (is_within 0 256 (length ts)) (are_different all) _ _ (up-to 256 (length ts) few) once
    ∙ sym (asked connections names ts)

-- 4. What a document says of them

pub limits_right : (connections : ℕ) (us : List User) (v : Data) (entries : Items) (ts : List Limits) → v ≡ array entries → all_limits connections entries ≡ Some ts
    → are_limits connections (map (λ u. string_bytes u.tenant) us) ts ≡ true → Some ts ≡ tenants_in connections (map account_of us) v
limits_right connections us v entries ts is all right =
    let checks = λ (names : List (List ℕ)). option_and_then (checked_limits connections names) (all_limits connections entries) in
    ap (λ b. if b then Some ts else None) (sym right)
    ∙ ap (option_and_then (checked_limits connections (map (λ u. string_bytes u.tenant) us))) (sym all)
    ∙ ap checks (names_of_users us)
    ∙ ap (tenants_in connections (map account_of us)) (sym is)

pub limits_wrong : (connections : ℕ) (us : List User) (v : Data) (entries : Items) (ts : List Limits) → v ≡ array entries → all_limits connections entries ≡ Some ts
    → are_limits connections (map (λ u. string_bytes u.tenant) us) ts ≡ false → None ≡ tenants_in connections (map account_of us) v
limits_wrong connections us v entries ts is all wrong =
    let checks = λ (names : List (List ℕ)). option_and_then (checked_limits connections names) (all_limits connections entries) in
    ap (λ b. if b then Some ts else None) (sym wrong)
    ∙ ap (option_and_then (checked_limits connections (map (λ u. string_bytes u.tenant) us))) (sym all)
    ∙ ap checks (names_of_users us)
    ∙ ap (tenants_in connections (map account_of us)) (sym is)
