-- A file that stands in a directory once is one owner's.
use Rattle.std.proofs.Common.{◌≡◌, ◌∙◌, ◌+◌, ℕ, zero, suc, Bool, true, false, cond, List, [], ◌∷◌, ◌++◌, Some, refl, sym, ap, arith}
use Rattle.std.specs.Prelude.{nat_eq}
use Rattle.std.specs.List.{AllByRecursion, Contains, IsDistinct}
use Rattle.std.specs.Map.{lookup, remove_entry}
use Rattle.std.specs.BTreeMap.{is_at}
use Rattle.std.specs.declared.alloc.Global.{Global}
use Rattle.std.specs.declared.vec.Vec.{Vec}
use Rattle.std.proofs.lemmas.Bool.{eqb-false}
use Rattle.std.proofs.lemmas.List.Elements.{All-contains, All-from_recursion, Contains-append_left, Contains-append_right}
use Rattle.std.proofs.lemmas.List.Sorted.{IsPermutation-sym, Contains-permutation}
use Rattle.kb_segment_log.proofs.Opened.{distinct_moved}
use Rattle.kb_opening.specs.Owners.{owner_cmp}
use Rattle.kb_opening.specs.Directory.{all_files, files_at, items_of, owned_in}
use Rattle.kb_opening.specs.Tenant.{IsOfTenant, tenant_in}
use Rattle.kb_opening.specs.declared.directory.Directory.{Directory}
use Rattle.kb_opening.specs.declared.owner.Owner.{Owner}
use Rattle.kb_opening.proofs.Entries.{owned_without}
use Rattle.kb_opening.proofs.Keys.{same_owner-decides}

-- ---- two lists without an item in common

each_part : (P : ℕ → Type 0) (xs ys : List ℕ) → AllByRecursion P (xs ++ ys) → AllByRecursion P xs × AllByRecursion P ys
each_part P [] ys all = (tt, all)
each_part P (x ∷ xs) ys all = let rest = each_part P xs ys all.1 in ((all.0, rest.0), rest.1)

pub distinct_parts : (xs ys : List ℕ) → IsDistinct nat_eq (xs ++ ys) → IsDistinct nat_eq xs × IsDistinct nat_eq ys × ((n : ℕ) → Contains xs n → Contains ys n → ⊥)
unfolding IsDistinct
distinct_parts [] ys d = (tt, d, λ n mine yours. absurd (omega (arith, mine.1)))
distinct_parts (x ∷ xs) ys d =
    let rest = distinct_parts xs ys d.1 in
    let both = each_part (λ y. nat_eq x y ≡ false) xs ys d.0 in
    ((both.0, rest.0), rest.1, apart both.1 rest.2)
  where
    apart : AllByRecursion (λ y. nat_eq x y ≡ false) ys → ((n : ℕ) → Contains xs n → Contains ys n → ⊥) → (n : ℕ) → Contains (x ∷ xs) n → Contains ys n → ⊥
    apart first rest n (zero, lt, is) yours = eqb-false x n (All-contains (λ y. nat_eq x y ≡ false) ys n (All-from_recursion (λ y. nat_eq x y ≡ false) ys first) yours) is
    apart first rest n (suc k, lt, is) yours = rest n (k, omega (arith, lt), is) yours

-- ---- the files of an owner

abbrev Files : Type 0
Files = List (Owner × Vec ℕ Global)

pub in_owned : (o : Owner) (es : Files) (file : ℕ) → Contains (items_of (lookup (is_at (owner_cmp o)) es)) file → Contains (owned_in es) file
in_owned o es file has =
    let test = is_at (owner_cmp o) in
    Contains-permutation _ (owned_in es) file (IsPermutation-sym _ _ (owned_without test es)) (Contains-append_left (items_of (lookup test es)) (owned_in (remove_entry test es)) file has)

-- they stand in the directory
pub listed_at : (o : Owner) (d : Directory) (file : ℕ) → Contains (files_at o d) file → Contains (all_files d) file
listed_at o d file has = Contains-append_left (owned_in d.owned.entries) d.strays.items file (in_owned o d.owned.entries file has)

-- and not in the entry of another owner
beside : (a b : Owner) → (a ≡ b → ⊥) → (e : Owner × Vec ℕ Global) (es : Files) (file : ℕ) (x y : Bool) → is_at (owner_cmp a) e.0 ≡ x → is_at (owner_cmp b) e.0 ≡ y
    → (Contains (items_of (lookup (is_at (owner_cmp b)) es)) file → Contains (owned_in (remove_entry (is_at (owner_cmp a)) es)) file)
    → Contains (items_of (cond y (Some e.1) (lookup (is_at (owner_cmp b)) es))) file → Contains (owned_in (cond x es (e ∷ remove_entry (is_at (owner_cmp a)) es))) file
beside a b ne e es file true true p q rest has = absurd (ne ((same_owner-decides a e.0).0 p ∙ sym ((same_owner-decides b e.0).0 q)))
beside a b ne e es file true false p q rest has = in_owned b es file has
beside a b ne e es file false true p q rest has = Contains-append_left e.1.items (owned_in (remove_entry (is_at (owner_cmp a)) es)) file has
beside a b ne e es file false false p q rest has = Contains-append_right e.1.items (owned_in (remove_entry (is_at (owner_cmp a)) es)) file (rest has)

in_others : (a b : Owner) → (a ≡ b → ⊥) → (es : Files) (file : ℕ) → Contains (items_of (lookup (is_at (owner_cmp b)) es)) file → Contains (owned_in (remove_entry (is_at (owner_cmp a)) es)) file
in_others a b ne [] file has = absurd (omega (arith, has.1))
in_others a b ne (e ∷ es) file has = beside a b ne e es file (is_at (owner_cmp a) e.0) (is_at (owner_cmp b) e.0) refl refl (in_others a b ne es file) has

-- no file is of two owners
pub owners_apart : (d : Directory) → IsDistinct nat_eq (all_files d) → (a b : Owner) → (a ≡ b → ⊥) → (file : ℕ) → Contains (files_at a d) file → Contains (files_at b d) file → ⊥
owners_apart d once a b ne file mine yours =
    let test = is_at (owner_cmp a) in
    let es = d.owned.entries in
    let owned = (distinct_parts (owned_in es) d.strays.items once).0 in
    let both = distinct_parts (items_of (lookup test es)) (owned_in (remove_entry test es)) (distinct_moved (owned_in es) (items_of (lookup test es) ++ owned_in (remove_entry test es)) (owned_without test es) owned) in
    both.2 file mine (in_others a b ne es file yours)

-- nor of two tenants
pub tenants_apart : (d : Directory) → IsDistinct nat_eq (all_files d) → (t u file : ℕ) → IsOfTenant d t file → IsOfTenant d u file → (t ≡ u → ⊥) → ⊥
tenants_apart d once t u file a b ne = owners_apart d once a.owner b.owner (λ e. ne (sym a.mine ∙ ap tenant_in e ∙ b.mine)) file a.has b.has
