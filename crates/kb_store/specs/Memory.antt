-- The disk that a store in memory is.
use Rattle.std.specs.Prelude.{◌≡◌, ℕ, Bool, true, false, List, [], ◌∷◌, map, length, cond, Option, Some, option_map, unwrap_or, ◌<◌, ◌≤◌}
use Rattle.std.proofs.Common.{refl, sym, ap, ◌∙◌, subst, lit<, arith}
use Rattle.std.specs.Ordering.{nat_cmp, eq_by_cmp}
use Rattle.std.specs.Cmp.{nat_cmp_total}
use Rattle.std.specs.FinMap.{from_entries, get, find, get-from_entries}
use Rattle.std.specs.declared.vec.Vec.{Vec}
use Rattle.kb_store.specs.Disk.{Disk, IsLawfulDisk}

-- The entries with their values seen by h
abbrev pub seen_as : {V X : Type 0} → (V → X) → List (ℕ × V) → List (ℕ × X)
seen_as h entries = map (λ e. (e.0, h e.1)) entries

-- What is kept, as numbers and bytes
abbrev pub pairs_of : {A : Type 0} → List (ℕ × Vec ℕ A) → List (ℕ × List ℕ)
pairs_of entries = seen_as (λ v. v.items) entries

-- Numbers and lengths.
abbrev pub lens_of : {A : Type 0} → List (ℕ × Vec ℕ A) → List (ℕ × ℕ)
lens_of entries = seen_as (λ v. length v.items) entries

-- What is kept, as a disk: always honest, and it never fails.
abbrev pub memory_disk : {A : Type 0} → List (ℕ × Vec ℕ A) → Disk
memory_disk es = record { table = from_entries (lens_of es); files = from_entries (pairs_of es); honest = Unit {0}; failures = 0 }

option_map-cond : {X Y : Type 0} (h : X → Y) (b : Bool) (x : X) (o : Option X)
    → option_map h (cond b (Some x) o) ≡ cond b (Some (h x)) (option_map h o)
option_map-cond h true x o = refl
option_map-cond h false x o = refl

pub find_twice : {V X Y : Type 0} (h : V → X) (k : X → Y) (es : List (ℕ × V)) (q : ℕ)
    → find nat_cmp q (seen_as (λ v. k (h v)) es) ≡ option_map k (find nat_cmp q (seen_as h es))
find_twice h k [] q = refl
find_twice h k (e ∷ es) q = ap (λ o. cond (eq_by_cmp nat_cmp q e.0) (Some (k (h e.1))) o) (find_twice h k es q)
    ∙ sym (option_map-cond k (eq_by_cmp nat_cmp q e.0) (h e.1) (find nat_cmp q (seen_as h es)))

pub is_table_of_pairs : {A : Type 0} (es : List (ℕ × Vec ℕ A)) → (q : ℕ)
    → get (from_entries {R = nat_cmp} (lens_of es)) q ≡ option_map length (get (from_entries {R = nat_cmp} (pairs_of es)) q)
is_table_of_pairs es q = get-from_entries nat_cmp_total (lens_of es) q ∙ find_twice (λ v. v.items) length es q
    ∙ sym (ap (option_map length) (get-from_entries nat_cmp_total (pairs_of es) q))

-- A vector's length fits.
pub vec_fits : {A : Type 0} (v : Vec ℕ A) → length v.items < 18446744073709551616
vec_fits v =
    let small : v.cap < 9223372036854775808 = v.small in
    let len : v.len ≡ length v.items = v.ok.0 in
    let fits : v.len ≤ v.cap = v.ok.1 in
    omega arith

either_fits : (b : Bool) (n : ℕ) (o : Option ℕ) → n < 18446744073709551616 → unwrap_or o 0 < 18446744073709551616
    → unwrap_or (cond b (Some n) o) 0 < 18446744073709551616
either_fits true n o a h = a
either_fits false n o a h = h

found_fits : {A : Type 0} (es : List (ℕ × Vec ℕ A)) (q : ℕ) → unwrap_or (find nat_cmp q (lens_of es)) 0 < 18446744073709551616
found_fits [] q = lit< tt
found_fits (e ∷ es) q =
    either_fits (eq_by_cmp nat_cmp q e.0) (length e.1.items) (find nat_cmp q (lens_of es)) (vec_fits e.1) (found_fits es q)

pub lens_fit : {A : Type 0} (es : List (ℕ × Vec ℕ A)) (q : ℕ)
    → unwrap_or (get (from_entries {R = nat_cmp} (lens_of es)) q) 0 < 18446744073709551616
lens_fit es q = subst (λ o. unwrap_or o 0 < 18446744073709551616) (sym (get-from_entries nat_cmp_total (lens_of es) q)) (found_fits es q)

pub memory_lawful : {A : Type 0} (es : List (ℕ × Vec ℕ A)) → IsLawfulDisk (memory_disk es)
memory_lawful es = record { lengths = λ h q. is_table_of_pairs es q; fits = λ q. lens_fit es q }
