-- Of all files of a store those are a tenant's whose headers name its logs.
use Rattle.std.proofs.Common.{◌≡◌, ◌∙◌, ◌∷◌, ℕ, zero, suc, Bool, true, false, cond, List, [], Option, Some, None, sym, ap, subst, refl, arith}
use Rattle.std.specs.Prelude.{IsSome, nat_eq}
use Rattle.std.specs.FinMap.{get}
use Rattle.std.specs.List.{AllByRecursion, Contains, IsDistinct, filter}
use Rattle.std.proofs.lemmas.List.Elements.{All-contains, Contains-append_right, filter_passes}
use Rattle.std.proofs.lemmas.Map.Keys.{IsDistinct-cons, IsDistinct-head, IsDistinct-tail}
use Rattle.kb_store.specs.Disk.{Files}
use Rattle.kb_segment.specs.Header.{Header}
use Rattle.kb_opening.specs.Owners.{says, is_of_catalog, is_of_partition, catalog_of, partition_of}
use Rattle.kb_loss.specs.Since.{AreBelow, AreOf, made_from}
use Rattle.kb_loss.specs.Tenant.{AreOfTenant}
use Rattle.kb_loss.proofs.Fronts.{le_not}
use Rattle.kb_loss.proofs.Headers.{nothing_said}

in_filter : (p : ℕ → Bool) (xs : List ℕ) (x : ℕ) → Contains xs x → p x ≡ true → Contains (filter p xs) x
in_filter p [] x has q = absurd (omega (arith, has.1))
in_filter p (y ∷ ys) x (zero, lt, is) q = subst (λ b. Contains (cond b (y ∷ filter p ys) (filter p ys)) x) (sym (ap p is ∙ q)) (0, omega arith, is)
in_filter p (y ∷ ys) x (suc k, lt, is) q =
    let rest = in_filter p ys x (k, omega (arith, lt), is) q in
    elim (p y) as (λ b. Contains (cond b (y ∷ filter p ys) (filter p ys)) x) [
      | true ↦ Contains-append_right (y ∷ []) (filter p ys) x rest
      | false ↦ rest
    ]

apart_filter : (p : ℕ → Bool) (x : ℕ) (ys : List ℕ) → AllByRecursion (λ y. nat_eq x y ≡ false) ys → AllByRecursion (λ y. nat_eq x y ≡ false) (filter p ys)
apart_filter p x [] a = a
apart_filter p x (y ∷ ys) a = each (p y) (apart_filter p x ys a.1)
  where
    each : (b : Bool) → AllByRecursion (λ z. nat_eq x z ≡ false) (filter p ys) → AllByRecursion (λ z. nat_eq x z ≡ false) (cond b (y ∷ filter p ys) (filter p ys))
    each true r = (a.0, r)
    each false r = r

distinct_filter : (p : ℕ → Bool) (xs : List ℕ) → IsDistinct nat_eq xs → IsDistinct nat_eq (filter p xs)
distinct_filter p [] d = d
distinct_filter p (x ∷ xs) d = by (p x) (distinct_filter p xs (IsDistinct-tail nat_eq x xs d))
  where
    by : (b : Bool) → IsDistinct nat_eq (filter p xs) → IsDistinct nat_eq (cond b (x ∷ filter p xs) (filter p xs))
    by true r = IsDistinct-cons nat_eq x (filter p xs) (apart_filter p x xs (IsDistinct-head nat_eq x xs d)) r
    by false r = r

some_said : (files : Files) (test : Header → Bool) (n : ℕ) (o : Option (List ℕ)) → get files n ≡ o → says files test n ≡ true → IsSome o
some_said files test n None is said = absurd (nothing_said files test n is said)
some_said files test n (Some bytes) is said = refl

module _ (files : Files) (numbers : List ℕ) (apart : IsDistinct nat_eq numbers) (all : (n : ℕ) → IsSome (get files n) → Contains numbers n) where
  filtered : (test : Header → Bool) → AreOf files test (filter (says files test) numbers)
  filtered test = record {
    passes = λ n has. All-contains (λ m. says files test m ≡ true) (filter (says files test) numbers) n (filter_passes (says files test) numbers) has;
    all = λ n said. in_filter (says files test) numbers n (all n (some_said files test n (get files n) refl said)) said;
    once = distinct_filter (says files test) numbers apart;
  }

pub named_owners : (files : Files) (numbers name : List ℕ) → IsDistinct nat_eq numbers → ((n : ℕ) → IsSome (get files n) → Contains numbers n) → AreOfTenant files name (record { catalog = λ g. catalog_of files name g numbers; partition = λ i p. partition_of files name i p numbers })
named_owners files numbers name apart all = record {
  catalog = λ g. filtered files numbers apart all (is_of_catalog name g);
  partition = λ i p. filtered files numbers apart all (is_of_partition name i p);
}

-- its files have numbers below those that were given out since
pub commit_old : (files : Files) (test : Header → Bool) (numbers : List ℕ) → AreOf files test numbers → (next : ℕ) → AreBelow next files → (grown : ℕ → Bool) (n : ℕ) → Contains numbers n → (made_from next grown).made n ≡ false
commit_old files test numbers of next below grown n mine = le_not next n (below n (some_said files test n (get files n) refl (of.passes n mine)))
