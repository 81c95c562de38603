-- What was taken out, and what is left.
use Rattle.std.proofs.Common.{◌≡◌, ◌≤◌, ◌+◌, ℕ, zero, suc, List, [], ◌∷◌, ◌++◌, length, length-append, false, inl, inr, subst, arith}
use Rattle.std.specs.Prelude.{nat_eq, ◌↔◌, ◌⊎◌}
use Rattle.std.specs.List.{All, AllByRecursion, Contains, IsDistinct}
use Rattle.std.proofs.lemmas.Bool.{eqb-false}
use Rattle.std.proofs.lemmas.List.{get_or_append_left, get_or-append-add}
use Rattle.std.proofs.lemmas.List.Elements.{All-contains, All-from_recursion, Contains-append_cases, Contains-append_left, Contains-append_right}
use Rattle.std.proofs.lemmas.List.Sorted.{IsPermutation-sym, All-permutation, Contains-permutation}
use Rattle.kb_store.specs.Disk.{Disk}
use Rattle.kb_segment_log.proofs.Opened.{distinct_moved}
use Rattle.kb_opening.specs.Directory.{all_files, TakesOut}
use Rattle.kb_opening.specs.Tenant.{AreListed, RaisesNext}
use Rattle.kb_opening.specs.declared.directory.Directory.{Directory}
use Rattle.kb_opening.specs.declared.owner.Owner.{Owner}

pub all_parts : (P : ℕ → Type 0) (xs ys : List ℕ) → All P (xs ++ ys) → All P xs × All P ys
all_parts P xs ys all =
    let len : length (xs ++ ys) ≡ length xs + length ys = length-append xs ys in (
      λ k d lt. subst P (get_or_append_left xs ys d k lt) (all k d (omega arith)),
      λ k d lt. subst P (get_or-append-add xs ys k d) (all (length xs + k) d (omega arith)),
    )

each_part : (P : ℕ → Type 0) (xs ys : List ℕ) → AllByRecursion P (xs ++ ys) → AllByRecursion P xs × AllByRecursion P ys
each_part P [] ys all = (tt, all)
each_part P (x ∷ xs) ys all = let rest = each_part P xs ys all.1 in ((all.0, rest.0), rest.1)

pub distinct_parts : (xs ys : List ℕ) → IsDistinct nat_eq (xs ++ ys) → IsDistinct nat_eq xs × IsDistinct nat_eq ys × ((n : ℕ) → Contains xs n → Contains ys n → ⊥)
unfolding IsDistinct
distinct_parts [] ys d = (tt, d, λ n mine yours. absurd (omega (arith, mine.1)))
distinct_parts (x ∷ xs) ys d =
    let rest = distinct_parts xs ys d.1 in
    let both = each_part (λ y. nat_eq x y ≡ false) xs ys d.0 in
    ((both.0, rest.0), rest.1, apart both.1 rest.2)
  where
    apart : AllByRecursion (λ y. nat_eq x y ≡ false) ys → ((n : ℕ) → Contains xs n → Contains ys n → ⊥) → (n : ℕ) → Contains (x ∷ xs) n → Contains ys n → ⊥
    apart first rest n (zero, lt, is) yours = eqb-false x n (All-contains (λ y. nat_eq x y ≡ false) ys n (All-from_recursion (λ y. nat_eq x y ≡ false) ys first) yours) is
    apart first rest n (suc k, lt, is) yours = rest n (k, omega (arith, lt), is) yours

-- what holds of each file
pub all_taken : (P : ℕ → Type 0) (owner : Owner) (old new : Directory) (taken : List ℕ) → TakesOut owner old taken new → All P (all_files old) → All P taken × All P (all_files new)
all_taken P owner old new taken takes all = all_parts P taken (all_files new) (All-permutation P (all_files old) (taken ++ all_files new) takes.all all)

pub taken_or_left : (owner : Owner) (old new : Directory) (taken : List ℕ) → TakesOut owner old taken new → (file : ℕ) → Contains (all_files old) file ↔ (Contains taken file ⊎ Contains (all_files new) file)
taken_or_left owner old new taken takes file = (
  λ was. Contains-append_cases taken (all_files new) file (Contains-permutation (all_files old) (taken ++ all_files new) file takes.all was),
  λ is. Contains-permutation (taken ++ all_files new) (all_files old) file (IsPermutation-sym (all_files old) (taken ++ all_files new) takes.all)
      (elim is [ inl here ↦ Contains-append_left taken (all_files new) file here | inr there ↦ Contains-append_right taken (all_files new) file there ]),
)

pub taken_apart : (owner : Owner) (old new : Directory) (taken : List ℕ) → TakesOut owner old taken new → IsDistinct nat_eq (all_files old)
    → IsDistinct nat_eq taken × IsDistinct nat_eq (all_files new) × ((file : ℕ) → Contains taken file → Contains (all_files new) file → ⊥)
taken_apart owner old new taken takes d = distinct_parts taken (all_files new) (distinct_moved (all_files old) (taken ++ all_files new) takes.all d)

-- ---- where the next number rises

pub listed_later : (dir : Directory) (disk : Disk) (next later : ℕ) → AreListed dir disk next → next ≤ later → AreListed dir disk later
listed_later dir disk next later listed le = record {
  there = listed.there;
  given_out = λ k none lt. let below = listed.given_out k none lt in omega (arith, below, le);
  once = listed.once;
}

pub raised_twice : (first next last : ℕ) → RaisesNext first next → RaisesNext next last → RaisesNext first last
raised_twice first next last once again =
    let a = once.later in
    let b = again.later in
    let c = once.room in
    let d = again.room in
    record { later = omega (arith, a, b); room = omega (arith, c, d) }
