-- The files of a topic's partitions are taken out one list after another.
use Rattle.std.proofs.Common.{◌≡◌, ◌≢◌, ◌∙◌, ◌<◌, ◌+◌, ◌++◌, inl, inr, ⊎_elim, ℕ, zero, suc, List, [], ◌∷◌, Some, refl, sym, ap, subst, arith, length, length-append, append_assoc, append-nil}
use Rattle.std.specs.Prelude.{slice_get, nat_eq, IsPermutation}
use Rattle.std.specs.List.{All, Contains, IsDistinct}
use Rattle.std.specs.BTreeMap.{is_at}
use Rattle.std.specs.declared.alloc.Global.{Global}
use Rattle.std.specs.declared.vec.Vec.{Vec}
use Rattle.std.proofs.lemmas.Bool.{cases_lt}
use Rattle.std.proofs.lemmas.Option.{same_Some}
use Rattle.std.proofs.lemmas.List.Elements.{All-contains, All-contains_itself, Contains-append_left, Contains-append_right}
use Rattle.std.proofs.lemmas.List.Sorted.{IsPermutation-sym, IsPermutation-trans, IsPermutation-append_right, Contains-permutation}
use Rattle.kb_store.specs.Disk.{Disk, IsThere}
use Rattle.kb_segment_log.proofs.Opened.{distinct_moved}
use Rattle.kb_opening.specs.Owners.{owner_cmp}
use Rattle.kb_opening.specs.Directory.{all_files, files_at, owned_in, TakesOut}
use Rattle.kb_opening.specs.Partition.{Lists, IsAmong, AreGiven}
use Rattle.kb_opening.specs.Tenant.{AreListed}
use Rattle.kb_opening.specs.Topics.{listed_numbers, TakesTopic}
use Rattle.kb_opening.specs.declared.directory.Directory.{Directory}
use Rattle.kb_opening.specs.declared.owner.Owner.{Owner}
use Rattle.kb_opening.specs.declared.owner.Owner.TheVariants as owners
use Rattle.kb_opening.proofs.Entries.{same_files, owned_without}
use Rattle.kb_opening.proofs.Openings.{item_at}
use Rattle.kb_opening.proofs.Taken.{distinct_parts}

-- ---- owners

pub same_number : (t i n p : ℕ) → owners.Partition t i n ≡ owners.Partition t i p → n ≡ p
same_number t i n p e = cc

pub same_instance : (t i j n p : ℕ) → owners.Partition t i n ≡ owners.Partition t j p → i ≡ j
same_instance t i j n p e = cc

-- ---- a file of a list

-- an owner's file stands in the directory
pub listed_at : (o : Owner) (d : Directory) (file : ℕ) → Contains (files_at o d) file → Contains (all_files d) file
listed_at o d file has =
    let test = is_at (owner_cmp o) in
    Contains-append_left (owned_in d.owned.entries) d.strays.items file
    (Contains-permutation _ (owned_in d.owned.entries) file (IsPermutation-sym _ _ (owned_without test d.owned.entries)) (Contains-append_left (files_at o d) _ file has))

pub in_numbers : (lists : Lists) (p : ℕ) (list : Vec ℕ Global) → slice_get lists p ≡ Some list → (file : ℕ) → Contains list.items file → Contains (listed_numbers lists) file
in_numbers [] p list at file has = absurd cc
in_numbers (l ∷ ls) zero list at file has = Contains-append_left l.items (listed_numbers ls) file (subst (λ (v : Vec ℕ Global). Contains v.items file) (sym (same_Some l list at)) has)
in_numbers (l ∷ ls) (suc p) list at file has = Contains-append_right l.items (listed_numbers ls) file (in_numbers ls p list at file has)

each_once : (lists : Lists) → IsDistinct nat_eq (listed_numbers lists) → (p : ℕ) (list : Vec ℕ Global) → slice_get lists p ≡ Some list → IsDistinct nat_eq list.items
each_once [] d p list at = absurd cc
each_once (l ∷ ls) d zero list at = subst (λ (v : Vec ℕ Global). IsDistinct nat_eq v.items) (same_Some l list at) (distinct_parts l.items (listed_numbers ls) d).0
each_once (l ∷ ls) d (suc p) list at = each_once ls (distinct_parts l.items (listed_numbers ls) d).1 p list at

lists_apart : (lists : Lists) → IsDistinct nat_eq (listed_numbers lists) → (p q : ℕ) (list other : Vec ℕ Global) → slice_get lists p ≡ Some list → slice_get lists q ≡ Some other → (p ≡ q → ⊥)
    → (file : ℕ) → Contains list.items file → Contains other.items file → ⊥
lists_apart [] d p q list other at there ne file has also = absurd cc
lists_apart (l ∷ ls) d zero zero list other at there ne file has also = ne refl
lists_apart (l ∷ ls) d zero (suc q) list other at there ne file has also =
    (distinct_parts l.items (listed_numbers ls) d).2 file (subst (λ (v : Vec ℕ Global). Contains v.items file) (sym (same_Some l list at)) has) (in_numbers ls q other there file also)
lists_apart (l ∷ ls) d (suc p) zero list other at there ne file has also =
    (distinct_parts l.items (listed_numbers ls) d).2 file (subst (λ (v : Vec ℕ Global). Contains v.items file) (sym (same_Some l other there)) also) (in_numbers ls p list at file has)
lists_apart (l ∷ ls) d (suc p) (suc q) list other at there ne file has also =
    lists_apart ls (distinct_parts l.items (listed_numbers ls) d).1 p q list other at there (λ e. ne (ap suc e)) file has also

numbers_more : (lists : Lists) (taken : Vec ℕ Global) → listed_numbers (lists ++ taken ∷ []) ≡ listed_numbers lists ++ taken.items
numbers_more [] taken = append-nil taken.items
numbers_more (l ∷ ls) taken = ap (λ ns. l.items ++ ns) (numbers_more ls taken) ∙ sym (append_assoc l.items (listed_numbers ls) taken.items)

-- ---- one list after another

module _ (t i n : ℕ) (old mid new : Directory) (lists : Lists) (taken : Vec ℕ Global) (so_far : TakesTopic t i n old lists mid) (takes : TakesOut (owners.Partition t i n) mid taken.items new) where
  count_more : length (lists ++ taken ∷ []) ≡ n + 1
  count_more = let count = so_far.count in omega (arith, count, length-append lists (taken ∷ []))

  files_more : (p : ℕ) (list : Vec ℕ Global) → slice_get (lists ++ taken ∷ []) p ≡ Some list → list.items ≡ files_at (owners.Partition t i p) old
  files_more p list at = ⊎_elim
      (λ was. so_far.files p list was)
      (λ (new : (p ≡ length lists) × (taken ≡ list)).
      ap (λ (v : Vec ℕ Global). v.items) (sym new.1) ∙ takes.files
      ∙ so_far.others (owners.Partition t i n) (λ q lt e. omega (arith, lt, same_number t i n q e))
      ∙ ap (λ q. files_at (owners.Partition t i q) old) (sym so_far.count ∙ sym new.0))
      (item_at lists taken list p at)

  none_more : (p : ℕ) → p < n + 1 → files_at (owners.Partition t i p) new ≡ []
  none_more p lt = elim (cases_lt p n) [
    | inl below ↦ takes.others (owners.Partition t i p) (λ e. omega (arith, below, same_number t i p n e)) ∙ so_far.none p below
    | inr above ↦ ap (λ q. files_at (owners.Partition t i q) new) (let is : p ≡ n = omega (arith, lt, above) in is) ∙ takes.none
  ]

  others_more : (o : Owner) → ((p : ℕ) → p < n + 1 → o ≢ owners.Partition t i p) → files_at o new ≡ files_at o old
  others_more o apart = takes.others o (apart n (omega arith)) ∙ so_far.others o (λ p lt. apart p (omega (arith, lt)))

  all_more : IsPermutation (all_files old) (listed_numbers (lists ++ taken ∷ []) ++ all_files new)
  all_more =
      IsPermutation-trans _ _ _ so_far.all
      (IsPermutation-trans _ _ _ (IsPermutation-append_right (listed_numbers lists) (all_files mid) (taken.items ++ all_files new) takes.all)
      (same_files (listed_numbers lists ++ (taken.items ++ all_files new)) (listed_numbers (lists ++ taken ∷ []) ++ all_files new)
      (sym (append_assoc (listed_numbers lists) taken.items (all_files new)) ∙ ap (λ ns. ns ++ all_files new) (sym (numbers_more lists taken)))))

  pub more_taken : (ls : Lists) → ls ≡ lists ++ taken ∷ [] → TakesTopic t i (n + 1) old ls new
  more_taken ls e = subst (λ (vs : Lists). TakesTopic t i (n + 1) old vs new) (sym e) record {
    count = count_more;
    files = files_more;
    none = none_more;
    others = others_more;
    strays = takes.strays ∙ so_far.strays;
    all = all_more;
  }

-- ---- what was taken

all_from : (P : ℕ → Type 0) (xs : List ℕ) → ((n : ℕ) → Contains xs n → P n) → All P xs
all_from P xs each = λ k d lt. each _ (All-contains_itself xs k d lt)

module _ (t i n : ℕ) (old new : Directory) (lists : Lists) (takes : TakesTopic t i n old lists new) where
  -- it stood there before
  pub stood : (file : ℕ) → IsAmong lists file → Contains (all_files old) file
  stood file o = Contains-permutation (listed_numbers lists ++ all_files new) (all_files old) file (IsPermutation-sym (all_files old) (listed_numbers lists ++ all_files new) takes.all)
      (Contains-append_left (listed_numbers lists) (all_files new) file (in_numbers lists o.number o.list o.at file o.has))

  -- so did what is left
  pub left_stood : (file : ℕ) → Contains (all_files new) file → Contains (all_files old) file
  left_stood file has = Contains-permutation (listed_numbers lists ++ all_files new) (all_files old) file (IsPermutation-sym (all_files old) (listed_numbers lists ++ all_files new) takes.all)
      (Contains-append_right (listed_numbers lists) (all_files new) file has)

  module _ (disk : Disk) (next : ℕ) (listed : AreListed old disk next) where
    apart : IsDistinct nat_eq (listed_numbers lists) × IsDistinct nat_eq (all_files new) × ((file : ℕ) → Contains (listed_numbers lists) file → Contains (all_files new) file → ⊥)
    apart = distinct_parts (listed_numbers lists) (all_files new) (distinct_moved (all_files old) (listed_numbers lists ++ all_files new) takes.all listed.once)

    -- it is not left
    pub not_left : (file : ℕ) → IsAmong lists file → Contains (all_files new) file → ⊥
    not_left file o left = apart.2 file (in_numbers lists o.number o.list o.at file o.has) left

    holds : (P : ℕ → Type 0) → All P (all_files old) → (p : ℕ) (list : Vec ℕ Global) → slice_get lists p ≡ Some list → All P list.items
    holds P all p list at = all_from P list.items (λ file has. All-contains P (all_files old) file all (stood file (record { number = p; list = list; at = at; has = has })))

    pub given : AreGiven lists disk next
    given = record {
      there = holds (λ file. IsThere disk file) listed.there;
      given_out = holds (λ file. file < next) listed.given_out;
      once = each_once lists apart.0;
      apart = lists_apart lists apart.0;
    }

    pub left_listed : AreListed new disk next
    left_listed = record {
      there = all_from (λ file. IsThere disk file) (all_files new) (λ file has. All-contains (λ file. IsThere disk file) (all_files old) file listed.there (left_stood file has));
      given_out = all_from (λ file. file < next) (all_files new) (λ file has. All-contains (λ file. file < next) (all_files old) file listed.given_out (left_stood file has));
      once = apart.1;
    }
