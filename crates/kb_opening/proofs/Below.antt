-- The topics of a tenant are opened one after another.
use Rattle.std.proofs.Common.{◌≡◌, ◌∙◌, ◌⊎◌, ◌≤◌, ◌<◌, ◌+◌, ◌-◌, inl, inr, ℕ, zero, suc, true, false, cond, List, [], ◌∷◌, Option, Some, None, refl, sym, ap, subst, arith, length}
use Rattle.std.specs.Prelude.{pos, nat_lt, nat_eq, slice_get, option_map, is_some, IsSome}
use Rattle.std.specs.Option.{option_and_then}
use Rattle.std.specs.FinMap.{get}
use Rattle.std.specs.List.{All, Contains}
use Rattle.std.specs.List.Sorted.{IsStrictlySortedBy}
use Rattle.std.proofs.lemmas.Bool.{cases_lt, false≢true}
use Rattle.std.proofs.lemmas.Bool.Decides.{nat_tests}
use Rattle.std.proofs.lemmas.List.Elements.{All-contains_itself}
use Rattle.std.proofs.lemmas.List.Sorted.{IsPermutation-refl}
use Rattle.kb_store.specs.Disk.{Disk, IsThere}
use Rattle.kb_log.specs.OnShelf.{no_file}
use Rattle.kb_segment_log.specs.SegmentLog.{segment_log, Clears}
use Rattle.kb_segment_log.specs.declared.log.SegmentLog.{SegmentLog}
use Rattle.kb_topics.specs.Known.{Known, PartitionState, TopicState, topic_at, partition_at}
use Rattle.kb_tenant_state.specs.Logs.{log_at}
use Rattle.kb_tenant_state.specs.Partitions.{Entries, Owned, IsUnmade}
use Rattle.kb_tenant_state.proofs.Put.{cases}
use Rattle.kb_tenant_state.specs.Tied.{partition_count}
use Rattle.kb_opening.specs.Directory.{all_files, files_at}
use Rattle.kb_opening.specs.Tenant.{AreListed}
use Rattle.kb_opening.specs.Topics.{IsOfKnown, OpensBelow}
use Rattle.kb_opening.specs.declared.directory.Directory.{Directory}
use Rattle.kb_opening.specs.declared.owner.Owner.TheVariants as owners
use Rattle.kb_opening.proofs.Logged.{sound_stays, exact_stays, agree_stays, logs_stay, item_within}
use Rattle.kb_opening.proofs.Openings.{clears_then}

-- ---- what a topic has

pub some_at : {A : Type 0} (o : Option A) (x : A) → o ≡ Some x → IsSome o
some_at o x e = ap is_some e

-- a partition of a topic
pub of_topic : (k : Known) (n p : ℕ) (o : Option TopicState) → topic_at n k.topics ≡ o → partition_at k (pos n) (pos p) ≡ option_and_then (λ (t : TopicState). slice_get t.partitions p) o
of_topic k n p o e = ap (λ o. option_and_then (λ (t : TopicState). slice_get t.partitions p) o) e

no_partition : (k : Known) (n p : ℕ) → topic_at n k.topics ≡ None → IsSome (partition_at k (pos n) (pos p)) → ⊥
no_partition k n p none some = absurd (false≢true (sym (ap is_some (of_topic k n p None none)) ∙ some))

pub has_partition : (k : Known) (n p : ℕ) (topic : TopicState) → topic_at n k.topics ≡ Some topic → p < partition_count topic → IsSome (partition_at k (pos n) (pos p))
has_partition k n p topic at lt =
    let x = item_within topic.partitions p lt in
    some_at (partition_at k (pos n) (pos p)) x.0 (of_topic k n p (Some topic) at ∙ x.1)

some_item : {A : Type 0} (xs : List A) (p : ℕ) → IsSome (slice_get xs p) → p < length xs
some_item [] p some = absurd (false≢true some)
some_item (x ∷ xs) zero some = omega arith
some_item (x ∷ xs) (suc p) some = let lt = some_item xs p some in omega (arith, lt)

pub within_topic : (k : Known) (n p : ℕ) (topic : TopicState) → topic_at n k.topics ≡ Some topic → IsSome (partition_at k (pos n) (pos p)) → p < partition_count topic
within_topic k n p topic at some = some_item topic.partitions p (subst (λ (o : Option PartitionState). IsSome o) (of_topic k n p (Some topic) at) some)

-- ---- how many partitions topics have

-- below an instance
abbrev pub counts_below : Known → ℕ → ℕ → Option ℕ
counts_below k n j = cond (nat_lt j n) (option_map partition_count (topic_at j k.topics)) None

pub counts_same : (k : Known) (n j : ℕ) → (j ≡ n → ⊥) → counts_below k n j ≡ counts_below k (n + 1) j
counts_same k n j ne = ap (λ b. cond b (option_map partition_count (topic_at j k.topics)) None) (let e : nat_lt j n ≡ nat_lt j (n + 1) = grind (arith, nat_tests) in e)

pub counts_here : (k : Known) (n : ℕ) → counts_below k (n + 1) n ≡ option_map partition_count (topic_at n k.topics)
counts_here k n = ap (λ b. cond b (option_map partition_count (topic_at n k.topics)) None) (let e : nat_lt n (n + 1) ≡ true = grind (arith, nat_tests) in e)

counts_at : (k : Known) (n : ℕ) → counts_below k n n ≡ None
counts_at k n = ap (λ b. cond b (option_map partition_count (topic_at n k.topics)) None) (let e : nat_lt n n ≡ false = grind (arith, nat_tests) in e)

-- ---- no topic yet

pub unmade : (t : ℕ) (name : List ℕ) (size : ℕ) (k : Known) (n : ℕ) (first : Disk) (from : Directory) (es : Entries SegmentLog) (now : Disk) (left : Directory) (next : ℕ) → OpensBelow t name size k n first from es now left next → IsUnmade n es
unmade t name size k n first from es now left next o = o.places n ∙ counts_at k n

pub none_below : (t : ℕ) (name : List ℕ) (size : ℕ) (k : Known) (d : Disk) (from : Directory) (es : Entries SegmentLog) (next : ℕ) → es ≡ [] → AreListed from d next → OpensBelow t name size k 0 d from es d from next
unfolding IsStrictlySortedBy
none_below t name size k d from es next e listed = subst (λ (fs : Entries SegmentLog). OpensBelow t name size k 0 d from fs d from next) (sym e) record {
  sound = record { ordered = tt; each = λ i p x at. absurd cc; apart = λ i p j q x y at there. absurd cc };
  owned = λ file o. let at = o.at in absurd cc;
  places = λ j. sym (ap (λ b. cond b (option_map partition_count (topic_at j k.topics)) None) (let no : nat_lt j 0 ≡ false = grind (arith, nat_tests) in no));
  named = λ i p x at. absurd cc;
  agree = λ h own. record { each = λ i p x at. absurd cc; producers = λ i p x at. absurd cc };
  logs = λ h own i p part lt at. absurd (omega (arith, lt));
  none = λ i p lt. absurd (omega (arith, lt));
  same = λ o apart. refl;
  strays = refl;
  some = record { taken = []; all = IsPermutation-refl (all_files from) };
  gone = λ file o. let lt = o.below in absurd (omega (arith, lt));
  others = record { honest = λ h. h; lengths = λ file not. refl; contents = λ h file not. refl };
  listed = listed;
  started = λ i p x at. absurd cc;
  exact = λ i p x at. absurd cc;
  accounts = λ file has. inr (inr has);
}

-- ---- one instance more

pub known_wider : (d : Directory) (t : ℕ) (k : Known) (n file : ℕ) → IsOfKnown d t k n file → IsOfKnown d t k (n + 1) file
known_wider d t k n file o = let lt = o.below in record { instance = o.instance; number = o.number; below = omega (arith, lt); known = o.known; has = o.has }

pub known_before : (d : Directory) (t : ℕ) (k : Known) (n file : ℕ) → IsOfKnown d t k (n + 1) file
    → IsOfKnown d t k n file ⊎ ((p : ℕ) × IsSome (partition_at k (pos n) (pos p)) × Contains (files_at (owners.Partition t n p) d) file)
known_before d t k n file o = elim (cases_lt o.instance n) [
  | inl lt ↦ inl (record { instance = o.instance; number = o.number; below = lt; known = o.known; has = o.has })
  | inr ge ↦
      let below = o.below in
      let is : o.instance ≡ n = omega (arith, below, ge) in
      inr (o.number, subst (λ i. IsSome (partition_at k (pos i) (pos o.number))) is o.known, subst (λ i. Contains (files_at (owners.Partition t i o.number) d) file) is o.has)
]

pub all_moved : (old new : Disk) (numbers : List ℕ) → ((file : ℕ) → Contains numbers file → get new.table file ≡ get old.table file) → All (λ n. IsThere old n) numbers → All (λ n. IsThere new n) numbers
all_moved old new numbers same all = λ i d lt. subst (λ (o : Option ℕ). IsSome o) (sym (same _ (All-contains_itself numbers i d lt))) (all i d lt)

pub no_topic : (t : ℕ) (name : List ℕ) (size : ℕ) (k : Known) (n : ℕ) (first : Disk) (from : Directory) (es : Entries SegmentLog) (mid : Disk) (left : Directory) (next : ℕ) (now : Disk)
    → OpensBelow t name size k n first from es mid left next → topic_at n k.topics ≡ None → Clears no_file mid now → OpensBelow t name size k (n + 1) first from es now left next
no_topic t name size k n first from es mid left next now so_far none kept = record {
  sound = sound_stays es mid.table now.table next (λ file own. kept.lengths file (λ no. no)) so_far.sound;
  owned = λ file own. known_wider from t k n file (so_far.owned file own);
  places = λ j. so_far.places j ∙ elim (cases (nat_eq j n)) [
    | inl e ↦ let is : j ≡ n = grind (arith, nat_tests) in
        ap (counts_below k n) is ∙ counts_at k n ∙ sym (ap (option_map partition_count) none) ∙ sym (counts_here k n) ∙ sym (ap (counts_below k (n + 1)) is)
    | inr e ↦ counts_same k n j (λ is. let same : nat_eq j n ≡ true = grind (arith, nat_tests) in absurd cc)
  ];
  named = so_far.named;
  agree = λ h own. agree_stays es mid.files now.files (λ file own. kept.contents h file (λ no. no)) (so_far.agree (kept.honest h) own);
  logs = λ h own i p part lt at.
      let stay = logs_stay es mid.files now.files (λ file own. kept.contents h file (λ no. no)) so_far.sound.ordered in
      let was : i < n = elim (cases_lt i n) [ inl less ↦ less | inr ge ↦ absurd (no_partition k n p none (subst (λ j. IsSome (partition_at k (pos j) (pos p))) (let is : i ≡ n = omega (arith, lt, ge) in is) (some_at _ part at))) ] in
      let l = so_far.logs (kept.honest h) own i p part was at in
      (l.0, ap (log_at i p) stay ∙ l.1, l.2);
  none = λ i p lt some. so_far.none i p (before i p lt some) some;
  same = λ o apart. so_far.same o (λ i p lt. apart i p (omega (arith, lt)));
  strays = so_far.strays;
  some = so_far.some;
  gone = λ file o. so_far.gone file (known_was file o);
  others = clears_then first mid now (λ file o. known_wider from t k n file o) (λ file no. absurd no) so_far.others kept;
  listed = record {
    there = all_moved mid now (all_files left) (λ file has. kept.lengths file (λ no. no)) so_far.listed.there;
    given_out = so_far.listed.given_out;
    once = so_far.listed.once;
  };
  started = so_far.started;
  exact = exact_stays es mid.table now.table (λ file own. kept.lengths file (λ no. no)) so_far.exact;
  accounts = λ file has. subst (λ (o : Option ℕ). Owned segment_log es file ⊎ (o ≡ None) ⊎ Contains (all_files left) file) (sym (kept.lengths file (λ no. no))) (so_far.accounts file has);
}
  where
    before : (i p : ℕ) → i < n + 1 → IsSome (partition_at k (pos i) (pos p)) → i < n
    before i p lt some = elim (cases_lt i n) [
      | inl less ↦ less
      | inr ge ↦ absurd (no_partition k n p none (subst (λ j. IsSome (partition_at k (pos j) (pos p))) (let is : i ≡ n = omega (arith, lt, ge) in is) some))
    ]

    known_was : (file : ℕ) → IsOfKnown from t k (n + 1) file → IsOfKnown from t k n file
    known_was file o = record { instance = o.instance; number = o.number; below = before o.instance o.number o.below o.known; known = o.known; has = o.has }

-- ---- several instances more, which have no topic

pub skips : (t : ℕ) (name : List ℕ) (size : ℕ) (k : Known) (n more : ℕ) (first : Disk) (from : Directory) (es : Entries SegmentLog) (mid : Disk) (left : Directory) (next : ℕ)
    → ((i : ℕ) → n ≤ i → i < n + more → topic_at i k.topics ≡ None) → OpensBelow t name size k n first from es mid left next → OpensBelow t name size k (n + more) first from es mid left next
skips t name size k n zero first from es mid left next none so_far =
    subst (λ (m : ℕ). OpensBelow t name size k m first from es mid left next) (let is : n ≡ n + zero = omega arith in is) so_far
skips t name size k n (suc more) first from es mid left next none so_far =
    let before = skips t name size k n more first from es mid left next (λ i above below. none i above (omega (arith, below))) so_far in
    let still : Clears no_file mid mid = record { honest = λ h. h; lengths = λ file not. refl; contents = λ h file not. refl } in
    subst (λ (m : ℕ). OpensBelow t name size k m first from es mid left next) (let is : n + more + 1 ≡ n + suc more = omega arith in is)
    (no_topic t name size k (n + more) first from es mid left next mid before (none (n + more) (omega arith) (omega arith)) still)

-- up to an instance
pub skipped : (t : ℕ) (name : List ℕ) (size : ℕ) (k : Known) (n m : ℕ) (first : Disk) (from : Directory) (es : Entries SegmentLog) (mid : Disk) (left : Directory) (next : ℕ)
    → n ≤ m → ((i : ℕ) → n ≤ i → i < m → topic_at i k.topics ≡ None) → OpensBelow t name size k n first from es mid left next → OpensBelow t name size k m first from es mid left next
skipped t name size k n m first from es mid left next le none so_far =
    let is : n + (m - n) ≡ m = omega (arith, le) in
    subst (λ (j : ℕ). OpensBelow t name size k j first from es mid left next) is
    (skips t name size k n (m - n) first from es mid left next (λ i above below. none i above (omega (arith, is, below))) so_far)
