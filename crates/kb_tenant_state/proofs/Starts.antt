-- What start is recorded of a partition, after a command.
use Rattle.std.proofs.Common.{◌≡◌, ◌∙◌, inl, inr, ℕ, ℤ, zero, suc, pos, int_le, Bool, true, false, cond, List, [], ◌∷◌, Option, Some, None, refl, sym, ap, subst}
use Rattle.std.specs.Prelude.{replicate, slice_get, slice_set}
use Rattle.std.specs.Option.{option_and_then}
use Rattle.std.specs.Ordering.{nat_cmp}
use Rattle.std.specs.BTreeMap.{insert_entry, is_at}
use Rattle.kb_batch.specs.Batch.{natural}
use Rattle.kb_log.specs.OnShelf.{Log}
use Rattle.kb_topics.specs.Commands.{start_command}
use Rattle.kb_topics.specs.Known as topics
use Rattle.kb_topics.specs.Known.{Known, CommittedOffset, PartitionState, TopicState, new_partition, put_topic, step, topic_at, with_commit, with_part, with_partition, with_start, without_topic}
use Rattle.kb_tenant_state.specs.Partitions.{AreStarted, Entries, Restarts}
use Rattle.kb_tenant_state.proofs.Put.{cases, found_put, get_here, other_number, own_number, same_number}
use Rattle.kb_tenant_state.specs.Calls.{known_at, with_committed}
use Rattle.kb_tenant_state.specs.Parts.{recorded_start, start_said}
use Rattle.kb_tenant_state.specs.declared.topic_partition.TopicPartition.{TopicPartition}
use Rattle.kb_tenant_state.proofs.StillKept.{inserted_here, inserted_other, other_removed}

-- as many starts are recorded as before, and the same
abbrev pub SameStarts : Known → Known → Type 0
SameStarts old new = (i p : ℕ) → recorded_start new i p ≡ recorded_start old i p

-- each log would start where it does also by other records of the same starts
pub still_started : {L : Type 0} (log : L → Log) (es : Entries L) (old new : ℕ → ℕ → ℕ) → ((i p : ℕ) → new i p ≡ old i p) → AreStarted log old es → AreStarted log new es
still_started log es old new same started i p x at = subst (λ n. (log x.log).resumes n) (sym (same i p)) (started i p x at)

-- ---- the partition of a topic, if there is one

abbrev part_of : ℕ → Option TopicState → Option PartitionState
part_of p o = option_and_then (λ (t : TopicState). slice_get t.partitions p) o

pub same_topics : (old new : Known) → new.topics ≡ old.topics → SameStarts old new
same_topics old new same i p = ap (λ ts. start_said (part_of p (topic_at i ts))) same

get_past : {A : Type 0} (xs : List A) (p q : ℕ) (y : A) → (q ≡ p → ⊥) → slice_get (slice_set xs p y) q ≡ slice_get xs q
get_past [] p q y ne = refl
get_past (x ∷ xs) zero zero y ne = absurd (ne refl)
get_past (x ∷ xs) zero (suc q) y ne = refl
get_past (x ∷ xs) (suc p) zero y ne = refl
get_past (x ∷ xs) (suc p) (suc q) y ne = get_past xs p q y (λ same. ne (ap suc same))

module _ (k : Known) (i p : ℕ) (part : PartitionState) where
  abbrev put : Option TopicState → List (ℕ × TopicState)
  put o = put_topic i p part k.topics o

  found : (t : TopicState) → topic_at i k.topics ≡ Some t → (j : ℕ) → topic_at j (put (Some t)) ≡ cond (is_at (nat_cmp i) j) (Some (with_part p part t)) (topic_at j k.topics)
  found t e j = found_put k.topics i j t (with_part p part t) e

  -- another partition is as before
  other_part : (o : Option TopicState) → topic_at i k.topics ≡ o → (j q : ℕ) → ((j ≡ i) × (q ≡ p) → ⊥) → part_of q (topic_at j (put o)) ≡ part_of q (topic_at j k.topics)
  other_part None e j q ne = refl
  other_part (Some t) e j q ne = elim (cases (is_at (nat_cmp i) j)) [
    | inl b ↦
        let same : j ≡ i = sym (same_number i j b) in
        ap (part_of q) (found t e j ∙ ap (λ c. cond c (Some (with_part p part t)) (topic_at j k.topics)) b)
        ∙ get_past t.partitions p q part (λ is. ne (same, is))
        ∙ sym (ap (part_of q) (ap (λ n. topic_at n k.topics) same ∙ e))
    | inr b ↦ ap (part_of q) (found t e j ∙ ap (λ c. cond c (Some (with_part p part t)) (topic_at j k.topics)) b)
  ]

  -- and this one is the new one
  own_part : (o : Option TopicState) → topic_at i k.topics ≡ o → (was : PartitionState) → part_of p o ≡ Some was → part_of p (topic_at i (put o)) ≡ Some part
  own_part None e was there = absurd cc
  own_part (Some t) e was there =
      ap (part_of p) (found t e i ∙ ap (λ c. cond c (Some (with_part p part t)) (topic_at i k.topics)) (own_number i)) ∙ get_here t.partitions p was part there

-- one start is recorded, where there was the partition
pub restarts : (k : Known) (i p : ℕ) (part was : PartitionState) → topics.partition_at k (pos i) (pos p) ≡ Some was
    → Restarts (recorded_start k) i p (natural part.start) (recorded_start (with_partition k (pos i) (pos p) part))
restarts k i p part was there = record {
  here = ap start_said (own_part k i p part (topic_at i k.topics) refl was there);
  others = λ j q ne. ap start_said (other_part k i p part (topic_at i k.topics) refl j q ne);
}

-- ---- the commands

start_from : (k new : Known) (i p : ℕ) (offset : ℤ) (o : Option PartitionState) → topics.partition_at k (pos i) (pos p) ≡ o
    → option_and_then (λ (q : PartitionState). cond (int_le q.start offset) (Some (with_partition k (pos i) (pos p) (with_start q offset))) None) o ≡ Some new
    → Restarts (recorded_start k) i p (natural offset) (recorded_start new)
start_from k new i p offset None at e = absurd cc
start_from k new i p offset (Some q) at e = by (int_le q.start offset) e
  where
    by : (b : Bool) → cond b (Some (with_partition k (pos i) (pos p) (with_start q offset))) None ≡ Some new → Restarts (recorded_start k) i p (natural offset) (recorded_start new)
    by true is =
        let same : with_partition k (pos i) (pos p) (with_start q offset) ≡ new = cc in
        subst (λ n. Restarts (recorded_start k) i p (natural offset) (recorded_start n)) same (restarts k i p (with_start q offset) q at)
    by false is = absurd cc

-- a start moves at its own place
pub start_restarts : (k new : Known) (i p : ℕ) (z n offset : ℤ) → z ≡ pos i → n ≡ pos p → step k (start_command z n offset) ≡ Some new
    → Restarts (recorded_start k) i p (natural offset) (recorded_start new)
start_restarts k new i p z n offset ei en e =
    start_from k new i p offset (topics.partition_at k (pos i) (pos p)) refl
    (sym (ap (λ y. step k (start_command y n offset)) ei ∙ ap (λ y. step k (start_command (pos i) y offset)) en) ∙ e)

-- a commit moves none
pub commit_starts : (k : Known) (place : TopicPartition) (group : List ℕ) (c : CommittedOffset) (o : Option PartitionState) → known_at k place ≡ o → SameStarts k (with_committed k place group c o)
commit_starts k place group c None at i p = refl
commit_starts k place group c (Some q) at i p =
    let one = restarts k place.instance place.number (with_commit q group c) q at in
    elim (cases (is_at (nat_cmp place.instance) i)) [
      | inl a ↦ elim (cases (is_at (nat_cmp place.number) p)) [
        | inl b ↦
            let here : place.instance ≡ i = same_number place.instance i a in
            let there : place.number ≡ p = same_number place.number p b in
            subst (λ n. recorded_start (with_committed k place group c (Some q)) n p ≡ recorded_start k n p) here
            (subst (λ n. recorded_start (with_committed k place group c (Some q)) place.instance n ≡ recorded_start k place.instance n) there
            (one.here ∙ sym (ap start_said at)))
        | inr b ↦ one.others i p (λ both. other_number place.number p b both.1)
      ]
      | inr a ↦ one.others i p (λ both. other_number place.instance i a both.0)
    ]

said_new : (n p : ℕ) → start_said (slice_get (replicate n new_partition) p) ≡ 0
said_new zero p = refl
said_new (suc n) zero = refl
said_new (suc n) (suc p) = said_new n p

-- a new topic's are 0
pub new_starts : (old new : Known) (n : ℕ) (t : TopicState) → new.topics ≡ insert_entry nat_cmp old.topics old.creates t → t.partitions ≡ replicate n new_partition
    → (p : ℕ) → recorded_start new old.creates p ≡ 0
new_starts old new n t topics parts p =
    ap (λ ts. start_said (part_of p (topic_at old.creates ts))) topics ∙ ap (λ o. start_said (part_of p o)) (inserted_here old.creates t old.topics)
    ∙ ap (λ ps. start_said (slice_get ps p)) parts ∙ said_new n p

-- so they were before it was made, and the others are as before
pub create_starts : (old new : Known) (n : ℕ) (t : TopicState) → topic_at old.creates old.topics ≡ None → new.topics ≡ insert_entry nat_cmp old.topics old.creates t → t.partitions ≡ replicate n new_partition
    → SameStarts old new
create_starts old new n t none topics parts i p = elim (cases (is_at (nat_cmp old.creates) i)) [
  | inl b ↦
      subst (λ j. recorded_start new j p ≡ recorded_start old j p) (same_number old.creates i b)
      (new_starts old new n t topics parts p ∙ sym (ap (λ o. start_said (part_of p o)) none))
  | inr b ↦
      ap (λ ts. start_said (part_of p (topic_at i ts))) topics
      ∙ ap (λ o. start_said (part_of p o)) (inserted_other old.creates i t old.topics (other_number old.creates i b))
]

-- those of the topics that stay are as before
pub delete_starts : (old : Known) (i j p : ℕ) → (j ≡ i → ⊥) → recorded_start (without_topic old i) j p ≡ recorded_start old j p
delete_starts old i j p ne = ap (λ o. start_said (part_of p o)) (other_removed i j old.topics ne)
