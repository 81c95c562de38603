-- Of the partitions of a tenant nothing is lost.
use Rattle.std.proofs.Common.{◌≡◌, ◌≢◌, ◌∙◌, ◌⊎◌, ◌≤◌, ◌<◌, inl, inr, ⊎_elim, ℕ, List, Some, None, sym, ap, subst, arith, map, length}
use Rattle.std.specs.Prelude.{pos, slice_get, option_map}
use Rattle.std.specs.List.{All, Contains}
use Rattle.std.proofs.lemmas.Bool.{cases_eq, cases_lt}
use Rattle.std.proofs.lemmas.Option.{none-some, slice_get_within, slice_get-map}
use Rattle.std.proofs.lemmas.List.Elements.{All-contains, All-contains_itself}
use Rattle.kb_store.specs.Disk.{Disk, IsThere}
use Rattle.kb_segment_log.specs.SegmentLog.{Clears}
use Rattle.kb_segment_log.specs.Chain.{LosesNothing}
use Rattle.kb_segment_log.specs.declared.log.SegmentLog.{SegmentLog}
use Rattle.kb_topics.specs.Known.{Known, PartitionState, TopicState, topic_at, partition_at}
use Rattle.kb_tenant_state.specs.Partitions.{Entries}
use Rattle.kb_opening.specs.Directory.{all_files, files_at}
use Rattle.kb_opening.specs.Partition.{Lists, IsAmong, LoseNothing}
use Rattle.kb_opening.specs.Tenant.{AreListed, IsOfPartition, PartitionsLoseNothing, recorded_start}
use Rattle.kb_opening.specs.Topics.{TakesTopic, IsOfKnown, OpensBelow}
use Rattle.kb_opening.specs.declared.directory.Directory.{Directory}
use Rattle.kb_opening.specs.declared.owner.Owner.{Owner}
use Rattle.kb_opening.specs.declared.owner.Owner.TheVariants as owners
use Rattle.kb_opening.proofs.Below.{of_topic, some_at}
use Rattle.kb_opening.proofs.Logged.{item_within}
use Rattle.kb_opening.proofs.Lost.{log_else, log_then, log_from, log_still}
use Rattle.kb_opening.proofs.Taking.{same_instance, not_left, listed_at}

-- an owner's files are there
pub owner_there : (d : Directory) (disk : Disk) (next : ℕ) → AreListed d disk next → (o : Owner) → All (λ n. IsThere disk n) (files_at o d)
owner_there d disk next listed o = λ k x l. All-contains (λ n. IsThere disk n) (all_files d) _ listed.there (listed_at o d _ (All-contains_itself (files_at o d) k x l))

pub listed_next : (d : Directory) (disk : Disk) (next next' : ℕ) → next' ≡ next → AreListed d disk next → AreListed d disk next'
listed_next d disk next next' same listed = subst (λ (n : ℕ). AreListed d disk n) (sym same) listed

-- nothing changes
pub still_lost : (t : ℕ) (k : Known) (d : Directory) (disk : Disk) (next : ℕ) → AreListed d disk next → PartitionsLoseNothing t k d disk disk
still_lost t k d disk next listed i p part there = log_still (files_at (owners.Partition t i p) d) (recorded_start part) disk (owner_there d disk next listed (owners.Partition t i p))

-- ---- one topic is opened

pub topic_lost : (t i n : ℕ) (k : Known) (old new : Directory) (lists : Lists) (starts : List ℕ) (disk : Disk) (next : ℕ) (now : Disk) (topic : TopicState) → TakesTopic t i n old lists new → AreListed old disk next → topic_at i k.topics ≡ Some topic → n ≡ length topic.partitions → starts ≡ map recorded_start topic.partitions
    → Clears (IsAmong lists) disk now → LoseNothing lists starts disk now → now.honest → PartitionsLoseNothing t k old disk now
topic_lost t i n k old new lists starts disk next now topic takes listed at count begun others lost h j p part there = ⊎_elim
    (λ (is : j ≡ i). subst (λ (m : ℕ). LosesNothing (files_at (owners.Partition t m p) old) (recorded_start part) disk now) (sym is) (here (subst (λ (m : ℕ). partition_at k (pos m) (pos p) ≡ Some part) is there)))
    (λ (ne : j ≢ i).
    log_else (IsAmong lists) (files_at (owners.Partition t j p) old) (recorded_start part) disk now (owner_there old disk next listed (owners.Partition t j p)) others
    (λ file has o. not_left t i n old new lists takes disk next listed file o
    (listed_at (owners.Partition t j p) new file (subst (λ ns. Contains ns file) (sym (takes.others (owners.Partition t j p) (λ q lt e. ne (same_instance t j i p q e)))) has)))
    h)
    (cases_eq j i)
  where
    here : partition_at k (pos i) (pos p) ≡ Some part → LosesNothing (files_at (owners.Partition t i p) old) (recorded_start part) disk now
    here there =
        let its : slice_get topic.partitions p ≡ Some part = sym (of_topic k i p (Some topic) at) ∙ there in
        let within = slice_get_within topic.partitions p part its in
        let many = takes.count in
        let list = item_within lists p (omega (arith, within, many, count)) in
        let start_at : slice_get starts p ≡ Some (recorded_start part) = ap (λ ss. slice_get ss p) begun ∙ slice_get-map recorded_start topic.partitions p ∙ ap (option_map recorded_start) its in
        subst (λ (ns : List ℕ). LosesNothing ns (recorded_start part) disk now) (takes.files p list.0 list.1) (lost p list.0 (recorded_start part) list.1 start_at)

-- ---- topics are opened one after another

-- a partition that is known below an instance is one below an earlier one, where no topic is between
pub lost_below : {X : Type 0} (m n : ℕ) (k : Known) (i p : ℕ) (part : PartitionState) → i < m → ((j : ℕ) → n ≤ j → j < m → topic_at j k.topics ≡ None) → partition_at k (pos i) (pos p) ≡ Some part → (i < n → X) → X
lost_below m n k i p part below none there lost = elim (cases_lt i n) [
  | inl lower ↦ lost lower
  | inr above ↦ absurd (none-some part (sym (of_topic k i p None (none i (omega (arith, above)) below)) ∙ there))
]

module _ (t : ℕ) (name : List ℕ) (size : ℕ) (k : Known) (n : ℕ) (first : Disk) (from : Directory) (es : Entries SegmentLog) (mid : Disk) (left : Directory) (next : ℕ) (so_far : OpensBelow t name size k n first from es mid left next)
    (listed : AreListed from first next) (lost : mid.honest → (i p : ℕ) (part : PartitionState) → i < n → partition_at k (pos i) (pos p) ≡ Some part → LosesNothing (files_at (owners.Partition t i p) from) (recorded_start part) first mid) where
  -- those of later instances are still in the directory
  still_has : (i p : ℕ) → (i < n → ⊥) → files_at (owners.Partition t i p) left ≡ files_at (owners.Partition t i p) from
  still_has i p above = so_far.same (owners.Partition t i p) (λ j q lt some e. above (let is = same_instance t i j p q e in omega (arith, lt, is)))

  later_else : (i p : ℕ) → (i < n → ⊥) → (file : ℕ) → Contains (files_at (owners.Partition t i p) from) file → IsOfKnown from t k n file → ⊥
  later_else i p above file has o = so_far.gone file o (listed_at (owners.Partition t i p) left file (subst (λ ns. Contains ns file) (sym (still_has i p above)) has))

  -- of all so far nothing is lost
  pub lost_so_far : mid.honest → PartitionsLoseNothing t k from first mid
  lost_so_far h i p part there = elim (cases_lt i n) [
    | inl below ↦ lost h i p part below there
    | inr above ↦ log_else (IsOfKnown from t k n) (files_at (owners.Partition t i p) from) (recorded_start part) first mid (owner_there from first next listed (owners.Partition t i p)) so_far.others
        (later_else i p (λ below. omega (arith, below, above))) h
  ]

  -- and with a further step that loses nothing
  pub lost_then : (now : Disk) → Clears (IsOfPartition left t) mid now → (now.honest → PartitionsLoseNothing t k left mid now) → now.honest → PartitionsLoseNothing t k from first now
  lost_then now others more h i p part there = elim (cases_lt i n) [
    | inl below ↦ log_then (IsOfPartition left t) (files_at (owners.Partition t i p) from) (recorded_start part) first mid now others
        (λ file has o. so_far.gone file (record { instance = i; number = p; below = below; known = some_at (partition_at k (pos i) (pos p)) part there; has = has }) (listed_at (owners.Partition t o.instance o.number) left file o.has))
        h (lost (others.honest h) i p part below there)
    | inr above ↦
        let same = still_has i p (λ below. omega (arith, below, above)) in
        log_from (IsOfKnown from t k n) (files_at (owners.Partition t i p) from) (recorded_start part) first mid now so_far.others (later_else i p (λ below. omega (arith, below, above))) (others.honest h)
        (subst (λ (ns : List ℕ). LosesNothing ns (recorded_start part) mid now) same (more h i p part there))
  ]
