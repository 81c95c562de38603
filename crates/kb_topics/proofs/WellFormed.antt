-- What the commands of a meta log come to is well formed.
use Rattle.std.proofs.Common.{◌≡◌, ◌≤◌, ◌<◌, ◌+◌, ◌^◌, ℕ, zero, suc, ℤ, pos, negsuc, Bool, true, false, cond, List, [], ◌∷◌, length, Option, Some, None, refl, sym, subst, arith, FitsSigned, w64}
use Rattle.std.specs.Prelude.{◌&&◌, ◌≤ℤ◌, int_le, nat_le, nat_lt, is_none, slice_get}
use Rattle.std.specs.Option.{option_map, option_and_then}
use Rattle.std.specs.Ordering.{int_eq, nat_cmp}
use Rattle.std.specs.List.Sorted.{IsStrictlySortedBy}
use Rattle.std.specs.Cmp.{nat_cmp_total}
use Rattle.std.specs.Cmp.Lexicographic.{slice_cmp, nat_list_cmp_total}
use Rattle.std.specs.BTreeMap.{is_at}
use Rattle.std.proofs.lemmas.Int.{ints}
use Rattle.std.proofs.lemmas.List.{length-set, length-replicate}
use Rattle.kb_wire.specs.Codec.{int, sized, counted, utf8, string}
use Rattle.kb_batch.specs.Batch.{natural}
use Rattle.kb_topics.specs.declared.config.TopicConfig.{TopicConfig}
use Rattle.kb_topics.specs.declared.command.CreateTopic.{CreateTopic}
use Rattle.kb_topics.specs.declared.command.CommitOffset.{CommitOffset}
use Rattle.kb_topics.specs.declared.command.BeginSnapshot.{BeginSnapshot}
use Rattle.kb_topics.specs.declared.command.Command.{Command}
use Rattle.kb_topics.specs.declared.command.Command.TheVariants.{Create, Delete, Issue, Commit, Start, Snapshot, Topic, DeleteGroup}
use Rattle.kb_topics.specs.declared.stage.Stage.{Stage}
use Rattle.kb_topics.specs.declared.stage.Stage.TheVariants.{Fresh, Left}
use Rattle.kb_topics.specs.Layouts.{command_codec, begin_snapshot, commit_offset}
use Rattle.kb_topics.specs.Lawful.{command_lawful}
use Rattle.kb_topics.specs.Name.{is_legal}
use Rattle.kb_topics.specs.Known.{Known, CommittedOffset, PartitionState, TopicState, topic_at, named, partition_at, new_partition, new_topic, with_topic, without_topic, with_id, with_part, put_topic, has_committed, with_partition, with_start, with_commit, is_left, is_limit, is_partition_count, may_create, config_in, offset_in, step, without_group}
use Rattle.kb_topics.specs.Reading.{Reading, begun, first_step, in_use, is_free, is_snapshot, load, loading, may_hold, read_all, read_step, starting_at, step_in, with_topic_at}
use Rattle.kb_topics.specs.MetaLog.{Says, SayEach, IsFoldOf}
use Rattle.kb_topics.specs.WellFormed.{AreTopics, IsPartition, IsTopic, IsWellFormed}
use Rattle.kb_topics.proofs.Groups.{well_formed_less}
use Rattle.kb_topics.proofs.OwnNames.{apart_inserted, apart_put, apart_removed}
use Rattle.kb_topics.proofs.Replaying.{held_free}
use Rattle.kb_topics.proofs.Sorted.{sorted_put, sorted_left, keys_set, both_put, both_left, both_set, both_found, put_long, left_long, set_long, all_replicate, all_set, all_get}

-- ---- topics

abbrev Below : ℕ → ℕ → Type 0
Below n i = i < n

raised : (m n : ℕ) (ts : List (ℕ × TopicState)) → m ≤ n → AreTopics m ts → AreTopics n ts
raised m n [] le all = tt
raised m n (e ∷ ts) le all = ((let lt = all.0.0 in omega (arith, lt, le), all.0.1), raised m n ts le all.1)

topic_with : (t : TopicState) (p : ℕ) (part : PartitionState) → IsTopic t → IsPartition part → IsTopic (with_part p part t)
topic_with t p part is there =
    let same = length-set t.partitions p part in
    let low = is.some in
    let high = is.few in
    record {
      name = is.name;
      retention_ms = is.retention_ms;
      retention_bytes = is.retention_bytes;
      some = omega (arith, same, low);
      few = omega (arith, same, high);
      partitions = all_set IsPartition t.partitions p part there is.partitions;
    }

both_of : (a b : Bool) → (a && b) ≡ true → (a ≡ true) × (b ≡ true)
both_of true b e = (refl, e)
both_of false b e = absurd cc

count_low : (z : ℤ) → is_partition_count z ≡ true → 1 ≤ natural z
count_low (pos n) e = let h = (both_of (int_le (pos 1) (pos n)) (int_le (pos n) (pos 64)) e).0 in grind (arith, ints, h)
count_low (negsuc n) e = let h = (both_of (int_le (pos 1) (negsuc n)) (int_le (negsuc n) (pos 64)) e).0 in grind (arith, ints, h)

count_high : (z : ℤ) → is_partition_count z ≡ true → natural z ≤ 64
count_high (pos n) e = let h = (both_of (int_le (pos 1) (pos n)) (int_le (pos n) (pos 64)) e).1 in grind (arith, ints, h)
count_high (negsuc n) e = omega arith

new_is : IsPartition new_partition
unfolding IsStrictlySortedBy
new_is = record { start = grind (arith, ints); ordered = tt; commits = tt }

topic_made : (name : List ℕ) (z : ℤ) (config : TopicConfig) → is_legal name ≡ true → is_partition_count z ≡ true → is_limit config.retention_ms ≡ true → is_limit config.retention_bytes ≡ true → IsTopic (new_topic name (natural z) config)
topic_made name z config legal count ms bytes =
    let same = length-replicate (natural z) new_partition in
    let low = count_low z count in
    let high = count_high z count in
    record {
      name = legal;
      retention_ms = ms;
      retention_bytes = bytes;
      some = omega (arith, same, low);
      few = omega (arith, same, high);
      partitions = all_replicate IsPartition (natural z) new_partition new_is;
    }

-- ---- a catalog

topic_found : (k : Known) (i : ℕ) (t : TopicState) → IsWellFormed k → topic_at i k.topics ≡ Some t → IsTopic t
topic_found k i t is e = both_found (Below k.creates) IsTopic k.topics (is_at (nat_cmp i)) t is.topics e

added : (k : Known) (i : ℕ) (t : TopicState) → IsWellFormed k → length k.topics < 1000 → i < k.creates → named t.name k.topics ≡ None → IsTopic t → IsWellFormed (with_topic_at k i t)
added k i t is few given none there =
    let long = put_long k.topics nat_cmp i t in
    record {
      few = omega (arith, long, few);
      ordered = sorted_put nat_cmp_total k.topics i t is.ordered;
      topics = both_put (Below k.creates) IsTopic k.topics nat_cmp i t given there is.topics;
      apart = apart_inserted k.topics i t none is.apart;
      creates = is.creates;
      issues = is.issues;
    }

one_more : (k : Known) → IsWellFormed k → k.creates + 1 < 2 ^ 63 → IsWellFormed (record k { creates = k.creates + 1 })
one_more k is lt = record {
  few = is.few;
  ordered = is.ordered;
  topics = raised k.creates (k.creates + 1) k.topics (omega arith) is.topics;
  apart = is.apart;
  creates = lt;
  issues = is.issues;
}

removed : (k : Known) (i : ℕ) → IsWellFormed k → IsWellFormed (without_topic k i)
removed k i is =
    let long = left_long k.topics (is_at (nat_cmp i)) in
    let few = is.few in
    record {
      few = omega (arith, long, few);
      ordered = sorted_left nat_cmp k.topics (is_at (nat_cmp i)) is.ordered;
      topics = both_left (Below k.creates) IsTopic k.topics (is_at (nat_cmp i)) is.topics;
      apart = apart_removed (is_at (nat_cmp i)) k.topics is.apart;
      creates = is.creates;
      issues = is.issues;
    }

put : (k : Known) (i p : ℕ) (part : PartitionState) (o : Option TopicState) → topic_at i k.topics ≡ o → IsWellFormed k → IsPartition part → IsWellFormed (record k { topics = put_topic i p part k.topics o })
put k i p part None e is there = is
put k i p part (Some t) e is there =
    let new = with_part p part t in
    let long = set_long k.topics (is_at (nat_cmp i)) new in
    let few = is.few in
    record {
      few = omega (arith, long, few);
      ordered = subst (λ ks. IsStrictlySortedBy nat_cmp ks) (sym (keys_set k.topics (is_at (nat_cmp i)) new)) is.ordered;
      topics = both_set (Below k.creates) IsTopic k.topics (is_at (nat_cmp i)) new (topic_with t p part (topic_found k i t is e) there) is.topics;
      apart = apart_put k.topics i p part (Some t) e is.apart;
      creates = is.creates;
      issues = is.issues;
    }

part_in : (t : TopicState) (p : ℕ) (part : PartitionState) → IsTopic t → slice_get t.partitions p ≡ Some part → IsPartition part
part_in t p part is e = all_get IsPartition t.partitions p part is.partitions e

part_found : (k : Known) (i p : ℤ) (part : PartitionState) → IsWellFormed k → partition_at k i p ≡ Some part → IsPartition part
part_found k (pos i) (pos p) part is e = by (topic_at i k.topics) refl e
  where
    by : (o : Option TopicState) → topic_at i k.topics ≡ o → option_and_then (λ (t : TopicState). slice_get t.partitions p) o ≡ Some part → IsPartition part
    by None f g = absurd cc
    by (Some t) f g = part_in t p part (topic_found k i t is f) g
part_found k (pos i) (negsuc p) part is e = absurd cc
part_found k (negsuc i) p part is e = absurd cc

changed : (k : Known) (i p : ℤ) (part : PartitionState) → IsWellFormed k → IsPartition part → IsWellFormed (with_partition k i p part)
changed k i p part is there = put k (natural i) (natural p) part (topic_at (natural i) k.topics) refl is there

-- ---- commands

-- what a command made is, where it made one
abbrev WellBy : Option Known → Type 0
WellBy None = Unit {0}
WellBy (Some k) = IsWellFormed k

eight : (a b c d e f g h : Bool) → (a && b && c && d && e && f && g && h) ≡ true → (a ≡ true) × (b ≡ true) × (c ≡ true) × (d ≡ true) × (e ≡ true) × (f ≡ true) × (g ≡ true) × (h ≡ true)
eight true true true true true true true h s = (refl, refl, refl, refl, refl, refl, refl, s)
eight true true true true true true false h s = absurd cc
eight true true true true true false g h s = absurd cc
eight true true true true false f g h s = absurd cc
eight true true true false e f g h s = absurd cc
eight true true false d e f g h s = absurd cc
eight true false c d e f g h s = absurd cc
eight false b c d e f g h s = absurd cc

none_of : {A : Type 0} (o : Option A) → is_none o ≡ true → o ≡ None
none_of None e = refl
none_of (Some x) e = absurd cc

fewer : (n : ℕ) → nat_lt n 1000 ≡ true → n < 1000
fewer n e = grind (arith, e)

below_end : (n : ℕ) → is_left n ≡ true → n + 1 < 2 ^ 63
below_end n e = grind (arith, e)

created : (k : Known) (c : CreateTopic) (b : Bool) → may_create k c ≡ b → IsWellFormed k → WellBy (cond b (Some (with_topic k (new_topic c.name (natural c.partitions) (config_in c)))) None)
created k c false may is = tt
created k c true may is =
    let t = eight (is_legal c.name) (is_none (named c.name k.topics)) (int_eq c.instance (pos k.creates)) (is_partition_count c.partitions) (is_limit c.retention_ms) (is_limit c.retention_bytes) (nat_lt (length k.topics) 1000) (is_left k.creates) may in
    let lt = below_end k.creates t.7 in
    added (record k { creates = k.creates + 1 }) k.creates (new_topic c.name (natural c.partitions) (config_in c)) (one_more k is lt) (fewer (length k.topics) t.6) (omega arith)
    (none_of (named c.name k.topics) t.1) (topic_made c.name c.partitions (config_in c) t.0 t.3 t.4 t.5)

seven : (a b c d e f g : Bool) → (a && b && c && d && e && f && g) ≡ true → (a ≡ true) × (b ≡ true) × (c ≡ true) × (d ≡ true) × (e ≡ true) × (f ≡ true) × (g ≡ true)
seven true true true true true true g s = (refl, refl, refl, refl, refl, refl, s)
seven true true true true true false g s = absurd cc
seven true true true true false f g s = absurd cc
seven true true true false e f g s = absurd cc
seven true true false d e f g s = absurd cc
seven true false c d e f g s = absurd cc
seven false b c d e f g s = absurd cc

held : (k : Known) (c : CreateTopic) (b : Bool) → may_hold k c ≡ b → IsWellFormed k → WellBy (cond b (Some (with_topic_at k (natural c.instance) (new_topic c.name (natural c.partitions) (config_in c)))) None)
held k c false may is = tt
held k c true may is =
    let t = seven (is_legal c.name) (is_none (named c.name k.topics)) (is_free k c.instance) (is_partition_count c.partitions) (is_limit c.retention_ms) (is_limit c.retention_bytes) (nat_lt (length k.topics) 1000) may in
    added k (natural c.instance) (new_topic c.name (natural c.partitions) (config_in c)) is (fewer (length k.topics) t.6) (held_free k c may).given
    (none_of (named c.name k.topics) t.1) (topic_made c.name c.partitions (config_in c) t.0 t.3 t.4 t.5)

deleted : (k : Known) (o : Option ℕ) → IsWellFormed k → WellBy (option_map (without_topic k) o)
deleted k None is = tt
deleted k (Some i) is = removed k i is

issued : (k : Known) (b c : Bool) → is_left k.issues ≡ c → IsWellFormed k → WellBy (cond (b && c) (Some (with_id k)) None)
issued k false c left is = tt
issued k true false left is = tt
issued k true true left is = record {
  few = is.few;
  ordered = is.ordered;
  topics = is.topics;
  apart = is.apart;
  creates = is.creates;
  issues = below_end k.issues left;
}

group_deleted : (k : Known) (group : List ℕ) (b : Bool) → IsWellFormed k → WellBy (cond b (Some (without_group k group)) None)
group_deleted k group true is = well_formed_less k group is
group_deleted k group false is = tt

commit_is : (p : PartitionState) (group : List ℕ) (c : CommittedOffset) → IsPartition p → length group < 2 ^ 15 → length c.metadata ≤ 4096 → IsPartition (with_commit p group c)
commit_is p group c is short few = record {
  start = is.start;
  ordered = sorted_put nat_list_cmp_total p.commits group c is.ordered;
  commits = both_put (λ (g : List ℕ). length g < 2 ^ 15) (λ (d : CommittedOffset). length d.metadata ≤ 4096) p.commits (slice_cmp nat_cmp) group c short few is.commits;
}

committed_by : (k : Known) (c : CommitOffset) (o : Option PartitionState) → partition_at k c.instance c.partition ≡ o → IsWellFormed k → length c.group < 2 ^ 15 → length c.metadata ≤ 4096 → WellBy (option_map (λ p. with_partition k c.instance c.partition (with_commit p c.group (offset_in c))) o)
committed_by k c None e is short few = tt
committed_by k c (Some p) e is short few = changed k c.instance c.partition (with_commit p c.group (offset_in c)) is (commit_is p c.group (offset_in c) (part_found k c.instance c.partition p is e) short few)

metadata_few : (n : ℕ) → nat_le n 4096 ≡ true → n ≤ 4096
metadata_few n e = grind (arith, e)

committed : (k : Known) (c : CommitOffset) (b : Bool) → nat_le (length c.metadata) 4096 ≡ b → IsWellFormed k → length c.group < 2 ^ 15 → WellBy (cond b (option_map (λ p. with_partition k c.instance c.partition (with_commit p c.group (offset_in c))) (partition_at k c.instance c.partition)) None)
committed k c false few is short = tt
committed k c true few is short = committed_by k c (partition_at k c.instance c.partition) refl is short (metadata_few (length c.metadata) few)

ahead : (x y : ℤ) → pos 0 ≤ℤ x → int_le x y ≡ true → pos 0 ≤ℤ y
ahead x y from e = grind (arith, ints, from, e)

moved_by : (k : Known) (i p offset : ℤ) (part : PartitionState) (b : Bool) → int_le part.start offset ≡ b → IsPartition part → IsWellFormed k → WellBy (cond b (Some (with_partition k i p (with_start part offset))) None)
moved_by k i p offset part false e there is = tt
moved_by k i p offset part true e there is = changed k i p (with_start part offset) is (record { start = ahead part.start offset there.start e; ordered = there.ordered; commits = there.commits })

moved : (k : Known) (i p offset : ℤ) (o : Option PartitionState) → partition_at k i p ≡ o → IsWellFormed k → WellBy (option_and_then (λ (part : PartitionState). cond (int_le part.start offset) (Some (with_partition k i p (with_start part offset))) None) o)
moved k i p offset None e is = tt
moved k i p offset (Some part) e is = moved_by k i p offset part (int_le part.start offset) refl (part_found k i p part is e) is

-- ---- texts and numbers of a command

text_fits : (v : List ℕ) → string.Fits v → length v < 2 ^ 15
unfolding sized counted int utf8
text_fits v f = f.0.1.sfits

group_fits : (c : CommitOffset) → command_codec.Fits (Commit c) → length c.group < 2 ^ 15
unfolding command_codec commit_offset
group_fits c f = text_fits c.group f.1.0

number_below : (z : ℤ) → FitsSigned w64 z → natural z < 2 ^ 63
number_below (pos n) f = let lt = f.sfits in omega (arith, lt)
number_below (negsuc n) f = omega arith

abbrev AreBelow : BeginSnapshot → Type 0
AreBelow s = (natural s.instances < 2 ^ 63) × (natural s.issues < 2 ^ 63)

numbers_below : (s : BeginSnapshot) → command_codec.InRange (Snapshot s) → AreBelow s
unfolding command_codec begin_snapshot int
numbers_below s r = (number_below s.instances r.1.1.0, number_below s.issues r.1.1.1)

-- ---- what is read

stepped : (k : Known) (c : Command) → command_codec.Fits c → IsWellFormed k → WellBy (step k c)
stepped k (Create c) fits is = created k c (may_create k c) refl is
stepped k (Delete name) fits is = deleted k (named name k.topics) is
stepped k (Issue id) fits is = issued k (int_eq id (pos k.issues)) (is_left k.issues) refl is
stepped k (Commit c) fits is = committed k c (nat_le (length c.metadata) 4096) refl is (group_fits c fits)
stepped k (Start s) fits is = moved k s.instance s.partition s.offset (partition_at k s.instance s.partition) refl is
stepped k (DeleteGroup group) fits is = group_deleted k group (has_committed group k.topics) is
stepped k (Snapshot s) fits is = tt
stepped k (Topic c) fits is = tt

loaded : (k : Known) (c : Command) → command_codec.Fits c → IsWellFormed k → WellBy (load k c)
loaded k (Topic c) fits is = held k c (may_hold k c) refl is
loaded k (Commit c) fits is = stepped k (Commit c) fits is
loaded k (Start s) fits is = stepped k (Start s) fits is
loaded k (Create c) fits is = tt
loaded k (Delete name) fits is = tt
loaded k (Issue id) fits is = tt
loaded k (Snapshot s) fits is = tt
loaded k (DeleteGroup group) fits is = tt

abbrev ReadBy : Option Reading → Type 0
ReadBy None = Unit {0}
ReadBy (Some r) = IsWellFormed r.known

within : (n : ℕ) (o : Option Known) → WellBy o → ReadBy (option_map (loading n) o)
within n None h = tt
within n (Some k) h = h

no_topics : (n m : ℕ) → n < 2 ^ 63 → m < 2 ^ 63 → IsWellFormed (record { topics = []; creates = n; issues = m })
unfolding IsStrictlySortedBy
no_topics n m creates issues = record { few = omega arith; ordered = tt; topics = tt; apart = tt; creates = creates; issues = issues }

begun_by : (s : BeginSnapshot) (b : Bool) → AreBelow s → ReadBy (cond b (Some (begun s)) None)
begun_by s true below = no_topics (natural s.instances) (natural s.issues) below.0 below.1
begun_by s false below = tt

first : (c : Command) → command_codec.InRange c → ReadBy (first_step c)
first (Snapshot s) range = begun_by s (is_snapshot s) (numbers_below s range)
first (Create c) range = tt
first (Delete name) range = tt
first (Issue id) range = tt
first (Commit c) range = tt
first (Start s) range = tt
first (Topic c) range = tt
first (DeleteGroup group) range = tt

read_by : (k : Known) (stage : Stage) (c : Command) → command_codec.Fits c → command_codec.InRange c → IsWellFormed k → ReadBy (step_in k stage c)
read_by k Fresh c fits range is = first c range
read_by k (Left zero) c fits range is = within 0 (step k c) (stepped k c fits is)
read_by k (Left (suc n)) c fits range is = within n (load k c) (loaded k c fits is)

-- a command that a batch records keeps it so
pub read_well_formed : (s : List ℕ) (old new : Reading) (c : Command) → Says s c → read_step old c ≡ Some new → IsWellFormed old.known → IsWellFormed new.known
read_well_formed s old new c says e is =
    subst ReadBy e (read_by old.known old.stage c (command_lawful.fits says.value c says.spelled) (command_lawful.in_range says.value c says.spelled) is)

all_well_formed : (ss : List (List ℕ)) (cs : List Command) (r n : Reading) → SayEach ss cs → IsWellFormed r.known → read_all r cs ≡ Some n → IsWellFormed n.known
all_well_formed [] [] r n said is e = subst (λ (q : Reading). IsWellFormed q.known) (let same : r ≡ n = cc in same) is
all_well_formed [] (c ∷ cs) r n said is e = absurd said
all_well_formed (s ∷ ss) [] r n said is e = absurd said
all_well_formed (s ∷ ss) (c ∷ cs) r n said is e = by (read_step r c) refl e (λ j there g. all_well_formed ss cs j n said.1 there g)
  where
    by : (o : Option Reading) → read_step r c ≡ o → option_and_then (λ (j : Reading). read_all j cs) o ≡ Some n → ((j : Reading) → IsWellFormed j.known → read_all j cs ≡ Some n → IsWellFormed n.known) → IsWellFormed n.known
    by None f g more = absurd cc
    by (Some j) f g more = more j (read_well_formed s r j c said.0 f is) g

started_well_formed : (generation : ℕ) → IsWellFormed (starting_at generation).known
started_well_formed zero = no_topics 0 0 (omega arith) (omega arith)
started_well_formed (suc generation) = no_topics 0 0 (omega arith) (omega arith)

-- so is what the batches of a generation come to
pub fold_well_formed : (generation : ℕ) (ss : List (List ℕ)) (k : Known) → IsFoldOf generation ss k → IsWellFormed k
fold_well_formed generation ss k fold = all_well_formed ss fold.commands (starting_at generation) (in_use k) fold.said (started_well_formed generation) fold.read
