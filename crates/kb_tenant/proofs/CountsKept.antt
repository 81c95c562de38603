-- What each change of a world makes of the counts that have limits.
use Rattle.std.proofs.Common.{◌≡◌, ◌∙◌, ◌≤◌, ◌+◌, ◌-◌, ℕ, ℤ, zero, suc, pos, Bool, true, false, cond, List, [], ◌∷◌, length, Option, Some, None, refl, sym, ap, subst, arith}
use Rattle.std.specs.Prelude.{nat_le, replicate, slice_get, slice_set, sum_by, int_le}
use Rattle.std.specs.List.{AllByRecursion}
use Rattle.std.specs.List.Sorted.{IsStrictlySortedBy}
use Rattle.std.specs.Option.{option_and_then}
use Rattle.std.specs.declared.cmp.Ordering.{Ordering}
use Rattle.std.specs.declared.cmp.Ordering.TheVariants.{Less as Below, Equal, Greater}
use Rattle.std.specs.Ordering.{nat_cmp, is_eq, match_ordering}
use Rattle.std.specs.Cmp.{IsTotalOrder}
use Rattle.std.specs.Cmp.Lexicographic.{slice_cmp, nat_list_cmp_total}
use Rattle.std.specs.FinMap.{slice_cmp-IsAntisymmetric, nat_cmp-IsAntisymmetric}
use Rattle.std.specs.Map.{keys_of, lookup, remove_entry, set_value}
use Rattle.std.specs.BTreeMap.{insert_entry, is_at}
use Rattle.std.proofs.lemmas.List.{length-replicate}
use Rattle.std.proofs.lemmas.List.Sums.{sum_by-cons}
use Rattle.std.proofs.lemmas.Map.{lookup-none}
use Rattle.std.proofs.lemmas.Map.Entries.{none_below_head}
use Rattle.std.proofs.lemmas.Map.Keys.{sorted_tail}
use Rattle.kb_batch.specs.Batch.{natural}
use Rattle.kb_log.specs.Log.{next_of, size_of, starting}
use Rattle.kb_topics.specs.Commands.{start_command}
use Rattle.kb_topics.specs.Known.{CommittedOffset, Known, PartitionState, TopicState, committed_at, new_partition, new_topic, partition_at, put_topic, step, topic_at, with_commit, with_part, with_partition, with_start, with_topic, without_topic}
use Rattle.kb_topics.specs.declared.config.TopicConfig.{TopicConfig}
use Rattle.kb_topics.proofs.Sorted.{all_get, all_replicate, all_set, left_long, put_long, sorted_put}
use Rattle.kb_tenant_state.specs.Logs.{LogState, Logs, dropped, log_at, no_log, put_log, with_log, with_new_logs, without_below, without_logs}
use Rattle.kb_tenant_state.specs.Stored.{bytes_in, bytes_in_all, offsets_in, offsets_to, partitions_in, stored_in, text_of, text_size, texts_in, texts_to}
use Rattle.kb_tenant_state.specs.Tied.{counted, partition_count}
use Rattle.kb_tenant_state.specs.World.{World, log_in}
use Rattle.kb_tenant_state.specs.declared.topic_partition.TopicPartition.{TopicPartition}
use Rattle.kb_tenant_state.proofs.Sums.{moved_offsets, moved_sum, start_offsets, start_texts, sum_put, total, total_cons, total_set}
use Rattle.kb_tenant.specs.LimitsKept.{IsOrdered}
use Rattle.kb_tenant.proofs.LimitsKept.{Less}
use Rattle.kb_tenant.proofs.RetainMoves.{IsAlike, step_alike}
use Rattle.kb_tenant.proofs.Small.{Each, each_found, each_inserted, each_removed, each_set}

-- ---- entries

-- a value that is put adds at most itself
most_inserted : {A : Type 0} (f : A → ℕ) (n : ℕ) (v : A) (es : List (ℕ × A)) → total f (insert_entry nat_cmp es n v) ≤ total f es + f v
most_inserted f n v [] = omega (arith, total_cons f (n, v) [])
most_inserted {A} f n v (e ∷ es) = by (nat_cmp n e.0) (most_inserted f n v es)
  where
    by : (o : Ordering) → total f (insert_entry nat_cmp es n v) ≤ total f es + f v
        → total f (match_ordering {X = List (ℕ × A)} o ((n, v) ∷ e ∷ es) ((e.0, v) ∷ es) (e ∷ insert_entry nat_cmp es n v)) ≤ total f (e ∷ es) + f v
    by Below rest = omega (arith, total_cons f (n, v) (e ∷ es))
    by Equal rest = omega (arith, total_cons f (e.0, v) es, total_cons f e es)
    by Greater rest = omega (arith, rest, total_cons f e (insert_entry nat_cmp es n v), total_cons f e es)

-- one that is taken out adds nothing
less_removed : {A : Type 0} (f : A → ℕ) (test : ℕ → Bool) (es : List (ℕ × A)) → total f (remove_entry test es) ≤ total f es
less_removed f test [] = omega arith
less_removed {A} f test (e ∷ es) = by (test e.0) (less_removed f test es)
  where
    by : (b : Bool) → total f (remove_entry test es) ≤ total f es → total f (cond {A = List (ℕ × A)} b es (e ∷ remove_entry test es)) ≤ total f (e ∷ es)
    by true rest = omega (arith, total_cons f e es)
    by false rest = omega (arith, rest, total_cons f e es, total_cons f e (remove_entry test es))

-- what has none has none however often it stands there
no_sum : {A : Type 0} (f : A → ℕ) (x : A) → f x ≡ 0 → (count : ℕ) → sum_by f (replicate count x) ≡ 0
no_sum f x none zero = refl
no_sum f x none (suc count) = omega (arith, none, sum_by-cons f x (replicate count x), no_sum f x none count)

-- ---- topics

same_length : {A : Type 0} (size : A → ℕ) (es : List (ℕ × A)) → length (counted size es) ≡ length es
same_length size [] = refl
same_length size (e ∷ es) = ap suc (same_length size es)

same_total : {A : Type 0} (size : A → ℕ) (es : List (ℕ × A)) → sum_by (λ (e : ℕ × ℕ). e.1) (counted size es) ≡ total size es
same_total size [] = refl
same_total size (e ∷ es) = omega (arith, sum_by-cons (λ (x : ℕ × ℕ). x.1) (e.0, size e.1) (counted size es), total_cons size e es, same_total size es)

-- what is alike has as many topics, and as many partitions
pub alike_topics : (k l : Known) → IsAlike k l → length l.topics ≡ length k.topics
alike_topics k l alike = sym (same_length partition_count l.topics) ∙ ap length alike.counts ∙ same_length partition_count k.topics

pub alike_partitions : (k l : Known) → IsAlike k l → partitions_in l ≡ partitions_in k
alike_partitions k l alike =
    sym (same_total partition_count l.topics) ∙ ap (λ (es : List (ℕ × ℕ)). sum_by (λ (e : ℕ × ℕ). e.1) es) alike.counts ∙ same_total partition_count k.topics

-- what one partition has more of commits all have
commit_less : (k : Known) (i p : ℕ) (q part : PartitionState) → partition_at k (pos i) (pos p) ≡ Some q → (n : ℕ) → length part.commits ≤ length q.commits + n
    → offsets_in (with_partition k (pos i) (pos p) part) ≤ offsets_in k + n
commit_less k i p q part there n le =
    let moved : offsets_in (with_partition k (pos i) (pos p) part) + length q.commits ≡ offsets_in k + length part.commits = moved_offsets k i p q part there in
    omega (arith, moved, le)

-- a group's commit is at most one more
pub one_commit : (k : Known) (i p : ℕ) (q : PartitionState) (group : List ℕ) (c : CommittedOffset) → partition_at k (pos i) (pos p) ≡ Some q
    → offsets_in (with_partition k (pos i) (pos p) (with_commit q group c)) ≤ offsets_in k + 1
one_commit k i p q group c there =
    let most = put_long q.commits (slice_cmp nat_cmp) group c in
    commit_less k i p q (with_commit q group c) there 1 (omega (arith, most))

-- an entry in the place of one of its key makes no more
no_more : {K X : Type 0} (R : K → K → Ordering) → IsTotalOrder R → (k : K) (c d : X) (es : List (K × X)) → IsStrictlySortedBy R (keys_of es) → lookup (is_at (R k)) es ≡ Some d → length (insert_entry R es k c) ≤ length es
no_more R total k c d [] s found = absurd cc
no_more {K} {X} R total k c d (e ∷ es) s found = by (R k e.0) refl (no_more R total k c d es (sorted_tail R e.0 (keys_of es) s))
  where
    by : (o : Ordering) → R k e.0 ≡ o → (lookup (is_at (R k)) es ≡ Some d → length (insert_entry R es k c) ≤ length es)
        → length (match_ordering {X = List (K × X)} o ((k, c) ∷ e ∷ es) ((e.0, c) ∷ es) (e ∷ insert_entry R es k c)) ≤ length (e ∷ es)
    by Below at rest =
        let none : lookup (is_at (R k)) (e ∷ es) ≡ None = lookup-none (is_at (R k)) (e ∷ es) (none_below_head total k e es s at) in
        let bad : Some d ≡ None = sym found ∙ none in
        absurd cc
    by Equal at rest = omega arith
    by Greater at rest =
        let later : lookup (is_at (R k)) es ≡ Some d = sym (ap (λ o. cond (is_eq o) (Some e.1) (lookup (is_at (R k)) es)) at) ∙ found in
        omega (arith, rest later)

-- a group that has committed has no more after it
pub same_commit : (k : Known) (i p : ℕ) (q : PartitionState) (group : List ℕ) (c d : CommittedOffset) → partition_at k (pos i) (pos p) ≡ Some q → IsOrdered q → committed_at group q ≡ Some d
    → offsets_in (with_partition k (pos i) (pos p) (with_commit q group c)) ≤ offsets_in k
same_commit k i p q group c d there ordered found =
    let le : length (with_commit q group c).commits ≤ length q.commits = no_more (slice_cmp nat_cmp) nat_list_cmp_total group c d q.commits ordered found in
    let most = commit_less k i p q (with_commit q group c) there 0 (omega (arith, le)) in
    omega (arith, most)

-- ---- the texts of commits

-- a group that is found has the id that it was found by
long_as : (group other : List ℕ) → slice_cmp nat_cmp group other ≡ Equal → length other ≡ length group
long_as group other e = sym (ap (λ (g : List ℕ). length g) (slice_cmp-IsAntisymmetric nat_cmp-IsAntisymmetric group other e))

-- a commit's texts stand in the place of those of what its group had
put_texts : (group : List ℕ) (c : CommittedOffset) (cs : List (List ℕ × CommittedOffset)) → IsStrictlySortedBy (slice_cmp nat_cmp) (keys_of cs)
    → sum_by text_size (insert_entry (slice_cmp nat_cmp) cs group c) + text_of group (lookup (is_at (slice_cmp nat_cmp group)) cs) ≡ sum_by text_size cs + text_size (group, c)
put_texts group c [] s = omega (arith, sum_by-cons text_size (group, c) [])
put_texts group c (e ∷ cs) s = by (slice_cmp nat_cmp group e.0) refl (put_texts group c cs (sorted_tail (slice_cmp nat_cmp) e.0 (keys_of cs) s))
  where
    had : List (List ℕ × CommittedOffset) → ℕ
    had es = text_of group (lookup (is_at (slice_cmp nat_cmp group)) es)

    found : Ordering → ℕ
    found o = text_of group (cond (is_eq o) (Some e.1) (lookup (is_at (slice_cmp nat_cmp group)) cs))

    rest : List (List ℕ × CommittedOffset)
    rest = insert_entry (slice_cmp nat_cmp) cs group c

    by : (o : Ordering) → slice_cmp nat_cmp group e.0 ≡ o → sum_by text_size rest + had cs ≡ sum_by text_size cs + text_size (group, c)
        → sum_by text_size (match_ordering {X = List (List ℕ × CommittedOffset)} o ((group, c) ∷ e ∷ cs) ((e.0, c) ∷ cs) (e ∷ rest)) + had (e ∷ cs) ≡ sum_by text_size (e ∷ cs) + text_size (group, c)
    by Below at behind =
        let none : lookup (is_at (slice_cmp nat_cmp group)) (e ∷ cs) ≡ None = lookup-none (is_at (slice_cmp nat_cmp group)) (e ∷ cs) (none_below_head nat_list_cmp_total group e cs s at) in
        let nothing : had (e ∷ cs) ≡ 0 = ap (text_of group) none in
        omega (arith, nothing, sum_by-cons text_size (group, c) (e ∷ cs))
    by Equal at behind =
        let has : had (e ∷ cs) ≡ text_size (group, e.1) = ap found at in
        omega (arith, has, long_as group e.0 at, sum_by-cons text_size (e.0, c) cs, sum_by-cons text_size e cs)
    by Greater at behind =
        let has : had (e ∷ cs) ≡ had cs = ap found at in
        omega (arith, has, behind, sum_by-cons text_size e rest, sum_by-cons text_size e cs)

-- a group's commit brings no more than its texts are more than those that it had
pub brought_texts : (k : Known) (i p : ℕ) (q : PartitionState) (group : List ℕ) (c : CommittedOffset) → partition_at k (pos i) (pos p) ≡ Some q → IsOrdered q
    → texts_in (with_partition k (pos i) (pos p) (with_commit q group c)) ≤ texts_in k + (text_size (group, c) - text_of group (committed_at group q))
brought_texts k i p q group c there ordered =
    let texts : PartitionState → ℕ = λ (x : PartitionState). sum_by text_size x.commits in
    let moved : texts_in (with_partition k (pos i) (pos p) (with_commit q group c)) + texts q ≡ texts_in k + texts (with_commit q group c) = moved_sum texts k i p q (with_commit q group c) there in
    let put : texts (with_commit q group c) + text_of group (committed_at group q) ≡ texts q + text_size (group, c) = put_texts group c q.commits ordered in
    omega (arith, moved, put)

-- ---- the order of commits

abbrev AreOrdered : Known → Type 0
AreOrdered k = Each (λ (t : TopicState). AllByRecursion IsOrdered t.partitions) k.topics

-- a partition that is found is in order
pub ordered_at : (k : Known) (i p : ℕ) (q : PartitionState) → partition_at k (pos i) (pos p) ≡ Some q → AreOrdered k → IsOrdered q
ordered_at k i p q there all = by (topic_at i k.topics) refl there
  where
    by : (o : Option TopicState) → topic_at i k.topics ≡ o → option_and_then (λ (t : TopicState). slice_get t.partitions p) o ≡ Some q → IsOrdered q
    by None e at = absurd cc
    by (Some t) e at = all_get IsOrdered t.partitions p q (each_found (λ (t : TopicState). AllByRecursion IsOrdered t.partitions) (is_at (nat_cmp i)) k.topics t e all) at

-- another state of a partition that is in order
pub ordered_with : (k : Known) (i p : ℕ) (part : PartitionState) → IsOrdered part → AreOrdered k → AreOrdered (with_partition k (pos i) (pos p) part)
ordered_with k i p part is all = by (topic_at i k.topics) refl
  where
    by : (o : Option TopicState) → topic_at i k.topics ≡ o → Each (λ (t : TopicState). AllByRecursion IsOrdered t.partitions) (put_topic i p part k.topics o)
    by None e = all
    by (Some t) e =
        let before = each_found (λ (t : TopicState). AllByRecursion IsOrdered t.partitions) (is_at (nat_cmp i)) k.topics t e all in
        each_set (λ (t : TopicState). AllByRecursion IsOrdered t.partitions) (is_at (nat_cmp i)) k.topics (with_part p part t) (all_set IsOrdered t.partitions p part is before) all

pub ordered_commit : (k : Known) (i p : ℕ) (q : PartitionState) (group : List ℕ) (c : CommittedOffset) → partition_at k (pos i) (pos p) ≡ Some q → AreOrdered k → AreOrdered (with_partition k (pos i) (pos p) (with_commit q group c))
ordered_commit k i p q group c there all = ordered_with k i p (with_commit q group c) (sorted_put nat_list_cmp_total q.commits group c (ordered_at k i p q there all)) all

new_ordered : IsOrdered new_partition
unfolding IsStrictlySortedBy
new_ordered = tt

pub ordered_created : (k : Known) (name : List ℕ) (count : ℕ) (config : TopicConfig) → AreOrdered k → AreOrdered (with_topic k (new_topic name count config))
ordered_created k name count config all =
    each_inserted (λ (t : TopicState). AllByRecursion IsOrdered t.partitions) k.topics k.creates (new_topic name count config) (all_replicate IsOrdered count new_partition new_ordered) all

pub ordered_deleted : (k : Known) (i : ℕ) → AreOrdered k → AreOrdered (without_topic k i)
ordered_deleted k i all = each_removed (λ (t : TopicState). AllByRecursion IsOrdered t.partitions) (is_at (nat_cmp i)) k.topics all

started_ordered : (k new : Known) (i p : ℕ) (start : ℤ) (o : Option PartitionState) → partition_at k (pos i) (pos p) ≡ o
    → option_and_then (λ (q : PartitionState). cond (int_le q.start start) (Some (with_partition k (pos i) (pos p) (with_start q start))) None) o ≡ Some new → AreOrdered k → AreOrdered new
started_ordered k new i p start None at e all = absurd cc
started_ordered k new i p start (Some q) at e all = by (int_le q.start start) e
  where
    by : (b : Bool) → cond b (Some (with_partition k (pos i) (pos p) (with_start q start))) None ≡ Some new → AreOrdered new
    by true is =
        let same : with_partition k (pos i) (pos p) (with_start q start) ≡ new = cc in
        subst AreOrdered same (ordered_with k i p (with_start q start) (ordered_at k i p q at all) all)
    by false is = absurd cc

pub ordered_started : (k new : Known) (i p : ℕ) (start : ℤ) → step k (start_command (pos i) (pos p) start) ≡ Some new → AreOrdered k → AreOrdered new
ordered_started k new i p start e all = started_ordered k new i p start (partition_at k (pos i) (pos p)) refl e all

-- ---- the bytes of batches

-- a log with no more bytes in the place of another
bytes_put : (i p : ℕ) (l new : LogState) (ls : Logs) → log_at i p ls ≡ Some l → size_of new.batches ≤ size_of l.batches → bytes_in_all (with_log i p new ls) ≤ bytes_in_all ls
bytes_put i p l new ls there le = by (lookup (is_at (nat_cmp i)) ls) refl there
  where
    by : (o : Option (List LogState)) → lookup (is_at (nat_cmp i)) ls ≡ o → option_and_then (λ (t : List LogState). slice_get t p) o ≡ Some l → bytes_in_all (put_log i p new ls o) ≤ bytes_in_all ls
    by None e at = absurd cc
    by (Some t) e at =
        let one : bytes_in (slice_set t p new) + size_of l.batches ≡ bytes_in t + size_of new.batches = sum_put (λ (x : LogState). size_of x.batches) t p l new at in
        let all : bytes_in_all (set_value (is_at (nat_cmp i)) ls (slice_set t p new)) + bytes_in t ≡ bytes_in_all ls + bytes_in (slice_set t p new) = total_set bytes_in (is_at (nat_cmp i)) ls t (slice_set t p new) e in
        omega (arith, one, all, le)

starting_size : (start : ℕ) (bs : List (List ℕ)) → size_of (starting start bs) ≤ size_of bs
starting_size start [] = omega arith
starting_size start (b ∷ bs) = by (nat_le (next_of b) start) (starting_size start bs)
  where
    by : (t : Bool) → size_of (starting start bs) ≤ size_of bs → size_of (cond {A = List (List ℕ)} t (starting start bs) (b ∷ bs)) ≤ size_of (b ∷ bs)
    by true rest = omega (arith, rest, sum_by-cons length b bs)
    by false rest = omega arith

pub bytes_below : (i p : ℕ) (start : ℤ) (ls : Logs) (o : Option LogState) → log_at i p ls ≡ o → bytes_in_all (without_below i p start o ls) ≤ bytes_in_all ls
bytes_below i p start ls None at = omega arith
bytes_below i p start ls (Some l) at = bytes_put i p l (dropped start l) ls at (starting_size (natural start) l.batches)

-- ---- whole worlds

-- a start that moved
pub moved_less : (w : World) (place : TopicPartition) (start : ℤ) (k : Known) → step w.known (start_command (pos place.instance) (pos place.number) start) ≡ Some k
    → Less w (record w { known = k; logs = without_below place.instance place.number start (log_in w place) w.logs })
moved_less w place start k e =
    let alike = step_alike w.known k place.instance place.number start e in
    let bytes = bytes_below place.instance place.number start w.logs (log_in w place) refl in
    let topics = alike_topics w.known k alike in
    let partitions = alike_partitions w.known k alike in
    let offsets = start_offsets w.known k (pos place.instance) (pos place.number) start e in
    let texts = start_texts w.known k (pos place.instance) (pos place.number) start e in
    record { bytes = bytes; topics = omega (arith, topics); partitions = omega (arith, partitions); offsets = omega (arith, offsets); texts = omega (arith, texts) }

-- a topic that is gone
pub deleted_less : (w : World) (i : ℕ) → Less w (record w { known = without_topic w.known i; logs = without_logs i w.logs })
deleted_less w i = record {
  bytes = less_removed bytes_in (is_at (nat_cmp i)) w.logs;
  topics = left_long w.known.topics (is_at (nat_cmp i));
  partitions = less_removed (λ (t : TopicState). length t.partitions) (is_at (nat_cmp i)) w.known.topics;
  offsets = less_removed (λ (t : TopicState). offsets_to t.partitions) (is_at (nat_cmp i)) w.known.topics;
  texts = less_removed (λ (t : TopicState). texts_to t.partitions) (is_at (nat_cmp i)) w.known.topics;
}

-- one topic more, of so many partitions
pub record OneMore (w v : World) (count : ℕ) : Type 0 where
  pub bytes : stored_in v ≤ stored_in w
  pub topics : length v.known.topics ≤ length w.known.topics + 1
  pub partitions : partitions_in v.known ≤ partitions_in w.known + count
  pub offsets : offsets_in v.known ≤ offsets_in w.known
  pub texts : texts_in v.known ≤ texts_in w.known

pub created_more : (w : World) (name : List ℕ) (count : ℕ) (config : TopicConfig) → OneMore w (record w { known = with_topic w.known (new_topic name count config); logs = with_new_logs w.known.creates count w.logs }) count
created_more w name count config =
    let t : TopicState = new_topic name count config in
    let bytes : bytes_in_all (insert_entry nat_cmp w.logs w.known.creates (replicate count no_log)) ≤ bytes_in_all w.logs + bytes_in (replicate count no_log) = most_inserted bytes_in w.known.creates (replicate count no_log) w.logs in
    let no_bytes : bytes_in (replicate count no_log) ≡ 0 = no_sum (λ (l : LogState). size_of l.batches) no_log refl count in
    let topics = put_long w.known.topics nat_cmp w.known.creates t in
    let partitions : partitions_in (with_topic w.known t) ≤ partitions_in w.known + length t.partitions = most_inserted (λ (t : TopicState). length t.partitions) w.known.creates t w.known.topics in
    let many : length t.partitions ≡ count = length-replicate count new_partition in
    let offsets : offsets_in (with_topic w.known t) ≤ offsets_in w.known + offsets_to t.partitions = most_inserted (λ (t : TopicState). offsets_to t.partitions) w.known.creates t w.known.topics in
    let no_offsets : offsets_to t.partitions ≡ 0 = no_sum (λ (p : PartitionState). length p.commits) new_partition refl count in
    let texts : texts_in (with_topic w.known t) ≤ texts_in w.known + texts_to t.partitions = most_inserted (λ (t : TopicState). texts_to t.partitions) w.known.creates t w.known.topics in
    let no_texts : texts_to t.partitions ≡ 0 = no_sum (λ (p : PartitionState). sum_by text_size p.commits) new_partition refl count in
    record {
      bytes = omega (arith, bytes, no_bytes);
      topics = omega (arith, topics);
      partitions = omega (arith, partitions, many);
      offsets = omega (arith, offsets, no_offsets);
      texts = omega (arith, texts, no_texts);
    }
