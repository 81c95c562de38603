-- How much there is after a change of the topics or the logs.
use Rattle.std.proofs.Common.{◌≡◌, ◌∙◌, ◌≤◌, ◌+◌, ◌-◌, ◌^◌, ◌++◌, ℕ, ℤ, zero, suc, pos, negsuc, Bool, true, false, cond, List, [], ◌∷◌, length, Option, Some, None, refl, sym, ap, subst, arith}
use Rattle.std.specs.Prelude.{int_le, min, option_map, replicate, slice_get, slice_set, sum_by}
use Rattle.std.specs.Option.{option_and_then}
use Rattle.std.specs.declared.cmp.Ordering.{Ordering}
use Rattle.std.specs.declared.cmp.Ordering.TheVariants.{Less, Equal, Greater}
use Rattle.std.specs.Ordering.{nat_cmp, is_eq, match_ordering}
use Rattle.std.specs.Cmp.Lexicographic.{slice_cmp}
use Rattle.std.specs.Map.{lookup, remove_entry, set_value}
use Rattle.std.specs.BTreeMap.{insert_entry, is_at}
use Rattle.std.proofs.lemmas.List.Sums.{sum_by-cons, sum_by-append}
use Rattle.kb_batch.specs.Batch.{stamped}
use Rattle.kb_batch.specs.BatchLaws.{length-stamped}
use Rattle.kb_log.specs.Log.{size_of}
use Rattle.kb_topics.specs.Commands.{start_command}
use Rattle.kb_topics.specs.Known as topics
use Rattle.kb_topics.specs.Known.{Known, CommittedOffset, PartitionState, TopicState, new_partition, put_topic, step, topic_at, with_commit, with_part, with_partition, with_start}
use Rattle.kb_tenant_state.specs.Calls.{known_at, with_committed}
use Rattle.kb_tenant_state.specs.Logs.{Logs, LogState, appended, log_at, no_log, put_log, with_log, with_new_logs}
use Rattle.kb_tenant_state.specs.Stored.{IsTold, bytes_in, bytes_in_all, commits_to, offsets_in, text_size, texts_in, up_to_end}
use Rattle.kb_tenant_state.specs.declared.topic_partition.TopicPartition.{TopicPartition}
use Rattle.kb_tenant_state.proofs.Put.{found_put, get_here, own_number}

-- ---- entries

-- the sum over the values
abbrev pub total : {A : Type 0} → (A → ℕ) → List (ℕ × A) → ℕ
total {A} f es = sum_by (λ (e : ℕ × A). f e.1) es

pub total_cons : {A : Type 0} (f : A → ℕ) (e : ℕ × A) (es : List (ℕ × A)) → total f (e ∷ es) ≡ f e.1 + total f es
total_cons {A} f e es = sum_by-cons (λ (e : ℕ × A). f e.1) e es

-- a value takes the place of another
pub total_set : {A : Type 0} (f : A → ℕ) (test : ℕ → Bool) (es : List (ℕ × A)) (t u : A) → lookup test es ≡ Some t → total f (set_value test es u) + f t ≡ total f es + f u
total_set f test [] t u here = absurd cc
total_set {A} f test (e ∷ es) t u here = by (test e.0) here (total_set f test es t u)
  where
    by : (b : Bool) → cond b (Some e.1) (lookup test es) ≡ Some t → (lookup test es ≡ Some t → total f (set_value test es u) + f t ≡ total f es + f u)
        → total f (cond {A = List (ℕ × A)} b ((e.0, u) ∷ es) (e ∷ set_value test es u)) + f t ≡ total f (e ∷ es) + f u
    by true found rest =
        let one : e.1 ≡ t = cc in
        let new : total f ((e.0, u) ∷ es) ≡ f u + total f es = total_cons f (e.0, u) es in
        omega (arith, ap f one, new, total_cons f e es)
    by false found rest = omega (arith, rest found, total_cons f e (set_value test es u), total_cons f e es)

-- a value that is there is part of the sum
pub total_has : {A : Type 0} (f : A → ℕ) (test : ℕ → Bool) (es : List (ℕ × A)) (t : A) → lookup test es ≡ Some t → f t ≤ total f es
total_has f test [] t here = absurd cc
total_has {A} f test (e ∷ es) t here = by (test e.0) here (total_has f test es t)
  where
    by : (b : Bool) → cond b (Some e.1) (lookup test es) ≡ Some t → (lookup test es ≡ Some t → f t ≤ total f es) → f t ≤ total f (e ∷ es)
    by true found rest = let one : e.1 ≡ t = cc in omega (arith, ap f one, total_cons f e es)
    by false found rest = omega (arith, rest found, total_cons f e es)

-- what a test finds first is taken out
pub total_removed : {A : Type 0} (f : A → ℕ) (weight : Option A → ℕ) → weight None ≡ 0 → ((t : A) → weight (Some t) ≡ f t) → (test : ℕ → Bool) (es : List (ℕ × A))
    → total f (remove_entry test es) + weight (lookup test es) ≡ total f es
total_removed f weight none some test [] = omega (arith, none)
total_removed {A} f weight none some test (e ∷ es) = by (test e.0) (total_removed f weight none some test es)
  where
    by : (b : Bool) → total f (remove_entry test es) + weight (lookup test es) ≡ total f es
        → total f (cond {A = List (ℕ × A)} b es (e ∷ remove_entry test es)) + weight (cond b (Some e.1) (lookup test es)) ≡ total f (e ∷ es)
    by true rest = omega (arith, some e.1, total_cons f e es)
    by false rest = omega (arith, rest, total_cons f e (remove_entry test es), total_cons f e es)

-- a value is put under a new number
pub total_inserted : {A : Type 0} (f : A → ℕ) (n : ℕ) (v : A) (es : List (ℕ × A)) → lookup (is_at (nat_cmp n)) es ≡ None → total f (insert_entry nat_cmp es n v) ≡ f v + total f es
total_inserted f n v [] none = total_cons f (n, v) []
total_inserted {A} f n v (e ∷ es) none = by (nat_cmp n e.0) refl none (total_inserted f n v es)
  where
    by : (o : Ordering) → nat_cmp n e.0 ≡ o → cond (is_at (nat_cmp n) e.0) (Some e.1) (lookup (is_at (nat_cmp n)) es) ≡ None
        → (lookup (is_at (nat_cmp n)) es ≡ None → total f (insert_entry nat_cmp es n v) ≡ f v + total f es)
        → total f (match_ordering {X = List (ℕ × A)} o ((n, v) ∷ e ∷ es) ((e.0, v) ∷ es) (e ∷ insert_entry nat_cmp es n v)) ≡ f v + total f (e ∷ es)
    by Less s none rest = total_cons f (n, v) (e ∷ es)
    by Equal s none rest = absurd (let bad : Some e.1 ≡ None = sym (ap (λ b. cond b (Some e.1) (lookup (is_at (nat_cmp n)) es)) (ap is_eq s)) ∙ none in cc)
    by Greater s none rest =
        let past : lookup (is_at (nat_cmp n)) es ≡ None = sym (ap (λ b. cond b (Some e.1) (lookup (is_at (nat_cmp n)) es)) (ap is_eq s)) ∙ none in
        omega (arith, rest past, total_cons f e (insert_entry nat_cmp es n v), total_cons f e es)

-- ---- a list

-- an item takes the place of another
pub sum_put : {A : Type 0} (f : A → ℕ) (xs : List A) (p : ℕ) (x y : A) → slice_get xs p ≡ Some x → sum_by f (slice_set xs p y) + f x ≡ sum_by f xs + f y
sum_put f [] p x y at = absurd cc
sum_put f (w ∷ ws) zero x y at =
    let same : w ≡ x = cc in
    omega (arith, ap f same, sum_by-cons f y ws, sum_by-cons f w ws)
sum_put f (w ∷ ws) (suc p) x y at = omega (arith, sum_put f ws p x y at, sum_by-cons f w (slice_set ws p y), sum_by-cons f w ws)

-- an item that is there is part of the sum
pub sum_has : {A : Type 0} (f : A → ℕ) (xs : List A) (p : ℕ) (x : A) → slice_get xs p ≡ Some x → f x ≤ sum_by f xs
sum_has f [] p x at = absurd cc
sum_has f (w ∷ ws) zero x at = let same : w ≡ x = cc in omega (arith, ap f same, sum_by-cons f w ws)
sum_has f (w ∷ ws) (suc p) x at = omega (arith, sum_has f ws p x at, sum_by-cons f w ws)

-- ---- the partitions of all topics

-- the sum over them
abbrev pub each_part : (PartitionState → ℕ) → List (ℕ × TopicState) → ℕ
each_part f ts = total (λ (t : TopicState). sum_by f t.partitions) ts

-- one partition has another state
module _ (f : PartitionState → ℕ) (k : Known) (i p : ℕ) (q part : PartitionState) where
  put_sum : (t : TopicState) → topic_at i k.topics ≡ Some t → slice_get t.partitions p ≡ Some q → each_part f (with_partition k (pos i) (pos p) part).topics + f q ≡ each_part f k.topics + f part
  put_sum t at there =
      let parts : sum_by f (slice_set t.partitions p part) + f q ≡ sum_by f t.partitions + f part = sum_put f t.partitions p q part there in
      let all : each_part f (set_value (is_at (nat_cmp i)) k.topics (with_part p part t)) + sum_by f t.partitions ≡ each_part f k.topics + sum_by f (slice_set t.partitions p part) =
      total_set (λ (x : TopicState). sum_by f x.partitions) (is_at (nat_cmp i)) k.topics t (with_part p part t) at in
      let is : each_part f (with_partition k (pos i) (pos p) part).topics ≡ each_part f (set_value (is_at (nat_cmp i)) k.topics (with_part p part t)) = ap (λ o. each_part f (put_topic i p part k.topics o)) at in
      omega (arith, parts, all, is)

  pub moved_sum : topics.partition_at k (pos i) (pos p) ≡ Some q → each_part f (with_partition k (pos i) (pos p) part).topics + f q ≡ each_part f k.topics + f part
  moved_sum there = by (topic_at i k.topics) refl there
    where
      by : (o : Option TopicState) → topic_at i k.topics ≡ o → option_and_then (λ (t : TopicState). slice_get t.partitions p) o ≡ Some q
          → each_part f (with_partition k (pos i) (pos p) part).topics + f q ≡ each_part f k.topics + f part
      by None e at = absurd cc
      by (Some t) e at = put_sum t e at

  -- what it had is part of the sum
  pub part_in_sum : topics.partition_at k (pos i) (pos p) ≡ Some q → f q ≤ each_part f k.topics
  part_in_sum there = by (topic_at i k.topics) refl there
    where
      by : (o : Option TopicState) → topic_at i k.topics ≡ o → option_and_then (λ (t : TopicState). slice_get t.partitions p) o ≡ Some q → f q ≤ each_part f k.topics
      by None e at = absurd cc
      by (Some t) e at = omega (arith, sum_has f t.partitions p q at, total_has (λ (x : TopicState). sum_by f x.partitions) (is_at (nat_cmp i)) k.topics t e)

-- ---- committed offsets

-- one partition has another state
pub moved_offsets : (k : Known) (i p : ℕ) (q part : PartitionState) → topics.partition_at k (pos i) (pos p) ≡ Some q
    → offsets_in (with_partition k (pos i) (pos p) part) + length q.commits ≡ offsets_in k + length part.commits
moved_offsets k i p q part there = moved_sum (λ (x : PartitionState). length x.commits) k i p q part there

-- it is found there
pub moved_there : (k : Known) (i p : ℕ) (q part : PartitionState) → topics.partition_at k (pos i) (pos p) ≡ Some q
    → topics.partition_at (with_partition k (pos i) (pos p) part) (pos i) (pos p) ≡ Some part
moved_there k i p q part there = by (topic_at i k.topics) refl there
  where
    by : (o : Option TopicState) → topic_at i k.topics ≡ o → option_and_then (λ (t : TopicState). slice_get t.partitions p) o ≡ Some q
        → topics.partition_at (with_partition k (pos i) (pos p) part) (pos i) (pos p) ≡ Some part
    by None e at = absurd cc
    by (Some t) e at =
        ap (λ o. option_and_then (λ (t : TopicState). slice_get t.partitions p) (topic_at i (put_topic i p part k.topics o))) e
        ∙ ap (option_and_then (λ (t : TopicState). slice_get t.partitions p)) (found_put k.topics i i t (with_part p part t) e ∙ ap (λ b. cond b (Some (with_part p part t)) (topic_at i k.topics)) (own_number i))
        ∙ get_here t.partitions p q part at

-- a new start leaves what the commits come to
module _ (f : PartitionState → ℕ) (still : (q : PartitionState) (offset : ℤ) → f (with_start q offset) ≡ f q) (k new : Known) (i p offset : ℤ) where
  started_sum : (o : Option PartitionState) → topics.partition_at k i p ≡ o
      → option_and_then (λ (q : PartitionState). cond (int_le q.start offset) (Some (with_partition k i p (with_start q offset))) None) o ≡ Some new → each_part f new.topics ≡ each_part f k.topics
  started_sum None at e = absurd cc
  started_sum (Some q) at e = placed i p at e
    where
      placed : (i p : ℤ) → topics.partition_at k i p ≡ Some q → cond (int_le q.start offset) (Some (with_partition k i p (with_start q offset))) None ≡ Some new → each_part f new.topics ≡ each_part f k.topics
      placed (negsuc i) p at e = absurd cc
      placed (pos i) (negsuc p) at e = absurd cc
      placed (pos i) (pos p) at e = by (int_le q.start offset) e
        where
          by : (b : Bool) → cond b (Some (with_partition k (pos i) (pos p) (with_start q offset))) None ≡ Some new → each_part f new.topics ≡ each_part f k.topics
          by true is =
              let same : with_partition k (pos i) (pos p) (with_start q offset) ≡ new = cc in
              let moved = moved_sum f k i p q (with_start q offset) at in
              omega (arith, ap (λ (j : Known). each_part f j.topics) same, moved, still q offset)
          by false is = absurd cc

  start_sum : step k (start_command i p offset) ≡ Some new → each_part f new.topics ≡ each_part f k.topics
  start_sum e = started_sum (topics.partition_at k i p) refl e

pub start_offsets : (k new : Known) (i p offset : ℤ) → step k (start_command i p offset) ≡ Some new → offsets_in new ≡ offsets_in k
start_offsets k new i p offset e = start_sum (λ (q : PartitionState). length q.commits) (λ q offset. refl) k new i p offset e

pub start_texts : (k new : Known) (i p offset : ℤ) → step k (start_command i p offset) ≡ Some new → texts_in new ≡ texts_in k
start_texts k new i p offset e = start_sum (λ (q : PartitionState). sum_by text_size q.commits) (λ q offset. refl) k new i p offset e

-- a new entry makes none less
longer : {A B : Type 0} (cmp : A → A → Ordering) (es : List (A × B)) (k : A) (v : B) → length es ≤ length (insert_entry cmp es k v)
longer cmp [] k v = omega arith
longer {A} {B} cmp (e ∷ es) k v = by (cmp k e.0) (longer cmp es k v)
  where
    by : (o : Ordering) → length es ≤ length (insert_entry cmp es k v) → length (e ∷ es) ≤ length (match_ordering {X = List (A × B)} o ((k, v) ∷ e ∷ es) ((e.0, v) ∷ es) (e ∷ insert_entry cmp es k v))
    by Less rest = omega arith
    by Equal rest = omega arith
    by Greater rest = omega (arith, rest)

-- a commit's are counted by those that its partition had and has
pub commit_offsets : (k new : Known) (place : TopicPartition) (group : List ℕ) (c : CommittedOffset) (o : Option PartitionState) (was before after now : ℕ) → known_at k place ≡ o
    → new ≡ with_committed k place group c o → was ≡ up_to_end (offsets_in k) → before ≡ commits_to (known_at k place) → after ≡ commits_to (known_at new place)
    → now ≡ min (was + (after - before)) (2 ^ 64 - 1) → now ≡ up_to_end (offsets_in new)
commit_offsets k new place group c None was before after now at is count b a sum =
    let same : commits_to (known_at new place) ≡ commits_to (known_at k place) = ap (λ (j : Known). commits_to (known_at j place)) is in
    omega (arith, ap offsets_in is, count, b, a, sum, same)
commit_offsets k new place group c (Some q) was before after now at is count b a sum =
    let part : PartitionState = with_commit q group c in
    let moved : offsets_in (with_committed k place group c (Some q)) + length q.commits ≡ offsets_in k + length part.commits = moved_offsets k place.instance place.number q part at in
    let had : before ≡ length q.commits = b ∙ ap commits_to at in
    let has : after ≡ length part.commits = a ∙ ap (λ (j : Known). commits_to (known_at j place)) is ∙ ap commits_to (moved_there k place.instance place.number q part at) in
    let more : length q.commits ≤ length part.commits = longer (slice_cmp nat_cmp) q.commits group c in
    omega (arith, ap offsets_in is, count, sum, moved, had, has, more)

-- a new topic has none
module _ (f : PartitionState → ℕ) (none : f new_partition ≡ 0) where
  none_in : (count : ℕ) → sum_by f (replicate count new_partition) ≡ 0
  none_in zero = refl
  none_in (suc count) = omega (arith, sum_by-cons f new_partition (replicate count new_partition), none_in count, none)

  created_sum : (k new : Known) (count : ℕ) (t : TopicState) → topic_at k.creates k.topics ≡ None → new.topics ≡ insert_entry nat_cmp k.topics k.creates t → t.partitions ≡ replicate count new_partition
      → each_part f new.topics ≡ each_part f k.topics
  created_sum k new count t absent is parts =
      let all : each_part f (insert_entry nat_cmp k.topics k.creates t) ≡ sum_by f t.partitions + each_part f k.topics = total_inserted (λ (x : TopicState). sum_by f x.partitions) k.creates t k.topics absent in
      omega (arith, ap (each_part f) is, all, ap (sum_by f) parts, none_in count)

pub created_offsets : (k new : Known) (count : ℕ) (t : TopicState) → topic_at k.creates k.topics ≡ None → new.topics ≡ insert_entry nat_cmp k.topics k.creates t → t.partitions ≡ replicate count new_partition
    → offsets_in new ≡ offsets_in k
created_offsets k new count t none is parts = created_sum (λ (p : PartitionState). length p.commits) refl k new count t none is parts

pub created_texts : (k new : Known) (count : ℕ) (t : TopicState) → topic_at k.creates k.topics ≡ None → new.topics ≡ insert_entry nat_cmp k.topics k.creates t → t.partitions ≡ replicate count new_partition
    → texts_in new ≡ texts_in k
created_texts k new count t none is parts = created_sum (λ (p : PartitionState). sum_by text_size p.commits) refl k new count t none is parts

-- ---- the bytes of batches

-- what is known of them stays right while the logs have their batches
pub still_told : (o o' : Option ℕ) (ls ls' : Logs) → o' ≡ o → ls' ≡ ls → IsTold o (up_to_end (bytes_in_all ls)) → IsTold o' (up_to_end (bytes_in_all ls'))
still_told o o' ls ls' e f told = subst (λ x. IsTold x (up_to_end (bytes_in_all ls'))) (sym e) (subst (λ xs. IsTold o (up_to_end (bytes_in_all xs))) (sym f) told)

no_bytes : (count : ℕ) → bytes_in (replicate count no_log) ≡ 0
no_bytes zero = refl
no_bytes (suc count) = omega (arith, sum_by-cons (λ (l : LogState). size_of l.batches) no_log (replicate count no_log), no_bytes count)

-- a new topic has no batch
pub told_created : (o : Option ℕ) (ls ls' : Logs) (n count : ℕ) → lookup (is_at (nat_cmp n)) ls ≡ None → ls' ≡ with_new_logs n count ls → IsTold o (up_to_end (bytes_in_all ls)) → IsTold o (up_to_end (bytes_in_all ls'))
told_created o ls ls' n count none is told =
    let all : bytes_in_all (insert_entry nat_cmp ls n (replicate count no_log)) ≡ bytes_in (replicate count no_log) + bytes_in_all ls = total_inserted bytes_in n (replicate count no_log) ls none in
    let same : bytes_in_all ls' ≡ bytes_in_all ls = omega (arith, ap bytes_in_all is, all, no_bytes count) in
    subst (λ (n : ℕ). IsTold o (up_to_end n)) (sym same) told

more_bytes : (batch : List ℕ) (l : LogState) → 16 ≤ length batch → size_of (appended batch l).batches ≡ size_of l.batches + length batch
more_bytes batch l long =
    let one : List ℕ = stamped (pos l.end) batch in
    let all : size_of (l.batches ++ one ∷ []) ≡ size_of l.batches + size_of (one ∷ []) = sum_by-append length l.batches (one ∷ []) in
    let last : size_of (one ∷ []) ≡ length one + 0 = sum_by-cons length one [] in
    omega (arith, all, last, length-stamped (pos l.end) batch long)

pub appended_bytes : (i p : ℕ) (batch : List ℕ) (l : LogState) (ls : Logs) → 16 ≤ length batch → log_at i p ls ≡ Some l → bytes_in_all (with_log i p (appended batch l) ls) ≡ bytes_in_all ls + length batch
appended_bytes i p batch l ls long there = by (lookup (is_at (nat_cmp i)) ls) refl there
  where
    by : (o : Option (List LogState)) → lookup (is_at (nat_cmp i)) ls ≡ o → option_and_then (λ (t : List LogState). slice_get t p) o ≡ Some l → bytes_in_all (put_log i p (appended batch l) ls o) ≡ bytes_in_all ls + length batch
    by None e at = absurd cc
    by (Some t) e at =
        let one : bytes_in (slice_set t p (appended batch l)) + size_of l.batches ≡ bytes_in t + size_of (appended batch l).batches = sum_put (λ (x : LogState). size_of x.batches) t p l (appended batch l) at in
        let all : bytes_in_all (set_value (is_at (nat_cmp i)) ls (slice_set t p (appended batch l))) + bytes_in t ≡ bytes_in_all ls + bytes_in (slice_set t p (appended batch l)) = total_set bytes_in (is_at (nat_cmp i)) ls t (slice_set t p (appended batch l)) e in
        omega (arith, one, all, more_bytes batch l long)

-- a batch was added
pub told_appended : (o : Option ℕ) (i p n : ℕ) (batch : List ℕ) (l : LogState) (ls ls' : Logs) → 16 ≤ length batch → n ≡ length batch → log_at i p ls ≡ Some l → ls' ≡ with_log i p (appended batch l) ls
    → IsTold o (up_to_end (bytes_in_all ls)) → IsTold (option_map (λ (m : ℕ). up_to_end (m + n)) o) (up_to_end (bytes_in_all ls'))
told_appended None i p n batch l ls ls' long size there is told = tt
told_appended (Some m) i p n batch l ls ls' long size there is told = omega (arith, told, size, ap bytes_in_all is, appended_bytes i p batch l ls long there)
