-- Logs stay small through requests and retention.
use Rattle.std.proofs.Common.{◌≡◌, ◌≤◌, ◌<◌, ◌^◌, ◌+◌, ℕ, ℤ, negsuc, zero, suc, Bool, true, false, cond, List, [], ◌∷◌, length, Option, Some, None, Ok, Err, ap, refl, sym, subst, arith, int_lt, nat_lt}
use Rattle.std.specs.Prelude.{Result, All, nat_le, pos, is_some, replicate, slice_get, slice_set}
use Rattle.std.specs.List.{AllByRecursion}
use Rattle.std.specs.Option.{option_and_then}
use Rattle.std.specs.Ordering.{nat_cmp, match_ordering}
use Rattle.std.specs.declared.cmp.Ordering.{Ordering}
use Rattle.std.specs.declared.cmp.Ordering.TheVariants.{Less, Equal, Greater}
use Rattle.std.specs.Map.{lookup, remove_entry, set_value}
use Rattle.std.specs.BTreeMap.{insert_entry, is_at}
use Rattle.std.proofs.lemmas.Bool.Decides.{nat_tests}
use Rattle.std.proofs.lemmas.List.Elements.{All-from_recursion, All-nil, All-push, All-replicate, All-set, recursion_from_All}
use Rattle.kb_batch.specs.Batch.{IsBatch, count_of, first_fault, natural, stamped}
use Rattle.kb_batch.specs.BatchLaws.{accepted_is, base_offset_of-stamped, batch_long, batch_small, length-stamped}
use Rattle.kb_batch.specs.declared.fault.BatchFault.{BatchFault}
use Rattle.kb_log.specs.Log.{base_of, first_base, is_old, kept_by_size, kept_by_time, next_of, retained, retained_start, size_of, starting, without_excess, without_old}
use Rattle.kb_api_data.specs.declared.create_topics.CreateTopic.{CreateTopic}
use Rattle.kb_api_data.specs.declared.create_topics.CreateTopicsRequest.{CreateTopicsRequest}
use Rattle.kb_api_data.specs.declared.delete_records.DeleteRecordsPartition.{DeleteRecordsPartition}
use Rattle.kb_api_data.specs.declared.delete_records.DeleteRecordsRequest.{DeleteRecordsRequest}
use Rattle.kb_api_data.specs.declared.delete_topics.DeleteTopicsRequest.{DeleteTopicsRequest}
use Rattle.kb_api_data.specs.declared.init_producer_id.InitProducerIdRequest.{InitProducerIdRequest}
use Rattle.kb_api_data.specs.declared.produce.ProducePartition.{ProducePartition}
use Rattle.kb_api_data.specs.declared.produce.ProduceTopic.{ProduceTopic}
use Rattle.kb_api_data.specs.declared.produce.ProduceRequest.{ProduceRequest}
use Rattle.kb_api_data.specs.declared.init_producer_id.InitProducerIdReply.{InitProducerIdReply}
use Rattle.kb_wire.specs.ErrorCode.{code_of as code}
use Rattle.kb_wire.specs.declared.error_code.ErrorCode.{ErrorCode}
use Rattle.kb_wire.specs.declared.error_code.ErrorCode.TheVariants as codes
use Rattle.kb_api_group.specs.declared.offset_commit.OffsetCommitRequest.{OffsetCommitRequest}
use Rattle.kb_producers.specs.declared.verdict.Verdict.{Verdict}
use Rattle.kb_producers.specs.declared.verdict.Verdict.TheVariants.{Append, Repeat, Refuse}
use Rattle.kb_topics.specs.Known.{Known, TopicState, named, step, topic_at}
use Rattle.kb_topics.specs.Commands.{start_command}
use Rattle.kb_topics.specs.Refusals.{create_refusal, issue_refusal}
use Rattle.kb_topics.specs.declared.config.TopicConfig.{TopicConfig}
use Rattle.kb_topics.specs.declared.fault.CatalogFault.{CatalogFault}
use Rattle.kb_tenant_state.specs.Logs.{LogState, Logs, appended, dropped, log_at, no_log, put_log, with_log, without_below}
use Rattle.kb_tenant_state.specs.declared.fault.PartitionFault.{PartitionFault}
use Rattle.kb_tenant_state.specs.declared.fault.PartitionFault.TheVariants as partition
use Rattle.kb_tenant_state.specs.Calls.{appended_to, created_unless, delete_records, deleted_at, due, due_in, issue, issued_unless, moved_to, retain, retained_from, with_log_at}
use Rattle.kb_tenant_state.specs.World.{World, log_in, new_world, place_in}
use Rattle.kb_tenant_state.specs.declared.topic_partition.TopicPartition.{TopicPartition}
use Rattle.kb_tenant.specs.Batches.{HasSmallLogs, IsSmall}
use Rattle.kb_tenant.specs.CreateTopics.{created_all, created_topic, is_too_much, made_of, made_unless, made_unless_full, made_with, refusal, room_in, stands_twice}
use Rattle.kb_tenant.specs.declared.limits.DataLimits.{DataLimits}
use Rattle.kb_tenant.specs.DeleteRecords.{deleted as records_deleted, deleted_all as all_records_deleted, deleted_in, deleted_topic as topic_records_deleted}
use Rattle.kb_tenant.specs.DeleteTopics.{deleted_all, deleted_topic}
use Rattle.kb_tenant.specs.InitProducerId.{id_given, id_refused, init_producer_id}
use Rattle.kb_tenant.specs.Produce.{Progress, appended_at, appended_unless_full, is_full, decided, known_place, offered_unless, produced, progress, read_unless, refusal_of, entry_served, served_topic, tried, verdict_on}
use Rattle.kb_tenant.specs.OffsetCommit.{committed_all, refusal_of as commit_refusal}
use Rattle.kb_tenant.specs.Serve.{Outcome, plainly_served as served_by_key}
use Rattle.kb_tenant.specs.Settings.{settings_in}
use Rattle.kb_tenant.specs.Turns.{in_turn}
use Rattle.kb_tenant.specs.declared.node.Node.{Node}
use Rattle.kb_tenant.proofs.ByRequest.{by_request, of_creations}
use Rattle.kb_tenant.proofs.CommitMoves.{commit_logs}
use Rattle.kb_tenant.proofs.RecordsMoves.{by_deletion}

-- ---- entries under keys

module _ {A : Type 0} (P : A → Type 0) where
  abbrev pub Each : List (ℕ × A) → Type 0
  Each es = AllByRecursion (λ (e : ℕ × A). P e.1) es

  pub each_found : (test : ℕ → Bool) (es : List (ℕ × A)) (a : A) → lookup test es ≡ Some a → Each es → P a
  each_found test [] a there all = absurd cc
  each_found test (e ∷ es) a there all = by (test e.0) there (λ found. each_found test es a found all.1)
    where
      by : (b : Bool) → cond b (Some e.1) (lookup test es) ≡ Some a → (lookup test es ≡ Some a → P a) → P a
      by true found rest = let same : e.1 ≡ a = cc in subst P same all.0
      by false found rest = rest found

  pub each_set : (test : ℕ → Bool) (es : List (ℕ × A)) (a : A) → P a → Each es → Each (set_value test es a)
  each_set test [] a one all = tt
  each_set test (e ∷ es) a one all = by (test e.0) (each_set test es a one all.1)
    where
      by : (b : Bool) → Each (set_value test es a) → Each (cond {A = List (ℕ × A)} b ((e.0, a) ∷ es) (e ∷ set_value test es a))
      by true rest = (one, all.1)
      by false rest = (all.0, rest)

  pub each_removed : (test : ℕ → Bool) (es : List (ℕ × A)) → Each es → Each (remove_entry test es)
  each_removed test [] all = tt
  each_removed test (e ∷ es) all = by (test e.0) (each_removed test es all.1)
    where
      by : (b : Bool) → Each (remove_entry test es) → Each (cond {A = List (ℕ × A)} b es (e ∷ remove_entry test es))
      by true rest = all.1
      by false rest = (all.0, rest)

  pub each_inserted : (es : List (ℕ × A)) (i : ℕ) (a : A) → P a → Each es → Each (insert_entry nat_cmp es i a)
  each_inserted [] i a one all = (one, tt)
  each_inserted (e ∷ es) i a one all = by (nat_cmp i e.0) (each_inserted es i a one all.1)
    where
      by : (o : Ordering) → Each (insert_entry nat_cmp es i a) → Each (match_ordering {X = List (ℕ × A)} o ((i, a) ∷ e ∷ es) ((e.0, a) ∷ es) (e ∷ insert_entry nat_cmp es i a))
      by Less rest = (one, all)
      by Equal rest = (one, all.1)
      by Greater rest = (all.0, rest)

-- ---- one log

abbrev AreSmall : List LogState → Type 0
AreSmall ls = All IsSmall ls

abbrev AreAllSmall : Logs → Type 0
AreAllSmall ls = Each AreSmall ls

by_number : (ls : List LogState) (p : ℕ) (l : LogState) → slice_get ls p ≡ Some l → AllByRecursion IsSmall ls → IsSmall l
by_number [] p l there all = absurd cc
by_number (x ∷ xs) zero l there all = let same : x ≡ l = cc in subst IsSmall same all.0
by_number (x ∷ xs) (suc p) l there all = by_number xs p l there all.1

in_topic : (o : Option (List LogState)) (p : ℕ) (l : LogState) → ((t : List LogState) → o ≡ Some t → AreSmall t) → option_and_then (λ (t : List LogState). slice_get t p) o ≡ Some l → IsSmall l
in_topic None p l each there = absurd cc
in_topic (Some t) p l each there = by_number t p l there (recursion_from_All IsSmall t (each t refl))

-- a log that is found is small
pub small_at : (ls : Logs) (i p : ℕ) (l : LogState) → AreAllSmall ls → log_at i p ls ≡ Some l → IsSmall l
small_at ls i p l all there = in_topic (lookup (is_at (nat_cmp i)) ls) p l (λ t at. each_found AreSmall (is_at (nat_cmp i)) ls t at all) there

put_small : (ls : Logs) (i p : ℕ) (l : LogState) → IsSmall l → AreAllSmall ls → AreAllSmall (with_log i p l ls)
put_small ls i p l small all = by (lookup (is_at (nat_cmp i)) ls) refl
  where
    by : (o : Option (List LogState)) → lookup (is_at (nat_cmp i)) ls ≡ o → AreAllSmall (put_log i p l ls o)
    by None at = all
    by (Some t) at =
        each_set AreSmall (is_at (nat_cmp i)) ls (slice_set t p l) (All-set IsSmall t p l small (each_found AreSmall (is_at (nat_cmp i)) ls t at all)) all

abbrev IsBased : List ℕ → Type 0
IsBased b = base_of b < 2 ^ 63

appended_small : (batch : List ℕ) (l : LogState) → IsBatch batch → l.end + count_of batch < 2 ^ 63 → IsSmall l → IsSmall (appended batch l)
appended_small batch l is lt small =
    let long = batch_long batch is in
    let same = length-stamped (pos l.end) batch (omega (arith, long)) in
    let fits : l.end < 2 ^ 63 = small.end in
    let based : base_of (stamped (pos l.end) batch) ≡ l.end = ap natural (base_offset_of-stamped (pos l.end) batch (record { sfits = fits })) in
    record {
      start = small.start;
      end = lt;
      bases = All-push IsBased l.batches (stamped (pos l.end) batch) small.bases (omega (arith, based, fits));
      batches = All-push (λ (b : List ℕ). length b ≤ 1048588) l.batches (stamped (pos l.end) batch) small.batches (omega (arith, same, batch_small batch is));
    }

module _ (P : List ℕ → Type 0) where
  starting_all : (start : ℕ) (bs : List (List ℕ)) → AllByRecursion P bs → AllByRecursion P (starting start bs)
  starting_all start [] all = tt
  starting_all start (b ∷ bs) all = by (nat_le (next_of b) start) (starting_all start bs all.1)
    where
      by : (t : Bool) → AllByRecursion P (starting start bs) → AllByRecursion P (cond {A = List (List ℕ)} t (starting start bs) (b ∷ bs))
      by true rest = rest
      by false rest = all

  without_old_all : (clock ms : ℤ) (bs : List (List ℕ)) → AllByRecursion P bs → AllByRecursion P (without_old clock ms bs)
  without_old_all clock ms [] all = tt
  without_old_all clock ms (b ∷ bs) all = by (is_old clock ms b) (without_old_all clock ms bs all.1)
    where
      by : (t : Bool) → AllByRecursion P (without_old clock ms bs) → AllByRecursion P (cond {A = List (List ℕ)} t (without_old clock ms bs) (b ∷ bs))
      by true rest = rest
      by false rest = all

  without_excess_all : (limit : ℕ) (bs : List (List ℕ)) → AllByRecursion P bs → AllByRecursion P (without_excess limit bs)
  without_excess_all limit [] all = tt
  without_excess_all limit (b ∷ []) all = all
  without_excess_all limit (b ∷ c ∷ bs) all = by (nat_lt limit (size_of (b ∷ c ∷ bs))) (without_excess_all limit (c ∷ bs) all.1)
    where
      by : (t : Bool) → AllByRecursion P (without_excess limit (c ∷ bs)) → AllByRecursion P (cond {A = List (List ℕ)} t (without_excess limit (c ∷ bs)) (b ∷ c ∷ bs))
      by true rest = rest
      by false rest = all

  by_time_all : (clock ms : ℤ) (bs : List (List ℕ)) → AllByRecursion P bs → AllByRecursion P (kept_by_time clock ms bs)
  by_time_all clock (pos ms) bs all = without_old_all clock (pos ms) bs all
  by_time_all clock (negsuc n) bs all = all

  by_size_all : (bytes : ℤ) (bs : List (List ℕ)) → AllByRecursion P bs → AllByRecursion P (kept_by_size bytes bs)
  by_size_all (pos limit) bs all = without_excess_all limit bs all
  by_size_all (negsuc n) bs all = all

  retained_all : (clock ms bytes : ℤ) (bs : List (List ℕ)) → AllByRecursion P bs → AllByRecursion P (retained clock ms bytes bs)
  retained_all clock ms bytes bs all = by_size_all bytes (kept_by_time clock ms bs) (by_time_all clock ms bs all)

  starting_each : (start : ℕ) (bs : List (List ℕ)) → All P bs → All P (starting start bs)
  starting_each start bs all = All-from_recursion P (starting start bs) (starting_all start bs (recursion_from_All P bs all))

first_base_small : (end : ℕ) (bs : List (List ℕ)) → end < 2 ^ 63 → AllByRecursion IsBased bs → first_base end bs < 2 ^ 63
first_base_small end [] lt all = lt
first_base_small end (b ∷ bs) lt all = all.0

-- the start after retention
retained_start_small : (clock ms bytes : ℤ) (l : LogState) → IsSmall l → retained_start clock ms bytes l.start l.end l.batches < 2 ^ 63
retained_start_small clock ms bytes l small =
    let base = first_base_small l.end (retained clock ms bytes l.batches) small.end (retained_all IsBased clock ms bytes l.batches (recursion_from_All IsBased l.batches small.bases)) in
    omega (arith, small.start, base)

dropped_small : (start : ℤ) (l : LogState) → natural start < 2 ^ 63 → IsSmall l → IsSmall (dropped start l)
dropped_small start l lt small = record {
  start = lt;
  end = small.end;
  bases = starting_each IsBased (natural start) l.batches small.bases;
  batches = starting_each (λ (b : List ℕ). length b ≤ 1048588) (natural start) l.batches small.batches;
}

no_log_small : IsSmall no_log
no_log_small = record { start = omega arith; end = omega arith; bases = All-nil IsBased; batches = All-nil (λ (b : List ℕ). length b ≤ 1048588) }

-- ---- worlds

abbrev Has : World → Type 0
Has w = AreAllSmall w.logs

abbrev Keeps : World → World → Type 0
Keeps w v = Has w → Has v

module _ {S E A : Type 0} (world : S → World) (f : S → E → S × A) (each : (s : S) (e : E) → Keeps (world s) (world (f s e).0)) where
  turns_keep : (s : S) (es : List E) → Keeps (world s) (world (in_turn f s es).0)
  turns_keep s [] all = all
  turns_keep s (e ∷ es) all = turns_keep (f s e).0 es (each s e all)

-- ---- Produce

append_keeps : (p : Progress) (place : TopicPartition) (batch : List ℕ) → IsBatch batch → (o : Option LogState) → log_in p.world place ≡ o → Keeps p.world (appended_at p place (appended_to p.world place batch o)).0.world
append_keeps p place batch is None at all = all
append_keeps p place batch is (Some l) at all = by (nat_le (2 ^ 63) (l.end + count_of batch)) refl
  where
    by : (b : Bool) → nat_le (2 ^ 63) (l.end + count_of batch) ≡ b → Has (appended_at p place (cond b (p.world, Err partition.Full) (with_log_at p.world place (appended batch l), Ok (pos l.end)))).0.world
    by true e = all
    by false e =
        put_small p.world.logs place.instance place.number (appended batch l)
        (appended_small batch l is (grind (arith, nat_tests, e)) (small_at p.world.logs place.instance place.number l all at)) all

full_keeps : (p : Progress) (place : TopicPartition) (batch : List ℕ) → IsBatch batch → (full : Bool) → Keeps p.world (appended_unless_full full p place batch).0.world
full_keeps p place batch is true all = all
full_keeps p place batch is false all = append_keeps p place batch is (log_in p.world place) refl all

decided_keeps : (limit : Option ℕ) (p : Progress) (place : TopicPartition) (batch : List ℕ) → IsBatch batch → (v : Option Verdict) → Keeps p.world (decided limit p place batch v).0.world
decided_keeps limit p place batch is None all = all
decided_keeps limit p place batch is (Some Append) all = full_keeps p place batch is (is_full limit p.world batch) all
decided_keeps limit p place batch is (Some (Repeat base)) all = all
decided_keeps limit p place batch is (Some (Refuse code)) all = all

tried_keeps : (limit : Option ℕ) (p : Progress) (o : Option TopicPartition) (records : Option (List ℕ)) → Keeps p.world (tried limit p o records).0.world
tried_keeps limit p None records all = all
tried_keeps limit p (Some place) None all = all
tried_keeps limit p (Some place) (Some bytes) all = by (first_fault bytes) refl
  where
    by : (o : Option BatchFault) → first_fault bytes ≡ o → Has (offered_unless limit p place (read_unless bytes o)).0.world
    by None e = decided_keeps limit p place bytes (accepted_is bytes e) (verdict_on p.world place bytes) all
    by (Some f) e = all

entry_keeps : (limit : Option ℕ) (refusal : Option ℤ) (topic : Option ℕ) (p : Progress) (e : ProducePartition) → Keeps p.world (entry_served limit refusal topic p e).0.world
entry_keeps limit (Some code) topic p e all = all
entry_keeps limit None topic p e all = tried_keeps limit p (known_place p.world (place_in topic e.index)) e.records all

topic_keeps : (limit : Option ℕ) (refusal : Option ℤ) (p : Progress) (t : ProduceTopic) → Keeps p.world (served_topic limit refusal p t).0.world
topic_keeps limit refusal p t =
    let topic = named t.name p.world.known.topics in
    turns_keep (λ (s : Progress). s.world) (entry_served limit refusal topic) (entry_keeps limit refusal topic) p t.partitions

produce_keeps : (limit : Option ℕ) (w : World) (r : ProduceRequest) → Keeps w (produced limit w [] r).0.world
produce_keeps limit w r =
    let refusal = refusal_of r.transactional_id r.acks in
    turns_keep (λ (s : Progress). s.world) (served_topic limit refusal) (topic_keeps limit refusal) (progress w []) r.topics

-- ---- CreateTopics, DeleteTopics and InitProducerId

made_keeps : (w : World) (name : List ℕ) (partitions : ℤ) (config : TopicConfig) (o : Option CatalogFault) → Keeps w (created_unless w name partitions config o).0
made_keeps w name partitions config (Some f) all = all
made_keeps w name partitions config None all =
    each_inserted AreSmall w.logs w.known.creates (replicate (natural partitions) no_log) (All-replicate IsSmall (natural partitions) no_log no_log_small) all

made_full_keeps : (w : World) (t : CreateTopic) (config : TopicConfig) (full : Bool) → Keeps w (made_unless_full full w t config).0
made_full_keeps w t config true all = all
made_full_keeps w t config false all = made_keeps w t.name t.num_partitions config (create_refusal w.known t.name t.num_partitions config) all

settled_keeps : (limits : DataLimits) (w : World) (t : CreateTopic) (o : Option TopicConfig) → Keeps w (made_with limits w t o).0
settled_keeps limits w t None all = all
settled_keeps limits w t (Some config) all = made_full_keeps w t config (is_too_much limits (room_in limits w.known) t.num_partitions) all

unless_keeps : (limits : DataLimits) (w : World) (t : CreateTopic) (o : Option ErrorCode) → Keeps w (made_unless limits w t o).0
unless_keeps limits w t (Some e) all = all
unless_keeps limits w t None all = settled_keeps limits w t (settings_in t.configs) all

create_keeps : (limits : DataLimits) (w : World) (r : CreateTopicsRequest) → Keeps w (created_all limits w r).0
create_keeps limits w r =
    turns_keep (λ (s : World). s) (created_topic limits r.topics)
    (λ s t. unless_keeps limits s t (refusal (stands_twice t.name r.topics) (is_some (named t.name s.known.topics)) t)) w r.topics

gone_keeps : (w : World) (o : Option ℕ) → Keeps w (deleted_at w o).0
gone_keeps w None all = all
gone_keeps w (Some i) all = each_removed AreSmall (is_at (nat_cmp i)) w.logs all

delete_keeps : (w : World) (r : DeleteTopicsRequest) → Keeps w (deleted_all (w, []) r).0.0
delete_keeps w r =
    turns_keep (λ (s : World × List TopicPartition). s.0) deleted_topic (λ s name. gone_keeps s.0 (named name s.0.known.topics)) (w, []) r.names

issued_keeps : (w : World) (o : Option CatalogFault) → Keeps w (issued_unless w o).0
issued_keeps w (Some f) all = all
issued_keeps w None all = all

-- what is answered by whether an id for transactions is asked for
abbrev given_by : World → Option (List ℕ) → World × InitProducerIdReply
given_by w None = id_given (issue w)
given_by w (Some id) = (w, id_refused (code codes.InvalidRequest))

given_keeps : (w : World) (o : Option (List ℕ)) → Keeps w (given_by w o).0
given_keeps w None all = issued_keeps w (issue_refusal w.known) all
given_keeps w (Some id) all = all

init_keeps : (w : World) (r : InitProducerIdRequest) → Keeps w (init_producer_id w r).0
init_keeps w r = given_keeps w r.transactional_id

-- ---- OffsetCommit

commit_keeps : (limits : DataLimits) (w : World) (refusal : Option ℤ) (r : OffsetCommitRequest) → Keeps w (committed_all limits w refusal r).0
commit_keeps limits w refusal r all = subst AreAllSmall (sym (commit_logs limits w refusal r)) all

-- ---- retention

below_small : (i p : ℕ) (start : ℤ) (ls : Logs) (o : Option LogState) → natural start < 2 ^ 63 → log_at i p ls ≡ o → AreAllSmall ls → AreAllSmall (without_below i p start o ls)
below_small i p start ls None lt at all = all
below_small i p start ls (Some l) lt at all = put_small ls i p (dropped start l) (dropped_small start l lt (small_at ls i p l all at)) all

moved_keeps : (w : World) (place : TopicPartition) (start : ℕ) (o : Option Known) → start < 2 ^ 63 → Keeps w (moved_to w place start o).0
moved_keeps w place start None lt all = all
moved_keeps w place start (Some k) lt all = below_small place.instance place.number (pos start) w.logs (log_in w place) lt refl all

-- the new start of a log that is small
due_small : (clock : ℕ) (t : Option TopicState) (o : Option LogState) (start : ℕ) → ((l : LogState) → o ≡ Some l → IsSmall l) → due_in clock t o ≡ Some start → start < 2 ^ 63
due_small clock None o start small e = absurd cc
due_small clock (Some t) None start small e = absurd cc
due_small clock (Some t) (Some l) start small e = by (nat_le after l.start) e
  where
    after : ℕ
    after = retained_start (pos clock) t.config.retention_ms t.config.retention_bytes l.start l.end l.batches

    by : (b : Bool) → cond b None (Some after) ≡ Some start → start < 2 ^ 63
    by true none = absurd cc
    by false some = let same : after ≡ start = cc in subst (λ n. n < 2 ^ 63) same (retained_start_small (pos clock) t.config.retention_ms t.config.retention_bytes l (small l refl))

due_keeps : (clock : ℕ) (w : World) (place : TopicPartition) (o : Option ℕ) → due clock w place ≡ o → Keeps w (retained_from w place o).0
due_keeps clock w place None is all = all
due_keeps clock w place (Some start) is all = moved_keeps w place start (step w.known (start_command (pos place.instance) (pos place.number) (pos start)))
    (due_small clock (topic_at place.instance w.known.topics) (log_in w place) start (λ l at. small_at w.logs place.instance place.number l all at) is) all

-- ---- DeleteRecords

-- a start up to the end of a log
start_small : (start : ℤ) (end : ℕ) → end < 2 ^ 63 → int_lt (pos end) start ≡ false → natural start < 2 ^ 63
start_small (pos n) end lt within = let le : n ≤ end = grind (arith, nat_tests, within) in omega (arith, le, lt)
start_small (negsuc n) end lt within = omega arith

partition_keeps : (w : World) (place : TopicPartition) (offset : ℤ) → Keeps w (delete_records w place offset).0
partition_keeps w place offset = by_deletion (λ (r : World × Result ℤ PartitionFault). Keeps w r.0) w place (record {
  refused = λ f all. all;
  stays = λ start all. all;
  moves = λ start k l at within e all.
      let lt = start_small start l.end (small_at w.logs place.instance place.number l all at).end within in
      below_small place.instance place.number start w.logs (log_in w place) lt refl all;
}) offset

deletion_keeps : (topic : Option ℕ) (s : World × List TopicPartition) (e : DeleteRecordsPartition) → Keeps s.0 (records_deleted topic s e).0.0
deletion_keeps topic s e = at (place_in topic e.partition)
  where
    at : (o : Option TopicPartition) → Keeps s.0 (deleted_in s o e.offset).0.0
    at None all = all
    at (Some place) all = partition_keeps s.0 place e.offset all

records_keeps : (w : World) (r : DeleteRecordsRequest) → Keeps w (all_records_deleted (w, []) r).0.0
records_keeps w r =
    turns_keep (λ (s : World × List TopicPartition). s.0) topic_records_deleted
    (λ s t. turns_keep (λ (u : World × List TopicPartition). u.0) (records_deleted (named t.name s.0.known.topics)) (deletion_keeps (named t.name s.0.known.topics)) s t.partitions) (w, []) r.topics

-- ---- the laws

into : (w : World) → HasSmallLogs w → Has w
into w small = recursion_from_All (λ (e : ℕ × List LogState). AreSmall e.1) w.logs small

out_of : (w : World) → Has w → HasSmallLogs w
out_of w small = All-from_recursion (λ (e : ℕ × List LogState). AreSmall e.1) w.logs small

-- a log of such a world
pub small_in : (w : World) (place : TopicPartition) (l : LogState) → HasSmallLogs w → log_in w place ≡ Some l → IsSmall l
small_in w place l small at = small_at w.logs place.instance place.number l (into w small) at

pub new_small : HasSmallLogs new_world
new_small = out_of new_world tt

pub retained_small : (clock : ℕ) (w : World) (place : TopicPartition) → HasSmallLogs w → HasSmallLogs (retain clock w place).0
retained_small clock w place small = out_of (retain clock w place).0 (due_keeps clock w place (due clock w place) refl (into w small))

pub committed_small : (limits : DataLimits) (w : World) (refusal : Option ℤ) (r : OffsetCommitRequest) → HasSmallLogs w → HasSmallLogs (committed_all limits w refusal r).0
committed_small limits w refusal r small = out_of (committed_all limits w refusal r).0 (commit_keeps limits w refusal r (into w small))

pub served_small : (node : Node) (w : World) (clock n : ℕ) (key version : ℤ) (body : List ℕ) → HasSmallLogs w → HasSmallLogs (served_by_key node w clock n key version body).world
served_small node w clock n key version body small = out_of (served_by_key node w clock n key version body).world (by_request (λ (o : Outcome). Keeps w o.world) node w clock n key version body (record {
  produce = λ r read. produce_keeps node.limits.bytes w r;
  fetch = λ r read all. all;
  list_offsets = λ r read all. all;
  metadata = λ r read all. all;
  offset_commit = λ r read. commit_keeps node.limits w (commit_refusal r.group_id r.generation_id) r;
  offset_fetch = λ r read all. all;
  find_coordinator = λ r read all. all;
  create_topics = λ r read. of_creations (λ (o : Outcome). Keeps w o.world) node.limits version w r (λ reaction all. all) (create_keeps node.limits w (made_of r));
  delete_topics = λ r read. delete_keeps w r;
  delete_records = λ r read. records_keeps w r;
  init_producer_id = λ r read. init_keeps w r;
  describe_configs = λ r read all. all;
  shut = λ all. all;
}) (into w small))
