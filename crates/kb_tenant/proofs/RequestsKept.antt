-- No request brings a count of what a tenant has past its limit.
use Rattle.std.proofs.Common.{◌≡◌, ◌∙◌, ◌^◌, ◌+◌, ℕ, ℤ, pos, Bool, true, false, cond, List, [], ◌∷◌, length, Option, Some, None, Ok, Err, refl, sym, ap, arith}
use Rattle.std.specs.Prelude.{Result, is_some, nat_le, not, ◌&&◌, ◌||◌}
use Rattle.std.specs.Option.{option_and_then}
use Rattle.kb_batch.specs.Batch.{IsBatch, count_of, first_fault, natural}
use Rattle.kb_batch.specs.BatchLaws.{accepted_is, batch_long}
use Rattle.kb_batch.specs.declared.fault.BatchFault.{BatchFault}
use Rattle.kb_api_data.specs.declared.create_topics.CreateTopic.{CreateTopic}
use Rattle.kb_api_data.specs.declared.create_topics.CreateTopicsRequest.{CreateTopicsRequest}
use Rattle.kb_api_data.specs.declared.delete_records.DeleteRecordsPartition.{DeleteRecordsPartition}
use Rattle.kb_api_data.specs.declared.delete_records.DeleteRecordsRequest.{DeleteRecordsRequest}
use Rattle.kb_api_data.specs.declared.delete_topics.DeleteTopicsRequest.{DeleteTopicsRequest}
use Rattle.kb_api_data.specs.declared.init_producer_id.InitProducerIdRequest.{InitProducerIdRequest}
use Rattle.kb_api_data.specs.declared.init_producer_id.InitProducerIdReply.{InitProducerIdReply}
use Rattle.kb_api_data.specs.declared.produce.ProducePartition.{ProducePartition}
use Rattle.kb_api_data.specs.declared.produce.ProduceTopic.{ProduceTopic}
use Rattle.kb_api_data.specs.declared.produce.ProduceRequest.{ProduceRequest}
use Rattle.kb_api_group.specs.declared.offset_commit.CommitPartition.{CommitPartition}
use Rattle.kb_api_group.specs.declared.offset_commit.CommitTopic.{CommitTopic}
use Rattle.kb_api_group.specs.declared.offset_commit.OffsetCommitRequest.{OffsetCommitRequest}
use Rattle.kb_wire.specs.ErrorCode.{code_of as code}
use Rattle.kb_wire.specs.declared.error_code.ErrorCode.{ErrorCode}
use Rattle.kb_wire.specs.declared.error_code.ErrorCode.TheVariants as codes
use Rattle.kb_producers.specs.declared.verdict.Verdict.{Verdict}
use Rattle.kb_producers.specs.declared.verdict.Verdict.TheVariants.{Append, Repeat, Refuse}
use Rattle.kb_topics.specs.Commands.{start_command}
use Rattle.kb_topics.specs.Known.{CommittedOffset, Known, PartitionState, committed_at as offset_of, named, new_topic, step, topic_at, with_commit, with_partition, with_topic}
use Rattle.kb_topics.specs.Refusals.{commit_refusal, create_refusal, issue_refusal}
use Rattle.kb_topics.specs.declared.config.TopicConfig.{TopicConfig}
use Rattle.kb_topics.specs.declared.fault.CatalogFault.{CatalogFault}
use Rattle.kb_tenant_state.specs.Calls.{all_places, appended_to, committed as committed_to, committed_unless, created_unless, delete_records, deleted_at, due, issue, issued_unless, known_at, moved_to, retain, retain_all, retain_each, retained_from, with_committed, with_log_at}
use Rattle.kb_tenant_state.specs.Logs.{LogState, appended, with_new_logs}
use Rattle.kb_tenant_state.specs.Stored.{offsets_in, partitions_in, stored_in, text_of, texts_in}
use Rattle.kb_tenant_state.specs.World.{World, log_in, new_world, place_in}
use Rattle.kb_tenant_state.specs.declared.fault.PartitionFault.{PartitionFault}
use Rattle.kb_tenant_state.specs.declared.fault.PartitionFault.TheVariants as partition
use Rattle.kb_tenant_state.specs.declared.topic_partition.TopicPartition.{TopicPartition}
use Rattle.kb_tenant_state.proofs.Sums.{appended_bytes}
use Rattle.kb_tenant.specs.CreateTopics.{created_all, created_topic, is_too_much, made_of, made_unless, made_unless_full, made_with, refusal, room_in, stands_twice}
use Rattle.kb_tenant.specs.DeleteRecords.{deleted as records_deleted, deleted_all as all_records_deleted, deleted_in, deleted_topic as topic_records_deleted}
use Rattle.kb_tenant.specs.DeleteTopics.{deleted_all, deleted_topic}
use Rattle.kb_tenant.specs.InitProducerId.{id_given, id_refused, init_producer_id}
use Rattle.kb_tenant.specs.Limits.{is_past, left_of}
use Rattle.kb_tenant.specs.LimitsKept.{AreLimitsKept, HasOrderedCommits, IsKept}
use Rattle.kb_tenant.specs.OffsetCommit.{brings_too_much, committed_all, committed_at, committed_entry, committed_topic, committed_unless_full, is_one_too_many, is_over_limits, metadata_in, refusal_of as group_refusal, text_brought}
use Rattle.kb_tenant.specs.Produce.{Progress, appended_at, appended_unless_full, decided, entry_served, is_full, known_place, offered_unless, produced, progress, read_unless, refusal_of, served_topic, tried, verdict_on}
use Rattle.kb_tenant.specs.Serve.{Outcome, plainly_served}
use Rattle.kb_tenant.specs.Settings.{settings_in}
use Rattle.kb_tenant.specs.declared.limits.DataLimits.{DataLimits}
use Rattle.kb_tenant.specs.declared.node.Node.{Node}
use Rattle.kb_tenant.proofs.ByRequest.{by_request, of_creations}
use Rattle.kb_tenant.proofs.CountsKept.{OneMore, alike_partitions, alike_topics, brought_texts, created_more, deleted_less, moved_less, one_commit, ordered_at, ordered_commit, ordered_created, ordered_deleted, ordered_started, same_commit}
use Rattle.kb_tenant.proofs.LimitsKept.{Less, Stays, kept_less, kept_more, kept_one, less_kept, less_then, none_less, stays_less, stays_same, turns_stay}
use Rattle.kb_tenant.proofs.RecordsMoves.{by_deletion}
use Rattle.kb_tenant.proofs.RetainMoves.{put_alike}

-- ---- Produce

appended_stays : (limits : DataLimits) (w : World) (place : TopicPartition) (batch : List ℕ) (l : LogState) → IsBatch batch → log_in w place ≡ Some l → is_full limits.bytes w batch ≡ false
    → Stays limits w (with_log_at w place (appended batch l))
appended_stays limits w place batch l is at room =
    let long = batch_long batch is in
    let more : stored_in (with_log_at w place (appended batch l)) ≡ stored_in w + length batch = appended_bytes place.instance place.number batch l w.logs (omega (arith, long)) at in
    record {
      ordered = λ h. h;
      kept = λ h. record {
        bytes = kept_more limits.bytes (stored_in w) (length batch) (stored_in (with_log_at w place (appended batch l))) room (omega (arith, more));
        topics = kept_less limits.topics (length w.known.topics) (length w.known.topics) (omega arith);
        partitions = kept_less limits.partitions (partitions_in w.known) (partitions_in w.known) (omega arith);
        offsets = kept_less limits.offsets (offsets_in w.known) (offsets_in w.known) (omega arith);
        texts = kept_less limits.group_bytes (texts_in w.known) (texts_in w.known) (omega arith);
      };
    }

append_stays : (limits : DataLimits) (p : Progress) (place : TopicPartition) (batch : List ℕ) → IsBatch batch → is_full limits.bytes p.world batch ≡ false → (o : Option LogState) → log_in p.world place ≡ o
    → Stays limits p.world (appended_at p place (appended_to p.world place batch o)).0.world
append_stays limits p place batch is room None at = stays_same limits p.world
append_stays limits p place batch is room (Some l) at = by (nat_le (2 ^ 63) (l.end + count_of batch))
  where
    by : (b : Bool) → Stays limits p.world (appended_at p place (cond b (p.world, Err partition.Full) (with_log_at p.world place (appended batch l), Ok (pos l.end)))).0.world
    by true = stays_same limits p.world
    by false = appended_stays limits p.world place batch l is at room

full_stays : (limits : DataLimits) (p : Progress) (place : TopicPartition) (batch : List ℕ) → IsBatch batch → (full : Bool) → is_full limits.bytes p.world batch ≡ full → Stays limits p.world (appended_unless_full full p place batch).0.world
full_stays limits p place batch is true e = stays_same limits p.world
full_stays limits p place batch is false e = append_stays limits p place batch is e (log_in p.world place) refl

decided_stays : (limits : DataLimits) (p : Progress) (place : TopicPartition) (batch : List ℕ) → IsBatch batch → (v : Option Verdict) → Stays limits p.world (decided limits.bytes p place batch v).0.world
decided_stays limits p place batch is None = stays_same limits p.world
decided_stays limits p place batch is (Some Append) = full_stays limits p place batch is (is_full limits.bytes p.world batch) refl
decided_stays limits p place batch is (Some (Repeat base)) = stays_same limits p.world
decided_stays limits p place batch is (Some (Refuse code)) = stays_same limits p.world

tried_stays : (limits : DataLimits) (p : Progress) (o : Option TopicPartition) (records : Option (List ℕ)) → Stays limits p.world (tried limits.bytes p o records).0.world
tried_stays limits p None records = stays_same limits p.world
tried_stays limits p (Some place) None = stays_same limits p.world
tried_stays limits p (Some place) (Some bytes) = by (first_fault bytes) refl
  where
    by : (o : Option BatchFault) → first_fault bytes ≡ o → Stays limits p.world (offered_unless limits.bytes p place (read_unless bytes o)).0.world
    by None e = decided_stays limits p place bytes (accepted_is bytes e) (verdict_on p.world place bytes)
    by (Some f) e = stays_same limits p.world

entry_stays : (limits : DataLimits) (refusal : Option ℤ) (topic : Option ℕ) (p : Progress) (e : ProducePartition) → Stays limits p.world (entry_served limits.bytes refusal topic p e).0.world
entry_stays limits (Some code) topic p e = stays_same limits p.world
entry_stays limits None topic p e = tried_stays limits p (known_place p.world (place_in topic e.index)) e.records

topic_stays : (limits : DataLimits) (refusal : Option ℤ) (p : Progress) (t : ProduceTopic) → Stays limits p.world (served_topic limits.bytes refusal p t).0.world
topic_stays limits refusal p t =
    let topic = named t.name p.world.known.topics in
    turns_stay limits (λ (s : Progress). s.world) (entry_served limits.bytes refusal topic) (entry_stays limits refusal topic) p t.partitions

produce_stays : (limits : DataLimits) (w : World) (r : ProduceRequest) → Stays limits w (produced limits.bytes w [] r).0.world
produce_stays limits w r =
    let refusal = refusal_of r.transactional_id r.acks in
    turns_stay limits (λ (s : Progress). s.world) (served_topic limits.bytes refusal) (topic_stays limits refusal) (progress w []) r.topics

-- ---- CreateTopics

left_of_or : (a b : Bool) → (a || b) ≡ false → a ≡ false
left_of_or true b e = absurd cc
left_of_or false b e = refl

right_of_or : (a b : Bool) → (a || b) ≡ false → b ≡ false
right_of_or true b e = absurd cc
right_of_or false b e = e

made_stays : (limits : DataLimits) (w : World) (t : CreateTopic) (config : TopicConfig) → is_too_much limits (room_in limits w.known) t.num_partitions ≡ false → (o : Option CatalogFault)
    → Stays limits w (created_unless w t.name t.num_partitions config o).0
made_stays limits w t config room (Some f) = stays_same limits w
made_stays limits w t config room None =
    let count = natural t.num_partitions in
    let v : World = record w { known = with_topic w.known (new_topic t.name count config); logs = with_new_logs w.known.creates count w.logs } in
    let more : OneMore w v count = created_more w t.name count config in
    let one = is_past limits.topics (length w.known.topics + 1) in
    let many = is_past (left_of limits.partitions (partitions_in w.known)) count in
    record {
      ordered = ordered_created w.known t.name count config;
      kept = λ h. record {
        bytes = kept_less limits.bytes (stored_in w) (stored_in v) more.bytes;
        topics = kept_one limits.topics (length w.known.topics) (length v.known.topics) (left_of_or one many room) more.topics;
        partitions = kept_more limits.partitions (partitions_in w.known) count (partitions_in v.known) (right_of_or one many room) more.partitions;
        offsets = kept_less limits.offsets (offsets_in w.known) (offsets_in v.known) more.offsets;
        texts = kept_less limits.group_bytes (texts_in w.known) (texts_in v.known) more.texts;
      };
    }

made_full_stays : (limits : DataLimits) (w : World) (t : CreateTopic) (config : TopicConfig) (full : Bool) → is_too_much limits (room_in limits w.known) t.num_partitions ≡ full → Stays limits w (made_unless_full full w t config).0
made_full_stays limits w t config true e = stays_same limits w
made_full_stays limits w t config false e = made_stays limits w t config e (create_refusal w.known t.name t.num_partitions config)

settled_stays : (limits : DataLimits) (w : World) (t : CreateTopic) (o : Option TopicConfig) → Stays limits w (made_with limits w t o).0
settled_stays limits w t None = stays_same limits w
settled_stays limits w t (Some config) = made_full_stays limits w t config (is_too_much limits (room_in limits w.known) t.num_partitions) refl

unless_stays : (limits : DataLimits) (w : World) (t : CreateTopic) (o : Option ErrorCode) → Stays limits w (made_unless limits w t o).0
unless_stays limits w t (Some e) = stays_same limits w
unless_stays limits w t None = settled_stays limits w t (settings_in t.configs)

create_stays : (limits : DataLimits) (w : World) (r : CreateTopicsRequest) → Stays limits w (created_all limits w r).0
create_stays limits w r =
    turns_stay limits (λ (s : World). s) (created_topic limits r.topics)
    (λ s t. unless_stays limits s t (refusal (stands_twice t.name r.topics) (is_some (named t.name s.known.topics)) t)) w r.topics

-- ---- DeleteTopics and InitProducerId

gone_stays : (limits : DataLimits) (w : World) (o : Option ℕ) → Stays limits w (deleted_at w o).0
gone_stays limits w None = stays_same limits w
gone_stays limits w (Some i) = stays_less limits w (deleted_at w (Some i)).0 (ordered_deleted w.known i) (deleted_less w i)

delete_stays : (limits : DataLimits) (w : World) (r : DeleteTopicsRequest) → Stays limits w (deleted_all (w, []) r).0.0
delete_stays limits w r =
    turns_stay limits (λ (s : World × List TopicPartition). s.0) deleted_topic (λ s name. gone_stays limits s.0 (named name s.0.known.topics)) (w, []) r.names

issued_stays : (limits : DataLimits) (w : World) (o : Option CatalogFault) → Stays limits w (issued_unless w o).0
issued_stays limits w (Some f) = stays_same limits w
issued_stays limits w None =
    stays_less limits w (issued_unless w None).0 (λ h. h) (record { bytes = omega arith; topics = omega arith; partitions = omega arith; offsets = omega arith; texts = omega arith })

-- what is answered by whether an id for transactions is asked for
abbrev given_by : World → Option (List ℕ) → World × InitProducerIdReply
given_by w None = id_given (issue w)
given_by w (Some id) = (w, id_refused (code codes.InvalidRequest))

given_stays : (limits : DataLimits) (w : World) (o : Option (List ℕ)) → Stays limits w (given_by w o).0
given_stays limits w None = issued_stays limits w (issue_refusal w.known)
given_stays limits w (Some id) = stays_same limits w

init_stays : (limits : DataLimits) (w : World) (r : InitProducerIdRequest) → Stays limits w (init_producer_id w r).0
init_stays limits w r = given_stays limits w r.transactional_id

-- ---- OffsetCommit

-- a world where a group has an offset of a partition
abbrev with_offset : World → TopicPartition → PartitionState → List ℕ → CommittedOffset → World
with_offset w place q group c = record w { known = with_partition w.known (pos place.instance) (pos place.number) (with_commit q group c) }

-- the offsets that there are then
offsets_kept : (limits : DataLimits) (w : World) (place : TopicPartition) (q : PartitionState) (group metadata : List ℕ) (c : CommittedOffset) → HasOrderedCommits w → known_at w.known place ≡ Some q
    → commit_refusal metadata (known_at w.known place) ≡ None → is_one_too_many limits w place group metadata ≡ false → (o : Option CommittedOffset) → committed_to w place group ≡ o
    → IsKept limits.offsets (offsets_in w.known) (offsets_in (with_offset w place q group c).known)
offsets_kept limits w place q group metadata c ordered at taken room (Some d) had =
    let found : offset_of group q ≡ Some d = sym (ap (λ (o : Option PartitionState). option_and_then (offset_of group) o) at) ∙ had in
    kept_less limits.offsets (offsets_in w.known) (offsets_in (with_offset w place q group c).known)
    (same_commit w.known place.instance place.number q group c d at (ordered_at w.known place.instance place.number q at ordered) found)
offsets_kept limits w place q group metadata c ordered at taken room None had =
    let past : Bool = is_past limits.offsets (offsets_in w.known + 1) in
    let free : past ≡ false =
    sym (ap (λ (o : Option CommittedOffset). not (is_some o) && past) had)
    ∙ sym (ap (λ (o : Option CatalogFault). not (is_some o) && (not (is_some (committed_to w place group)) && past)) taken) ∙ room in
    kept_one limits.offsets (offsets_in w.known) (offsets_in (with_offset w place q group c).known) free
    (one_commit w.known place.instance place.number q group c at)

-- the texts that there are then
texts_kept : (limits : DataLimits) (w : World) (place : TopicPartition) (q : PartitionState) (group metadata : List ℕ) (c : CommittedOffset) → c.metadata ≡ metadata → HasOrderedCommits w → known_at w.known place ≡ Some q
    → commit_refusal metadata (known_at w.known place) ≡ None → brings_too_much limits w place group metadata ≡ false
    → IsKept limits.group_bytes (texts_in w.known) (texts_in (with_offset w place q group c).known)
texts_kept limits w place q group metadata c text ordered at taken room =
    let past : Bool = is_past (left_of limits.group_bytes (texts_in w.known)) (text_brought w place group metadata) in
    let free : past ≡ false = sym (ap (λ (o : Option CatalogFault). not (is_some o) && past) taken) ∙ room in
    let had : text_of group (committed_to w place group) ≡ text_of group (offset_of group q) = ap (λ (o : Option PartitionState). text_of group (option_and_then (offset_of group) o)) at in
    let most = brought_texts w.known place.instance place.number q group c at (ordered_at w.known place.instance place.number q at ordered) in
    kept_more limits.group_bytes (texts_in w.known) (text_brought w place group metadata) (texts_in (with_offset w place q group c).known) free
    (omega (arith, most, had, ap length text))

put_stays : (limits : DataLimits) (w : World) (place : TopicPartition) (group metadata : List ℕ) (c : CommittedOffset) → c.metadata ≡ metadata → commit_refusal metadata (known_at w.known place) ≡ None → is_over_limits limits w place group metadata ≡ false
    → (o : Option PartitionState) → known_at w.known place ≡ o → Stays limits w (record w { known = with_committed w.known place group c o })
put_stays limits w place group metadata c text taken room None at = stays_same limits w
put_stays limits w place group metadata c text taken room (Some q) at =
    let one = is_one_too_many limits w place group metadata in
    let much = brings_too_much limits w place group metadata in
    let v : World = with_offset w place q group c in
    let alike = put_alike w.known place.instance place.number (with_commit q group c) (topic_at place.instance w.known.topics) refl in
    let topics = alike_topics w.known v.known alike in
    let partitions = alike_partitions w.known v.known alike in
    record {
      ordered = ordered_commit w.known place.instance place.number q group c at;
      kept = λ h. record {
        bytes = kept_less limits.bytes (stored_in w) (stored_in v) (omega arith);
        topics = kept_less limits.topics (length w.known.topics) (length v.known.topics) (omega (arith, topics));
        partitions = kept_less limits.partitions (partitions_in w.known) (partitions_in v.known) (omega (arith, partitions));
        offsets = offsets_kept limits w place q group metadata c h at taken (left_of_or one much room) (committed_to w place group) refl;
        texts = texts_kept limits w place q group metadata c text h at taken (right_of_or one much room);
      };
    }

unless_committed : (limits : DataLimits) (w : World) (place : TopicPartition) (group metadata : List ℕ) (c : CommittedOffset) → c.metadata ≡ metadata → is_over_limits limits w place group metadata ≡ false
    → (o : Option CatalogFault) → commit_refusal metadata (known_at w.known place) ≡ o → Stays limits w (committed_unless w place group c o).0
unless_committed limits w place group metadata c text room (Some f) e = stays_same limits w
unless_committed limits w place group metadata c text room None e = put_stays limits w place group metadata c text e room (known_at w.known place) refl

full_committed : (limits : DataLimits) (w : World) (place : TopicPartition) (group : List ℕ) (offset : ℤ) (metadata : List ℕ) (full : Bool) → is_over_limits limits w place group metadata ≡ full
    → Stays limits w (committed_unless_full full w place group offset metadata).0
full_committed limits w place group offset metadata true e = stays_same limits w
full_committed limits w place group offset metadata false e =
    unless_committed limits w place group metadata (record { offset = offset; metadata = metadata }) refl e (commit_refusal metadata (known_at w.known place)) refl

at_committed : (limits : DataLimits) (w : World) (o : Option TopicPartition) (group : List ℕ) (e : CommitPartition) → Stays limits w (committed_at limits w o group e).0
at_committed limits w None group e = stays_same limits w
at_committed limits w (Some place) group e =
    let metadata = metadata_in e.metadata in
    full_committed limits w place group e.offset metadata (is_over_limits limits w place group metadata) refl

entry_committed : (limits : DataLimits) (refusal : Option ℤ) (group : List ℕ) (topic : Option ℕ) (w : World) (e : CommitPartition) → Stays limits w (committed_entry limits refusal group topic w e).0
entry_committed limits (Some code) group topic w e = stays_same limits w
entry_committed limits None group topic w e = at_committed limits w (place_in topic e.partition) group e

topic_committed : (limits : DataLimits) (refusal : Option ℤ) (group : List ℕ) (w : World) (t : CommitTopic) → Stays limits w (committed_topic limits refusal group w t).0
topic_committed limits refusal group w t =
    let topic = named t.name w.known.topics in
    turns_stay limits (λ (s : World). s) (committed_entry limits refusal group topic) (entry_committed limits refusal group topic) w t.partitions

pub commit_stays : (limits : DataLimits) (w : World) (refusal : Option ℤ) (r : OffsetCommitRequest) → Stays limits w (committed_all limits w refusal r).0
commit_stays limits w refusal r =
    turns_stay limits (λ (s : World). s) (committed_topic limits refusal r.group_id) (topic_committed limits refusal r.group_id) w r.topics

-- ---- retention and DeleteRecords

moved_retained : (w : World) (place : TopicPartition) (start : ℕ) (o : Option Known) → step w.known (start_command (pos place.instance) (pos place.number) (pos start)) ≡ o → Less w (moved_to w place start o).0
moved_retained w place start None e = none_less w
moved_retained w place start (Some k) e = moved_less w place (pos start) k e

due_retained : (w : World) (place : TopicPartition) (o : Option ℕ) → Less w (retained_from w place o).0
due_retained w place None = none_less w
due_retained w place (Some start) = moved_retained w place start (step w.known (start_command (pos place.instance) (pos place.number) (pos start))) refl

moved_ordered : (w : World) (place : TopicPartition) (start : ℕ) (o : Option Known) → step w.known (start_command (pos place.instance) (pos place.number) (pos start)) ≡ o → HasOrderedCommits w → HasOrderedCommits (moved_to w place start o).0
moved_ordered w place start None e h = h
moved_ordered w place start (Some k) e h = ordered_started w.known k place.instance place.number (pos start) e h

due_ordered : (w : World) (place : TopicPartition) (o : Option ℕ) → HasOrderedCommits w → HasOrderedCommits (retained_from w place o).0
due_ordered w place None h = h
due_ordered w place (Some start) h = moved_ordered w place start (step w.known (start_command (pos place.instance) (pos place.number) (pos start))) refl h

partition_stays : (limits : DataLimits) (w : World) (place : TopicPartition) (offset : ℤ) → Stays limits w (delete_records w place offset).0
partition_stays limits w place offset = by_deletion (λ (r : World × Result ℤ PartitionFault). Stays limits w r.0) w place (record {
  refused = λ f. stays_same limits w;
  stays = λ start. stays_same limits w;
  moves = λ start k l at within e. stays_less limits w _ (ordered_started w.known k place.instance place.number start e) (moved_less w place start k e);
}) offset

deletion_stays : (limits : DataLimits) (topic : Option ℕ) (s : World × List TopicPartition) (e : DeleteRecordsPartition) → Stays limits s.0 (records_deleted topic s e).0.0
deletion_stays limits topic s e = at (place_in topic e.partition)
  where
    at : (o : Option TopicPartition) → Stays limits s.0 (deleted_in s o e.offset).0.0
    at None = stays_same limits s.0
    at (Some place) = partition_stays limits s.0 place e.offset

records_stay : (limits : DataLimits) (w : World) (r : DeleteRecordsRequest) → Stays limits w (all_records_deleted (w, []) r).0.0
records_stay limits w r =
    turns_stay limits (λ (s : World × List TopicPartition). s.0) topic_records_deleted
    (λ s t. turns_stay limits (λ (u : World × List TopicPartition). u.0) (records_deleted (named t.name s.0.known.topics)) (deletion_stays limits (named t.name s.0.known.topics)) s t.partitions) (w, []) r.topics

-- ---- the laws

pub served_stays : (node : Node) (w : World) (clock n : ℕ) (key version : ℤ) (body : List ℕ) → Stays node.limits w (plainly_served node w clock n key version body).world
served_stays node w clock n key version body =
    let limits = node.limits in
    by_request (λ (o : Outcome). Stays limits w o.world) node w clock n key version body (record {
      produce = λ r read. produce_stays limits w r;
      fetch = λ r read. stays_same limits w;
      list_offsets = λ r read. stays_same limits w;
      metadata = λ r read. stays_same limits w;
      offset_commit = λ r read. commit_stays limits w (group_refusal r.group_id r.generation_id) r;
      offset_fetch = λ r read. stays_same limits w;
      find_coordinator = λ r read. stays_same limits w;
      create_topics = λ r read. of_creations (λ (o : Outcome). Stays limits w o.world) limits version w r (λ reaction. stays_same limits w) (create_stays limits w (made_of r));
      delete_topics = λ r read. delete_stays limits w r;
      delete_records = λ r read. records_stay limits w r;
      init_producer_id = λ r read. init_stays limits w r;
      describe_configs = λ r read. stays_same limits w;
      shut = stays_same limits w;
    })

pub new_ordered : HasOrderedCommits new_world
new_ordered = tt

pub served_ordered : (node : Node) (w : World) (clock n : ℕ) (key version : ℤ) (body : List ℕ) → HasOrderedCommits w → HasOrderedCommits (plainly_served node w clock n key version body).world
served_ordered node w clock n key version body = (served_stays node w clock n key version body).ordered

pub served_kept : (node : Node) (w : World) (clock n : ℕ) (key version : ℤ) (body : List ℕ) → HasOrderedCommits w → AreLimitsKept node.limits w (plainly_served node w clock n key version body).world
served_kept node w clock n key version body = (served_stays node w clock n key version body).kept

pub committed_ordered : (limits : DataLimits) (w : World) (refusal : Option ℤ) (q : OffsetCommitRequest) → HasOrderedCommits w → HasOrderedCommits (committed_all limits w refusal q).0
committed_ordered limits w refusal q = (commit_stays limits w refusal q).ordered

pub committed_kept : (limits : DataLimits) (w : World) (refusal : Option ℤ) (q : OffsetCommitRequest) → HasOrderedCommits w → AreLimitsKept limits w (committed_all limits w refusal q).0
committed_kept limits w refusal q = (commit_stays limits w refusal q).kept

pub retained_ordered : (clock : ℕ) (w : World) (place : TopicPartition) → HasOrderedCommits w → HasOrderedCommits (retain clock w place).0
retained_ordered clock w place = due_ordered w place (due clock w place)

pub retained_kept : (limits : DataLimits) (clock : ℕ) (w : World) (place : TopicPartition) → AreLimitsKept limits w (retain clock w place).0
retained_kept limits clock w place = less_kept limits w (retain clock w place).0 (due_retained w place (due clock w place))

each_less : (clock : ℕ) (places : List TopicPartition) (w : World) → Less w (retain_each clock places w).0
each_less clock [] w = none_less w
each_less clock (place ∷ places) w =
    let v : World = (retain clock w place).0 in
    less_then w v (retain_each clock places v).0 (due_retained w place (due clock w place)) (each_less clock places v)

each_ordered : (clock : ℕ) (places : List TopicPartition) (w : World) → HasOrderedCommits w → HasOrderedCommits (retain_each clock places w).0
each_ordered clock [] w h = h
each_ordered clock (place ∷ places) w h = each_ordered clock places (retain clock w place).0 (retained_ordered clock w place h)

pub all_retained_stays : (limits : DataLimits) (clock : ℕ) (w : World) → Stays limits w (retain_all clock w).0
all_retained_stays limits clock w = stays_less limits w (retain_all clock w).0 (each_ordered clock (all_places w) w) (each_less clock (all_places w) w)

pub all_retained_kept : (limits : DataLimits) (clock : ℕ) (w : World) → AreLimitsKept limits w (retain_all clock w).0
all_retained_kept limits clock w = less_kept limits w (retain_all clock w).0 (each_less clock (all_places w) w)
