-- A request of DeleteRecords, entry by entry.
use Rattle.std.proofs.Common.{◌≡◌, ◌∙◌, ◌≤◌, ◌<◌, ℕ, ℤ, pos, w32, List, [], ◌∷◌, ◌++◌, length, take, get_or, append_assoc, Option, ap, sym, refl, subst, arith}
use Rattle.std.specs.Prelude.{Result, Ok, Err}
use Rattle.std.specs.List.{flat_map}
use Rattle.std.proofs.lemmas.List.{length-take, take-take}
use Rattle.std.proofs.lemmas.List.Elements.{All-get_or}
use Rattle.kb_wire.specs.Codec.{count, int, int32, items, sized, string}
use Rattle.kb_api_data.specs.Layouts.{delete_records_partition_reply, delete_records_reply, delete_records_request, delete_records_topic, delete_records_topic_reply}
use Rattle.kb_api_data.specs.declared.delete_records.DeleteRecordsPartition.{DeleteRecordsPartition}
use Rattle.kb_api_data.specs.declared.delete_records.DeleteRecordsPartitionReply.{DeleteRecordsPartitionReply}
use Rattle.kb_api_data.specs.declared.delete_records.DeleteRecordsRequest.{DeleteRecordsRequest}
use Rattle.kb_api_data.specs.declared.delete_records.DeleteRecordsTopic.{DeleteRecordsTopic}
use Rattle.kb_api_data.specs.declared.delete_records.DeleteRecordsTopicReply.{DeleteRecordsTopicReply}
use Rattle.kb_topics.specs.Known.{named}
use Rattle.kb_tenant_state.specs.declared.fault.PartitionFault.{PartitionFault}
use Rattle.kb_tenant_state.specs.World.{World}
use Rattle.kb_tenant_state.specs.declared.topic_partition.TopicPartition.{TopicPartition}
use Rattle.kb_tenant.specs.DeleteRecords.{deleted, deleted_all, deleted_topic, told}
use Rattle.kb_tenant.specs.Turns.{in_turn, written_behind}
use Rattle.kb_tenant.proofs.Deleting.{kept_more}
use Rattle.kb_tenant.proofs.Turning.{turn_length}

-- ---- what fits

pub reply_fits : (r : DeleteRecordsPartitionReply) → delete_records_partition_reply.Fits r
unfolding delete_records_partition_reply int
reply_fits r = (tt, (tt, tt))

pub name_fits : (t : DeleteRecordsTopic) (name : List ℕ) → name ≡ t.name → delete_records_topic.Fits t → string.Fits name
unfolding delete_records_topic
name_fits t name is fits = subst string.Fits (sym is) fits.0

pub entries_fit : (t : DeleteRecordsTopic) (n : ℕ) → n ≡ length t.partitions → delete_records_topic.Fits t → (count w32).Fits n
unfolding delete_records_topic sized items
entries_fit t n is fits = subst (count w32).Fits (sym is) fits.1.0

pub topics_fit : (r : DeleteRecordsRequest) (n : ℕ) → n ≡ length r.topics → delete_records_request.Fits r → (count w32).Fits n
unfolding delete_records_request sized items
topics_fit r n is fits = subst (count w32).Fits (sym is) fits.0.0

pub topic_fits : (r : DeleteRecordsRequest) (i : ℕ) (t : DeleteRecordsTopic) → i < length r.topics → t ≡ get_or r.topics i t → delete_records_request.Fits r → delete_records_topic.Fits t
unfolding delete_records_request sized items
topic_fits r i t lt is fits = subst delete_records_topic.Fits (sym is) (All-get_or delete_records_topic.Fits r.topics i t lt fits.0.1)

-- ---- what is told

-- what was told before stays told
pub told_more : (start old new : List TopicPartition) (place : TopicPartition) (r : Result ℤ PartitionFault) → new ≡ told old place r → take (length start) old ≡ start → take (length start) new ≡ start
told_more start old new place (Ok x) is kept = kept_more start old new (place ∷ []) is kept
told_more start old new place (Err f) is kept = ap (take (length start)) is ∙ kept

-- what was told before is told still, after one more that kept it
pub kept_then : (start old new : List TopicPartition) → take (length start) old ≡ start → take (length old) new ≡ old → take (length start) new ≡ start
kept_then start old new kept more =
    let within : length start ≤ length old = omega (arith, length-take (length start) old, ap length kept) in
    sym (take-take (length start) (length old) new within) ∙ ap (take (length start)) more ∙ kept

-- ---- what is written

pub topic_spelled : (name : List ℕ) (rs : List DeleteRecordsPartitionReply)
    → string.written name ++ ((count w32).written (length rs) ++ flat_map delete_records_partition_reply.written rs) ≡
    delete_records_topic_reply.written (record { name = name; partitions = rs })
unfolding delete_records_topic_reply sized items
topic_spelled name rs = refl

pub reply_spelled : (rs : List DeleteRecordsTopicReply)
    → int32.written (pos 0) ++ ((count w32).written (length rs) ++ flat_map delete_records_topic_reply.written rs) ≡
    delete_records_reply.written (record { throttle_time_ms = pos 0; topics = rs })
unfolding delete_records_reply sized items
reply_spelled rs = refl

-- a front, a count and answers behind what was written
pub behind : {A : Type 0} (write : A → List ℕ) (out front out1 out2 : List ℕ) (n : ℕ) (rs : List A) → out1 ≡ out ++ front
    → out2 ≡ out1 ++ (count w32).written n → n ≡ length rs
    → out2 ++ flat_map write rs ≡ out ++ (front ++ ((count w32).written (length rs) ++ flat_map write rs))
behind write out front out1 out2 n rs first second many =
    ap (λ l. l ++ flat_map write rs) (second ∙ ap (λ l. l ++ (count w32).written n) first)
    ∙ append_assoc (out ++ front) ((count w32).written n) (flat_map write rs)
    ∙ append_assoc out front ((count w32).written n ++ flat_map write rs)
    ∙ ap (λ m. out ++ (front ++ ((count w32).written m ++ flat_map write rs))) many

-- a topic's name, the count and the answers are its reply
pub topic_told : (topic : Option ℕ) (s : World × List TopicPartition) (t : DeleteRecordsTopic) (name : List ℕ) (entries : List DeleteRecordsPartition) (n : ℕ) (out out1 out2 : List ℕ) (result : (World × List TopicPartition) × List ℕ)
    → name ≡ t.name → entries ≡ t.partitions → n ≡ length t.partitions → topic ≡ named t.name s.0.known.topics
    → out1 ≡ out ++ string.written name → out2 ≡ out1 ++ (count w32).written n
    → result ≡ written_behind delete_records_partition_reply.written out2 (in_turn (deleted topic) s entries)
    → result ≡ ((deleted_topic s t).0, out ++ delete_records_topic_reply.written (deleted_topic s t).1)
topic_told topic s t name entries n out out1 out2 result nis eis lis tis first second is =
    let f = deleted (named t.name s.0.known.topics) in
    let r = in_turn f s t.partitions in
    let write = delete_records_partition_reply.written in
    is
    ∙ ap (λ es. written_behind write out2 (in_turn (deleted topic) s es)) eis
    ∙ ap (λ i. written_behind write out2 (in_turn (deleted i) s t.partitions)) tis
    ∙ ap (λ l. (r.0, l))
    (behind write out (string.written t.name) out1 out2 n r.1 (first ∙ ap (λ m. out ++ string.written m) nis) second (lis ∙ sym (turn_length f s t.partitions))
    ∙ ap (λ l. out ++ l) (topic_spelled t.name r.1))

-- all topics
pub all_told : (q : DeleteRecordsRequest) (w w' : World) (touched touched' : List TopicPartition) (n : ℕ) (out out1 out2 out3 : List ℕ)
    → n ≡ length q.topics → out1 ≡ out ++ int32.written (pos 0) → out2 ≡ out1 ++ (count w32).written n
    → ((w', touched'), out3) ≡ written_behind delete_records_topic_reply.written out2 (in_turn deleted_topic (w, touched) q.topics)
    → (w' ≡ (deleted_all (w, touched) q).0.0) × (touched' ≡ (deleted_all (w, touched) q).0.1) × (out3 ≡ out ++ delete_records_reply.written (deleted_all (w, touched) q).1)
all_told q w w' touched touched' n out out1 out2 out3 lis first second is =
    let r = in_turn deleted_topic (w, touched) q.topics in (
      ap (λ (x : (World × List TopicPartition) × List ℕ). x.0.0) is,
      ap (λ (x : (World × List TopicPartition) × List ℕ). x.0.1) is,
      ap (λ (x : (World × List TopicPartition) × List ℕ). x.1) is
          ∙ behind delete_records_topic_reply.written out (int32.written (pos 0)) out1 out2 n r.1 first second (lis ∙ sym (turn_length deleted_topic (w, touched) q.topics))
          ∙ ap (λ l. out ++ l) (reply_spelled r.1),
    )
