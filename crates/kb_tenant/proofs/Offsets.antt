-- What is listed of a partition, by what is known of its log.
use Rattle.std.proofs.Common.{◌≡◌, ◌∙◌, sym, ap, refl, ℕ, arith, List, ◌++◌, length, map, w32}
use Rattle.std.specs.Prelude.{ℤ, pos, negsuc, Bool, true, false, Option, Some, None, is_some, option_map, int_lt}
use Rattle.std.specs.Ordering.{int_eq}
use Rattle.std.proofs.lemmas.Int.{ints}
use Rattle.std.specs.Option.{option_and_then}
use Rattle.std.specs.List.{flat_map}
use Rattle.std.proofs.lemmas.List.{append-nil, length-map}
use Rattle.kb_wire.specs.Codec.{count, string, array, int, int8, int32, int64, items, sized}
use Rattle.kb_api_data.specs.Both.{both}
use Rattle.kb_api_data.specs.declared.both.Both.{Both}
use Rattle.kb_api_data.specs.Layouts.{list_offsets_partition, list_offsets_partition_reply, list_offsets_reply, list_offsets_request, list_offsets_topic, list_offsets_topic_reply}
use Rattle.kb_api_data.specs.declared.list_offsets.ListOffsetsPartition.{ListOffsetsPartition}
use Rattle.kb_api_data.specs.declared.list_offsets.ListOffsetsTopic.{ListOffsetsTopic}
use Rattle.kb_api_data.specs.declared.list_offsets.ListOffsetsRequest.{ListOffsetsRequest}
use Rattle.kb_api_data.specs.declared.list_offsets.ListOffsetsPartitionReply.{ListOffsetsPartitionReply}
use Rattle.kb_api_data.specs.declared.list_offsets.ListOffsetsTopicReply.{ListOffsetsTopicReply}
use Rattle.kb_api_data.specs.declared.list_offsets.ListOffsetsReply.{ListOffsetsReply}
use Rattle.kb_topics.specs.Known.{named}
use Rattle.kb_tenant_state.specs.Logs.{LogState}
use Rattle.kb_tenant_state.specs.Calls.{found_in}
use Rattle.kb_tenant.specs.Epochs.{epoch_in}
use Rattle.kb_tenant.specs.ListOffsets.{epoch_topic, plain_partition, plain_topic, edge_answered, list_offsets, listed, listed_at, listed_in, listed_topic, listing_reply, offset_found, offset_refused, partition_reply, topic_reply}
use Rattle.kb_tenant_state.specs.World.{World, place_in, log_in}
use Rattle.kb_tenant_state.specs.declared.topic_partition.TopicPartition.{TopicPartition}
use Rattle.kb_tenant.proofs.Fitting.{array_written, each_fits, many_fit, written_both}

-- what was read with an isolation level fits without it
pub topics_fit : (q : Both ℤ (Both ℤ (List ListOffsetsTopic))) → (both int32 (both int8 (array list_offsets_topic))).Fits q
    → list_offsets_request.Fits (record { replica_id = q.first; topics = q.second.second })
unfolding list_offsets_request both
topics_fit q fits = (fits.0, fits.1.1)

-- a topic's partition, and a topic, without epochs
partition_fits : (e : Both ℤ (Both ℤ ℤ)) → (both int32 (both int32 int64)).Fits e → list_offsets_partition.Fits (plain_partition e)
unfolding list_offsets_partition int
partition_fits e fits = (tt, tt)

topic_fits : (t : Both (List ℕ) (List (Both ℤ (Both ℤ ℤ)))) → epoch_topic.Fits t → list_offsets_topic.Fits (plain_topic t)
unfolding list_offsets_topic both sized items
topic_fits t fits =
    (fits.0, many_fit list_offsets_partition plain_partition t.second fits.1.0 (each_fits (both int32 (both int32 int64)).Fits list_offsets_partition.Fits plain_partition partition_fits t.second fits.1.1))

-- so does what was read with epochs without them
pub plain_fits : (q : Both ℤ (Both ℤ (List (Both (List ℕ) (List (Both ℤ (Both ℤ ℤ))))))) → (both int32 (both int8 (array epoch_topic))).Fits q
    → list_offsets_request.Fits (record { replica_id = q.first; topics = map plain_topic q.second.second })
unfolding list_offsets_request both sized items int
plain_fits q fits =
    (tt, many_fit list_offsets_topic plain_topic q.second.second fits.1.1.0 (each_fits epoch_topic.Fits list_offsets_topic.Fits plain_topic topic_fits q.second.second fits.1.1.1))

-- a partition is at its place
pub at_place : (w : World) (topic : Option ℕ) (p t : ℤ) (place : TopicPartition) → Some place ≡ place_in topic p → listed_in p t (log_in w place) ≡ listed_at w topic p t
at_place w topic p t place is = ap (λ x. listed_in p t (option_and_then (log_in w) x)) is

pub listed_none : (p t : ℤ) (f : LogState → ℤ) (o : Option LogState) → is_some (option_map f o) ≡ false → offset_refused p (pos 3) ≡ listed_in p t o
listed_none p t f None h = refl
listed_none p t f (Some l) h = absurd cc

pub listed_wrong : (p t : ℤ) (f : LogState → ℤ) (o : Option LogState) → is_some (option_map f o) ≡ true → int_lt t (negsuc 1) ≡ true → offset_refused p (pos 42) ≡ listed_in p t o
listed_wrong p t f None h low = absurd cc
listed_wrong p t f (Some l) h low = rw low refl

pub listed_end : (p t : ℤ) (o : Option LogState) → t ≡ negsuc 0 → edge_answered p (option_map (λ (l : LogState). pos l.end) o) ≡ listed_in p t o
listed_end p t None at = refl
listed_end p t (Some l) at = rw at refl

pub listed_start : (p t : ℤ) (o : Option LogState) → t ≡ negsuc 1 → edge_answered p (option_map (λ (l : LogState). pos l.start) o) ≡ listed_in p t o
listed_start p t None at = refl
listed_start p t (Some l) at = rw at refl

pub listed_found : (p t : ℤ) (o : Option LogState) → int_lt t (negsuc 1) ≡ false → (t ≡ negsuc 0 → ⊥) → (t ≡ negsuc 1 → ⊥) → offset_found p (found_in t o) ≡ listed_in p t o
listed_found p t None low end start = refl
listed_found p t (Some l) low end start =
    let second : int_eq t (negsuc 0) ≡ false = grind (arith, ints) in
    let third : int_eq t (negsuc 1) ≡ false = grind (arith, ints) in
    rw (third, second, low) refl

-- a partition's answer, and the epoch behind it
pub answer_written : (epochs : Bool) (r : ListOffsetsPartitionReply) (s0 s1 s2 : List ℕ) → s1 ≡ s0 ++ list_offsets_partition_reply.written r → s2 ≡ s1 ++ epoch_in epochs
    → s2 ≡ s0 ++ (partition_reply epochs).written r
answer_written true r s0 s1 s2 a b = written_both s0 s1 s2 (list_offsets_partition_reply.written r) (epoch_in true) a b
answer_written false r s0 s1 s2 a b = b ∙ append-nil s1 ∙ a

-- a topic's answer is its name, its count and its partitions' answers
pub topic_spelled : (epochs : Bool) (t : ListOffsetsTopicReply) → (topic_reply epochs).written t ≡ string.written t.name ++ (array (partition_reply epochs)).written t.partitions
unfolding list_offsets_topic_reply
topic_spelled true t = refl
topic_spelled false t = refl

-- and the reply is its topics'
pub listing_spelled : (epochs : Bool) (r : ListOffsetsReply) → (listing_reply epochs).written r ≡ (array (topic_reply epochs)).written r.topics
unfolding list_offsets_reply
listing_spelled true r = refl
listing_spelled false r = refl

pub topic_listed : (epochs : Bool) (w : World) (t : ListOffsetsTopic) (name : List ℕ) (n : ℕ) (instance : Option ℕ) (entries : List ListOffsetsPartition) (old s1 s2 s3 : List ℕ)
    → name ≡ t.name → n ≡ length t.partitions → instance ≡ named t.name w.known.topics → entries ≡ t.partitions
    → s1 ≡ old ++ string.written name → s2 ≡ s1 ++ (count w32).written n → s3 ≡ s2 ++ flat_map (partition_reply epochs).written (map (listed w instance) entries)
    → s3 ≡ old ++ (topic_reply epochs).written (listed_topic w t)
topic_listed epochs w t name n instance entries old s1 s2 s3 name_is n_is instance_is entries_is p q r =
    let write = (partition_reply epochs).written in
    let replies = map (listed w (named t.name w.known.topics)) t.partitions in
    let all = flat_map write replies in
    let last : s3 ≡ s2 ++ all = r ∙ ap (λ i. s2 ++ flat_map write (map (listed w i) entries)) instance_is ∙ ap (λ es. s2 ++ flat_map write (map (listed w (named t.name w.known.topics)) es)) entries_is in
    let tail : s3 ≡ s1 ++ ((count w32).written n ++ all) = written_both s1 s2 s3 ((count w32).written n) all q last in
    let array_is = array_written (partition_reply epochs) replies n (n_is ∙ sym (length-map t.partitions (listed w (named t.name w.known.topics)))) in
    written_both old s1 s3 (string.written t.name) ((array (partition_reply epochs)).written replies) (p ∙ ap (λ m. old ++ string.written m) name_is) (tail ∙ ap (λ x. s1 ++ x) array_is)
    ∙ ap (λ x. old ++ x) (sym (topic_spelled epochs (listed_topic w t)))

-- the reply is its count and its topics' answers
pub all_listed : (epochs : Bool) (w : World) (r : ListOffsetsRequest) (n : ℕ) (old s1 s2 : List ℕ) → n ≡ length r.topics → s1 ≡ old ++ (count w32).written n → s2 ≡ s1 ++ flat_map (topic_reply epochs).written (map (listed_topic w) r.topics)
    → s2 ≡ old ++ (listing_reply epochs).written (list_offsets w r)
all_listed epochs w r n old s1 s2 n_is p q =
    let replies = map (listed_topic w) r.topics in
    written_both old s1 s2 ((count w32).written n) (flat_map (topic_reply epochs).written replies) p q
    ∙ ap (λ x. old ++ x) (array_written (topic_reply epochs) replies n (n_is ∙ sym (length-map r.topics (listed_topic w))) ∙ sym (listing_spelled epochs (list_offsets w r)))
