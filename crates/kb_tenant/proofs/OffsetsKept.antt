-- What is written of committed offsets.
use Rattle.std.proofs.Common.{◌≡◌, ◌∙◌, sym, ap, refl, ℕ, ℤ, pos, List, ◌++◌, length, map, Option, Some, w32}
use Rattle.std.specs.List.{flat_map}
use Rattle.std.specs.Option.{option_and_then}
use Rattle.std.specs.Prelude.{Bool, true, false}
use Rattle.std.proofs.lemmas.List.{append-nil, length-map}
use Rattle.kb_wire.specs.Codec.{array, count, counted, int16, int32, int64, items, nullable, nullable_counted, nullable_string, sized, string}
use Rattle.kb_api_group.specs.Layouts.{offset_fetch_partition_reply, offset_fetch_topic_reply, offset_fetch_reply, offset_fetch_reply_v2}
use Rattle.kb_api_group.specs.Layouts.{offset_fetch_request, offset_fetch_request_v2}
use Rattle.kb_api_group.specs.declared.offset_fetch.OffsetFetchTopic.{OffsetFetchTopic}
use Rattle.kb_api_group.specs.declared.offset_fetch.OffsetFetchRequest.{OffsetFetchRequest}
use Rattle.kb_api_group.specs.declared.offset_fetch.OffsetFetchReply.{OffsetFetchReply}
use Rattle.kb_api_group.specs.declared.offset_fetch.OffsetFetchTopicReply.{OffsetFetchTopicReply}
use Rattle.kb_topics.specs.Known.{named}
use Rattle.kb_tenant_state.specs.Calls.{committed}
use Rattle.kb_tenant_state.specs.World.{World, place_in}
use Rattle.kb_tenant_state.specs.declared.topic_partition.TopicPartition.{TopicPartition}
use Rattle.kb_tenant.specs.Epochs.{epoch_in}
use Rattle.kb_tenant.specs.OffsetFetch.{code_in, committed_answered, fetched, fetched_topic, kept, offsets_as, offsets_until, partition_reply, topic_reply, with_topics}
use Rattle.kb_tenant.specs.Replies.{array_until, AreUntil}
use Rattle.kb_tenant.proofs.Fitting.{array_written, written_both}
use Rattle.kb_tenant.proofs.Until.{are_until, array_until_all, until_behind}

-- what is kept of a partition at its place
pub kept_at : (w : World) (group : List ℕ) (topic : Option ℕ) (partition p : ℤ) (place : TopicPartition) → p ≡ partition → Some place ≡ place_in topic p → committed w place group ≡ kept w group topic partition
kept_at w group topic partition p place same there = ap (λ o. option_and_then (λ x. committed w x group) o) (there ∙ ap (place_in topic) same)

-- a partition's answer is its fields, with an epoch behind its offset or without
answer_spelled : (epochs : Bool) (partition offset : ℤ) (metadata : List ℕ)
    → int32.written partition ++ (int64.written offset ++ (epoch_in epochs ++ (nullable_string.written (Some metadata) ++ int16.written (pos 0)))) ≡ (partition_reply epochs).written (committed_answered partition offset metadata)
unfolding offset_fetch_partition_reply
answer_spelled true partition offset metadata = refl
answer_spelled false partition offset metadata = refl

pub answer_written : (epochs : Bool) (partition p offset o code : ℤ) (metadata : List ℕ) (text : Option (List ℕ)) (s0 s1 s2 s3 s4 s5 : List ℕ)
    → p ≡ partition → o ≡ offset → text ≡ Some metadata → code ≡ pos 0
    → s1 ≡ s0 ++ int32.written p → s2 ≡ s1 ++ int64.written o → s3 ≡ s2 ++ epoch_in epochs → s4 ≡ s3 ++ nullable_string.written text → s5 ≡ s4 ++ int16.written code
    → s5 ≡ s0 ++ (partition_reply epochs).written (committed_answered partition offset metadata)
answer_written epochs partition p offset o code metadata text s0 s1 s2 s3 s4 s5 p_is o_is text_is code_is a b c d e =
    let text_of = nullable_string.written (Some metadata) in
    let last = int16.written (pos 0) in
    let one : s5 ≡ s3 ++ (text_of ++ last) =
    written_both s3 s4 s5 text_of last (d ∙ ap (λ x. s3 ++ nullable_string.written x) text_is) (e ∙ ap (λ z. s4 ++ int16.written z) code_is) in
    let two : s5 ≡ s2 ++ (epoch_in epochs ++ (text_of ++ last)) = written_both s2 s3 s5 (epoch_in epochs) (text_of ++ last) c one in
    let three : s5 ≡ s1 ++ (int64.written offset ++ (epoch_in epochs ++ (text_of ++ last))) =
    written_both s1 s2 s5 (int64.written offset) (epoch_in epochs ++ (text_of ++ last)) (b ∙ ap (λ z. s1 ++ int64.written z) o_is) two in
    written_both s0 s1 s5 (int32.written partition) (int64.written offset ++ (epoch_in epochs ++ (text_of ++ last))) (a ∙ ap (λ z. s0 ++ int32.written z) p_is) three
    ∙ ap (λ x. s0 ++ x) (answer_spelled epochs partition offset metadata)

-- a topic's answer is its name, its count and its partitions' answers
pub topic_spelled : (epochs : Bool) (t : OffsetFetchTopicReply) → (topic_reply epochs).written t ≡ string.written t.name ++ (array (partition_reply epochs)).written t.partitions
unfolding offset_fetch_topic_reply
topic_spelled true t = refl
topic_spelled false t = refl

pub topic_written : (epochs : Bool) (w : World) (group : List ℕ) (t : OffsetFetchTopic) (name : List ℕ) (n : ℕ) (instance : Option ℕ) (partitions : List ℤ) (old s1 s2 s3 : List ℕ)
    → name ≡ t.name → n ≡ length t.partitions → instance ≡ named t.name w.known.topics → partitions ≡ t.partitions
    → s1 ≡ old ++ string.written name → s2 ≡ s1 ++ (count w32).written n → s3 ≡ s2 ++ flat_map (partition_reply epochs).written (map (fetched w group instance) partitions)
    → s3 ≡ old ++ (topic_reply epochs).written (fetched_topic w group t)
topic_written epochs w group t name n instance partitions old s1 s2 s3 name_is n_is instance_is partitions_are p q r =
    let write = (partition_reply epochs).written in
    let f = fetched w group (named t.name w.known.topics) in
    let replies = map f t.partitions in
    let all = flat_map write replies in
    let last : s3 ≡ s2 ++ all = r ∙ ap (λ i. s2 ++ flat_map write (map (fetched w group i) partitions)) instance_is ∙ ap (λ ps. s2 ++ flat_map write (map f ps)) partitions_are in
    let tail : s3 ≡ s1 ++ ((count w32).written n ++ all) = written_both s1 s2 s3 ((count w32).written n) all q last in
    let array_is = array_written (partition_reply epochs) replies n (n_is ∙ sym (length-map t.partitions f)) in
    written_both old s1 s3 (string.written t.name) ((array (partition_reply epochs)).written replies) (p ∙ ap (λ m. old ++ string.written m) name_is) (tail ∙ ap (λ x. s1 ++ x) array_is)
    ∙ ap (λ x. old ++ x) (sym (topic_spelled epochs (fetched_topic w group t)))

-- a request of version 1 fits by the layout of version 2
pub topics_fit : (q : OffsetFetchRequest) → offset_fetch_request.Fits q → offset_fetch_request_v2.Fits (with_topics q)
unfolding offset_fetch_request offset_fetch_request_v2 nullable nullable_counted sized counted items
topics_fit q fits = fits

-- the reply is its topics, and its code where it has one
pub reply_written : (has epochs : Bool) (r : OffsetFetchReply) (old s1 s2 : List ℕ) → s1 ≡ old ++ (array (topic_reply epochs)).written r.topics → s2 ≡ s1 ++ code_in has
    → s2 ≡ old ++ offsets_as has epochs r
unfolding offset_fetch_reply offset_fetch_reply_v2
reply_written has true r old s1 s2 p q = written_both old s1 s2 ((array (topic_reply true)).written r.topics) (code_in has) p q
reply_written true false r old s1 s2 p q = written_both old s1 s2 ((array offset_fetch_topic_reply).written r.topics) (code_in true) p q
reply_written false false r old s1 s2 p q = q ∙ append-nil s1 ∙ p

-- the same, whose topics are written until there are more than so many bytes
pub offsets_until_all : (most : ℕ) (has epochs : Bool) (r : OffsetFetchReply) (old : List ℕ) → AreUntil most (old ++ offsets_as has epochs r) (offsets_until most has epochs r old)
offsets_until_all most has epochs r old =
    let topics = (array (topic_reply epochs)).written r.topics in
    let made = array_until most (topic_reply epochs) old r.topics in
    are_until most ((old ++ topics) ++ code_in has) (old ++ offsets_as has epochs r) (made ++ code_in has) (made ++ code_in has)
    (reply_written has epochs r old (old ++ topics) ((old ++ topics) ++ code_in has) refl refl) refl
    (until_behind most (old ++ topics) made (code_in has) (array_until_all most (topic_reply epochs) old r.topics))
