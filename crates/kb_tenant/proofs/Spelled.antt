-- The reply of a fetch is in range, and its lengths and counts fit.
use Rattle.std.proofs.Common.{◌≡◌, ◌∙◌, ◌≤◌, ◌<◌, ◌^◌, ◌-◌, ◌++◌, ◌||◌, ℕ, ℤ, pos, negsuc, Bool, true, false, List, [], ◌∷◌, length, map, max, Option, Some, None, Ok, Err, refl, sym, subst, arith, length-append, w16, w32, w64}
use Rattle.std.specs.Prelude.{All, FitsSigned, if◌then◌else◌, int_lt, nat_le, option_map}
use Rattle.std.specs.List.{AllByRecursion}
use Rattle.std.proofs.lemmas.Bool.Decides.{nat_tests}
use Rattle.std.proofs.lemmas.List.{length-map}
use Rattle.std.proofs.lemmas.List.Elements.{All-from_recursion, recursion_from_All}
use Rattle.kb_wire.specs.Codec.{count, int, int16, items, nullable, nullable_counted, octets, sized}
use Rattle.kb_wire.specs.Fits.{null_array_fits, nullable_blob_fits}
use Rattle.kb_batch.specs.Batch.{natural}
use Rattle.kb_log.specs.Log.{fetched as fetched_of, fitting, from_holding, holds}
use Rattle.kb_api_data.specs.FetchRecords.{answer_with_v5}
use Rattle.kb_api_data.specs.Lawful.{fetch_reply_lawful, fetch_reply_v5_lawful}
use Rattle.kb_api_data.specs.Layouts.{aborted_transaction, fetch_partition, fetch_request, fetch_topic}
use Rattle.kb_api_data.specs.Layouts.{fetch_partition_reply, fetch_partition_reply_v5, fetch_topic_reply, fetch_topic_reply_v5, fetch_reply, fetch_reply_v5}
use Rattle.kb_api_data.specs.declared.fetch.FetchPartition.{FetchPartition}
use Rattle.kb_api_data.specs.declared.fetch_v5.FetchPartitionReplyV5.{FetchPartitionReplyV5}
use Rattle.kb_api_data.specs.declared.fetch.FetchRequest.{FetchRequest}
use Rattle.kb_api_data.specs.declared.fetch.FetchTopic.{FetchTopic}
use Rattle.kb_api_data.specs.declared.fetch_v5.FetchReplyV5.{FetchReplyV5}
use Rattle.kb_api_data.specs.declared.fetch_v5.FetchTopicReplyV5.{FetchTopicReplyV5}
use Rattle.kb_api_data.specs.declared.fetch_records_v5.FetchPartitionFrontV5.{FetchPartitionFrontV5}
use Rattle.kb_tenant_state.specs.Fault.{code_of}
use Rattle.kb_tenant_state.specs.Logs.{LogState}
use Rattle.kb_tenant_state.specs.declared.fault.PartitionFault.{PartitionFault}
use Rattle.kb_tenant_state.specs.declared.fault.PartitionFault.TheVariants as partition
use Rattle.kb_topics.specs.Known.{named}
use Rattle.kb_tenant_state.specs.Calls.{fetched_from}
use Rattle.kb_tenant_state.specs.World.{World, log_in, place_in}
use Rattle.kb_tenant_state.specs.declared.topic_partition.TopicPartition.{TopicPartition}
use Rattle.kb_tenant.specs.Batches.{HasSmallLogs, IsSmall, Spells, SpellsBehind}
use Rattle.kb_tenant.specs.Fetch.{Limits, fetch_answered, answered_at, answered_by, answered_topic, begun, bounded, fetched, fetched_as, front_of, limit_of, refusal_of}
use Rattle.kb_tenant.specs.Fetch.{asked_fetch, has_session, has_starts, reply_written, topic_without_starts, without_start, without_starts}
use Rattle.kb_tenant.specs.Turns.{in_turn}
use Rattle.kb_tenant.proofs.Mapped.{all-map}
use Rattle.kb_tenant.proofs.Small.{small_in}
use Rattle.kb_tenant.proofs.Versions.{bounded_so}

-- ---- how many bytes are given

abbrev pub IsSized : List ℕ → Type 0
IsSized b = length b ≤ 1048588

within : (limit : ℕ) (bs : List (List ℕ)) → length (fitting limit false bs) ≤ limit
within limit [] = omega arith
within limit (b ∷ bs) = by (nat_le (length b) limit) refl (within (limit - length b) bs)
  where
    by : (t : Bool) → nat_le (length b) limit ≡ t → length (fitting (limit - length b) false bs) ≤ limit - length b → length (if t then b ++ fitting (limit - length b) false bs else []) ≤ limit
    by true e rest =
        let fits : length b ≤ limit = grind (arith, nat_tests, e) in
        omega (arith, fits, length-append b (fitting (limit - length b) false bs), rest)
    by false e rest = omega arith

first_within : (limit : ℕ) (first : Bool) (bs : List (List ℕ)) → AllByRecursion IsSized bs → length (fitting limit first bs) ≤ max limit 1048588
first_within limit first [] all = omega arith
first_within limit first (b ∷ bs) all = by (nat_le (length b) limit) refl first
  where
    by : (t : Bool) → nat_le (length b) limit ≡ t → (f : Bool) → length (if t then b ++ fitting (limit - length b) false bs else (if f then b else [])) ≤ max limit 1048588
    by true e f =
        let fits : length b ≤ limit = grind (arith, nat_tests, e) in
        omega (arith, fits, length-append b (fitting (limit - length b) false bs), within (limit - length b) bs)
    by false e true = omega (arith, all.0)
    by false e false = omega arith

from_sized : (offset : ℕ) (bs : List (List ℕ)) → AllByRecursion IsSized bs → AllByRecursion IsSized (from_holding offset bs)
from_sized offset [] all = tt
from_sized offset (b ∷ bs) all = by (holds offset b) (from_sized offset bs all.1)
  where
    by : (t : Bool) → AllByRecursion IsSized (from_holding offset bs) → AllByRecursion IsSized (if t then b ∷ bs else from_holding offset bs)
    by true rest = all
    by false rest = rest

-- what is given is within the limit, or one batch
pub given_within : (offset limit : ℕ) (first : Bool) (bs : List (List ℕ)) → AllByRecursion IsSized bs
    → length (fetched_of offset limit first bs) ≤ max limit 1048588
given_within offset limit first bs all = first_within limit first (from_holding offset bs) (from_sized offset bs all)

-- less than 2^31 where the limit is
given_small : (offset limit : ℕ) (first : Bool) (l : LogState) → IsSmall l → limit < 2 ^ 31 → length (fetched_of offset limit first l.batches) < 2 ^ 31
given_small offset limit first l small lt =
    let most = given_within offset limit first l.batches (recursion_from_All IsSized l.batches small.batches) in
    omega (arith, most, lt)

-- ---- a partition's answer

-- It fits and is in range, with the log's start and without it.
record IsTold (p : FetchPartitionReplyV5) : Type 0 where
  fits : fetch_partition_reply_v5.Fits p
  in_range : fetch_partition_reply_v5.InRange p
  plain_fits : fetch_partition_reply.Fits (without_start p)
  plain_in_range : fetch_partition_reply.InRange (without_start p)

told : (f : FetchPartitionFrontV5) (records : List ℕ) → FitsSigned w32 f.partition → FitsSigned w16 f.error_code → FitsSigned w64 f.high_watermark → FitsSigned w64 f.last_stable_offset → FitsSigned w64 f.log_start_offset
    → length records < 2 ^ 31 → IsTold (answer_with_v5 f records)
unfolding fetch_partition_reply fetch_partition_reply_v5 int nullable nullable_counted octets
told f records partition code high stable start lt =
    let list = null_array_fits aborted_transaction in
    let blob = nullable_blob_fits records lt in
    record {
      fits = (tt, (tt, (tt, (tt, (tt, (list, blob))))));
      in_range = (partition, (code, (high, (stable, (start, (tt, (tt, tt)))))));
      plain_fits = (tt, (tt, (tt, (tt, (list, blob)))));
      plain_in_range = (partition, (code, (high, (stable, (tt, (tt, tt))))));
    }

small_code : (f : PartitionFault) → FitsSigned w16 (code_of f)
small_code partition.Unknown = record { sfits = omega arith }
small_code partition.Range = record { sfits = omega arith }
small_code partition.Full = record { sfits = omega arith }
small_code partition.Store = record { sfits = omega arith }
small_code partition.Memory = record { sfits = omega arith }

refused_told : (p : ℤ) (f : PartitionFault) → FitsSigned w32 p → IsTold (answer_with_v5 (refusal_of p f) [])
refused_told p f fits = told (refusal_of p f) [] fits (small_code f) (record { sfits = omega arith }) (record { sfits = omega arith }) (record { sfits = omega arith }) (omega arith)

accepted_told : (p : ℤ) (l : LogState) (records : List ℕ) → FitsSigned w32 p → IsSmall l → length records < 2 ^ 31 → IsTold (answer_with_v5 (front_of p (pos l.start, pos l.end)) records)
accepted_told p l records fits small lt = told (front_of p (pos l.start, pos l.end)) records fits (record { sfits = omega arith }) (record { sfits = small.end }) (record { sfits = small.end }) (record { sfits = small.start }) lt

module _ (w : World) (small : HasSmallLogs w) (topic : Option ℕ) (g : Limits) (asked : FetchPartition) (number : FitsSigned w32 asked.partition) (limited : limit_of g asked < 2 ^ 31) where
  by-offset : (l : LogState) → IsSmall l → (out : Bool)
      → IsTold (answered_by g asked.partition (Some (pos l.start, pos l.end)) (if out then Err partition.Range else Ok (fetched_of (natural asked.fetch_offset) (limit_of g asked) g.first l.batches))).1
  by-offset l is true = refused_told asked.partition partition.Range number
  by-offset l is false =
      let n : ℕ = natural asked.fetch_offset in
      accepted_told asked.partition l (fetched_of n (limit_of g asked) g.first l.batches) number is (given_small n (limit_of g asked) g.first l is limited)

  by-log : (place : TopicPartition) (o : Option LogState) → log_in w place ≡ o
      → IsTold (answered_by g asked.partition (option_map (λ (l : LogState). (pos l.start, pos l.end)) o) (fetched_from asked.fetch_offset (limit_of g asked) g.first o)).1
  by-log place None at = refused_told asked.partition partition.Unknown number
  by-log place (Some l) at = by-offset l (small_in w place l small at) (int_lt asked.fetch_offset (pos l.start) || int_lt (pos l.end) asked.fetch_offset)

  by-place : (o : Option TopicPartition) → IsTold (answered_at w g asked o).1
  by-place None = refused_told asked.partition partition.Unknown number
  by-place (Some place) = by-log place (log_in w place) refl

-- a limit is an INT32
limit_small : (z : ℤ) (n : ℕ) → FitsSigned w32 z → n ≤ natural z → n < 2 ^ 31
limit_small (pos m) n fits le = let lt : m < 2 ^ 31 = fits.sfits in omega (arith, le, lt)
limit_small (negsuc m) n fits le = omega (arith, le)

partition_told : (w : World) → HasSmallLogs w → (topic : Option ℕ) (g : Limits) (asked : FetchPartition) → fetch_partition.InRange asked → IsTold (fetch_answered w topic g asked).1
unfolding fetch_partition int
partition_told w small topic g asked range =
    by-place w small topic g asked range.0 (limit_small asked.partition_max_bytes (limit_of g asked) range.1.1 (omega arith)) (place_in topic asked.partition)

-- ---- all of them

module _ {S E A : Type 0} (f : S → E → S × A) where
  each : (P : E → Type 0) (Q : A → Type 0) → ((s : S) (e : E) → P e → Q (f s e).1) → (s : S) (es : List E) → AllByRecursion P es → AllByRecursion Q (in_turn f s es).1
  each P Q one s [] all = tt
  each P Q one s (e ∷ es) all = (one s e all.0, each P Q one (f s e).0 es all.1)

  as_many : (s : S) (es : List E) → length (in_turn f s es).1 ≡ length es
  as_many s [] = refl
  as_many s (e ∷ es) = let rest = as_many (f s e).0 es in omega (arith, rest)

-- A topic's answer fits and is in range, with the starts of the logs and without them.
record IsTopicTold (t : FetchTopicReplyV5) : Type 0 where
  fits : fetch_topic_reply_v5.Fits t
  in_range : fetch_topic_reply_v5.InRange t
  plain_fits : fetch_topic_reply.Fits (topic_without_starts t)
  plain_in_range : fetch_topic_reply.InRange (topic_without_starts t)

topic_told : (w : World) → HasSmallLogs w → (g : Limits) (asked : FetchTopic) → fetch_topic.Fits asked × fetch_topic.InRange asked → IsTopicTold (answered_topic w g asked).1
unfolding fetch_topic fetch_topic_reply fetch_topic_reply_v5 sized items
topic_told w small g asked is =
    let topic = named asked.topic w.known.topics in
    let f = fetch_answered w topic in
    let replies : List FetchPartitionReplyV5 = (in_turn f g asked.partitions).1 in
    let many : length replies ≡ length asked.partitions = as_many f g asked.partitions in
    let plain_many : length (map without_start replies) ≡ length asked.partitions = length-map replies without_start ∙ many in
    let all = each f fetch_partition.InRange IsTold (λ s e. partition_told w small topic s e) g asked.partitions (recursion_from_All fetch_partition.InRange asked.partitions is.1.1.1) in
    let told_all = All-from_recursion IsTold replies all in
    record {
      fits = (is.0.0, (subst (count w32).Fits (sym many) is.0.1.0, λ k d lt. (told_all k d lt).fits));
      in_range = (is.1.0, (subst (count w32).InRange (sym many) is.1.1.0, λ k d lt. (told_all k d lt).in_range));
      plain_fits = (is.0.0, (subst (count w32).Fits (sym plain_many) is.0.1.0, all-map without_start IsTold fetch_partition_reply.Fits (λ p told. told.plain_fits) replies told_all));
      plain_in_range = (is.1.0, (subst (count w32).InRange (sym plain_many) is.1.1.0, all-map without_start IsTold fetch_partition_reply.InRange (λ p told. told.plain_in_range) replies told_all));
    }

-- So does the whole reply.
record IsReplyTold (r : FetchReplyV5) : Type 0 where
  fits : fetch_reply_v5.Fits r
  in_range : fetch_reply_v5.InRange r
  plain_fits : fetch_reply.Fits (without_starts r)
  plain_in_range : fetch_reply.InRange (without_starts r)

reply_told : (w : World) (r : FetchRequest) → HasSmallLogs w → fetch_request.Fits r × fetch_request.InRange r → IsReplyTold (fetched w r).1
unfolding fetch_reply fetch_reply_v5 fetch_request int sized items
reply_told w r small is =
    let f = answered_topic w in
    let replies : List FetchTopicReplyV5 = (in_turn f (begun r) r.topics).1 in
    let many : length replies ≡ length r.topics = as_many f (begun r) r.topics in
    let plain_many : length (map topic_without_starts replies) ≡ length r.topics = length-map replies topic_without_starts ∙ many in
    let P = λ (t : FetchTopic). fetch_topic.Fits t × fetch_topic.InRange t in
    let asked : All P r.topics = λ k d lt. (is.0.1.1.1.1.1.1 k d lt, is.1.1.1.1.1.1.1 k d lt) in
    let all = each f P IsTopicTold (topic_told w small) (begun r) r.topics (recursion_from_All P r.topics asked) in
    let told_all = All-from_recursion IsTopicTold replies all in
    record {
      fits = (tt, (subst (count w32).Fits (sym many) is.0.1.1.1.1.1.0, λ k d lt. (told_all k d lt).fits));
      in_range = (record { sfits = omega arith }, (subst (count w32).InRange (sym many) is.1.1.1.1.1.1.0, λ k d lt. (told_all k d lt).in_range));
      plain_fits = (tt, (subst (count w32).Fits (sym plain_many) is.0.1.1.1.1.1.0, all-map topic_without_starts IsTopicTold fetch_topic_reply.Fits (λ t told. told.plain_fits) replies told_all));
      plain_in_range = (record { sfits = omega arith }, (subst (count w32).InRange (sym plain_many) is.1.1.1.1.1.1.0, all-map topic_without_starts IsTopicTold fetch_topic_reply.InRange (λ t told. told.plain_in_range) replies told_all));
    }

spelled_as : (starts : Bool) (r : FetchReplyV5) → IsReplyTold r → Spells starts (reply_written starts r) r
spelled_as true r is = fetch_reply_v5_lawful.again r is.in_range is.fits
spelled_as false r is = fetch_reply_lawful.again (without_starts r) is.plain_in_range is.plain_fits

-- What is written of a fetch's reply, within a limit, spells that reply.
pub reply_spelled : (w : World) (version code : ℤ) (limit : Option ℕ) (body : List ℕ) (r : FetchRequest) → HasSmallLogs w → asked_fetch version body ≡ Ok r
    → SpellsBehind (has_session version) (has_starts version) (fetched_as version code (fetched w (bounded limit r)).1) (fetched w (bounded limit r)).1
reply_spelled w version code limit body r small read = by (has_session version)
  where
    reply : FetchReplyV5
    reply = (fetched w (bounded limit r)).1

    spelled : Spells (has_starts version) (reply_written (has_starts version) reply) reply
    spelled = spelled_as (has_starts version) reply (reply_told w (bounded limit r) small (bounded_so limit version body r read))

    by : (session : Bool) → SpellsBehind session (has_starts version) ((if session then int16.written code else []) ++ reply_written (has_starts version) reply) reply
    by true = (code, (reply_written (has_starts version) reply, (refl, spelled)))
    by false = spelled
