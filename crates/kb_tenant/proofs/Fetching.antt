-- What a fetch is answered, from what its calls give.
use Rattle.std.proofs.Common.{◌≡◌, ◌∙◌, sym, ap, refl, ℕ, zero, suc, ◌+◌, ◌-◌, ◌<◌, Bool, true, false, List, [], ◌∷◌, ◌++◌, length, map, take, drop, get_or, append_assoc, length-append, arith, w32}
use Rattle.std.specs.Prelude.{ℤ, pos, option_map, Option, Some, None, Result, Ok, Err, All}
use Rattle.std.specs.List.{flat_map}
use Rattle.std.proofs.lemmas.List.{length-map, take_at}
use Rattle.kb_wire.specs.Codec.{Codec, count, sized, items, array, string, int32}
use Rattle.kb_api_data.specs.Layouts.{fetch_partition_reply, fetch_partition_reply_v5, fetch_topic, fetch_topic_reply, fetch_topic_reply_v5, fetch_request, fetch_reply, fetch_reply_v5}
use Rattle.kb_api_data.specs.FetchRecords.{answer_front, answer_front_v5, answer_with_v5, answer_written, answer_written_v5}
use Rattle.kb_api_data.specs.declared.fetch.FetchPartition.{FetchPartition}
use Rattle.kb_api_data.specs.declared.fetch.FetchTopic.{FetchTopic}
use Rattle.kb_api_data.specs.declared.fetch.FetchRequest.{FetchRequest}
use Rattle.kb_api_data.specs.declared.fetch_v5.FetchPartitionReplyV5.{FetchPartitionReplyV5}
use Rattle.kb_api_data.specs.declared.fetch_v5.FetchTopicReplyV5.{FetchTopicReplyV5}
use Rattle.kb_api_data.specs.declared.fetch_v5.FetchReplyV5.{FetchReplyV5}
use Rattle.kb_api_data.specs.declared.fetch_records.FetchPartitionFront.{FetchPartitionFront}
use Rattle.kb_api_data.specs.declared.fetch_records_v5.FetchPartitionFrontV5.{FetchPartitionFrontV5}
use Rattle.kb_topics.specs.Known.{named}
use Rattle.kb_tenant_state.specs.Scene.{Scene}
use Rattle.kb_tenant_state.specs.declared.fault.PartitionFault.{PartitionFault}
use Rattle.kb_tenant_state.specs.declared.fault.PartitionFault.TheVariants as partition
use Rattle.kb_tenant_state.specs.Calls.{IsGiven}
use Rattle.kb_tenant.specs.Counted.{fetch_answered, answered_at, answered_by, answered_topic, begun, fetched, fetched_at, less, refused}
use Rattle.kb_tenant.specs.Fetch.{bounds_of, front_of}
use Rattle.kb_tenant.specs.Fetch.{front_written, partition_written, reply_written, topic_written, topic_without_starts, without_start}
use Rattle.kb_tenant_state.specs.Parts.{Seen}
use Rattle.kb_tenant_state.specs.Steps.{IsStep, Meets, calm_then}
use Rattle.kb_tenant.specs.Turns.{in_turn, written_behind}
use Rattle.kb_tenant_state.specs.World.{World, place_in}
use Rattle.kb_tenant.specs.declared.fetch.given.Given.{Given}
use Rattle.kb_tenant_state.specs.declared.topic_partition.TopicPartition.{TopicPartition}
use Rattle.kb_tenant.proofs.Mapped.{flat_map-map}
use Rattle.kb_tenant.proofs.Turning.{turn_next, turn_length}

-- what was added is taken back
pub cut_back : (old more s : List ℕ) (n : ℕ) → s ≡ old ++ more → n ≡ length old → take n s ≡ old
cut_back old more s n is len = ap (take n) is ∙ take_at old more n (sym len)

-- a partition whose fetch is refused
pub by_refusal : (g : Given) (p : ℤ) (head : FetchPartitionFrontV5) (o : Option (ℤ × ℤ)) (r : Result (List ℕ) PartitionFault) (f : PartitionFault) (old new : List ℕ) → Some head ≡ option_map (front_of p) o → IsGiven r old (Err f) new
    → refused g p f ≡ answered_by g p o r
by_refusal g p head None r f old new is given = absurd cc
by_refusal g p head (Some x) (Ok y) f old new is given = absurd given
by_refusal g p head (Some x) (Err h) f old new is given = ap (refused g p) given.0

pub refused_is : (starts : Bool) (g new : Given) (p : ℤ) (head : FetchPartitionFrontV5) (o : Option (ℤ × ℤ)) (r : Result (List ℕ) PartitionFault) (f : PartitionFault) (start front was put cut bytes : List ℕ) (n : ℕ)
    → Some head ≡ option_map (front_of p) o → n ≡ length start → was ≡ start ++ front → put ≡ was → cut ≡ take n put → IsGiven r was (Err f) put
    → new ≡ (refused g p f).0 → bytes ≡ cut ++ partition_written starts (refused g p f).1
    → (new ≡ (answered_by g p o r).0) × (bytes ≡ start ++ partition_written starts (answered_by g p o r).1)
refused_is starts g new p head o r f start front was put cut bytes n is len there kept back given one two =
    let same : refused g p f ≡ answered_by g p o r = by_refusal g p head o r f was put is given in (
      one ∙ ap (λ x. x.0) same,
      two ∙ ap (λ s. s ++ partition_written starts (refused g p f).1) (back ∙ cut_back start front put n (kept ∙ there) len) ∙ ap (λ x. start ++ partition_written starts x.1) same,
    )

none_mapped : {A B : Type 0} (f : A → B) (o : Option A) → None ≡ option_map f o → None ≡ o
none_mapped f None e = refl
none_mapped f (Some x) e = absurd cc

-- a place that has no log
pub unknown_is : (w : World) (topic : Option ℕ) (g : Given) (e : FetchPartition) (place : TopicPartition) → Some place ≡ place_in topic e.partition → None ≡ option_map (front_of e.partition) (bounds_of w place) → refused g e.partition partition.Unknown ≡ fetch_answered w topic g e
unknown_is w topic g e place is none =
    ap (λ o. answered_by g e.partition o (fetched_at w g e place)) (none_mapped (front_of e.partition) (bounds_of w place) none)
    ∙ ap (answered_at w g e) is

-- a partition that gives records
pub accepted_is : (starts : Bool) (g new : Given) (p : ℤ) (head : FetchPartitionFrontV5) (o : Option (ℤ × ℤ)) (r : Result (List ℕ) PartitionFault) (start was put bytes : List ℕ) (m n : ℕ) (u : Unit {0})
    → Some head ≡ option_map (front_of p) o → was ≡ start ++ front_written starts head → m ≡ length was → IsGiven r was (Ok u) put
    → ((has_starts : Bool) (before records : List ℕ) (front : FetchPartitionFrontV5) → put ≡ before ++ front_written has_starts front ++ records → m ≡ length (before ++ front_written has_starts front)
    → (n ≡ length records) × (bytes ≡ before ++ partition_written has_starts (answer_with_v5 front records)))
    → new ≡ less g n
    → (new ≡ (answered_by g p o r).0) × (bytes ≡ start ++ partition_written starts (answered_by g p o r).1)
accepted_is starts g new p head None r start was put bytes m n u is there len given whole step = absurd cc
accepted_is starts g new p head (Some x) (Err h) start was put bytes m n u is there len given whole step = absurd given
accepted_is starts g new p head (Some x) (Ok records) start was put bytes m n u is there len given whole step =
    let w = whole starts start records head (given ∙ ap (λ s. s ++ records) there) (len ∙ ap length there) in
    let same : head ≡ front_of p x = cc in
    (step ∙ ap (less g) w.0, w.1 ∙ ap (λ f. start ++ partition_written starts (answer_with_v5 f records)) same)

-- records that are counted behind a front, with the log's start or without it
pub counted : (start : ℕ) (old new : List ℕ)
    → ((before records : List ℕ) (front : FetchPartitionFront) → old ≡ before ++ answer_front front ++ records → start ≡ length (before ++ answer_front front) → new ≡ before ++ answer_written front records)
    → ((before records : List ℕ) (front : FetchPartitionFrontV5) → old ≡ before ++ answer_front_v5 front ++ records → start ≡ length (before ++ answer_front_v5 front) → new ≡ before ++ answer_written_v5 front records)
    → (starts : Bool) (before records : List ℕ) (front : FetchPartitionFrontV5) → old ≡ before ++ front_written starts front ++ records → start ≡ length (before ++ front_written starts front)
    → new ≡ before ++ partition_written starts (answer_with_v5 front records)
counted start old new plain with_start true before records front is at = with_start before records front is at
counted start old new plain with_start false before records front is at =
    plain before records (record { partition = front.partition; error_code = front.error_code; high_watermark = front.high_watermark; last_stable_offset = front.last_stable_offset }) is at

-- how many they are
pub count_is : (before front records old : List ℕ) (start end : ℕ) → old ≡ before ++ front ++ records → start ≡ length (before ++ front) → end ≡ length old → end - start ≡ length records
count_is before front records old start end is at len =
    let all : end ≡ length ((before ++ front) ++ records) = len ∙ ap length is in
    omega (arith, all, at, length-append (before ++ front) records)

-- ---- one entry after another

-- a world that two steps leave as it is
pub same_then : (a b d : Scene Seen) → IsStep a b → IsStep b d → (b.disk.honest → a.agrees → b.state.world ≡ a.state.world) → (d.disk.honest → b.agrees → d.state.world ≡ b.state.world) → d.disk.honest → a.agrees → d.state.world ≡ a.state.world
same_then a b d p q first second honest agree =
    let before = q.frame.others.honest honest in
    second honest (p.frame.agrees before agree) ∙ first before agree

-- one entry more is served in a world that stays
served_next : {S E A : Type 0} (write : A → List ℕ) (f : World → S → E → S × A) (w v : World) (out out' : List ℕ) (s s' : S) (es : List E) (i : ℕ) (e : E) (total : S × List ℕ) → i < length es → e ≡ get_or es i e → v ≡ w
    → written_behind write out (in_turn (f w) s (drop i es)) ≡ total
    → (s' ≡ (f v s e).0) × (out' ≡ out ++ write (f v s e).1)
    → written_behind write out' (in_turn (f w) s' (drop (i + 1) es)) ≡ total
served_next {S} {E} {A} write f w v out out' s s' es i e total lt is same told step =
    let x : A = (f v s e).1 in
    let one : (s', x) ≡ f w s e = ap (λ t. (t, x)) step.0 ∙ ap (λ u. f u s e) same in
    ap (λ o. written_behind write o (in_turn (f w) s' (drop (i + 1) es))) step.1 ∙ turn_next write (f w) out s s' x es i e lt is one ∙ told

pub loop_next : {S E A : Type 0} (write : A → List ℕ) (f : World → S → E → S × A) (a b d : Scene Seen) (out out' : List ℕ) (s s' : S) (es : List E) (i : ℕ) (e : E) (total : S × List ℕ) → i < length es → e ≡ get_or es i e
    → IsStep a b → IsStep b d → (b.disk.honest → a.agrees → b.state.world ≡ a.state.world)
    → Meets a b (written_behind write out (in_turn (f a.state.world) s (drop i es)) ≡ total)
    → Meets b d ((s' ≡ (f b.state.world s e).0) × (out' ≡ out ++ write (f b.state.world s e).1))
    → Meets a d (written_behind write out' (in_turn (f a.state.world) s' (drop (i + 1) es)) ≡ total)
loop_next write f a b d out out' s s' es i e total lt is p q same told next honest agree calm =
    let calms = calm_then a.state.refusals b.state.refusals d.state.refusals p.grows q.grows calm in
    let before = q.frame.others.honest honest in
    served_next write f a.state.world b.state.world out out' s s' es i e total lt is (same before agree) (told before agree calms.0) (next honest (p.frame.agrees before agree) calms.1)

-- an item in whatever words
pub get_or_any : {A : Type 0} (xs : List A) (i : ℕ) (d e : A) → i < length xs → get_or xs i d ≡ get_or xs i e
get_or_any [] i d e h = absurd (omega (arith, h))
get_or_any (x ∷ xs) zero d e h = refl
get_or_any (x ∷ xs) (suc i) d e h = get_or_any xs i d e (omega (arith, h))

-- ---- what is written

array_written : {A : Type 0} (c : Codec A) (vs : List A) → (array c).written vs ≡ (count w32).written (length vs) ++ flat_map c.written vs
unfolding sized items
array_written c vs = refl

-- a list of answers in another form is their count and each of them in that form
mapped_written : {A B : Type 0} (c : Codec B) (f : A → B) (xs : List A) → (array c).written (map f xs) ≡ (count w32).written (length xs) ++ flat_map (λ x. c.written (f x)) xs
mapped_written c f xs = array_written c (map f xs)
    ∙ ap (λ n. (count w32).written n ++ flat_map c.written (map f xs)) (length-map xs f)
    ∙ ap (λ s. (count w32).written (length xs) ++ s) (flat_map-map f c.written xs)

abbrev partitions_written : Bool → List FetchPartitionReplyV5 → List ℕ
partitions_written true ps = (array fetch_partition_reply_v5).written ps
partitions_written false ps = (array fetch_partition_reply).written (map without_start ps)

partitions_are : (starts : Bool) (ps : List FetchPartitionReplyV5) → partitions_written starts ps ≡ (count w32).written (length ps) ++ flat_map (partition_written starts) ps
partitions_are true ps = array_written fetch_partition_reply_v5 ps
partitions_are false ps = mapped_written fetch_partition_reply without_start ps

topic_is : (starts : Bool) (t : FetchTopicReplyV5) → topic_written starts t ≡ string.written t.topic ++ partitions_written starts t.partitions
unfolding fetch_topic_reply fetch_topic_reply_v5
topic_is true t = refl
topic_is false t = refl

abbrev topics_written : Bool → List FetchTopicReplyV5 → List ℕ
topics_written true ts = (array fetch_topic_reply_v5).written ts
topics_written false ts = (array fetch_topic_reply).written (map topic_without_starts ts)

topics_are : (starts : Bool) (ts : List FetchTopicReplyV5) → topics_written starts ts ≡ (count w32).written (length ts) ++ flat_map (topic_written starts) ts
topics_are true ts = array_written fetch_topic_reply_v5 ts
topics_are false ts = mapped_written fetch_topic_reply topic_without_starts ts

reply_is : (starts : Bool) (r : FetchReplyV5) → reply_written starts r ≡ int32.written r.throttle_time_ms ++ topics_written starts r.topics
unfolding fetch_reply fetch_reply_v5
reply_is true r = refl
reply_is false r = refl

-- a topic's reply is its name, the count of the entries and what they were answered
pub topic_spelled : (starts : Bool) (t : FetchTopicReplyV5)
    → topic_written starts t ≡ string.written t.topic ++ ((count w32).written (length t.partitions) ++ flat_map (partition_written starts) t.partitions)
topic_spelled starts t = topic_is starts t ∙ ap (λ x. string.written t.topic ++ x) (partitions_are starts t.partitions)

-- the whole is the throttle time, the count of the topics and what they were answered
pub reply_spelled : (starts : Bool) (r : FetchReplyV5)
    → reply_written starts r ≡ int32.written r.throttle_time_ms ++ ((count w32).written (length r.topics) ++ flat_map (topic_written starts) r.topics)
reply_spelled starts r = reply_is starts r ∙ ap (λ x. int32.written r.throttle_time_ms ++ x) (topics_are starts r.topics)

-- something, then the count of entries, and then what each was answered
entries_told : {S E A : Type 0} (write : A → List ℕ) (whole : List A → List ℕ) → ((xs : List A) → whole xs ≡ (count w32).written (length xs) ++ flat_map write xs)
    → (f : S → E → S × A) (head : List ℕ) (s s' : S) (es : List E) (n : ℕ) (s0 s1 s2 s3 : List ℕ) → n ≡ length es → s1 ≡ s0 ++ head → s2 ≡ s1 ++ (count w32).written n
    → (s', s3) ≡ written_behind write s2 (in_turn f s es)
    → (s' ≡ (in_turn f s es).0) × (s3 ≡ s0 ++ (head ++ whole (in_turn f s es).1))
entries_told {A = A} write whole is f head s s' es n s0 s1 s2 s3 len first second told =
    let answers : List A = (in_turn f s es).1 in
    let many : n ≡ length answers = len ∙ sym (turn_length f s es) in
    let text : List ℕ = flat_map write answers in (
      ap (λ x. x.0) told,
      ap (λ x. x.1) told
          ∙ ap (λ t. t ++ text) (second ∙ ap (λ t. t ++ (count w32).written n) first ∙ ap (λ m. (s0 ++ head) ++ (count w32).written m) many)
          ∙ append_assoc (s0 ++ head) ((count w32).written (length answers)) text
          ∙ append_assoc s0 head ((count w32).written (length answers) ++ text)
          ∙ ap (λ t. s0 ++ (head ++ t)) (sym (is answers)),
    )

pub topic_told : (starts : Bool) (w : World) (g g' : Given) (t : FetchTopic) (name : List ℕ) (n : ℕ) (topic : Option ℕ) (entries : List FetchPartition) (s0 s1 s2 s3 : List ℕ)
    → name ≡ t.topic → n ≡ length t.partitions → topic ≡ named name w.known.topics → entries ≡ t.partitions
    → s1 ≡ s0 ++ string.written name → s2 ≡ s1 ++ (count w32).written n
    → (g', s3) ≡ written_behind (partition_written starts) s2 (in_turn (fetch_answered w topic) g entries)
    → (g' ≡ (answered_topic w g t).0) × (s3 ≡ s0 ++ topic_written starts (answered_topic w g t).1)
topic_told starts w g g' t name n topic entries s0 s1 s2 s3 same len at list first second told =
    let write = partition_written starts in
    let here : topic ≡ named t.topic w.known.topics = at ∙ ap (λ x. named x w.known.topics) same in
    let all = entries_told write (partitions_written starts) (partitions_are starts) (fetch_answered w (named t.topic w.known.topics)) (string.written t.topic) g g' t.partitions n s0 s1 s2 s3 len
    (first ∙ ap (λ x. s0 ++ string.written x) same) second
    (told ∙ ap (λ x. written_behind write s2 (in_turn (fetch_answered w x) g entries)) here ∙ ap (λ es. written_behind write s2 (in_turn (fetch_answered w (named t.topic w.known.topics)) g es)) list) in
    (all.0, all.1 ∙ ap (λ x. s0 ++ x) (sym (topic_is starts (answered_topic w g t).1)))

pub reply_told : (starts : Bool) (w : World) (r : FetchRequest) (g g' : Given) (n : ℕ) (topics : List FetchTopic) (s0 s1 s2 s3 : List ℕ)
    → g ≡ begun r → n ≡ length r.topics → topics ≡ r.topics → s1 ≡ s0 ++ int32.written (pos 0) → s2 ≡ s1 ++ (count w32).written n
    → (g', s3) ≡ written_behind (topic_written starts) s2 (in_turn (answered_topic w) g topics)
    → (g' ≡ (fetched w r).0) × (s3 ≡ s0 ++ reply_written starts (fetched w r).1)
reply_told starts w r g g' n topics s0 s1 s2 s3 start len list first second told =
    let write = topic_written starts in
    let all = entries_told write (topics_written starts) (topics_are starts) (answered_topic w) (int32.written (pos 0)) (begun r) g' r.topics n s0 s1 s2 s3 len first second
    (told ∙ ap (λ x. written_behind write s2 (in_turn (answered_topic w) x topics)) start ∙ ap (λ ts. written_behind write s2 (in_turn (answered_topic w) (begun r) ts)) list) in
    (all.0, all.1 ∙ ap (λ x. s0 ++ x) (sym (reply_is starts (fetched w r).1)))

-- ---- what fits

pub topic_name_fits : (t : FetchTopic) → fetch_topic.Fits t → string.Fits t.topic
unfolding fetch_topic
topic_name_fits t fits = fits.0

pub topic_count_fits : (t : FetchTopic) → fetch_topic.Fits t → (count w32).Fits (length t.partitions)
unfolding fetch_topic sized items
topic_count_fits t fits = fits.1.0

pub request_count_fits : (r : FetchRequest) → fetch_request.Fits r → (count w32).Fits (length r.topics)
unfolding fetch_request sized items
request_count_fits r fits = fits.1.1.1.1.1.0

pub request_topics_fit : (r : FetchRequest) → fetch_request.Fits r → All fetch_topic.Fits r.topics
unfolding fetch_request sized items
request_topics_fit r fits = fits.1.1.1.1.1.1
