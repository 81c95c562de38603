-- The steps of a produce.
use Rattle.std.proofs.Common.{◌≡◌, ◌∙◌, sym, ap, refl, subst, ℕ, ◌+◌, ◌<◌, Bool, true, false, List, [], ◌∷◌, ◌++◌, length, drop, get_or, Option, Some, Result, Ok, append_assoc}
use Rattle.std.specs.Prelude.{ℤ, pos, map}
use Rattle.std.specs.List.{flat_map}
use Rattle.std.proofs.lemmas.List.{append-nil, length-map}
use Rattle.std.proofs.lemmas.List.Elements.{All-get_or}
use Rattle.kb_topics.specs.Known.{named}
use Rattle.kb_wire.specs.Codec.{count, string, int32, int, sized, items}
use Rattle.std.specs.Int.{w32}
use Rattle.kb_batch.specs.Batch.{IsBatch, first_fault}
use Rattle.kb_batch.specs.BatchLaws.{is_accepted}
use Rattle.kb_batch.specs.Header.{producer_id_of}
use Rattle.kb_producers.specs.declared.verdict.Verdict.{Verdict}
use Rattle.kb_producers.specs.declared.verdict.Verdict.TheVariants.{Refuse}
use Rattle.kb_wire.specs.ErrorCode.{code_of}
use Rattle.kb_wire.specs.declared.error_code.ErrorCode.TheVariants as error
use Rattle.kb_api_data.specs.Layouts.{produce_reply, produce_topic_reply, produce_partition_reply, produce_request, produce_topic}
use Rattle.kb_api_data.specs.ProduceV5.{produce_reply_v5, produce_topic_reply_v5, produce_partition_reply_v5}
use Rattle.kb_api_data.specs.declared.produce.ProduceRequest.{ProduceRequest}
use Rattle.kb_api_data.specs.declared.produce.ProduceTopic.{ProduceTopic}
use Rattle.kb_api_data.specs.declared.produce.ProducePartition.{ProducePartition}
use Rattle.kb_api_data.specs.declared.produce.ProducePartitionReply.{ProducePartitionReply}
use Rattle.kb_api_data.specs.declared.produce_v5.ProducePartitionReplyV5.{ProducePartitionReplyV5}
use Rattle.kb_api_data.specs.declared.produce_v5.ProduceTopicReplyV5.{ProduceTopicReplyV5}
use Rattle.kb_tenant_state.specs.World.{World}
use Rattle.kb_tenant_state.specs.Calls.{judged}
use Rattle.kb_tenant.specs.Turns.{in_turn, written_behind}
use Rattle.kb_tenant.specs.Produce.{Progress, progress, batch_in, read_unless, is_issued, verdict_on, offered, tried, refusal_of, entry_served, served_topic, produced, where_due, is_due, reply_bytes, written_next}
use Rattle.kb_tenant.specs.Produce.{entry_written, reply_written, topic_without_starts, topic_written, without_start}
use Rattle.kb_tenant.specs.declared.produce.Terms.{Terms}
use Rattle.kb_tenant_state.specs.declared.topic_partition.TopicPartition.{TopicPartition}
use Rattle.kb_tenant.proofs.Turning.{turn_next, turn_length}

-- ---- one entry

-- the batch that was read
pub batch_read : (records : Option (List ℕ)) (inner bytes batch : List ℕ) → records ≡ Some inner → bytes ≡ inner → batch ≡ bytes → IsBatch bytes → Ok batch ≡ batch_in records
batch_read records inner bytes batch some same is accepted =
    ap Ok is ∙ ap (read_unless bytes) (sym (is_accepted bytes accepted)) ∙ ap (λ b. read_unless b (first_fault b)) same ∙ ap batch_in (sym some)

-- an id that was not given out
pub verdict_unknown : (w : World) (place : TopicPartition) (batch : List ℕ) (t : Bool) → t ≡ is_issued w.known.issues (producer_id_of batch) → t ≡ false → Some (Refuse (code_of error.UnknownProducerId)) ≡ verdict_on w place batch
verdict_unknown w place batch t is f = rw (sym is ∙ f) refl

-- another id
pub verdict_known : (w : World) (place : TopicPartition) (batch : List ℕ) (t : Bool) (v : Option Verdict) → t ≡ is_issued w.known.issues (producer_id_of batch) → t ≡ true → v ≡ judged w place batch → v ≡ verdict_on w place batch
verdict_known w place batch t v is f j = rw (sym is ∙ f) j

-- the batch was offered to the partition that is there
pub tried_offer : (limit : Option ℕ) (p : Progress) (at : Option TopicPartition) (place : TopicPartition) (records : Option (List ℕ)) (batch : List ℕ) (x : Progress × Result ℤ ℤ) → at ≡ Some place → batch_in records ≡ Ok batch → x ≡ offered limit p place batch → x ≡ tried limit p at records
tried_offer limit p at place records batch x there read is = rw (there, read) is

-- ---- one after another

-- the next entry is served, and its answer is written where one is due
pub told_next : {S E A : Type 0} (write : A → List ℕ) (f : S → E → S × A) (out out' : List ℕ) (s s' : S) (es : List E) (i : ℕ) (e : E) (total : S × List ℕ) → i < length es → e ≡ get_or es i e
    → (written_behind write out (in_turn f s (drop i es)) ≡ total) × ((s', out') ≡ written_next write out (f s e))
    → written_behind write out' (in_turn f s' (drop (i + 1) es)) ≡ total
told_next {S} {E} {A} write f out out' s s' es i e total lt is both =
    ap (λ (r : S × List ℕ). written_behind write r.1 (in_turn f r.0 (drop (i + 1) es))) both.1
    ∙ turn_next write f out s (f s e).0 (f s e).1 es i e lt is refl ∙ both.0

pub written_one : {S A : Type 0} (write : A → List ℕ) (out out' : List ℕ) (s : S) (x : A) (r : S × A) → out' ≡ out ++ write x → (s, x) ≡ r → (s, out') ≡ written_next write out r
written_one {S} {A} write out out' s x r more is = ap (λ o. (s, o)) more ∙ ap (λ (q : S × A). written_next write out q) is

-- ---- bytes

none_due : {A : Type 0} (write : A → List ℕ) (xs : List A) → flat_map (λ x. where_due false (write x)) xs ≡ []
none_due write [] = refl
none_due write (x ∷ xs) = none_due write xs

-- bytes in front of some answers are written where the answers are
all_due : {A : Type 0} (due : Bool) (write : A → List ℕ) (out front : List ℕ) (xs : List A) → (out ++ where_due due front) ++ flat_map (λ x. where_due due (write x)) xs ≡ out ++ where_due due (front ++ flat_map write xs)
all_due true write out front xs = append_assoc out front (flat_map write xs)
all_due false write out front xs = ap (λ l. (out ++ []) ++ l) (none_due write xs) ∙ append-nil (out ++ [])

both_due : (due : Bool) (out a b : List ℕ) → (out ++ where_due due a) ++ where_due due b ≡ out ++ where_due due (a ++ b)
both_due true out a b = append_assoc out a b
both_due false out a b = append-nil (out ++ [])

-- what fits

pub entry_reply_fits : (r : ProducePartitionReply) → produce_partition_reply.Fits r
unfolding produce_partition_reply int
entry_reply_fits r = (tt, (tt, (tt, tt)))

pub entry_reply_v5_fits : (r : ProducePartitionReplyV5) → produce_partition_reply_v5.Fits r
unfolding produce_partition_reply_v5 int
entry_reply_v5_fits r = (tt, (tt, (tt, (tt, tt))))

pub number_fits : (z : ℤ) → int32.Fits z
unfolding int
number_fits z = tt

pub name_fits : (t : ProduceTopic) (name : List ℕ) → name ≡ t.name → produce_topic.Fits t → string.Fits name
unfolding produce_topic
name_fits t name is fits = subst string.Fits (sym is) fits.0

pub entries_fit : (t : ProduceTopic) (n : ℕ) → n ≡ length t.partitions → produce_topic.Fits t → (count w32).Fits n
unfolding produce_topic sized items
entries_fit t n is fits = subst (count w32).Fits (sym is) fits.1.0

pub topics_fit : (r : ProduceRequest) (n : ℕ) → n ≡ length r.topics → produce_request.Fits r → (count w32).Fits n
unfolding produce_request sized items
topics_fit r n is fits = subst (count w32).Fits (sym is) fits.1.1.1.0

pub topic_fits : (r : ProduceRequest) (i : ℕ) (t : ProduceTopic) → i < length r.topics → t ≡ get_or r.topics i t → produce_request.Fits r → produce_topic.Fits t
unfolding produce_request sized items
topic_fits r i t lt is fits = subst produce_topic.Fits (sym is) (All-get_or produce_topic.Fits r.topics i t lt fits.1.1.1.1)

-- what is spelled

-- so many items, each written without its start
many_without : {A B : Type 0} (f : A → B) (write : B → List ℕ) (xs : List A) → flat_map (λ x. write (f x)) xs ≡ flat_map write (map f xs)
many_without f write [] = refl
many_without f write (x ∷ xs) = ap (λ l. write (f x) ++ l) (many_without f write xs)

topic_spelled : (starts : Bool) (name : List ℕ) (rs : List ProducePartitionReplyV5) → (string.written name ++ (count w32).written (length rs)) ++ flat_map (entry_written starts) rs ≡ topic_written starts (record { name = name; partitions = rs })
unfolding produce_topic_reply produce_topic_reply_v5 sized items
topic_spelled true name rs = append_assoc (string.written name) ((count w32).written (length rs)) (flat_map produce_partition_reply_v5.written rs)
topic_spelled false name rs =
    append_assoc (string.written name) ((count w32).written (length rs)) (flat_map (entry_written false) rs)
    ∙ ap (λ l. string.written name ++ ((count w32).written (length rs) ++ l)) (many_without without_start produce_partition_reply.written rs)
    ∙ ap (λ n. string.written name ++ ((count w32).written n ++ flat_map produce_partition_reply.written (map without_start rs))) (sym (length-map rs without_start))

reply_spelled : (starts : Bool) (rs : List ProduceTopicReplyV5) → ((count w32).written (length rs) ++ flat_map (topic_written starts) rs) ++ int32.written (pos 0) ≡ reply_written starts (record { topics = rs; throttle_time_ms = pos 0 })
unfolding produce_reply produce_reply_v5 sized items
reply_spelled true rs = refl
reply_spelled false rs =
    ap (λ l. ((count w32).written (length rs) ++ l) ++ int32.written (pos 0)) (many_without topic_without_starts produce_topic_reply.written rs)
    ∙ ap (λ n. ((count w32).written n ++ flat_map produce_topic_reply.written (map topic_without_starts rs)) ++ int32.written (pos 0)) (sym (length-map rs topic_without_starts))

-- a topic's name, the count and the answers are its reply
pub topic_bytes : (starts due : Bool) (name : List ℕ) (n : ℕ) (rs : List ProducePartitionReplyV5) (out : List ℕ) → n ≡ length rs
    → ((out ++ where_due due (string.written name)) ++ where_due due ((count w32).written n)) ++ flat_map (λ x. where_due due (entry_written starts x)) rs ≡ out ++ where_due due (topic_written starts (record { name = name; partitions = rs }))
topic_bytes starts due name n rs out is =
    let answers : List ℕ = flat_map (λ x. where_due due (entry_written starts x)) rs in
    ap (λ l. l ++ answers) (both_due due out (string.written name) ((count w32).written n))
    ∙ all_due due (entry_written starts) out (string.written name ++ (count w32).written n) rs
    ∙ ap (λ k. out ++ where_due due ((string.written name ++ (count w32).written k) ++ flat_map (entry_written starts) rs)) is
    ∙ ap (λ l. out ++ where_due due l) (topic_spelled starts name rs)

pub topic_told : (starts due : Bool) (limit : Option ℕ) (refusal : Option ℤ) (topic : Option ℕ) (p : Progress) (t : ProduceTopic) (name : List ℕ) (entries : List ProducePartition) (n : ℕ) (out out1 out2 : List ℕ) (result : Progress × List ℕ)
    → name ≡ t.name → entries ≡ t.partitions → n ≡ length t.partitions → topic ≡ named t.name p.world.known.topics
    → out1 ≡ out ++ where_due due (string.written name) → out2 ≡ out1 ++ where_due due ((count w32).written n)
    → result ≡ written_behind (λ x. where_due due (entry_written starts x)) out2 (in_turn (entry_served limit refusal topic) p entries)
    → result ≡ written_next (λ x. where_due due (topic_written starts x)) out (served_topic limit refusal p t)
topic_told starts due limit refusal topic p t name entries n out out1 out2 result nis eis lis tis first second is =
    let r = in_turn (entry_served limit refusal (named t.name p.world.known.topics)) p t.partitions in
    let write : ProducePartitionReplyV5 → List ℕ = λ x. where_due due (entry_written starts x) in
    let many : n ≡ length r.1 = lis ∙ sym (turn_length (entry_served limit refusal (named t.name p.world.known.topics)) p t.partitions) in
    let before : out2 ≡ (out ++ where_due due (string.written t.name)) ++ where_due due ((count w32).written n) =
    second ∙ ap (λ l. l ++ where_due due ((count w32).written n)) (first ∙ ap (λ m. out ++ where_due due (string.written m)) nis) in
    is
    ∙ ap (λ es. written_behind write out2 (in_turn (entry_served limit refusal topic) p es)) eis
    ∙ ap (λ i. written_behind write out2 (in_turn (entry_served limit refusal i) p t.partitions)) tis
    ∙ ap (λ l. (r.0, l)) (ap (λ l. l ++ flat_map write r.1) before ∙ topic_bytes starts due t.name n r.1 out many)

-- the count, the topics and the throttle time are the reply
pub reply_bytes_are : (starts due : Bool) (n : ℕ) (rs : List ProduceTopicReplyV5) (out : List ℕ) → n ≡ length rs
    → ((out ++ where_due due ((count w32).written n)) ++ flat_map (λ x. where_due due (topic_written starts x)) rs) ++ where_due due (int32.written (pos 0)) ≡ out ++ where_due due (reply_written starts (record { topics = rs; throttle_time_ms = pos 0 }))
reply_bytes_are starts due n rs out is =
    ap (λ l. l ++ where_due due (int32.written (pos 0))) (all_due due (topic_written starts) out ((count w32).written n) rs)
    ∙ both_due due out ((count w32).written n ++ flat_map (topic_written starts) rs) (int32.written (pos 0))
    ∙ ap (λ k. out ++ where_due due (((count w32).written k ++ flat_map (topic_written starts) rs) ++ int32.written (pos 0))) is
    ∙ ap (λ l. out ++ where_due due l) (reply_spelled starts rs)

pub produce_told : (starts : Bool) (limit : Option ℕ) (terms : Terms) (request : ProduceRequest) (w w' : World) (touched touched' : List TopicPartition) (n : ℕ) (out out1 out2 out3 : List ℕ)
    → terms.refusal ≡ refusal_of request.transactional_id request.acks → terms.due ≡ is_due request.acks → terms.has_starts ≡ starts → n ≡ length request.topics
    → out1 ≡ out ++ where_due terms.due ((count w32).written n)
    → (progress w' touched', out2) ≡ written_behind (λ x. where_due terms.due (topic_written terms.has_starts x)) out1 (in_turn (served_topic limit terms.refusal) (progress w touched) request.topics)
    → out3 ≡ out2 ++ where_due terms.due (int32.written (pos 0))
    → (w' ≡ (produced limit w touched request).0.world) × (touched' ≡ (produced limit w touched request).0.touched) × (out3 ≡ out ++ reply_bytes starts request.acks (produced limit w touched request).1)
produce_told starts limit terms request w w' touched touched' n out out1 out2 out3 ris dis sis lis first told last =
    let refusal : Option ℤ = refusal_of request.transactional_id request.acks in
    let due : Bool = is_due request.acks in
    let f = served_topic limit refusal in
    let write : ProduceTopicReplyV5 → List ℕ = λ x. where_due due (topic_written starts x) in
    let r = in_turn f (progress w touched) request.topics in
    let many : n ≡ length r.1 = lis ∙ sym (turn_length f (progress w touched) request.topics) in
    let all : (progress w' touched', out2) ≡ (r.0, out1 ++ flat_map write r.1) =
    told
    ∙ ap (λ s. written_behind (λ x. where_due terms.due (topic_written s x)) out1 (in_turn (served_topic limit terms.refusal) (progress w touched) request.topics)) sis
    ∙ ap (λ d. written_behind (λ x. where_due d (topic_written starts x)) out1 (in_turn (served_topic limit terms.refusal) (progress w touched) request.topics)) dis
    ∙ ap (λ q. written_behind write out1 (in_turn (served_topic limit q) (progress w touched) request.topics)) ris in
    let before : out1 ≡ out ++ where_due due ((count w32).written n) = first ∙ ap (λ d. out ++ where_due d ((count w32).written n)) dis in
    let between : out2 ≡ (out ++ where_due due ((count w32).written n)) ++ flat_map write r.1 = ap (λ x. x.1) all ∙ ap (λ l. l ++ flat_map write r.1) before in (
      ap (λ x. x.0.world) all,
      ap (λ x. x.0.touched) all,
      last ∙ ap (λ d. out2 ++ where_due d (int32.written (pos 0))) dis ∙ ap (λ l. l ++ where_due due (int32.written (pos 0))) between ∙ reply_bytes_are starts due n r.1 out many,
    )
