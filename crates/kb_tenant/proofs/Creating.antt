-- One topic of a request of CreateTopics.
use Rattle.std.proofs.Common.{◌≡◌, ◌∙◌, sym, ap, refl, subst, ℤ, Bool, true, false, List, ◌++◌, ℕ, ◌+◌, ◌<◌, ◌≤◌, length, map, drop, get_or, Option, Some, None, append_assoc}
use Rattle.std.specs.Prelude.{pos, Result, is_some, if◌then◌else◌}
use Rattle.std.specs.Int.{w32}
use Rattle.std.specs.List.{flat_map}
use Rattle.std.specs.Ordering.{int_eq}
use Rattle.std.proofs.lemmas.List.{length-map}
use Rattle.std.proofs.lemmas.List.Folds.{flat_map-map}
use Rattle.kb_wire.specs.ErrorCode.{code_of}
use Rattle.kb_wire.specs.declared.error_code.ErrorCode.{ErrorCode}
use Rattle.kb_wire.specs.declared.error_code.ErrorCode.TheVariants as codes
use Rattle.kb_wire.specs.Codec.{boolean, count, int, items, sized, string, array}
use Rattle.kb_wire.specs.Fits.{null_string_fits}
use Rattle.kb_api_data.specs.Layouts.{create_topic, create_topic_reply, create_topic_reply_v1, create_topics_request, create_topics_request_v1, create_topics_reply, create_topics_reply_v1}
use Rattle.kb_api_data.specs.declared.create_topics.CreateTopic.{CreateTopic}
use Rattle.kb_api_data.specs.declared.create_topics.CreateTopicsRequest.{CreateTopicsRequest}
use Rattle.kb_api_data.specs.declared.create_topics.CreateTopicReply.{CreateTopicReply}
use Rattle.kb_api_data.specs.declared.create_topics_v1.CreateTopicsRequestV1.{CreateTopicsRequestV1}
use Rattle.kb_topics.specs.Known.{named}
use Rattle.kb_topics.specs.declared.config.TopicConfig.{TopicConfig}
use Rattle.kb_topics.specs.declared.fault.CatalogFault.{CatalogFault}
use Rattle.kb_tenant_state.specs.Calls.{create}
use Rattle.kb_tenant.specs.CreateTopics.{stands_twice, code_in, refusal, is_too_much, made, made_unless, made_unless_full, made_with, room_in}
use Rattle.kb_tenant.specs.declared.create_topics.room.Room.{Room}
use Rattle.kb_tenant.specs.declared.limits.DataLimits.{DataLimits}
use Rattle.kb_tenant.specs.CreateTopics.{created_topic, checked_topic, checked_unless, creation_in, creations_in, reply_v1, topic_reply_v1}
use Rattle.kb_tenant.specs.Settings.{settings_in}
use Rattle.kb_tenant.specs.Turns.{in_turn, written_behind}
use Rattle.kb_tenant_state.specs.World.{World}
use Rattle.kb_tenant.proofs.Turning.{turn_length, turn_next, turn_over}

-- where its test says so
tested : (limits : DataLimits) (w : World) (t : CreateTopic) (twice there : Bool) (r : Option ErrorCode) → there ≡ is_some (named t.name w.known.topics) → r ≡ refusal twice there t → made_unless limits w t r ≡ made limits twice w t
tested limits w t twice there r at is = ap (made_unless limits w t) (is ∙ ap (λ b. refusal twice b t) at)

pub made_refused : (limits : DataLimits) (w : World) (t : CreateTopic) (twice there : Bool) (e : ErrorCode) (code : ℤ) → there ≡ is_some (named t.name w.known.topics) → Some e ≡ refusal twice there t → code ≡ code_of e → (w, code) ≡ made limits twice w t
made_refused limits w t twice there e code at is here = ap (λ z. (w, z)) here ∙ tested limits w t twice there (Some e) at is

pub made_unset : (limits : DataLimits) (w : World) (t : CreateTopic) (twice there : Bool) (code : ℤ) → there ≡ is_some (named t.name w.known.topics) → None ≡ refusal twice there t → None ≡ settings_in t.configs → code ≡ code_of codes.InvalidConfig → (w, code) ≡ made limits twice w t
made_unset limits w t twice there code at is none here = ap (λ z. (w, z)) here ∙ ap (made_with limits w t) none ∙ tested limits w t twice there None at is

-- where the tenant may not have it
pub made_full : (limits : DataLimits) (w : World) (t : CreateTopic) (twice there : Bool) (partitions : ℤ) (config : TopicConfig) (full : Bool) (code : ℤ) → there ≡ is_some (named t.name w.known.topics) → None ≡ refusal twice there t → Some config ≡ settings_in t.configs
    → partitions ≡ t.num_partitions → full ≡ is_too_much limits (room_in limits w.known) partitions → full ≡ true → code ≡ code_of codes.PolicyViolation → (w, code) ≡ made limits twice w t
made_full limits w t twice there partitions config full code at is some many past over here =
    ap (λ z. (w, z)) here ∙ ap (λ b. made_unless_full b w t config) (sym over ∙ past ∙ ap (is_too_much limits (room_in limits w.known)) many) ∙ ap (made_with limits w t) some ∙ tested limits w t twice there None at is

pub made_set : (limits : DataLimits) (w v : World) (t : CreateTopic) (twice there : Bool) (name : List ℕ) (partitions : ℤ) (config : TopicConfig) (full : Bool) (r : Result (Unit {0}) CatalogFault) (code : ℤ) → there ≡ is_some (named t.name w.known.topics) → None ≡ refusal twice there t → Some config ≡ settings_in t.configs
    → name ≡ t.name → partitions ≡ t.num_partitions → full ≡ is_too_much limits (room_in limits w.known) partitions → full ≡ false → (v, r) ≡ create w name partitions config → code ≡ code_in r → (v, code) ≡ made limits twice w t
made_set limits w v t twice there name partitions config full r code at is some one many past under made here =
    ap (λ z. (v, z)) here ∙ ap (λ (x : World × Result (Unit {0}) CatalogFault). (x.0, code_in x.1)) (made ∙ ap (λ n. create w n partitions config) one ∙ ap (λ p. create w t.name p config) many)
    ∙ ap (λ b. made_unless_full b w t config) (sym under ∙ past ∙ ap (is_too_much limits (room_in limits w.known)) many) ∙ ap (made_with limits w t) some ∙ tested limits w t twice there None at is

-- the answer for an entry of a request
pub created_is : (limits : DataLimits) (w v : World) (ts : List CreateTopic) (t : CreateTopic) (name : List ℕ) (twice : Bool) (code sent : ℤ) → name ≡ t.name → twice ≡ stands_twice t.name ts → (v, code) ≡ made limits twice w t → sent ≡ code
    → (v, (let x : CreateTopicReply = record { name = name; error_code = sent } in x)) ≡ created_topic limits ts w t
created_is limits w v ts t name twice code sent one again step same =
    ap (λ n. (v, (let x : CreateTopicReply = record { name = n; error_code = sent } in x))) one ∙ ap (λ z. (v, (let x : CreateTopicReply = record { name = t.name; error_code = z } in x))) same
    ∙ ap (λ (r : World × ℤ). (r.0, (let x : CreateTopicReply = record { name = t.name; error_code = r.1 } in x))) (step ∙ ap (λ b. made limits b w t) again)

-- the same, where it is only checked
pub checked_is : (limits : DataLimits) (w : World) (ts : List CreateTopic) (t : CreateTopic) (name : List ℕ) (twice there : Bool) (old new : Room) (code sent : ℤ) → name ≡ t.name → twice ≡ stands_twice t.name ts
    → there ≡ is_some (named t.name w.known.topics) → (new, code) ≡ checked_unless limits old t (refusal twice there t) → sent ≡ code
    → (new, (let x : CreateTopicReply = record { name = name; error_code = sent } in x)) ≡ checked_topic limits ts w old t
checked_is limits w ts t name twice there old new code sent one again at step same =
    ap (λ n. (new, (let x : CreateTopicReply = record { name = n; error_code = sent } in x))) one ∙ ap (λ z. (new, (let x : CreateTopicReply = record { name = t.name; error_code = z } in x))) same
    ∙ ap (λ (r : Room × ℤ). (r.0, (let x : CreateTopicReply = record { name = t.name; error_code = r.1 } in x)))
    (step ∙ ap (λ b. checked_unless limits old t (refusal b there t)) again ∙ ap (λ b. checked_unless limits old t (refusal (stands_twice t.name ts) b t)) at)

-- ---- what was read can be written

pub answer_fits : (name : List ℕ) (code : ℤ) → string.Fits name → create_topic_reply.Fits (record { name = name; error_code = code })
unfolding create_topic_reply int
answer_fits name code fits = (fits, tt)

pub answer_fits_v1 : (name : List ℕ) (code : ℤ) → string.Fits name → create_topic_reply_v1.Fits (record { name = name; error_code = code; error_message = None })
unfolding create_topic_reply_v1 int
answer_fits_v1 name code fits = (fits, (tt, null_string_fits))

pub request_fits : (q : CreateTopicsRequest) (timeout : ℤ) → create_topics_request.Fits q → create_topics_request_v1.Fits (record { topics = q.topics; timeout_ms = timeout; validate_only = false })
unfolding create_topics_request create_topics_request_v1 int boolean
request_fits q timeout fits = (fits.0, (tt, tt))

pub name_fits : (t : CreateTopic) (name : List ℕ) → name ≡ t.name → create_topic.Fits t → string.Fits name
unfolding create_topic
name_fits t name one fits = subst string.Fits (sym one) fits.0

pub topics_fit : (q : CreateTopicsRequestV1) → create_topics_request_v1.Fits q → (array create_topic).Fits q.topics
unfolding create_topics_request_v1
topics_fit q fits = fits.0

-- ---- the reply, by its version

by_version : (b : Bool) (ts : List CreateTopicReply)
    → (count w32).written (length ts) ++ flat_map (λ t. if b then create_topic_reply_v1.written (topic_reply_v1 t) else create_topic_reply.written t) ts
    ≡ (if b then create_topics_reply_v1.written (reply_v1 (record { topics = ts })) else create_topics_reply.written (record { topics = ts }))
unfolding create_topics_reply create_topics_reply_v1 sized items
by_version true ts =
    ap (λ n. (count w32).written n ++ flat_map (λ t. create_topic_reply_v1.written (topic_reply_v1 t)) ts) (sym (length-map ts topic_reply_v1))
    ∙ ap (λ l. (count w32).written (length (map topic_reply_v1 ts)) ++ l) (sym (flat_map-map create_topic_reply_v1.written topic_reply_v1 ts))
by_version false ts = refl

-- one more entry is served, and its answer is written
pub answer_next : {S : Type 0} (version : ℤ) (f : S → CreateTopic → S × CreateTopicReply) (old new : List ℕ) (s t : S) (x : CreateTopicReply) (es : List CreateTopic) (i : ℕ) (e : CreateTopic) (all : S × List ℕ)
    → i < length es → e ≡ get_or es i e → new ≡ old ++ creation_in version x → (t, x) ≡ f s e
    → written_behind (creation_in version) old (in_turn f s (drop i es)) ≡ all → written_behind (creation_in version) new (in_turn f t (drop (i + 1) es)) ≡ all
answer_next version f old new s t x es i e all lt is more step told =
    ap (λ o. written_behind (creation_in version) o (in_turn f t (drop (i + 1) es))) more ∙ turn_next (creation_in version) f old s t x es i e lt is step ∙ told

-- behind the count of the entries stand their answers
pub answers_over : {S : Type 0} (version sent : ℤ) (f : S → CreateTopic → S × CreateTopicReply) (start out end : List ℕ) (s t : S) (es : List CreateTopic) (i : ℕ)
    → sent ≡ version → length es ≤ i → out ≡ start ++ (count w32).written (length es)
    → written_behind (creation_in sent) end (in_turn f t (drop i es)) ≡ written_behind (creation_in sent) out (in_turn f s es)
    → (t ≡ (in_turn f s es).0) × (end ≡ start ++ creations_in version (record { topics = (in_turn f s es).1 }))
answers_over {S} version sent f start out end s t es i same le counted told =
    let r = in_turn f s es in
    let head = (count w32).written (length es) in
    let all : (t, end) ≡ (r.0, (start ++ head) ++ flat_map (creation_in sent) r.1) =
    sym (turn_over (creation_in sent) f end t es i le) ∙ told ∙ ap (λ o. written_behind (creation_in sent) o r) counted in (
      ap (λ (x : S × List ℕ). x.0) all,
      ap (λ (x : S × List ℕ). x.1) all ∙ append_assoc start head (flat_map (creation_in sent) r.1)
          ∙ ap (λ n. start ++ ((count w32).written n ++ flat_map (creation_in sent) r.1)) (sym (turn_length f s es))
          ∙ ap (λ v. start ++ ((count w32).written (length r.1) ++ flat_map (creation_in v) r.1)) same
          ∙ ap (λ l. start ++ l) (by_version (int_eq version (pos 1)) r.1),
    )

-- replies behind their count
pub replies_written : (version sent : ℤ) (start mid end : List ℕ) (n : ℕ) (replies : List CreateTopicReply) → sent ≡ version → n ≡ length replies → mid ≡ start ++ (count w32).written n → end ≡ mid ++ flat_map (creation_in sent) replies
    → end ≡ start ++ creations_in version (record { topics = replies })
replies_written version sent start mid end n replies same many first last =
    last ∙ ap (λ s. s ++ flat_map (creation_in sent) replies) first ∙ append_assoc start ((count w32).written n) (flat_map (creation_in sent) replies)
    ∙ ap (λ m. start ++ ((count w32).written m ++ flat_map (creation_in sent) replies)) many
    ∙ ap (λ v. start ++ ((count w32).written (length replies) ++ flat_map (creation_in v) replies)) same
    ∙ ap (λ l. start ++ l) (by_version (int_eq version (pos 1)) replies)
