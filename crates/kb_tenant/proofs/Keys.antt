-- Requests by their keys, and a fetch that waits.
use Rattle.std.proofs.Common.{◌≡◌, ◌∙◌, ◌++◌, ℕ, ℤ, pos, Bool, true, false, List, [], Option, Some, None, ap, append_assoc, refl, subst, sym}
use Rattle.std.specs.Prelude.{if◌then◌else◌}
use Rattle.std.specs.declared.alloc.Global.{Global}
use Rattle.std.specs.declared.vec.Vec.{Vec}
use Rattle.kb_wire.specs.declared.api_key.TheConstants.{METADATA, OFFSET_FETCH, FIND_COORDINATOR}
use Rattle.kb_api_data.specs.declared.config_key.TheConstants.{DESCRIBE_CONFIGS}
use Rattle.kb_api_data.specs.declared.create_topics_v1.CreateTopicsRequestV1.{CreateTopicsRequestV1}
use Rattle.kb_tenant_state.specs.World.{World}
use Rattle.kb_tenant.specs.CreateTopics.{checked_all, created_all, creations_in, made_of}
use Rattle.kb_api_data.specs.declared.fetch_v5.FetchReplyV5.{FetchReplyV5}
use Rattle.kb_api_data.specs.declared.fetch.FetchRequest.{FetchRequest}
use Rattle.kb_tenant_state.specs.declared.topic_partition.TopicPartition.{TopicPartition}
use Rattle.kb_tenant.specs.DescribeConfigs.{asked_configs}
use Rattle.kb_tenant.specs.Entries.{describe_configs_entries, metadata_entries, offset_fetch_entries, within}
use Rattle.kb_tenant.specs.Fetch.{asked_code, fetched_as, fetched_in, has_starts, look_written, reply_written, session_front, IsServed}
use Rattle.kb_tenant.specs.FetchWait.{FetchWait}
use Rattle.kb_tenant.specs.FindCoordinator.{asked_coordinator}
use Rattle.kb_tenant.specs.Metadata.{asked_metadata}
use Rattle.kb_tenant.specs.OffsetFetch.{asked_offsets}
use Rattle.kb_tenant.specs.Replies.{begun, IsAnswer, Replies, Silent}
use Rattle.kb_tenant.specs.Serve.{IsOutcome, Outcome, of_create_topics, stays}
use Rattle.kb_tenant.specs.Serve.{fetch_reaction, if_read, of_describe_configs, of_find_coordinator, of_metadata, of_offset_fetch, plainly_served}
use Rattle.kb_tenant.specs.declared.answer.Answer.{Answer}
use Rattle.kb_tenant.specs.declared.answer.Answer.TheVariants as answers
use Rattle.kb_tenant.specs.declared.fetch.waiting.Fetching.TheVariants as fetching
use Rattle.kb_tenant.specs.declared.limits.DataLimits.{DataLimits}
use Rattle.kb_tenant.specs.declared.node.Node.{Node}

pub served_metadata : (node : Node) (w : World) (clock n : ℕ) (key version : ℤ) (body : List ℕ) → key ≡ METADATA → plainly_served node w clock n key version body ≡ if_read w (within node.limits.request_entries metadata_entries (asked_metadata version body)) (of_metadata node version w)
unfolding plainly_served
served_metadata node w clock n key version body is = ap (λ k. plainly_served node w clock n k version body) is

pub served_offset_fetch : (node : Node) (w : World) (clock n : ℕ) (key version : ℤ) (body : List ℕ) → key ≡ OFFSET_FETCH → plainly_served node w clock n key version body ≡ if_read w (within node.limits.request_entries offset_fetch_entries (asked_offsets version body)) (of_offset_fetch node.limits.reply_bytes version w)
unfolding plainly_served
served_offset_fetch node w clock n key version body is = ap (λ k. plainly_served node w clock n k version body) is

pub served_find_coordinator : (node : Node) (w : World) (clock n : ℕ) (key version : ℤ) (body : List ℕ) → key ≡ FIND_COORDINATOR → plainly_served node w clock n key version body ≡ if_read w (asked_coordinator version body) (of_find_coordinator node version w)
unfolding plainly_served
served_find_coordinator node w clock n key version body is = ap (λ k. plainly_served node w clock n k version body) is

pub served_configs : (node : Node) (w : World) (clock n : ℕ) (key version : ℤ) (body : List ℕ) → key ≡ DESCRIBE_CONFIGS → plainly_served node w clock n key version body ≡ if_read w (within node.limits.request_entries describe_configs_entries (asked_configs version body)) (of_describe_configs node.limits.reply_bytes version w)
unfolding plainly_served
served_configs node w clock n key version body is = ap (λ k. plainly_served node w clock n k version body) is

-- ---- CreateTopics: a request that is only checked, and one that is not

pub checked_outcome : (limits : DataLimits) (id version : ℤ) (w : World) (r : CreateTopicsRequestV1) (answer : Answer) → r.validate_only ≡ true → IsAnswer id (Replies (creations_in version (checked_all limits w r.topics))) answer
    → IsOutcome id (of_create_topics limits version w r) w [] answer
checked_outcome limits id version w r answer is told =
    let made : Outcome = record { world = (created_all limits w (made_of r)).0; touched = []; reaction = Replies (creations_in version (created_all limits w (made_of r)).1) } in
    subst (λ b. IsOutcome id (if b then stays w (Replies (creations_in version (checked_all limits w r.topics))) else made) w [] answer) (sym is) (refl, refl, told)

pub made_outcome : (limits : DataLimits) (id version : ℤ) (w v : World) (r : CreateTopicsRequestV1) (answer : Answer) → r.validate_only ≡ false → v ≡ (created_all limits w (made_of r)).0
    → IsAnswer id (Replies (creations_in version (created_all limits w (made_of r)).1)) answer → IsOutcome id (of_create_topics limits version w r) v [] answer
made_outcome limits id version w v r answer is world told =
    let made : Outcome = record { world = (created_all limits w (made_of r)).0; touched = []; reaction = Replies (creations_in version (created_all limits w (made_of r)).1) } in
    subst (λ b. IsOutcome id (if b then stays w (Replies (creations_in version (checked_all limits w r.topics))) else made) v [] answer) (sym is) (world, refl, told)

-- a fetch that waits is a wait
pub waits : (id version : ℤ) (body : List ℕ) (limit : Option ℕ) (starts : Bool) (w : World) (clock : ℕ) (r : FetchRequest) (o : Option FetchReplyV5) (old new : List ℕ) (deadline : ℕ) (fetch : FetchWait) (keys : Vec TopicPartition Global)
    → fetch ≡ record { version = version; body = body; limit = limit }
    → IsServed starts w clock r o old (fetching.Wait deadline keys) new → IsAnswer id (fetch_reaction version body limit w clock r o) (answers.Wait deadline fetch keys)
waits id version body limit starts w clock r (Some reply) old new deadline fetch keys is h = h
waits id version body limit starts w clock r None old new deadline fetch keys is h = (h.0, is, h.1)

-- a fetch that is answered is a reply
pub replied : (id version code : ℤ) (body : List ℕ) (limit : Option ℕ) (starts : Bool) (w : World) (clock : ℕ) (r : FetchRequest) (o : Option FetchReplyV5) (old new : List ℕ) (answer : Answer) → starts ≡ has_starts version → asked_code version body ≡ code
    → old ≡ begun id ++ session_front version code
    → IsServed starts w clock r o old fetching.Reply new → ((id : ℤ) (body : List ℕ) → new ≡ begun id ++ body → IsAnswer id (Replies body) answer) → IsAnswer id (fetch_reaction version body limit w clock r o) answer
replied id version code body limit starts w clock r (Some reply) old new answer is told from h made =
    subst (λ z. IsAnswer id (Replies (fetched_as version z reply)) answer) (sym told)
    (made id (fetched_as version code reply)
    (h ∙ ap (λ s. s ++ reply_written starts reply) from ∙ append_assoc (begun id) (session_front version code) (reply_written starts reply)
    ∙ ap (λ b. begun id ++ (session_front version code ++ reply_written b reply)) is))
replied id version code body limit starts w clock r None old new answer is told from h made = absurd h

-- so is one that waited
pub woken : (id version : ℤ) (starts : Bool) (o : Option FetchReplyV5) (old new : List ℕ) (done : Bool) (answer : Answer) → starts ≡ has_starts version → old ≡ begun id ++ session_front version (pos 0) → done ≡ true
    → (done, new) ≡ look_written starts old o → ((id : ℤ) (body : List ℕ) → new ≡ begun id ++ body → IsAnswer id (Replies body) answer)
    → IsAnswer id (elim o [ Some reply ↦ Replies (fetched_in version reply) | None ↦ Silent ]) answer
woken id version starts (Some reply) old new done answer is from over told made =
    made id (fetched_in version reply)
    (ap (λ x. x.1) told ∙ ap (λ s. s ++ reply_written starts reply) from ∙ append_assoc (begun id) (session_front version (pos 0)) (reply_written starts reply)
    ∙ ap (λ b. begun id ++ (session_front version (pos 0) ++ reply_written b reply)) is)
woken id version starts None old new done answer is from over told made = let e : true ≡ false = sym over ∙ ap (λ x. x.0) told in absurd cc

-- one that still waits has none
pub waiting : (id version : ℤ) (starts : Bool) (o : Option FetchReplyV5) (old new : List ℕ) (done : Bool) → done ≡ false
    → (done, new) ≡ look_written starts old o
    → IsAnswer id (elim o [ Some reply ↦ Replies (fetched_in version reply) | None ↦ Silent ]) answers.NoReply
waiting id version starts (Some reply) old new done not told = let e : false ≡ true = sym not ∙ ap (λ x. x.0) told in absurd cc
waiting id version starts None old new done not told = tt
