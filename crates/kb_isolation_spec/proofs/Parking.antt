-- A request that begins to wait for partitions is not ready at once, and waits for those that it asks for.
use Rattle.std.proofs.Common.{◌≡◌, ℕ, ℤ, List, [], Bool, true, false, Option, Some, None, refl, sym, ◌∙◌, ap, subst}
use Rattle.std.specs.Prelude.{cond, Result, Ok, Err, if◌then◌else◌}
use Rattle.std.specs.Ordering.{int_eq}
use Rattle.kb_wire.specs.Codec.{whole}
use Rattle.kb_wire.specs.declared.api_key.TheConstants.{OFFSET_COMMIT, JOIN_GROUP, HEARTBEAT, LEAVE_GROUP, SYNC_GROUP}
use Rattle.kb_wire.specs.declared.fault.WireFault.{WireFault}
use Rattle.kb_api_data.specs.declared.fetch.FetchRequest.{FetchRequest}
use Rattle.kb_api_data.specs.declared.fetch_v5.FetchReplyV5.{FetchReplyV5}
use Rattle.kb_api_group.specs.declared.group_key.TheConstants.{DELETE_GROUPS, DESCRIBE_GROUPS, LIST_GROUPS}
use Rattle.kb_api_group.specs.Layouts.{delete_groups_request, describe_groups_reply, describe_groups_request, list_groups_reply, list_groups_request}
use Rattle.kb_api_group.specs.Layouts.{heartbeat_request, join_group_request, leave_group_request, sync_group_request}
use Rattle.kb_coordinator.specs.Calls.{is_accepted, join_code, sync_answer}
use Rattle.kb_coordinator.specs.Groups.{Groups, silent}
use Rattle.kb_coordinator.specs.Tools.{descriptions, group_list}
use Rattle.kb_groups.specs.declared.reply.SyncAnswer.{SyncAnswer}
use Rattle.kb_groups.specs.declared.reply.SyncAnswer.TheVariants as sync
use Rattle.kb_tenant_state.specs.World.{World}
use Rattle.kb_tenant_state.specs.declared.topic_partition.TopicPartition.{TopicPartition}
use Rattle.kb_tenant.specs.OffsetCommit.{asked_commit}
use Rattle.kb_tenant.specs.CreateTopics.{checked_all, created_all, creations_in, made_of}
use Rattle.kb_tenant.specs.DescribeConfigs.{configs_in, configs_of}
use Rattle.kb_tenant.specs.Entries.{commit_entries, delete_groups_entries, describe_groups_entries, within}
use Rattle.kb_tenant.specs.FetchWait.{FetchWait}
use Rattle.kb_tenant.specs.Fetch.{asked_fetch, bounded, deadline_of, fetch_answer, places_of, fetched_in}
use Rattle.kb_tenant.specs.Produce.{produced, produced_in, is_due}
use Rattle.kb_tenant.specs.Limits.{is_past}
use Rattle.kb_tenant.specs.Metadata.{metadata_in, metadata_of}
use Rattle.kb_tenant.specs.OffsetFetch.{fetched_all, offsets_in}
use Rattle.kb_tenant.specs.Replies.{Reaction, Replies, Waits, Silent, Shuts, reply_size, replies_within}
use Rattle.kb_tenant.specs.Serve as tenant
use Rattle.kb_tenant.specs.Serve.{stays, fetch_reaction, of_fetch, looked, looked_at}
use Rattle.kb_tenant.specs.declared.node.Node.{Node}
use Rattle.kb_tenant.proofs.ByRequest.{by_request}
use Rattle.kb_tenant_api.specs.Replies.{Plain, Rebalances, replies, short_replies}
use Rattle.kb_tenant_api.specs.Serve.{Outcome, if_read, of_delete, of_describe, of_groups, of_heartbeat, of_join, of_leave, of_list, of_offset_commit, of_sync, of_topics, sync_reaction, served}
use Rattle.kb_isolation_spec.specs.Tenant.{asked_in}

-- 1. A request that is for no group

-- what a look tells
abbrev pub told_as : ℤ → Option FetchReplyV5 → Reaction
told_as version o = elim o [ Some reply ↦ Replies (fetched_in version reply) | None ↦ Silent ]

-- a request that is to wait would be told nothing at once, and waits for what it asks for
pub record IsParked (clock : ℕ) (v : World) (deadline : ℕ) (fetch : FetchWait) (places : List TopicPartition) : Type 0 where
  pub silent : looked v clock deadline fetch.version fetch.limit fetch.body ≡ Silent
  pub asks : places ≡ asked_in v (asked_fetch fetch.version fetch.body)

abbrev ParksPlain : ℕ → tenant.Outcome → Type 0
ParksPlain clock o = (deadline : ℕ) (fetch : FetchWait) (places : List TopicPartition) → o.reaction ≡ Waits deadline fetch places → IsParked clock o.world deadline fetch places

produce-parks : (version : ℤ) (body : List ℕ) (clock : ℕ) (v : World) (touched : List TopicPartition) (reply : List ℕ) (b : Bool) → ParksPlain clock (record { world = v; touched = touched; reaction = cond b (Replies reply) Silent })
produce-parks version body clock v touched reply true deadline limit places e = absurd (cc)
produce-parks version body clock v touched reply false deadline limit places e = absurd (cc)

plain-either : (version : ℤ) (body : List ℕ) (clock : ℕ) (b : Bool) (o p : tenant.Outcome) → ParksPlain clock o → ParksPlain clock p → ParksPlain clock (if b then o else p)
plain-either version body clock true o p first second = first
plain-either version body clock false o p first second = second

fetch-parks : (w : World) (clock : ℕ) (version : ℤ) (body : List ℕ) (own : Option ℕ) (r : FetchRequest) → asked_fetch version body ≡ Ok r → ParksPlain clock (of_fetch version body own w clock r)
unfolding looked
fetch-parks w clock version body own r read = by (fetch_answer w clock (bounded own r) (deadline_of clock r)) refl
  where
    by : (o : Option FetchReplyV5) → fetch_answer w clock (bounded own r) (deadline_of clock r) ≡ o → ParksPlain clock (stays w (fetch_reaction version body own w clock (bounded own r) o))
    by (Some reply) e deadline limit places f = absurd (cc)
    by None e deadline limit places f =
        let until : deadline_of clock r ≡ deadline = cc in
        let asked : FetchWait = record { version = version; body = body; limit = own } in
        let kept : asked ≡ limit = cc in
        let same : places_of w r ≡ places = cc in
        record {
          silent = subst (λ (l : FetchWait). looked w clock deadline l.version l.limit l.body ≡ Silent) kept
              (ap (looked_at w clock deadline version own) read ∙ ap (told_as version) (subst (λ d. fetch_answer w clock (bounded own r) d ≡ None) until e));
          asks = subst (λ (l : FetchWait). places ≡ asked_in w (asked_fetch l.version l.body)) kept (sym same ∙ sym (ap (asked_in w) read));
        }

-- a reply that is sent where it is not too long
short-parks : (version : ℤ) (body : List ℕ) (clock : ℕ) (w : World) (limit : Option ℕ) (reply : List ℕ) → ParksPlain clock (stays w (replies_within limit reply))
short-parks version body clock w limit reply = by (is_past limit (reply_size reply))
  where
    by : (b : Bool) → ParksPlain clock (stays w (if b then Shuts else Replies reply))
    by true deadline limit places e = absurd (cc)
    by false deadline limit places e = absurd (cc)

plain-parks : (node : Node) (w : World) (clock n : ℕ) (key version : ℤ) (body : List ℕ) → ParksPlain clock (tenant.plainly_served node w clock n key version body)
plain-parks node w clock n key version body =
    by_request (ParksPlain clock) node w clock n key version body (record {
      produce = λ r read. produce-parks version body clock (produced node.limits.bytes w [] r).0.world (produced node.limits.bytes w [] r).0.touched (produced_in version (produced node.limits.bytes w [] r).1) (is_due r.acks);
      fetch = λ r read. fetch-parks w clock version body node.limits.fetch_bytes r read;
      list_offsets = λ r read deadline limit places e. absurd (cc);
      metadata = λ r read. short-parks version body clock w node.limits.reply_bytes (metadata_in version (metadata_of w node r));
      offset_commit = λ r read deadline limit places e. absurd (cc);
      offset_fetch = λ r read. short-parks version body clock w node.limits.reply_bytes (offsets_in version (fetched_all w r));
      find_coordinator = λ r read deadline limit places e. absurd (cc);
      create_topics = λ r read.
          let made = created_all node.limits w (made_of r) in
          plain-either version body clock r.validate_only (stays w (Replies (creations_in version (checked_all node.limits w r.topics)))) (record { world = made.0; touched = []; reaction = Replies (creations_in version made.1) })
          (λ deadline limit places e. absurd (cc)) (λ deadline limit places e. absurd (cc));
      delete_topics = λ r read deadline limit places e. absurd (cc);
      delete_records = λ r read deadline limit places e. absurd (cc);
      init_producer_id = λ r read deadline limit places e. absurd (cc);
      describe_configs = λ r read. short-parks version body clock w node.limits.reply_bytes (configs_in version (configs_of w.known.topics r));
      shut = λ deadline limit places e. absurd (cc);
    })

-- 2. Any request

abbrev pub Parks : ℕ → Outcome → Type 0
Parks clock o = (deadline : ℕ) (fetch : FetchWait) (places : List TopicPartition) → o.reaction ≡ Plain (Waits deadline fetch places) → IsParked clock o.world deadline fetch places

read-parks : {A : Type 0} (version : ℤ) (body : List ℕ) (clock : ℕ) (w : World) (gs : Groups) (r : Result A WireFault) (f : A → Outcome) → ((a : A) → Parks clock (f a)) → Parks clock (if_read w gs r f)
read-parks version body clock w gs (Ok a) f each = each a
read-parks version body clock w gs (Err fault) f each = λ deadline limit places e. absurd (cc)

either : (version : ℤ) (body : List ℕ) (clock : ℕ) (b : Bool) (o p : Outcome) → Parks clock o → Parks clock p → Parks clock (if b then o else p)
either version body clock true o p first second = first
either version body clock false o p first second = second

join-parks : (version : ℤ) (body : List ℕ) (clock : ℕ) (w : World) (gs : Groups) (b : Bool) (reply : List ℕ) → Parks clock (of_groups w gs (if b then Rebalances else replies reply))
join-parks version body clock w gs true reply deadline limit places e = absurd (cc)
join-parks version body clock w gs false reply deadline limit places e = absurd (cc)

sync-parks : (version : ℤ) (body : List ℕ) (clock : ℕ) (w : World) (gs : Groups) (a : SyncAnswer) → Parks clock (of_groups w gs (sync_reaction a))
sync-parks version body clock w gs (sync.Refused code) deadline limit places e = absurd (cc)
sync-parks version body clock w gs (sync.Got assignment) deadline limit places e = absurd (cc)
sync-parks version body clock w gs sync.Waits deadline limit places e = absurd (cc)

-- a reply to a tool
tool-parks : (version : ℤ) (body : List ℕ) (clock : ℕ) (w : World) (gs : Groups) (limit : Option ℕ) (reply : List ℕ) → Parks clock (of_groups w gs (short_replies limit reply))
tool-parks version body clock w gs limit reply = by (is_past limit (reply_size reply))
  where
    by : (b : Bool) → Parks clock (of_groups w gs (Plain (if b then Shuts else Replies reply)))
    by true deadline limit places e = absurd (cc)
    by false deadline limit places e = absurd (cc)

-- one that is for no group
topics-parks : (node : Node) (w : World) (clock : ℕ) (gs : Groups) (n : ℕ) (key version : ℤ) (body : List ℕ) → Parks clock (of_topics gs (tenant.plainly_served node w clock n key version body))
topics-parks node w clock gs n key version body deadline limit places e = (let f : (tenant.plainly_served node w clock n key version body).reaction ≡ Waits deadline limit places = cc in plain-parks node w clock n key version body deadline limit places f)

pub parks : (node : Node) (w : World) (clock : ℕ) (gs : Groups) (n : ℕ) (key version : ℤ) (body : List ℕ) → Parks clock (served node w clock gs n key version body)
unfolding served
parks node w clock gs n key version body =
    let others : Outcome = of_topics gs (tenant.plainly_served node w clock n key version body) in
    let limit : Option ℕ = node.limits.reply_bytes in
    let deletes : Outcome = if_read w gs (within node.limits.request_entries delete_groups_entries (whole delete_groups_request body)) (of_delete w gs) in
    let lists : Outcome = if_read w gs (whole list_groups_request body) (of_list limit w gs) in
    let describes : Outcome = if_read w gs (within node.limits.request_entries describe_groups_entries (whole describe_groups_request body)) (of_describe limit w gs) in
    let syncs : Outcome = if_read w gs (whole sync_group_request body) (of_sync w clock n gs) in
    let leaves : Outcome = if_read w gs (whole leave_group_request body) (of_leave w clock gs) in
    let beats : Outcome = if_read w gs (whole heartbeat_request body) (of_heartbeat w clock gs) in
    let joins : Outcome = if_read w gs (whole join_group_request body) (of_join w clock n gs) in
    let commits : Outcome = if_read w gs (within node.limits.request_entries commit_entries (asked_commit version body)) (of_offset_commit node.limits w clock gs) in
    let from_delete : Outcome = if int_eq key DELETE_GROUPS then deletes else others in
    let from_list : Outcome = if int_eq key LIST_GROUPS then lists else from_delete in
    let from_describe : Outcome = if int_eq key DESCRIBE_GROUPS then describes else from_list in
    let from_sync : Outcome = if int_eq key SYNC_GROUP then syncs else from_describe in
    let from_leave : Outcome = if int_eq key LEAVE_GROUP then leaves else from_sync in
    let from_heartbeat : Outcome = if int_eq key HEARTBEAT then beats else from_leave in
    let from_join : Outcome = if int_eq key JOIN_GROUP then joins else from_heartbeat in
    either version body clock (int_eq key OFFSET_COMMIT) commits from_join (read-parks version body clock w gs (within node.limits.request_entries commit_entries (asked_commit version body)) (of_offset_commit node.limits w clock gs) (λ r deadline limit places e. absurd (cc)))
    (either version body clock (int_eq key JOIN_GROUP) joins from_heartbeat (read-parks version body clock w gs (whole join_group_request body) (of_join w clock n gs) (λ r. join-parks version body clock w (of_join w clock n gs r).groups (is_accepted (join_code n r gs)) _))
    (either version body clock (int_eq key HEARTBEAT) beats from_leave (read-parks version body clock w gs (whole heartbeat_request body) (of_heartbeat w clock gs) (λ r deadline limit places e. absurd (cc)))
    (either version body clock (int_eq key LEAVE_GROUP) leaves from_sync (read-parks version body clock w gs (whole leave_group_request body) (of_leave w clock gs) (λ r deadline limit places e. absurd (cc)))
    (either version body clock (int_eq key SYNC_GROUP) syncs from_describe (read-parks version body clock w gs (whole sync_group_request body) (of_sync w clock n gs) (λ r. sync-parks version body clock w (of_sync w clock n gs r).groups (sync_answer clock n r gs)))
    (either version body clock (int_eq key DESCRIBE_GROUPS) describes from_list (read-parks version body clock w gs (within node.limits.request_entries describe_groups_entries (whole describe_groups_request body)) (of_describe limit w gs) (λ r. tool-parks version body clock w (silent gs) limit (describe_groups_reply.written (descriptions gs r))))
    (either version body clock (int_eq key LIST_GROUPS) lists from_delete (read-parks version body clock w gs (whole list_groups_request body) (of_list limit w gs) (λ r. tool-parks version body clock w (silent gs) limit (list_groups_reply.written (group_list gs))))
    (either version body clock (int_eq key DELETE_GROUPS) deletes others (read-parks version body clock w gs (within node.limits.request_entries delete_groups_entries (whole delete_groups_request body)) (of_delete w gs) (λ r deadline limit places e. absurd (cc)))
    (topics-parks node w clock gs n key version body))))))))
