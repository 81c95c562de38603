-- What a request of a tenant makes of its world, and comes to for the connection that sent it.
use Rattle.std.specs.Prelude.{◌≡◌, ℕ, ℤ, Bool, List, [], Option, Some, None, Result, Ok, Err, if◌then◌else◌}
use Rattle.std.specs.Ordering.{int_eq}
use Rattle.kb_wire.specs.Codec.{whole}
use Rattle.kb_wire.specs.declared.api_key.TheConstants.{PRODUCE, FETCH, LIST_OFFSETS, METADATA, OFFSET_COMMIT, OFFSET_FETCH}
use Rattle.kb_wire.specs.declared.api_key.TheConstants.{FIND_COORDINATOR, CREATE_TOPICS, DELETE_TOPICS, DELETE_RECORDS, INIT_PRODUCER_ID}
use Rattle.kb_api_data.specs.declared.config_key.TheConstants.{DESCRIBE_CONFIGS}
use Rattle.kb_wire.specs.declared.fault.WireFault.{WireFault}
use Rattle.kb_wire.specs.declared.fault.ReadFault.{ReadFault}
use Rattle.kb_wire.specs.declared.fault.ReadFault.TheVariants as faults
use Rattle.kb_api_data.specs.Layouts.{produce_request}
use Rattle.kb_api_data.specs.Layouts.{delete_topics_request, delete_records_request, delete_records_reply, init_producer_id_request}
use Rattle.kb_api_data.specs.Layouts.{init_producer_id_reply}
use Rattle.kb_api_data.specs.declared.produce.ProduceRequest.{ProduceRequest}
use Rattle.kb_api_data.specs.declared.fetch.FetchRequest.{FetchRequest}
use Rattle.kb_api_data.specs.declared.fetch_v5.FetchReplyV5.{FetchReplyV5}
use Rattle.kb_api_data.specs.declared.list_offsets.ListOffsetsRequest.{ListOffsetsRequest}
use Rattle.kb_api_data.specs.declared.metadata.MetadataRequest.{MetadataRequest}
use Rattle.kb_api_data.specs.declared.create_topics_v1.CreateTopicsRequestV1.{CreateTopicsRequestV1}
use Rattle.kb_api_data.specs.declared.delete_records.DeleteRecordsRequest.{DeleteRecordsRequest}
use Rattle.kb_api_data.specs.declared.delete_topics.DeleteTopicsRequest.{DeleteTopicsRequest}
use Rattle.kb_api_data.specs.declared.describe_configs.DescribeConfigsRequest.{DescribeConfigsRequest}
use Rattle.kb_api_data.specs.declared.init_producer_id.InitProducerIdRequest.{InitProducerIdRequest}
use Rattle.kb_api_group.specs.Layouts.{offset_commit_reply}
use Rattle.kb_api_group.specs.declared.offset_commit.OffsetCommitRequest.{OffsetCommitRequest}
use Rattle.kb_api_group.specs.declared.offset_fetch_v2.OffsetFetchRequestV2.{OffsetFetchRequestV2}
use Rattle.kb_tenant_state.specs.World.{World}
use Rattle.kb_tenant_state.specs.declared.topic_partition.TopicPartition.{TopicPartition}
use Rattle.kb_tenant.specs.CreateTopics.{asked_creations, checked_all, created_all, creations_in, made_of}
use Rattle.kb_tenant.specs.DeleteRecords.{deleted_all as records_deleted}
use Rattle.kb_tenant.specs.DeleteTopics.{deleted_all, deletions_in}
use Rattle.kb_tenant.specs.DescribeConfigs.{asked_configs, configs_in, configs_of}
use Rattle.kb_tenant.specs.Entries.{commit_entries, create_topics_entries, delete_records_entries, delete_topics_entries, fetch_entries}
use Rattle.kb_tenant.specs.Entries.{describe_configs_entries}
use Rattle.kb_tenant.specs.Entries.{list_offsets_entries, metadata_entries, offset_fetch_entries, produce_entries, within}
use Rattle.kb_tenant.specs.Fetch.{asked_code, asked_fetch, bounded, deadline_of, fetch_answer, places_of, fetched_as, fetched_in}
use Rattle.kb_tenant.specs.FetchWait.{FetchWait}
use Rattle.kb_tenant.specs.FindCoordinator.{asked_coordinator, coordinator_for, coordinator_in}
use Rattle.kb_tenant.specs.InitProducerId.{init_producer_id}
use Rattle.kb_tenant.specs.ListOffsets.{asked_listing, list_offsets, listing_in}
use Rattle.kb_tenant.specs.Metadata.{asked_metadata, metadata_in, metadata_of}
use Rattle.kb_tenant.specs.OffsetCommit.{asked_commit, committed_all, refusal_of}
use Rattle.kb_tenant.specs.OffsetFetch.{asked_offsets, fetched_all, offsets_in}
use Rattle.kb_tenant.specs.Produce.{produced, produced_in, is_due}
use Rattle.kb_tenant.specs.Replies.{Reaction, Replies, Waits, Silent, Shuts, IsAnswer, replies_within}
use Rattle.kb_tenant.specs.declared.answer.Answer.{Answer}
use Rattle.kb_tenant.specs.declared.answer.Answer.TheVariants as answers
use Rattle.kb_tenant.specs.declared.limits.DataLimits.{DataLimits}
use Rattle.kb_tenant.specs.declared.node.Node.{Node}

-- the world after a request, the partitions that it changed, in order, and what it comes to
pub record Outcome : Type 0 where
  pub world : World
  pub touched : List TopicPartition
  pub reaction : Reaction

-- the world stays
abbrev pub stays : World → Reaction → Outcome
stays w r = record { world = w; touched = []; reaction = r }

-- ---- by API; a reply of Metadata, OffsetFetch or DescribeConfigs that is past its tenant's limit is not sent

-- acks 0 has no reply
abbrev pub of_produce : ℤ → Option ℕ → World → ProduceRequest → Outcome
of_produce version limit w r =
    let p = produced limit w [] r in
    record { world = p.0.world; touched = p.0.touched; reaction = if is_due r.acks then Replies (produced_in version p.1) else Silent }

-- what a fetch comes to whose body asks that within that limit, and is answered so, where it is
abbrev pub fetch_reaction : ℤ → List ℕ → Option ℕ → World → ℕ → FetchRequest → Option FetchReplyV5 → Reaction
fetch_reaction version body limit w clock r (Some reply) = Replies (fetched_as version (asked_code version body) reply)
fetch_reaction version body limit w clock r None =
    Waits (deadline_of clock r) (record { version = version; body = body; limit = limit }) (places_of w r)

-- A fetch has at most so many bytes of records as its tenant's limit allows, also where it waits and is answered later.
abbrev pub of_fetch : ℤ → List ℕ → Option ℕ → World → ℕ → FetchRequest → Outcome
of_fetch version body limit w clock asked =
    let r = bounded limit asked in
    stays w (fetch_reaction version body limit w clock r (fetch_answer w clock r (deadline_of clock r)))

abbrev pub of_list_offsets : ℤ → World → ListOffsetsRequest → Outcome
of_list_offsets version w r = stays w (Replies (listing_in version (list_offsets w r)))

abbrev pub of_metadata : Node → ℤ → World → MetadataRequest → Outcome
of_metadata node version w r = stays w (replies_within node.limits.reply_bytes (metadata_in version (metadata_of w node r)))

abbrev pub of_offset_commit : DataLimits → World → OffsetCommitRequest → Outcome
of_offset_commit limits w r = let c = committed_all limits w (refusal_of r.group_id r.generation_id) r in
    record { world = c.0; touched = []; reaction = Replies (offset_commit_reply.written c.1) }

abbrev pub of_offset_fetch : Option ℕ → ℤ → World → OffsetFetchRequestV2 → Outcome
of_offset_fetch limit version w r = stays w (replies_within limit (offsets_in version (fetched_all w r)))

abbrev pub of_find_coordinator : Node → ℤ → World → Bool → Outcome
of_find_coordinator node version w is_group = stays w (Replies (coordinator_in version (coordinator_for node is_group)))

-- Where the request is only checked the world stays.
abbrev pub of_create_topics : DataLimits → ℤ → World → CreateTopicsRequestV1 → Outcome
of_create_topics limits version w r =
    if r.validate_only then stays w (Replies (creations_in version (checked_all limits w r.topics)))
    else let c = created_all limits w (made_of r) in record { world = c.0; touched = []; reaction = Replies (creations_in version c.1) }

abbrev pub of_delete_topics : ℤ → World → DeleteTopicsRequest → Outcome
of_delete_topics version w r =
    let d = deleted_all (w, []) r in record { world = d.0.0; touched = d.0.1; reaction = Replies (deletions_in version d.1) }

abbrev pub of_delete_records : World → DeleteRecordsRequest → Outcome
of_delete_records w r =
    let d = records_deleted (w, []) r in record { world = d.0.0; touched = d.0.1; reaction = Replies (delete_records_reply.written d.1) }

abbrev pub of_init_producer_id : World → InitProducerIdRequest → Outcome
of_init_producer_id w r =
    let i = init_producer_id w r in record { world = i.0; touched = []; reaction = Replies (init_producer_id_reply.written i.1) }

abbrev pub of_describe_configs : Option ℕ → ℤ → World → DescribeConfigsRequest → Outcome
of_describe_configs limit version w r = stays w (replies_within limit (configs_in version (configs_of w.known.topics r)))

-- ---- a request, by its key and its body

-- A body that is not the API's shuts the connection.
abbrev pub if_read : {A : Type 0} → World → Result A WireFault → (A → Outcome) → Outcome
if_read w (Ok v) f = f v
if_read w (Err fault) f = stays w Shuts

-- a request on the connection of number n, at a time of the clock in milliseconds, by the key of its API; one that names more entries than
-- its tenant's limit allows shuts the connection
unfoldable pub plainly_served : Node → World → ℕ → ℕ → ℤ → ℤ → List ℕ → Outcome
plainly_served node w clock n key version body =
    let limit = node.limits.request_entries in
    if int_eq key PRODUCE then if_read w (within limit produce_entries (whole produce_request body)) (of_produce version node.limits.bytes w)
    else if int_eq key FETCH then if_read w (within limit fetch_entries (asked_fetch version body))
    (of_fetch version body node.limits.fetch_bytes w clock)
    else if int_eq key LIST_OFFSETS then if_read w (within limit list_offsets_entries (asked_listing version body))
    (of_list_offsets version w)
    else if int_eq key METADATA then if_read w (within limit metadata_entries (asked_metadata version body)) (of_metadata node version w)
    else if int_eq key OFFSET_COMMIT then if_read w (within limit commit_entries (asked_commit version body))
    (of_offset_commit node.limits w)
    else if int_eq key OFFSET_FETCH then if_read w (within limit offset_fetch_entries (asked_offsets version body))
    (of_offset_fetch node.limits.reply_bytes version w)
    else if int_eq key FIND_COORDINATOR then if_read w (asked_coordinator version body) (of_find_coordinator node version w)
    else if int_eq key CREATE_TOPICS then if_read w (within limit create_topics_entries (asked_creations version body))
    (of_create_topics node.limits version w)
    else if int_eq key DELETE_TOPICS then if_read w (within limit delete_topics_entries (whole delete_topics_request body))
    (of_delete_topics version w)
    else if int_eq key DELETE_RECORDS then if_read w (within limit delete_records_entries (whole delete_records_request body))
    (of_delete_records w)
    else if int_eq key INIT_PRODUCER_ID then if_read w (whole init_producer_id_request body) (of_init_producer_id w)
    else if int_eq key DESCRIBE_CONFIGS then if_read w (within limit describe_configs_entries (asked_configs version body))
    (of_describe_configs node.limits.reply_bytes version w)
    else stays w Shuts

-- a waiting fetch, of that deadline, version, limit and body, at a time of the clock: its reply, where it waits no longer
abbrev pub looked_at : World → ℕ → ℕ → ℤ → Option ℕ → Result FetchRequest WireFault → Reaction
looked_at w clock deadline version limit (Err fault) = Shuts
looked_at w clock deadline version limit (Ok r) =
    elim (fetch_answer w clock (bounded limit r) deadline) [ Some reply ↦ Replies (fetched_in version reply) | None ↦ Silent ]

unfoldable pub looked : World → ℕ → ℕ → ℤ → Option ℕ → List ℕ → Reaction
looked w clock deadline version limit body = looked_at w clock deadline version limit (asked_fetch version body)

-- ---- what the code answers

-- The outcome's world, touched partitions and answer.
abbrev pub IsOutcome : ℤ → Outcome → World → List TopicPartition → Answer → Type 0
IsOutcome id o w touched answer = (w ≡ o.world) × (touched ≡ o.touched) × IsAnswer id o.reaction answer

-- the same, where a body that is not the API's is a fault; nothing is said where memory ran out
abbrev pub IsServed : ℤ → Outcome → World → List TopicPartition → Result Answer ReadFault → Type 0
IsServed id o w touched (Ok answer) = IsOutcome id o w touched answer
IsServed id o w touched (Err (faults.Wire fault)) = IsOutcome id o w touched answers.Shut
IsServed id o w touched (Err faults.Memory) = Unit {0}
