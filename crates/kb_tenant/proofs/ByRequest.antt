-- What holds of a request, if it does for each API.
use Rattle.std.proofs.Common.{◌≡◌, ℕ, ℤ, Bool, true, false, List, [], Option, refl}
use Rattle.std.specs.Prelude.{Result, Ok, Err, if◌then◌else◌}
use Rattle.std.specs.Ordering.{int_eq}
use Rattle.kb_wire.specs.Codec.{whole}
use Rattle.kb_wire.specs.declared.api_key.TheConstants.{PRODUCE, FETCH, LIST_OFFSETS, METADATA, OFFSET_COMMIT, OFFSET_FETCH}
use Rattle.kb_wire.specs.declared.api_key.TheConstants.{FIND_COORDINATOR, CREATE_TOPICS, DELETE_TOPICS, DELETE_RECORDS, INIT_PRODUCER_ID}
use Rattle.kb_api_data.specs.declared.config_key.TheConstants.{DESCRIBE_CONFIGS}
use Rattle.kb_wire.specs.declared.fault.WireFault.{WireFault}
use Rattle.kb_wire.specs.declared.fault.WireFault.TheVariants as faults
use Rattle.kb_api_data.specs.Layouts.{produce_request, delete_records_request, delete_topics_request, init_producer_id_request}
use Rattle.kb_api_data.specs.declared.create_topics_v1.CreateTopicsRequestV1.{CreateTopicsRequestV1}
use Rattle.kb_api_data.specs.declared.delete_records.DeleteRecordsRequest.{DeleteRecordsRequest}
use Rattle.kb_api_data.specs.declared.delete_topics.DeleteTopicsRequest.{DeleteTopicsRequest}
use Rattle.kb_api_data.specs.declared.describe_configs.DescribeConfigsRequest.{DescribeConfigsRequest}
use Rattle.kb_api_data.specs.declared.fetch.FetchRequest.{FetchRequest}
use Rattle.kb_api_data.specs.declared.init_producer_id.InitProducerIdRequest.{InitProducerIdRequest}
use Rattle.kb_api_data.specs.declared.list_offsets.ListOffsetsRequest.{ListOffsetsRequest}
use Rattle.kb_api_data.specs.declared.metadata.MetadataRequest.{MetadataRequest}
use Rattle.kb_api_data.specs.declared.produce.ProduceRequest.{ProduceRequest}
use Rattle.kb_api_group.specs.declared.offset_commit.OffsetCommitRequest.{OffsetCommitRequest}
use Rattle.kb_api_group.specs.declared.offset_fetch_v2.OffsetFetchRequestV2.{OffsetFetchRequestV2}
use Rattle.kb_tenant_state.specs.World.{World}
use Rattle.kb_tenant.specs.CreateTopics.{asked_creations, checked_all, created_all, creations_in, made_of}
use Rattle.kb_tenant.specs.DescribeConfigs.{asked_configs}
use Rattle.kb_tenant.specs.Entries.{describe_configs_entries}
use Rattle.kb_tenant.specs.Entries.{commit_entries, create_topics_entries, delete_records_entries, delete_topics_entries, fetch_entries}
use Rattle.kb_tenant.specs.Entries.{list_offsets_entries, metadata_entries, offset_fetch_entries, produce_entries, within}
use Rattle.kb_tenant.specs.Fetch.{asked_fetch}
use Rattle.kb_tenant.specs.FindCoordinator.{asked_coordinator}
use Rattle.kb_tenant.specs.Limits.{is_past}
use Rattle.kb_tenant.specs.ListOffsets.{asked_listing}
use Rattle.kb_tenant.specs.Metadata.{asked_metadata}
use Rattle.kb_tenant.specs.OffsetCommit.{asked_commit}
use Rattle.kb_tenant.specs.OffsetFetch.{asked_offsets}
use Rattle.kb_tenant.specs.Replies.{Reaction, Replies, Shuts}
use Rattle.kb_tenant.specs.Serve.{Outcome, if_read, of_produce, of_fetch, of_list_offsets, of_metadata, of_offset_commit, of_offset_fetch, of_find_coordinator, of_create_topics, of_delete_records, of_delete_topics, of_describe_configs, of_init_producer_id, plainly_served, stays}
use Rattle.kb_tenant.specs.declared.limits.DataLimits.{DataLimits}
use Rattle.kb_tenant.specs.declared.node.Node.{Node}

-- It holds of what each API's request comes to, where the body is one, and of a connection that is shut.
pub record Cases (P : Outcome → Type 0) (node : Node) (w : World) (clock : ℕ) (version : ℤ) (body : List ℕ) : Type 0 where
  pub produce : (r : ProduceRequest) → whole produce_request body ≡ Ok r → P (of_produce version node.limits.bytes w r)
  pub fetch : (r : FetchRequest) → asked_fetch version body ≡ Ok r → P (of_fetch version body node.limits.fetch_bytes w clock r)
  pub list_offsets : (r : ListOffsetsRequest) → asked_listing version body ≡ Ok r → P (of_list_offsets version w r)
  pub metadata : (r : MetadataRequest) → asked_metadata version body ≡ Ok r → P (of_metadata node version w r)
  pub offset_commit : (r : OffsetCommitRequest) → asked_commit version body ≡ Ok r → P (of_offset_commit node.limits w r)
  pub offset_fetch : (r : OffsetFetchRequestV2) → asked_offsets version body ≡ Ok r → P (of_offset_fetch node.limits.reply_bytes version w r)
  pub find_coordinator : (is_group : Bool) → asked_coordinator version body ≡ Ok is_group → P (of_find_coordinator node version w is_group)
  pub create_topics : (r : CreateTopicsRequestV1) → asked_creations version body ≡ Ok r → P (of_create_topics node.limits version w r)
  pub delete_topics : (r : DeleteTopicsRequest) → whole delete_topics_request body ≡ Ok r → P (of_delete_topics version w r)
  pub delete_records : (r : DeleteRecordsRequest) → whole delete_records_request body ≡ Ok r → P (of_delete_records w r)
  pub init_producer_id : (r : InitProducerIdRequest) → whole init_producer_id_request body ≡ Ok r → P (of_init_producer_id w r)
  pub describe_configs : (r : DescribeConfigsRequest) → asked_configs version body ≡ Ok r → P (of_describe_configs node.limits.reply_bytes version w r)
  pub shut : P (stays w Shuts)

read_by : {A : Type 0} (P : Outcome → Type 0) (w : World) (r : Result A WireFault) (f : A → Outcome) → ((a : A) → r ≡ Ok a → P (f a)) → P (stays w Shuts) → P (if_read w r f)
read_by P w (Ok a) f each shut = each a refl
read_by P w (Err fault) f each shut = shut

-- the same of a body that names no more entries than a limit allows
read_within : {A : Type 0} (P : Outcome → Type 0) (w : World) (limit : Option ℕ) (entries : A → ℕ) (r : Result A WireFault) (f : A → Outcome) → ((a : A) → r ≡ Ok a → P (f a)) → P (stays w Shuts)
    → P (if_read w (within limit entries r) f)
read_within P w limit entries (Err fault) f each shut = shut
read_within P w limit entries (Ok a) f each shut = by (is_past limit (entries a))
  where
    by : (b : Bool) → P (if_read w (if b then Err faults.Bad else Ok a) f)
    by true = shut
    by false = each a refl

either : (P : Outcome → Type 0) (b : Bool) (o p : Outcome) → P o → P p → P (if b then o else p)
either P true o p first second = first
either P false o p first second = second

-- It holds of a request of CreateTopics, whether it is only checked or not.
pub of_creations : (P : Outcome → Type 0) (limits : DataLimits) (version : ℤ) (w : World) (r : CreateTopicsRequestV1) → ((reaction : Reaction) → P (stays w reaction))
    → P (record { world = (created_all limits w (made_of r)).0; touched = []; reaction = Replies (creations_in version (created_all limits w (made_of r)).1) }) → P (of_create_topics limits version w r)
of_creations P limits version w r checked made =
    either P r.validate_only (stays w (Replies (creations_in version (checked_all limits w r.topics))))
    (record { world = (created_all limits w (made_of r)).0; touched = []; reaction = Replies (creations_in version (created_all limits w (made_of r)).1) }) (checked _) made

pub by_request : (P : Outcome → Type 0) (node : Node) (w : World) (clock n : ℕ) (key version : ℤ) (body : List ℕ) → Cases P node w clock version body → P (plainly_served node w clock n key version body)
unfolding plainly_served
by_request P node w clock n key version body c =
    let limit : Option ℕ = node.limits.request_entries in
    let shut : Outcome = stays w Shuts in
    let configs : Outcome = if_read w (within limit describe_configs_entries (asked_configs version body)) (of_describe_configs node.limits.reply_bytes version w) in
    let inits : Outcome = if_read w (whole init_producer_id_request body) (of_init_producer_id w) in
    let trims : Outcome = if_read w (within limit delete_records_entries (whole delete_records_request body)) (of_delete_records w) in
    let deletes : Outcome = if_read w (within limit delete_topics_entries (whole delete_topics_request body)) (of_delete_topics version w) in
    let creates : Outcome = if_read w (within limit create_topics_entries (asked_creations version body)) (of_create_topics node.limits version w) in
    let finds : Outcome = if_read w (asked_coordinator version body) (of_find_coordinator node version w) in
    let asks : Outcome = if_read w (within limit offset_fetch_entries (asked_offsets version body)) (of_offset_fetch node.limits.reply_bytes version w) in
    let commits : Outcome = if_read w (within limit commit_entries (asked_commit version body)) (of_offset_commit node.limits w) in
    let tells : Outcome = if_read w (within limit metadata_entries (asked_metadata version body)) (of_metadata node version w) in
    let lists : Outcome = if_read w (within limit list_offsets_entries (asked_listing version body)) (of_list_offsets version w) in
    let fetches : Outcome = if_read w (within limit fetch_entries (asked_fetch version body)) (of_fetch version body node.limits.fetch_bytes w clock) in
    let produces : Outcome = if_read w (within limit produce_entries (whole produce_request body)) (of_produce version node.limits.bytes w) in
    let from_configs : Outcome = if int_eq key DESCRIBE_CONFIGS then configs else shut in
    let from_inits : Outcome = if int_eq key INIT_PRODUCER_ID then inits else from_configs in
    let from_trims : Outcome = if int_eq key DELETE_RECORDS then trims else from_inits in
    let from_deletes : Outcome = if int_eq key DELETE_TOPICS then deletes else from_trims in
    let from_creates : Outcome = if int_eq key CREATE_TOPICS then creates else from_deletes in
    let from_finds : Outcome = if int_eq key FIND_COORDINATOR then finds else from_creates in
    let from_asks : Outcome = if int_eq key OFFSET_FETCH then asks else from_finds in
    let from_commits : Outcome = if int_eq key OFFSET_COMMIT then commits else from_asks in
    let from_tells : Outcome = if int_eq key METADATA then tells else from_commits in
    let from_lists : Outcome = if int_eq key LIST_OFFSETS then lists else from_tells in
    let from_fetches : Outcome = if int_eq key FETCH then fetches else from_lists in
    either P (int_eq key PRODUCE) produces from_fetches (read_within P w limit produce_entries (whole produce_request body) (of_produce version node.limits.bytes w) c.produce c.shut)
    (either P (int_eq key FETCH) fetches from_lists (read_within P w limit fetch_entries (asked_fetch version body) (of_fetch version body node.limits.fetch_bytes w clock) c.fetch c.shut)
    (either P (int_eq key LIST_OFFSETS) lists from_tells (read_within P w limit list_offsets_entries (asked_listing version body) (of_list_offsets version w) c.list_offsets c.shut)
    (either P (int_eq key METADATA) tells from_commits (read_within P w limit metadata_entries (asked_metadata version body) (of_metadata node version w) c.metadata c.shut)
    (either P (int_eq key OFFSET_COMMIT) commits from_asks (read_within P w limit commit_entries (asked_commit version body) (of_offset_commit node.limits w) c.offset_commit c.shut)
    (either P (int_eq key OFFSET_FETCH) asks from_finds (read_within P w limit offset_fetch_entries (asked_offsets version body) (of_offset_fetch node.limits.reply_bytes version w) c.offset_fetch c.shut)
    (either P (int_eq key FIND_COORDINATOR) finds from_creates (read_by P w (asked_coordinator version body) (of_find_coordinator node version w) c.find_coordinator c.shut)
    (either P (int_eq key CREATE_TOPICS) creates from_deletes (read_within P w limit create_topics_entries (asked_creations version body) (of_create_topics node.limits version w) c.create_topics c.shut)
    (either P (int_eq key DELETE_TOPICS) deletes from_trims (read_within P w limit delete_topics_entries (whole delete_topics_request body) (of_delete_topics version w) c.delete_topics c.shut)
    (either P (int_eq key DELETE_RECORDS) trims from_inits (read_within P w limit delete_records_entries (whole delete_records_request body) (of_delete_records w) c.delete_records c.shut)
    (either P (int_eq key INIT_PRODUCER_ID) inits from_configs (read_by P w (whole init_producer_id_request body) (of_init_producer_id w) c.init_producer_id c.shut)
    (either P (int_eq key DESCRIBE_CONFIGS) configs shut (read_within P w limit describe_configs_entries (asked_configs version body) (of_describe_configs node.limits.reply_bytes version w) c.describe_configs c.shut) c.shut)))))))))))
