-- How many entries a request names.
use Rattle.std.specs.Prelude.{ℕ, pos, ◌+◌, ◌-◌, ◌*◌, int_lt, nat_le, List, length, Option, Some, None, Result, Ok, Err, if◌then◌else◌}
use Rattle.std.specs.List.{sum_by}
use Rattle.kb_wire.specs.declared.fault.WireFault.{WireFault}
use Rattle.kb_wire.specs.declared.fault.WireFault.TheVariants as faults
use Rattle.kb_api_data.specs.declared.create_topics_v1.CreateTopicsRequestV1.{CreateTopicsRequestV1}
use Rattle.kb_api_data.specs.declared.delete_records.DeleteRecordsRequest.{DeleteRecordsRequest}
use Rattle.kb_api_data.specs.declared.delete_records.DeleteRecordsTopic.{DeleteRecordsTopic}
use Rattle.kb_api_data.specs.declared.delete_topics.DeleteTopicsRequest.{DeleteTopicsRequest}
use Rattle.kb_api_data.specs.declared.describe_configs.ConfigResource.{ConfigResource}
use Rattle.kb_api_data.specs.declared.describe_configs.DescribeConfigsRequest.{DescribeConfigsRequest}
use Rattle.kb_api_data.specs.declared.fetch.FetchRequest.{FetchRequest}
use Rattle.kb_api_data.specs.declared.fetch.FetchTopic.{FetchTopic}
use Rattle.kb_api_data.specs.declared.list_offsets.ListOffsetsPartition.{ListOffsetsPartition}
use Rattle.kb_api_data.specs.declared.list_offsets.ListOffsetsRequest.{ListOffsetsRequest}
use Rattle.kb_api_data.specs.declared.list_offsets.ListOffsetsTopic.{ListOffsetsTopic}
use Rattle.kb_api_data.specs.declared.metadata.MetadataRequest.{MetadataRequest}
use Rattle.kb_api_data.specs.declared.produce.ProduceRequest.{ProduceRequest}
use Rattle.kb_api_data.specs.declared.produce.ProduceTopic.{ProduceTopic}
use Rattle.kb_api_group.specs.declared.delete_groups.DeleteGroupsRequest.{DeleteGroupsRequest}
use Rattle.kb_api_group.specs.declared.describe_groups.DescribeGroupsRequest.{DescribeGroupsRequest}
use Rattle.kb_api_group.specs.declared.offset_commit.CommitTopic.{CommitTopic}
use Rattle.kb_api_group.specs.declared.offset_commit.OffsetCommitRequest.{OffsetCommitRequest}
use Rattle.kb_api_group.specs.declared.offset_fetch.OffsetFetchTopic.{OffsetFetchTopic}
use Rattle.kb_api_group.specs.declared.offset_fetch_v2.OffsetFetchRequestV2.{OffsetFetchRequestV2}
use Rattle.kb_tenant.specs.Limits.{is_past}

-- topics, each with so many entries of its own
abbrev pub with_entries : {T : Type 0} → (T → ℕ) → List T → ℕ
with_entries own ts = sum_by (λ t. own t + 1) ts

-- ---- by API: topics and partitions together, or groups

abbrev pub produce_entries : ProduceRequest → ℕ
produce_entries r = with_entries (λ (t : ProduceTopic). length t.partitions) r.topics

abbrev pub fetch_entries : FetchRequest → ℕ
fetch_entries r = with_entries (λ (t : FetchTopic). length t.partitions) r.topics

-- a partition whose end or start is asked for is one entry; a search by time counts as much as 16, since it reads batches
abbrev pub listing_weight : ListOffsetsPartition → ℕ
listing_weight p = if int_lt p.timestamp (pos 0) then 1 else 16

abbrev pub list_offsets_entries : ListOffsetsRequest → ℕ
list_offsets_entries r = with_entries (λ (t : ListOffsetsTopic). sum_by listing_weight t.partitions) r.topics

abbrev pub commit_entries : OffsetCommitRequest → ℕ
commit_entries r = with_entries (λ (t : CommitTopic). length t.partitions) r.topics

abbrev pub delete_records_entries : DeleteRecordsRequest → ℕ
delete_records_entries r = with_entries (λ (t : DeleteRecordsTopic). length t.partitions) r.topics

-- No topics, which mean all, name none.
abbrev pub offsets_named : Option (List OffsetFetchTopic) → ℕ
offsets_named None = 0
offsets_named (Some ts) = with_entries (λ (t : OffsetFetchTopic). length t.partitions) ts

abbrev pub offset_fetch_entries : OffsetFetchRequestV2 → ℕ
offset_fetch_entries r = offsets_named r.topics

abbrev pub names_in : Option (List (List ℕ)) → ℕ
names_in None = 0
names_in (Some names) = length names

abbrev pub metadata_entries : MetadataRequest → ℕ
metadata_entries r = names_in r.topics

-- resources, and the names of settings that are asked of each; no names, which mean all, name none
abbrev pub describe_configs_entries : DescribeConfigsRequest → ℕ
describe_configs_entries r = with_entries (λ (r : ConfigResource). names_in r.configuration_keys) r.resources

-- topics alone
abbrev pub create_topics_entries : CreateTopicsRequestV1 → ℕ
create_topics_entries r = length r.topics

abbrev pub delete_topics_entries : DeleteTopicsRequest → ℕ
delete_topics_entries r = length r.names

-- groups
abbrev pub describe_groups_entries : DescribeGroupsRequest → ℕ
describe_groups_entries r = length r.group_ids

-- groups that are deleted; each counts as much as 512 others, since all partitions of the tenant are looked at for it
abbrev pub delete_groups_entries : DeleteGroupsRequest → ℕ
delete_groups_entries r = length r.group_ids * 512

-- ---- the limit

-- what is left of so many behind others, where they are no more
abbrev pub left_behind : ℕ → ℕ → Option ℕ
left_behind left n = if nat_le n left then Some (left - n) else None

-- A request that names more entries than a limit allows is none of the API's.
abbrev pub within : {A : Type 0} → Option ℕ → (A → ℕ) → Result A WireFault → Result A WireFault
within limit entries (Err fault) = Err fault
within limit entries (Ok r) = if is_past limit (entries r) then Err faults.Bad else Ok r
