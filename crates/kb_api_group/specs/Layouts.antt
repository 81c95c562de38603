-- The bodies of the protocol's requests and replies, each at its one version (Kafka protocol guide). The last part of each
-- definition is the guide's row: the fields' types, in wire order. The two functions before it name the fields.
use Rattle.kb_wire.specs.Codec.{Codec, int16, int32, int64, string, nullable_string, blob, array, nullable_array, nothing, ◌⊗◌, via}
use Rattle.kb_api_group.specs.declared.header.RequestHeader.{RequestHeader}
use Rattle.kb_api_group.specs.declared.header.RequestStart.{RequestStart}
use Rattle.kb_api_group.specs.declared.offset_commit.CommitPartition.{CommitPartition}
use Rattle.kb_api_group.specs.declared.offset_commit.CommitTopic.{CommitTopic}
use Rattle.kb_api_group.specs.declared.offset_commit.OffsetCommitRequest.{OffsetCommitRequest}
use Rattle.kb_api_group.specs.declared.offset_commit.CommitPartitionReply.{CommitPartitionReply}
use Rattle.kb_api_group.specs.declared.offset_commit.CommitTopicReply.{CommitTopicReply}
use Rattle.kb_api_group.specs.declared.offset_commit.OffsetCommitReply.{OffsetCommitReply}
use Rattle.kb_api_group.specs.declared.offset_fetch.OffsetFetchTopic.{OffsetFetchTopic}
use Rattle.kb_api_group.specs.declared.offset_fetch.OffsetFetchRequest.{OffsetFetchRequest}
use Rattle.kb_api_group.specs.declared.offset_fetch.OffsetFetchPartitionReply.{OffsetFetchPartitionReply}
use Rattle.kb_api_group.specs.declared.offset_fetch.OffsetFetchTopicReply.{OffsetFetchTopicReply}
use Rattle.kb_api_group.specs.declared.offset_fetch.OffsetFetchReply.{OffsetFetchReply}
use Rattle.kb_api_group.specs.declared.offset_fetch_v2.OffsetFetchRequestV2.{OffsetFetchRequestV2}
use Rattle.kb_api_group.specs.declared.offset_fetch_v2.OffsetFetchReplyV2.{OffsetFetchReplyV2}
use Rattle.kb_api_group.specs.declared.find_coordinator.FindCoordinatorRequest.{FindCoordinatorRequest}
use Rattle.kb_api_group.specs.declared.find_coordinator.FindCoordinatorReply.{FindCoordinatorReply}
use Rattle.kb_api_group.specs.declared.join_group.JoinProtocol.{JoinProtocol}
use Rattle.kb_api_group.specs.declared.join_group.JoinGroupRequest.{JoinGroupRequest}
use Rattle.kb_api_group.specs.declared.join_group.JoinMember.{JoinMember}
use Rattle.kb_api_group.specs.declared.join_group.JoinGroupReply.{JoinGroupReply}
use Rattle.kb_api_group.specs.declared.heartbeat.HeartbeatRequest.{HeartbeatRequest}
use Rattle.kb_api_group.specs.declared.heartbeat.HeartbeatReply.{HeartbeatReply}
use Rattle.kb_api_group.specs.declared.leave_group.LeaveGroupRequest.{LeaveGroupRequest}
use Rattle.kb_api_group.specs.declared.leave_group.LeaveGroupReply.{LeaveGroupReply}
use Rattle.kb_api_group.specs.declared.sync_group.SyncAssignment.{SyncAssignment}
use Rattle.kb_api_group.specs.declared.sync_group.SyncGroupRequest.{SyncGroupRequest}
use Rattle.kb_api_group.specs.declared.sync_group.SyncGroupReply.{SyncGroupReply}
use Rattle.kb_api_group.specs.declared.describe_groups.DescribeGroupsRequest.{DescribeGroupsRequest}
use Rattle.kb_api_group.specs.declared.describe_groups.DescribedMember.{DescribedMember}
use Rattle.kb_api_group.specs.declared.describe_groups.DescribedGroup.{DescribedGroup}
use Rattle.kb_api_group.specs.declared.describe_groups.DescribeGroupsReply.{DescribeGroupsReply}
use Rattle.kb_api_group.specs.declared.delete_groups.DeleteGroupsRequest.{DeleteGroupsRequest}
use Rattle.kb_api_group.specs.declared.delete_groups.DeletedGroup.{DeletedGroup}
use Rattle.kb_api_group.specs.declared.delete_groups.DeleteGroupsReply.{DeleteGroupsReply}
use Rattle.kb_api_group.specs.declared.list_groups.ListGroupsRequest.{ListGroupsRequest}
use Rattle.kb_api_group.specs.declared.list_groups.ListedGroup.{ListedGroup}
use Rattle.kb_api_group.specs.declared.list_groups.ListGroupsReply.{ListGroupsReply}
use Rattle.kb_api_group.specs.declared.sasl_handshake.SaslHandshakeRequest.{SaslHandshakeRequest}
use Rattle.kb_api_group.specs.declared.sasl_handshake.SaslHandshakeReply.{SaslHandshakeReply}
use Rattle.kb_api_group.specs.declared.api_versions.ApiVersionsRequest.{ApiVersionsRequest}
use Rattle.kb_api_group.specs.declared.api_versions.ApiVersion.{ApiVersion}
use Rattle.kb_api_group.specs.declared.api_versions.ApiVersionsReply.{ApiVersionsReply}
use Rattle.kb_api_group.specs.declared.sasl_authenticate.SaslAuthenticateRequest.{SaslAuthenticateRequest}
use Rattle.kb_api_group.specs.declared.sasl_authenticate.SaslAuthenticateReply.{SaslAuthenticateReply}

-- The numbers that every request begins with (request header version 0).
unfoldable pub request_start : Codec RequestStart
request_start = via (λ p. record { api_key = p.0; api_version = p.1.0; correlation_id = p.1.1 }) (λ v.
    (v.api_key, (v.api_version, v.correlation_id))) (int16 ⊗ int16 ⊗ int32)

-- What stands before the body of each request that is served (request header version 1).
unfoldable pub request_header : Codec RequestHeader
request_header = via (λ p. record { api_key = p.0; api_version = p.1.0; correlation_id = p.1.1.0; client_id = p.1.1.1 }) (λ v.
    (v.api_key, (v.api_version, (v.correlation_id, v.client_id)))) (int16 ⊗ int16 ⊗ int32 ⊗ nullable_string)

-- ---- key 8, OffsetCommit, version 2

-- A partition, in a request of OffsetCommit.
unfoldable pub commit_partition : Codec CommitPartition
commit_partition = via (λ p. record { partition = p.0; offset = p.1.0; metadata = p.1.1 }) (λ v.
    (v.partition, (v.offset, v.metadata))) (int32 ⊗ int64 ⊗ nullable_string)

-- A topic, in a request of OffsetCommit.
unfoldable pub commit_topic : Codec CommitTopic
commit_topic = via (λ p. record { name = p.0; partitions = p.1 }) (λ v. (v.name, v.partitions)) (string ⊗ array commit_partition)

-- A request of OffsetCommit.
unfoldable pub offset_commit_request : Codec OffsetCommitRequest
offset_commit_request = via (λ p. record {
  group_id = p.0;
  generation_id = p.1.0;
  member_id = p.1.1.0;
  retention_time_ms = p.1.1.1.0;
  topics = p.1.1.1.1;
}) (λ v. (v.group_id, (v.generation_id, (v.member_id, (v.retention_time_ms, v.topics)))))
    (string ⊗ int32 ⊗ string ⊗ int64 ⊗ array commit_topic)

-- A partition, in the reply of OffsetCommit.
unfoldable pub commit_partition_reply : Codec CommitPartitionReply
commit_partition_reply = via (λ p. record { partition = p.0; error_code = p.1 }) (λ v. (v.partition, v.error_code)) (int32 ⊗ int16)

-- A topic, in the reply of OffsetCommit.
unfoldable pub commit_topic_reply : Codec CommitTopicReply
commit_topic_reply =
    via (λ p. record { name = p.0; partitions = p.1 }) (λ v. (v.name, v.partitions)) (string ⊗ array commit_partition_reply)

-- The reply of OffsetCommit.
unfoldable pub offset_commit_reply : Codec OffsetCommitReply
offset_commit_reply = via (λ p. record { topics = p }) (λ v. v.topics) (array commit_topic_reply)

-- ---- key 9, OffsetFetch, version 1

-- A topic, in a request of OffsetFetch.
unfoldable pub offset_fetch_topic : Codec OffsetFetchTopic
offset_fetch_topic = via (λ p. record { name = p.0; partitions = p.1 }) (λ v. (v.name, v.partitions)) (string ⊗ array int32)

-- A request of OffsetFetch.
unfoldable pub offset_fetch_request : Codec OffsetFetchRequest
offset_fetch_request = via (λ p. record { group_id = p.0; topics = p.1 }) (λ v. (v.group_id, v.topics)) (string ⊗ array offset_fetch_topic)

-- A partition, in the reply of OffsetFetch.
unfoldable pub offset_fetch_partition_reply : Codec OffsetFetchPartitionReply
offset_fetch_partition_reply = via (λ p. record { partition = p.0; offset = p.1.0; metadata = p.1.1.0; error_code = p.1.1.1 }) (λ v.
    (v.partition, (v.offset, (v.metadata, v.error_code)))) (int32 ⊗ int64 ⊗ nullable_string ⊗ int16)

-- A topic, in the reply of OffsetFetch.
unfoldable pub offset_fetch_topic_reply : Codec OffsetFetchTopicReply
offset_fetch_topic_reply =
    via (λ p. record { name = p.0; partitions = p.1 }) (λ v. (v.name, v.partitions)) (string ⊗ array offset_fetch_partition_reply)

-- The reply of OffsetFetch.
unfoldable pub offset_fetch_reply : Codec OffsetFetchReply
offset_fetch_reply = via (λ p. record { topics = p }) (λ v. v.topics) (array offset_fetch_topic_reply)

-- ---- key 9, OffsetFetch, version 2

-- A request of OffsetFetch. Null asks for all that the group committed.
unfoldable pub offset_fetch_request_v2 : Codec OffsetFetchRequestV2
offset_fetch_request_v2 =
    via (λ p. record { group_id = p.0; topics = p.1 }) (λ v. (v.group_id, v.topics)) (string ⊗ nullable_array offset_fetch_topic)

-- The reply of OffsetFetch.
unfoldable pub offset_fetch_reply_v2 : Codec OffsetFetchReplyV2
offset_fetch_reply_v2 =
    via (λ p. record { topics = p.0; error_code = p.1 }) (λ v. (v.topics, v.error_code)) (array offset_fetch_topic_reply ⊗ int16)

-- ---- key 10, FindCoordinator, version 0

-- A request of FindCoordinator.
unfoldable pub find_coordinator_request : Codec FindCoordinatorRequest
find_coordinator_request = via (λ p. record { group_id = p }) (λ v. v.group_id) (string)

-- The reply of FindCoordinator.
unfoldable pub find_coordinator_reply : Codec FindCoordinatorReply
find_coordinator_reply = via (λ p. record { error_code = p.0; node_id = p.1.0; host = p.1.1.0; port = p.1.1.1 }) (λ v.
    (v.error_code, (v.node_id, (v.host, v.port)))) (int16 ⊗ int32 ⊗ string ⊗ int32)

-- ---- key 11, JoinGroup, version 1

-- A protocol, in a request of JoinGroup.
unfoldable pub join_protocol : Codec JoinProtocol
join_protocol = via (λ p. record { name = p.0; metadata = p.1 }) (λ v. (v.name, v.metadata)) (string ⊗ blob)

-- A request of JoinGroup.
unfoldable pub join_group_request : Codec JoinGroupRequest
join_group_request = via (λ p. record {
  group_id = p.0;
  session_timeout_ms = p.1.0;
  rebalance_timeout_ms = p.1.1.0;
  member_id = p.1.1.1.0;
  protocol_type = p.1.1.1.1.0;
  protocols = p.1.1.1.1.1;
}) (λ v.
    (v.group_id, (v.session_timeout_ms, (v.rebalance_timeout_ms, (v.member_id, (v.protocol_type, v.protocols))))))
    (string ⊗ int32 ⊗ int32 ⊗ string ⊗ string ⊗ array join_protocol)

-- A member, in the reply of JoinGroup.
unfoldable pub join_member : Codec JoinMember
join_member = via (λ p. record { member_id = p.0; metadata = p.1 }) (λ v. (v.member_id, v.metadata)) (string ⊗ blob)

-- The reply of JoinGroup.
unfoldable pub join_group_reply : Codec JoinGroupReply
join_group_reply = via (λ p. record {
  error_code = p.0;
  generation_id = p.1.0;
  protocol_name = p.1.1.0;
  leader = p.1.1.1.0;
  member_id = p.1.1.1.1.0;
  members = p.1.1.1.1.1;
}) (λ v.
    (v.error_code, (v.generation_id, (v.protocol_name, (v.leader, (v.member_id, v.members))))))
    (int16 ⊗ int32 ⊗ string ⊗ string ⊗ string ⊗ array join_member)

-- ---- key 12, Heartbeat, version 0

-- A request of Heartbeat.
unfoldable pub heartbeat_request : Codec HeartbeatRequest
heartbeat_request = via (λ p. record { group_id = p.0; generation_id = p.1.0; member_id = p.1.1 }) (λ v.
    (v.group_id, (v.generation_id, v.member_id))) (string ⊗ int32 ⊗ string)

-- The reply of Heartbeat.
unfoldable pub heartbeat_reply : Codec HeartbeatReply
heartbeat_reply = via (λ p. record { error_code = p }) (λ v. v.error_code) (int16)

-- ---- key 13, LeaveGroup, version 0

-- A request of LeaveGroup.
unfoldable pub leave_group_request : Codec LeaveGroupRequest
leave_group_request = via (λ p. record { group_id = p.0; member_id = p.1 }) (λ v. (v.group_id, v.member_id)) (string ⊗ string)

-- The reply of LeaveGroup.
unfoldable pub leave_group_reply : Codec LeaveGroupReply
leave_group_reply = via (λ p. record { error_code = p }) (λ v. v.error_code) (int16)

-- ---- key 14, SyncGroup, version 0

-- An assignment, in a request of SyncGroup.
unfoldable pub sync_assignment : Codec SyncAssignment
sync_assignment = via (λ p. record { member_id = p.0; assignment = p.1 }) (λ v. (v.member_id, v.assignment)) (string ⊗ blob)

-- A request of SyncGroup.
unfoldable pub sync_group_request : Codec SyncGroupRequest
sync_group_request = via (λ p. record { group_id = p.0; generation_id = p.1.0; member_id = p.1.1.0; assignments = p.1.1.1 }) (λ v.
    (v.group_id, (v.generation_id, (v.member_id, v.assignments)))) (string ⊗ int32 ⊗ string ⊗ array sync_assignment)

-- The reply of SyncGroup.
unfoldable pub sync_group_reply : Codec SyncGroupReply
sync_group_reply = via (λ p. record { error_code = p.0; assignment = p.1 }) (λ v. (v.error_code, v.assignment)) (int16 ⊗ blob)

-- ---- key 15, DescribeGroups, version 0

-- A request of DescribeGroups.
unfoldable pub describe_groups_request : Codec DescribeGroupsRequest
describe_groups_request = via (λ p. record { group_ids = p }) (λ v. v.group_ids) (array string)

-- A member, in the reply of DescribeGroups.
unfoldable pub described_member : Codec DescribedMember
described_member = via (λ p. record {
  member_id = p.0;
  client_id = p.1.0;
  client_host = p.1.1.0;
  member_metadata = p.1.1.1.0;
  member_assignment = p.1.1.1.1;
}) (λ v. (v.member_id, (v.client_id, (v.client_host, (v.member_metadata, v.member_assignment)))))
    (string ⊗ string ⊗ string ⊗ blob ⊗ blob)

-- A group, in the reply of DescribeGroups.
unfoldable pub described_group : Codec DescribedGroup
described_group = via (λ p. record {
  error_code = p.0;
  group_id = p.1.0;
  group_state = p.1.1.0;
  protocol_type = p.1.1.1.0;
  protocol_data = p.1.1.1.1.0;
  members = p.1.1.1.1.1;
}) (λ v.
    (v.error_code, (v.group_id, (v.group_state, (v.protocol_type, (v.protocol_data, v.members))))))
    (int16 ⊗ string ⊗ string ⊗ string ⊗ string ⊗ array described_member)

-- The reply of DescribeGroups.
unfoldable pub describe_groups_reply : Codec DescribeGroupsReply
describe_groups_reply = via (λ p. record { groups = p }) (λ v. v.groups) (array described_group)

-- ---- key 16, ListGroups, version 0

-- A request of ListGroups.
unfoldable pub list_groups_request : Codec ListGroupsRequest
list_groups_request = via (λ _. record {}) (λ _. tt) nothing

-- A group, in the reply of ListGroups.
unfoldable pub listed_group : Codec ListedGroup
listed_group = via (λ p. record { group_id = p.0; protocol_type = p.1 }) (λ v. (v.group_id, v.protocol_type)) (string ⊗ string)

-- The reply of ListGroups.
unfoldable pub list_groups_reply : Codec ListGroupsReply
list_groups_reply = via (λ p. record { error_code = p.0; groups = p.1 }) (λ v. (v.error_code, v.groups)) (int16 ⊗ array listed_group)

-- ---- key 42, DeleteGroups, versions 0 and 1

-- A request of DeleteGroups.
unfoldable pub delete_groups_request : Codec DeleteGroupsRequest
delete_groups_request = via (λ p. record { group_ids = p }) (λ v. v.group_ids) (array string)

-- A group, in the reply of DeleteGroups.
unfoldable pub deleted_group : Codec DeletedGroup
deleted_group = via (λ p. record { group_id = p.0; error_code = p.1 }) (λ v. (v.group_id, v.error_code)) (string ⊗ int16)

-- The reply of DeleteGroups.
unfoldable pub delete_groups_reply : Codec DeleteGroupsReply
delete_groups_reply = via (λ p. record { throttle_time_ms = p.0; results = p.1 }) (λ v. (v.throttle_time_ms, v.results))
    (int32 ⊗ array deleted_group)

-- ---- key 17, SaslHandshake, version 1

-- A request of SaslHandshake.
unfoldable pub sasl_handshake_request : Codec SaslHandshakeRequest
sasl_handshake_request = via (λ p. record { mechanism = p }) (λ v. v.mechanism) (string)

-- The reply of SaslHandshake.
unfoldable pub sasl_handshake_reply : Codec SaslHandshakeReply
sasl_handshake_reply = via (λ p. record { error_code = p.0; mechanisms = p.1 }) (λ v. (v.error_code, v.mechanisms)) (int16 ⊗ array string)

-- ---- key 18, ApiVersions, version 0

-- A request of ApiVersions.
unfoldable pub api_versions_request : Codec ApiVersionsRequest
api_versions_request = via (λ _. record {}) (λ _. tt) nothing

-- An API, in the reply of ApiVersions.
unfoldable pub api_version : Codec ApiVersion
api_version = via (λ p. record { api_key = p.0; min_version = p.1.0; max_version = p.1.1 }) (λ v.
    (v.api_key, (v.min_version, v.max_version))) (int16 ⊗ int16 ⊗ int16)

-- The reply of ApiVersions.
unfoldable pub api_versions_reply : Codec ApiVersionsReply
api_versions_reply = via (λ p. record { error_code = p.0; versions = p.1 }) (λ v. (v.error_code, v.versions)) (int16 ⊗ array api_version)

-- ---- key 36, SaslAuthenticate, version 0

-- A request of SaslAuthenticate.
unfoldable pub sasl_authenticate_request : Codec SaslAuthenticateRequest
sasl_authenticate_request = via (λ p. record { auth_bytes = p }) (λ v. v.auth_bytes) (blob)

-- The reply of SaslAuthenticate.
unfoldable pub sasl_authenticate_reply : Codec SaslAuthenticateReply
sasl_authenticate_reply = via (λ p. record { error_code = p.0; error_message = p.1.0; auth_bytes = p.1.1 }) (λ v.
    (v.error_code, (v.error_message, v.auth_bytes))) (int16 ⊗ nullable_string ⊗ blob)
