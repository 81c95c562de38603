-- Each layout is lawful, since its parts are.
use Rattle.std.proofs.Common.{refl}
use Rattle.kb_wire.specs.Laws.{IsLawful, int16_lawful, int32_lawful, int64_lawful, string_lawful, nullable_string_lawful, blob_lawful}
use Rattle.kb_wire.specs.Laws.{array_lawful, nullable_array_lawful, nothing_lawful, pair_lawful, via_lawful}
use Rattle.kb_api_group.specs.Layouts.{request_start, request_header, commit_partition, commit_topic, offset_commit_request}
use Rattle.kb_api_group.specs.Layouts.{commit_partition_reply, commit_topic_reply, offset_commit_reply, offset_fetch_topic}
use Rattle.kb_api_group.specs.Layouts.{offset_fetch_request, offset_fetch_partition_reply, offset_fetch_topic_reply, offset_fetch_reply}
use Rattle.kb_api_group.specs.Layouts.{offset_fetch_request_v2, offset_fetch_reply_v2}
use Rattle.kb_api_group.specs.Layouts.{find_coordinator_request, find_coordinator_reply, join_protocol, join_group_request, join_member}
use Rattle.kb_api_group.specs.Layouts.{join_group_reply, heartbeat_request, heartbeat_reply, leave_group_request, leave_group_reply}
use Rattle.kb_api_group.specs.Layouts.{sync_assignment, sync_group_request, sync_group_reply, sasl_handshake_request, sasl_handshake_reply}
use Rattle.kb_api_group.specs.Layouts.{api_versions_request, api_version, api_versions_reply, sasl_authenticate_request}
use Rattle.kb_api_group.specs.Layouts.{sasl_authenticate_reply}
use Rattle.kb_api_group.specs.Layouts.{describe_groups_request, described_member, described_group, describe_groups_reply}
use Rattle.kb_api_group.specs.Layouts.{list_groups_request, listed_group, list_groups_reply}
use Rattle.kb_api_group.specs.Layouts.{delete_groups_request, deleted_group, delete_groups_reply}

pub request_start_lawful : IsLawful request_start
unfolding request_start
request_start_lawful = via_lawful _ _ (pair_lawful int16_lawful (pair_lawful int16_lawful int32_lawful)) (λ _. refl) (λ _. refl)

pub request_header_lawful : IsLawful request_header
unfolding request_header
request_header_lawful = via_lawful _ _ (pair_lawful int16_lawful
    (pair_lawful int16_lawful (pair_lawful int32_lawful nullable_string_lawful))) (λ _. refl) (λ _. refl)

pub commit_partition_lawful : IsLawful commit_partition
unfolding commit_partition
commit_partition_lawful =
    via_lawful _ _ (pair_lawful int32_lawful (pair_lawful int64_lawful nullable_string_lawful)) (λ _. refl) (λ _. refl)

pub commit_topic_lawful : IsLawful commit_topic
unfolding commit_topic
commit_topic_lawful = via_lawful _ _ (pair_lawful string_lawful (array_lawful _ commit_partition_lawful)) (λ _. refl) (λ _. refl)

pub offset_commit_request_lawful : IsLawful offset_commit_request
unfolding offset_commit_request
offset_commit_request_lawful = via_lawful _ _
    (pair_lawful string_lawful (pair_lawful int32_lawful
    (pair_lawful string_lawful (pair_lawful int64_lawful (array_lawful _ commit_topic_lawful))))) (λ _. refl) (λ _. refl)

pub commit_partition_reply_lawful : IsLawful commit_partition_reply
unfolding commit_partition_reply
commit_partition_reply_lawful = via_lawful _ _ (pair_lawful int32_lawful int16_lawful) (λ _. refl) (λ _. refl)

pub commit_topic_reply_lawful : IsLawful commit_topic_reply
unfolding commit_topic_reply
commit_topic_reply_lawful =
    via_lawful _ _ (pair_lawful string_lawful (array_lawful _ commit_partition_reply_lawful)) (λ _. refl) (λ _. refl)

pub offset_commit_reply_lawful : IsLawful offset_commit_reply
unfolding offset_commit_reply
offset_commit_reply_lawful = via_lawful _ _ (array_lawful _ commit_topic_reply_lawful) (λ _. refl) (λ _. refl)

pub offset_fetch_topic_lawful : IsLawful offset_fetch_topic
unfolding offset_fetch_topic
offset_fetch_topic_lawful = via_lawful _ _ (pair_lawful string_lawful (array_lawful _ int32_lawful)) (λ _. refl) (λ _. refl)

pub offset_fetch_request_lawful : IsLawful offset_fetch_request
unfolding offset_fetch_request
offset_fetch_request_lawful = via_lawful _ _ (pair_lawful string_lawful (array_lawful _ offset_fetch_topic_lawful)) (λ _. refl) (λ _. refl)

pub offset_fetch_partition_reply_lawful : IsLawful offset_fetch_partition_reply
unfolding offset_fetch_partition_reply
offset_fetch_partition_reply_lawful = via_lawful _ _
    (pair_lawful int32_lawful (pair_lawful int64_lawful (pair_lawful nullable_string_lawful int16_lawful))) (λ _. refl) (λ _. refl)

pub offset_fetch_topic_reply_lawful : IsLawful offset_fetch_topic_reply
unfolding offset_fetch_topic_reply
offset_fetch_topic_reply_lawful =
    via_lawful _ _ (pair_lawful string_lawful (array_lawful _ offset_fetch_partition_reply_lawful)) (λ _. refl) (λ _. refl)

pub offset_fetch_reply_lawful : IsLawful offset_fetch_reply
unfolding offset_fetch_reply
offset_fetch_reply_lawful = via_lawful _ _ (array_lawful _ offset_fetch_topic_reply_lawful) (λ _. refl) (λ _. refl)

pub offset_fetch_request_v2_lawful : IsLawful offset_fetch_request_v2
unfolding offset_fetch_request_v2
offset_fetch_request_v2_lawful =
    via_lawful _ _ (pair_lawful string_lawful (nullable_array_lawful _ offset_fetch_topic_lawful)) (λ _. refl) (λ _. refl)

pub offset_fetch_reply_v2_lawful : IsLawful offset_fetch_reply_v2
unfolding offset_fetch_reply_v2
offset_fetch_reply_v2_lawful = via_lawful _ _ (pair_lawful (array_lawful _ offset_fetch_topic_reply_lawful) int16_lawful) (λ _. refl) (λ _. refl)

pub find_coordinator_request_lawful : IsLawful find_coordinator_request
unfolding find_coordinator_request
find_coordinator_request_lawful = via_lawful _ _ string_lawful (λ _. refl) (λ _. refl)

pub find_coordinator_reply_lawful : IsLawful find_coordinator_reply
unfolding find_coordinator_reply
find_coordinator_reply_lawful =
    via_lawful _ _ (pair_lawful int16_lawful (pair_lawful int32_lawful (pair_lawful string_lawful int32_lawful))) (λ _. refl) (λ _. refl)

pub join_protocol_lawful : IsLawful join_protocol
unfolding join_protocol
join_protocol_lawful = via_lawful _ _ (pair_lawful string_lawful blob_lawful) (λ _. refl) (λ _. refl)

pub join_group_request_lawful : IsLawful join_group_request
unfolding join_group_request
join_group_request_lawful = via_lawful _ _
    (pair_lawful string_lawful (pair_lawful int32_lawful
    (pair_lawful int32_lawful (pair_lawful string_lawful (pair_lawful string_lawful (array_lawful _ join_protocol_lawful)))))) (λ _.
    refl) (λ _. refl)

pub join_member_lawful : IsLawful join_member
unfolding join_member
join_member_lawful = via_lawful _ _ (pair_lawful string_lawful blob_lawful) (λ _. refl) (λ _. refl)

pub join_group_reply_lawful : IsLawful join_group_reply
unfolding join_group_reply
join_group_reply_lawful = via_lawful _ _
    (pair_lawful int16_lawful (pair_lawful int32_lawful
    (pair_lawful string_lawful (pair_lawful string_lawful (pair_lawful string_lawful (array_lawful _ join_member_lawful)))))) (λ _.
    refl) (λ _. refl)

pub heartbeat_request_lawful : IsLawful heartbeat_request
unfolding heartbeat_request
heartbeat_request_lawful = via_lawful _ _ (pair_lawful string_lawful (pair_lawful int32_lawful string_lawful)) (λ _. refl) (λ _. refl)

pub heartbeat_reply_lawful : IsLawful heartbeat_reply
unfolding heartbeat_reply
heartbeat_reply_lawful = via_lawful _ _ int16_lawful (λ _. refl) (λ _. refl)

pub leave_group_request_lawful : IsLawful leave_group_request
unfolding leave_group_request
leave_group_request_lawful = via_lawful _ _ (pair_lawful string_lawful string_lawful) (λ _. refl) (λ _. refl)

pub leave_group_reply_lawful : IsLawful leave_group_reply
unfolding leave_group_reply
leave_group_reply_lawful = via_lawful _ _ int16_lawful (λ _. refl) (λ _. refl)

pub sync_assignment_lawful : IsLawful sync_assignment
unfolding sync_assignment
sync_assignment_lawful = via_lawful _ _ (pair_lawful string_lawful blob_lawful) (λ _. refl) (λ _. refl)

pub sync_group_request_lawful : IsLawful sync_group_request
unfolding sync_group_request
sync_group_request_lawful = via_lawful _ _
    (pair_lawful string_lawful (pair_lawful int32_lawful (pair_lawful string_lawful (array_lawful _ sync_assignment_lawful)))) (λ _.
    refl) (λ _. refl)

pub sync_group_reply_lawful : IsLawful sync_group_reply
unfolding sync_group_reply
sync_group_reply_lawful = via_lawful _ _ (pair_lawful int16_lawful blob_lawful) (λ _. refl) (λ _. refl)

pub describe_groups_request_lawful : IsLawful describe_groups_request
unfolding describe_groups_request
describe_groups_request_lawful = via_lawful _ _ (array_lawful _ string_lawful) (λ _. refl) (λ _. refl)

pub described_member_lawful : IsLawful described_member
unfolding described_member
described_member_lawful = via_lawful _ _
    (pair_lawful string_lawful (pair_lawful string_lawful (pair_lawful string_lawful (pair_lawful blob_lawful blob_lawful)))) (λ _.
    refl) (λ _. refl)

pub described_group_lawful : IsLawful described_group
unfolding described_group
described_group_lawful = via_lawful _ _
    (pair_lawful int16_lawful (pair_lawful string_lawful
    (pair_lawful string_lawful (pair_lawful string_lawful (pair_lawful string_lawful (array_lawful _ described_member_lawful)))))) (λ _.
    refl) (λ _. refl)

pub describe_groups_reply_lawful : IsLawful describe_groups_reply
unfolding describe_groups_reply
describe_groups_reply_lawful = via_lawful _ _ (array_lawful _ described_group_lawful) (λ _. refl) (λ _. refl)

pub delete_groups_request_lawful : IsLawful delete_groups_request
unfolding delete_groups_request
delete_groups_request_lawful = via_lawful _ _ (array_lawful _ string_lawful) (λ _. refl) (λ _. refl)

pub deleted_group_lawful : IsLawful deleted_group
unfolding deleted_group
deleted_group_lawful = via_lawful _ _ (pair_lawful string_lawful int16_lawful) (λ _. refl) (λ _. refl)

pub delete_groups_reply_lawful : IsLawful delete_groups_reply
unfolding delete_groups_reply
delete_groups_reply_lawful = via_lawful _ _ (pair_lawful int32_lawful (array_lawful _ deleted_group_lawful)) (λ _. refl) (λ _. refl)

pub list_groups_request_lawful : IsLawful list_groups_request
unfolding list_groups_request
list_groups_request_lawful = via_lawful _ _ nothing_lawful (λ _. refl) (λ _. refl)

pub listed_group_lawful : IsLawful listed_group
unfolding listed_group
listed_group_lawful = via_lawful _ _ (pair_lawful string_lawful string_lawful) (λ _. refl) (λ _. refl)

pub list_groups_reply_lawful : IsLawful list_groups_reply
unfolding list_groups_reply
list_groups_reply_lawful = via_lawful _ _ (pair_lawful int16_lawful (array_lawful _ listed_group_lawful)) (λ _. refl) (λ _. refl)

pub sasl_handshake_request_lawful : IsLawful sasl_handshake_request
unfolding sasl_handshake_request
sasl_handshake_request_lawful = via_lawful _ _ string_lawful (λ _. refl) (λ _. refl)

pub sasl_handshake_reply_lawful : IsLawful sasl_handshake_reply
unfolding sasl_handshake_reply
sasl_handshake_reply_lawful = via_lawful _ _ (pair_lawful int16_lawful (array_lawful _ string_lawful)) (λ _. refl) (λ _. refl)

pub api_versions_request_lawful : IsLawful api_versions_request
unfolding api_versions_request
api_versions_request_lawful = via_lawful _ _ nothing_lawful (λ _. refl) (λ _. refl)

pub api_version_lawful : IsLawful api_version
unfolding api_version
api_version_lawful = via_lawful _ _ (pair_lawful int16_lawful (pair_lawful int16_lawful int16_lawful)) (λ _. refl) (λ _. refl)

pub api_versions_reply_lawful : IsLawful api_versions_reply
unfolding api_versions_reply
api_versions_reply_lawful = via_lawful _ _ (pair_lawful int16_lawful (array_lawful _ api_version_lawful)) (λ _. refl) (λ _. refl)

pub sasl_authenticate_request_lawful : IsLawful sasl_authenticate_request
unfolding sasl_authenticate_request
sasl_authenticate_request_lawful = via_lawful _ _ blob_lawful (λ _. refl) (λ _. refl)

pub sasl_authenticate_reply_lawful : IsLawful sasl_authenticate_reply
unfolding sasl_authenticate_reply
sasl_authenticate_reply_lawful =
    via_lawful _ _ (pair_lawful int16_lawful (pair_lawful nullable_string_lawful blob_lawful)) (λ _. refl) (λ _. refl)
