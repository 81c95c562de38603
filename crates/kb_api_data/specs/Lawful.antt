-- Each layout is lawful, since its parts are.
use Rattle.std.proofs.Common.{refl}
use Rattle.kb_wire.specs.Laws.{IsLawful, int8_lawful, int16_lawful, int32_lawful, int64_lawful, boolean_lawful, string_lawful}
use Rattle.kb_wire.specs.Laws.{nullable_string_lawful, nullable_blob_lawful, array_lawful, nullable_array_lawful, pair_lawful, via_lawful}
use Rattle.kb_api_data.specs.Layouts.{produce_partition, produce_topic, produce_request, produce_partition_reply, produce_topic_reply}
use Rattle.kb_api_data.specs.Layouts.{produce_reply, fetch_partition, fetch_topic, fetch_request, aborted_transaction}
use Rattle.kb_api_data.specs.Layouts.{fetch_partition_reply, fetch_topic_reply, fetch_reply, list_offsets_partition, list_offsets_topic}
use Rattle.kb_api_data.specs.Layouts.{list_offsets_request, list_offsets_partition_reply, list_offsets_topic_reply, list_offsets_reply}
use Rattle.kb_api_data.specs.Layouts.{metadata_request, metadata_broker, metadata_partition, metadata_topic, metadata_reply}
use Rattle.kb_api_data.specs.Layouts.{create_assignment, create_config, create_topic, create_topics_request, create_topic_reply}
use Rattle.kb_api_data.specs.Layouts.{create_topics_reply, delete_topics_request, delete_topic_reply, delete_topics_reply}
use Rattle.kb_api_data.specs.Layouts.{init_producer_id_request, init_producer_id_reply, delete_records_partition, delete_records_topic}
use Rattle.kb_api_data.specs.Layouts.{delete_records_request, delete_records_partition_reply, delete_records_topic_reply}
use Rattle.kb_api_data.specs.Layouts.{delete_records_reply, fetch_partition_v5, fetch_topic_v5, fetch_request_v5, fetch_partition_reply_v5}
use Rattle.kb_api_data.specs.Layouts.{fetch_topic_reply_v5, fetch_reply_v5, metadata_request_v0, metadata_request_v4, metadata_broker_v0}
use Rattle.kb_api_data.specs.Layouts.{metadata_topic_v0, metadata_reply_v0, metadata_reply_v2, metadata_reply_v3, create_topics_request_v1}
use Rattle.kb_api_data.specs.Layouts.{create_topic_reply_v1, create_topics_reply_v1, delete_topics_reply_v1}
use Rattle.kb_api_data.specs.Layouts.{config_resource, describe_configs_request, described_config, described_resource, describe_configs_reply}
use Rattle.kb_api_data.specs.Layouts.{describe_configs_request_v1, config_synonym, described_config_v1, described_resource_v1}
use Rattle.kb_api_data.specs.Layouts.{describe_configs_reply_v1}

pub produce_partition_lawful : IsLawful produce_partition
unfolding produce_partition
produce_partition_lawful = via_lawful _ _ (pair_lawful int32_lawful nullable_blob_lawful) (λ _. refl) (λ _. refl)

pub produce_topic_lawful : IsLawful produce_topic
unfolding produce_topic
produce_topic_lawful = via_lawful _ _ (pair_lawful string_lawful (array_lawful _ produce_partition_lawful)) (λ _. refl) (λ _. refl)

pub produce_request_lawful : IsLawful produce_request
unfolding produce_request
produce_request_lawful = via_lawful _ _ (pair_lawful nullable_string_lawful
    (pair_lawful int16_lawful (pair_lawful int32_lawful (array_lawful _ produce_topic_lawful)))) (λ _. refl) (λ _. refl)

pub produce_partition_reply_lawful : IsLawful produce_partition_reply
unfolding produce_partition_reply
produce_partition_reply_lawful =
    via_lawful _ _ (pair_lawful int32_lawful (pair_lawful int16_lawful (pair_lawful int64_lawful int64_lawful))) (λ _. refl) (λ _. refl)

pub produce_topic_reply_lawful : IsLawful produce_topic_reply
unfolding produce_topic_reply
produce_topic_reply_lawful =
    via_lawful _ _ (pair_lawful string_lawful (array_lawful _ produce_partition_reply_lawful)) (λ _. refl) (λ _. refl)

pub produce_reply_lawful : IsLawful produce_reply
unfolding produce_reply
produce_reply_lawful = via_lawful _ _ (pair_lawful (array_lawful _ produce_topic_reply_lawful) int32_lawful) (λ _. refl) (λ _. refl)

pub fetch_partition_lawful : IsLawful fetch_partition
unfolding fetch_partition
fetch_partition_lawful = via_lawful _ _ (pair_lawful int32_lawful (pair_lawful int64_lawful int32_lawful)) (λ _. refl) (λ _. refl)

pub fetch_topic_lawful : IsLawful fetch_topic
unfolding fetch_topic
fetch_topic_lawful = via_lawful _ _ (pair_lawful string_lawful (array_lawful _ fetch_partition_lawful)) (λ _. refl) (λ _. refl)

pub fetch_request_lawful : IsLawful fetch_request
unfolding fetch_request
fetch_request_lawful = via_lawful _ _ (pair_lawful int32_lawful
    (pair_lawful int32_lawful (pair_lawful int32_lawful
    (pair_lawful int32_lawful (pair_lawful int8_lawful (array_lawful _ fetch_topic_lawful)))))) (λ _. refl) (λ _. refl)

pub aborted_transaction_lawful : IsLawful aborted_transaction
unfolding aborted_transaction
aborted_transaction_lawful = via_lawful _ _ (pair_lawful int64_lawful int64_lawful) (λ _. refl) (λ _. refl)

pub fetch_partition_reply_lawful : IsLawful fetch_partition_reply
unfolding fetch_partition_reply
fetch_partition_reply_lawful = via_lawful _ _
    (pair_lawful int32_lawful (pair_lawful int16_lawful
    (pair_lawful int64_lawful (pair_lawful int64_lawful
    (pair_lawful (nullable_array_lawful _ aborted_transaction_lawful) nullable_blob_lawful))))) (λ _. refl) (λ _. refl)

pub fetch_topic_reply_lawful : IsLawful fetch_topic_reply
unfolding fetch_topic_reply
fetch_topic_reply_lawful = via_lawful _ _ (pair_lawful string_lawful (array_lawful _ fetch_partition_reply_lawful)) (λ _. refl) (λ _. refl)

pub fetch_reply_lawful : IsLawful fetch_reply
unfolding fetch_reply
fetch_reply_lawful = via_lawful _ _ (pair_lawful int32_lawful (array_lawful _ fetch_topic_reply_lawful)) (λ _. refl) (λ _. refl)

pub list_offsets_partition_lawful : IsLawful list_offsets_partition
unfolding list_offsets_partition
list_offsets_partition_lawful = via_lawful _ _ (pair_lawful int32_lawful int64_lawful) (λ _. refl) (λ _. refl)

pub list_offsets_topic_lawful : IsLawful list_offsets_topic
unfolding list_offsets_topic
list_offsets_topic_lawful =
    via_lawful _ _ (pair_lawful string_lawful (array_lawful _ list_offsets_partition_lawful)) (λ _. refl) (λ _. refl)

pub list_offsets_request_lawful : IsLawful list_offsets_request
unfolding list_offsets_request
list_offsets_request_lawful = via_lawful _ _ (pair_lawful int32_lawful (array_lawful _ list_offsets_topic_lawful)) (λ _. refl) (λ _. refl)

pub list_offsets_partition_reply_lawful : IsLawful list_offsets_partition_reply
unfolding list_offsets_partition_reply
list_offsets_partition_reply_lawful =
    via_lawful _ _ (pair_lawful int32_lawful (pair_lawful int16_lawful (pair_lawful int64_lawful int64_lawful))) (λ _. refl) (λ _. refl)

pub list_offsets_topic_reply_lawful : IsLawful list_offsets_topic_reply
unfolding list_offsets_topic_reply
list_offsets_topic_reply_lawful =
    via_lawful _ _ (pair_lawful string_lawful (array_lawful _ list_offsets_partition_reply_lawful)) (λ _. refl) (λ _. refl)

pub list_offsets_reply_lawful : IsLawful list_offsets_reply
unfolding list_offsets_reply
list_offsets_reply_lawful = via_lawful _ _ (array_lawful _ list_offsets_topic_reply_lawful) (λ _. refl) (λ _. refl)

pub metadata_request_lawful : IsLawful metadata_request
unfolding metadata_request
metadata_request_lawful = via_lawful _ _ (nullable_array_lawful _ string_lawful) (λ _. refl) (λ _. refl)

pub metadata_broker_lawful : IsLawful metadata_broker
unfolding metadata_broker
metadata_broker_lawful = via_lawful _ _ (pair_lawful int32_lawful
    (pair_lawful string_lawful (pair_lawful int32_lawful nullable_string_lawful))) (λ _. refl) (λ _. refl)

pub metadata_partition_lawful : IsLawful metadata_partition
unfolding metadata_partition
metadata_partition_lawful = via_lawful _ _
    (pair_lawful int16_lawful (pair_lawful int32_lawful
    (pair_lawful int32_lawful (pair_lawful (array_lawful _ int32_lawful) (array_lawful _ int32_lawful))))) (λ _. refl) (λ _. refl)

pub metadata_topic_lawful : IsLawful metadata_topic
unfolding metadata_topic
metadata_topic_lawful = via_lawful _ _ (pair_lawful int16_lawful
    (pair_lawful string_lawful (pair_lawful boolean_lawful (array_lawful _ metadata_partition_lawful)))) (λ _. refl) (λ _. refl)

pub metadata_reply_lawful : IsLawful metadata_reply
unfolding metadata_reply
metadata_reply_lawful = via_lawful _ _ (pair_lawful (array_lawful _ metadata_broker_lawful)
    (pair_lawful int32_lawful (array_lawful _ metadata_topic_lawful))) (λ _. refl) (λ _. refl)

pub create_assignment_lawful : IsLawful create_assignment
unfolding create_assignment
create_assignment_lawful = via_lawful _ _ (pair_lawful int32_lawful (array_lawful _ int32_lawful)) (λ _. refl) (λ _. refl)

pub create_config_lawful : IsLawful create_config
unfolding create_config
create_config_lawful = via_lawful _ _ (pair_lawful string_lawful nullable_string_lawful) (λ _. refl) (λ _. refl)

pub create_topic_lawful : IsLawful create_topic
unfolding create_topic
create_topic_lawful = via_lawful _ _ (pair_lawful string_lawful
    (pair_lawful int32_lawful (pair_lawful int16_lawful
    (pair_lawful (array_lawful _ create_assignment_lawful) (array_lawful _ create_config_lawful))))) (λ _. refl) (λ _. refl)

pub create_topics_request_lawful : IsLawful create_topics_request
unfolding create_topics_request
create_topics_request_lawful = via_lawful _ _ (pair_lawful (array_lawful _ create_topic_lawful) int32_lawful) (λ _. refl) (λ _. refl)

pub create_topic_reply_lawful : IsLawful create_topic_reply
unfolding create_topic_reply
create_topic_reply_lawful = via_lawful _ _ (pair_lawful string_lawful int16_lawful) (λ _. refl) (λ _. refl)

pub create_topics_reply_lawful : IsLawful create_topics_reply
unfolding create_topics_reply
create_topics_reply_lawful = via_lawful _ _ (array_lawful _ create_topic_reply_lawful) (λ _. refl) (λ _. refl)

pub delete_topics_request_lawful : IsLawful delete_topics_request
unfolding delete_topics_request
delete_topics_request_lawful = via_lawful _ _ (pair_lawful (array_lawful _ string_lawful) int32_lawful) (λ _. refl) (λ _. refl)

pub delete_topic_reply_lawful : IsLawful delete_topic_reply
unfolding delete_topic_reply
delete_topic_reply_lawful = via_lawful _ _ (pair_lawful string_lawful int16_lawful) (λ _. refl) (λ _. refl)

pub delete_topics_reply_lawful : IsLawful delete_topics_reply
unfolding delete_topics_reply
delete_topics_reply_lawful = via_lawful _ _ (array_lawful _ delete_topic_reply_lawful) (λ _. refl) (λ _. refl)

pub init_producer_id_request_lawful : IsLawful init_producer_id_request
unfolding init_producer_id_request
init_producer_id_request_lawful = via_lawful _ _ (pair_lawful nullable_string_lawful int32_lawful) (λ _. refl) (λ _. refl)

pub init_producer_id_reply_lawful : IsLawful init_producer_id_reply
unfolding init_producer_id_reply
init_producer_id_reply_lawful =
    via_lawful _ _ (pair_lawful int32_lawful (pair_lawful int16_lawful (pair_lawful int64_lawful int16_lawful))) (λ _. refl) (λ _. refl)

pub delete_records_partition_lawful : IsLawful delete_records_partition
unfolding delete_records_partition
delete_records_partition_lawful = via_lawful _ _ (pair_lawful int32_lawful int64_lawful) (λ _. refl) (λ _. refl)

pub delete_records_topic_lawful : IsLawful delete_records_topic
unfolding delete_records_topic
delete_records_topic_lawful =
    via_lawful _ _ (pair_lawful string_lawful (array_lawful _ delete_records_partition_lawful)) (λ _. refl) (λ _. refl)

pub delete_records_request_lawful : IsLawful delete_records_request
unfolding delete_records_request
delete_records_request_lawful =
    via_lawful _ _ (pair_lawful (array_lawful _ delete_records_topic_lawful) int32_lawful) (λ _. refl) (λ _. refl)

pub delete_records_partition_reply_lawful : IsLawful delete_records_partition_reply
unfolding delete_records_partition_reply
delete_records_partition_reply_lawful =
    via_lawful _ _ (pair_lawful int32_lawful (pair_lawful int64_lawful int16_lawful)) (λ _. refl) (λ _. refl)

pub delete_records_topic_reply_lawful : IsLawful delete_records_topic_reply
unfolding delete_records_topic_reply
delete_records_topic_reply_lawful =
    via_lawful _ _ (pair_lawful string_lawful (array_lawful _ delete_records_partition_reply_lawful)) (λ _. refl) (λ _. refl)

pub delete_records_reply_lawful : IsLawful delete_records_reply
unfolding delete_records_reply
delete_records_reply_lawful =
    via_lawful _ _ (pair_lawful int32_lawful (array_lawful _ delete_records_topic_reply_lawful)) (λ _. refl) (λ _. refl)

pub fetch_partition_v5_lawful : IsLawful fetch_partition_v5
unfolding fetch_partition_v5
fetch_partition_v5_lawful =
    via_lawful _ _ (pair_lawful int32_lawful (pair_lawful int64_lawful (pair_lawful int64_lawful int32_lawful))) (λ _. refl) (λ _. refl)

pub fetch_topic_v5_lawful : IsLawful fetch_topic_v5
unfolding fetch_topic_v5
fetch_topic_v5_lawful = via_lawful _ _ (pair_lawful string_lawful (array_lawful _ fetch_partition_v5_lawful)) (λ _. refl) (λ _. refl)

pub fetch_request_v5_lawful : IsLawful fetch_request_v5
unfolding fetch_request_v5
fetch_request_v5_lawful = via_lawful _ _
    (pair_lawful int32_lawful (pair_lawful int32_lawful
    (pair_lawful int32_lawful (pair_lawful int32_lawful (pair_lawful int8_lawful (array_lawful _ fetch_topic_v5_lawful)))))) (λ _.
    refl) (λ _. refl)

pub fetch_partition_reply_v5_lawful : IsLawful fetch_partition_reply_v5
unfolding fetch_partition_reply_v5
fetch_partition_reply_v5_lawful = via_lawful _ _
    (pair_lawful int32_lawful (pair_lawful int16_lawful
    (pair_lawful int64_lawful (pair_lawful int64_lawful
    (pair_lawful int64_lawful (pair_lawful (nullable_array_lawful _ aborted_transaction_lawful) nullable_blob_lawful)))))) (λ _. refl) (λ _.
    refl)

pub fetch_topic_reply_v5_lawful : IsLawful fetch_topic_reply_v5
unfolding fetch_topic_reply_v5
fetch_topic_reply_v5_lawful =
    via_lawful _ _ (pair_lawful string_lawful (array_lawful _ fetch_partition_reply_v5_lawful)) (λ _. refl) (λ _. refl)

pub fetch_reply_v5_lawful : IsLawful fetch_reply_v5
unfolding fetch_reply_v5
fetch_reply_v5_lawful = via_lawful _ _ (pair_lawful int32_lawful (array_lawful _ fetch_topic_reply_v5_lawful)) (λ _. refl) (λ _. refl)

pub metadata_request_v0_lawful : IsLawful metadata_request_v0
unfolding metadata_request_v0
metadata_request_v0_lawful = via_lawful _ _ (array_lawful _ string_lawful) (λ _. refl) (λ _. refl)

pub metadata_request_v4_lawful : IsLawful metadata_request_v4
unfolding metadata_request_v4
metadata_request_v4_lawful = via_lawful _ _ (pair_lawful (nullable_array_lawful _ string_lawful) boolean_lawful) (λ _. refl) (λ _. refl)

pub metadata_broker_v0_lawful : IsLawful metadata_broker_v0
unfolding metadata_broker_v0
metadata_broker_v0_lawful = via_lawful _ _ (pair_lawful int32_lawful (pair_lawful string_lawful int32_lawful)) (λ _. refl) (λ _. refl)

pub metadata_topic_v0_lawful : IsLawful metadata_topic_v0
unfolding metadata_topic_v0
metadata_topic_v0_lawful =
    via_lawful _ _ (pair_lawful int16_lawful (pair_lawful string_lawful (array_lawful _ metadata_partition_lawful))) (λ _. refl) (λ _. refl)

pub metadata_reply_v0_lawful : IsLawful metadata_reply_v0
unfolding metadata_reply_v0
metadata_reply_v0_lawful = via_lawful _ _ (pair_lawful (array_lawful _ metadata_broker_v0_lawful) (array_lawful _ metadata_topic_v0_lawful))
    (λ _. refl) (λ _. refl)

pub metadata_reply_v2_lawful : IsLawful metadata_reply_v2
unfolding metadata_reply_v2
metadata_reply_v2_lawful = via_lawful _ _
    (pair_lawful (array_lawful _ metadata_broker_lawful)
    (pair_lawful nullable_string_lawful (pair_lawful int32_lawful (array_lawful _ metadata_topic_lawful)))) (λ _. refl) (λ _. refl)

pub metadata_reply_v3_lawful : IsLawful metadata_reply_v3
unfolding metadata_reply_v3
metadata_reply_v3_lawful = via_lawful _ _
    (pair_lawful int32_lawful (pair_lawful (array_lawful _ metadata_broker_lawful)
    (pair_lawful nullable_string_lawful (pair_lawful int32_lawful (array_lawful _ metadata_topic_lawful))))) (λ _. refl) (λ _. refl)

pub create_topics_request_v1_lawful : IsLawful create_topics_request_v1
unfolding create_topics_request_v1
create_topics_request_v1_lawful =
    via_lawful _ _ (pair_lawful (array_lawful _ create_topic_lawful) (pair_lawful int32_lawful boolean_lawful)) (λ _. refl) (λ _. refl)

pub create_topic_reply_v1_lawful : IsLawful create_topic_reply_v1
unfolding create_topic_reply_v1
create_topic_reply_v1_lawful =
    via_lawful _ _ (pair_lawful string_lawful (pair_lawful int16_lawful nullable_string_lawful)) (λ _. refl) (λ _. refl)

pub create_topics_reply_v1_lawful : IsLawful create_topics_reply_v1
unfolding create_topics_reply_v1
create_topics_reply_v1_lawful = via_lawful _ _ (array_lawful _ create_topic_reply_v1_lawful) (λ _. refl) (λ _. refl)

pub delete_topics_reply_v1_lawful : IsLawful delete_topics_reply_v1
unfolding delete_topics_reply_v1
delete_topics_reply_v1_lawful = via_lawful _ _ (pair_lawful int32_lawful (array_lawful _ delete_topic_reply_lawful)) (λ _. refl) (λ _. refl)

pub config_resource_lawful : IsLawful config_resource
unfolding config_resource
config_resource_lawful = via_lawful _ _
    (pair_lawful int8_lawful (pair_lawful string_lawful (nullable_array_lawful _ string_lawful))) (λ _. refl) (λ _. refl)

pub describe_configs_request_lawful : IsLawful describe_configs_request
unfolding describe_configs_request
describe_configs_request_lawful = via_lawful _ _ (array_lawful _ config_resource_lawful) (λ _. refl) (λ _. refl)

pub described_config_lawful : IsLawful described_config
unfolding described_config
described_config_lawful = via_lawful _ _
    (pair_lawful string_lawful (pair_lawful nullable_string_lawful (pair_lawful boolean_lawful
    (pair_lawful boolean_lawful boolean_lawful)))) (λ _. refl) (λ _. refl)

pub described_resource_lawful : IsLawful described_resource
unfolding described_resource
described_resource_lawful = via_lawful _ _
    (pair_lawful int16_lawful (pair_lawful nullable_string_lawful (pair_lawful int8_lawful
    (pair_lawful string_lawful (array_lawful _ described_config_lawful))))) (λ _. refl) (λ _. refl)

pub describe_configs_reply_lawful : IsLawful describe_configs_reply
unfolding describe_configs_reply
describe_configs_reply_lawful = via_lawful _ _ (pair_lawful int32_lawful (array_lawful _ described_resource_lawful)) (λ _. refl) (λ _. refl)

pub describe_configs_request_v1_lawful : IsLawful describe_configs_request_v1
unfolding describe_configs_request_v1
describe_configs_request_v1_lawful = via_lawful _ _
    (pair_lawful (array_lawful _ config_resource_lawful) boolean_lawful) (λ _. refl) (λ _. refl)

pub config_synonym_lawful : IsLawful config_synonym
unfolding config_synonym
config_synonym_lawful = via_lawful _ _ (pair_lawful string_lawful (pair_lawful nullable_string_lawful int8_lawful)) (λ _. refl) (λ _. refl)

pub described_config_v1_lawful : IsLawful described_config_v1
unfolding described_config_v1
described_config_v1_lawful = via_lawful _ _
    (pair_lawful string_lawful (pair_lawful nullable_string_lawful (pair_lawful boolean_lawful
    (pair_lawful int8_lawful (pair_lawful boolean_lawful (array_lawful _ config_synonym_lawful)))))) (λ _. refl) (λ _. refl)

pub described_resource_v1_lawful : IsLawful described_resource_v1
unfolding described_resource_v1
described_resource_v1_lawful = via_lawful _ _
    (pair_lawful int16_lawful (pair_lawful nullable_string_lawful (pair_lawful int8_lawful
    (pair_lawful string_lawful (array_lawful _ described_config_v1_lawful))))) (λ _. refl) (λ _. refl)

pub describe_configs_reply_v1_lawful : IsLawful describe_configs_reply_v1
unfolding describe_configs_reply_v1
describe_configs_reply_v1_lawful = via_lawful _ _
    (pair_lawful int32_lawful (array_lawful _ described_resource_v1_lawful)) (λ _. refl) (λ _. refl)
