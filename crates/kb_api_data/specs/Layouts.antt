-- The bodies of the protocol's requests and replies, each in the versions that are read and written here.
use Rattle.kb_wire.specs.Codec.{Codec, int8, int16, int32, int64, boolean, string, nullable_string, nullable_blob, array, nullable_array}
use Rattle.kb_wire.specs.Codec.{◌⊗◌, via}
use Rattle.kb_api_data.specs.declared.produce.ProducePartition.{ProducePartition}
use Rattle.kb_api_data.specs.declared.produce.ProduceTopic.{ProduceTopic}
use Rattle.kb_api_data.specs.declared.produce.ProduceRequest.{ProduceRequest}
use Rattle.kb_api_data.specs.declared.produce.ProducePartitionReply.{ProducePartitionReply}
use Rattle.kb_api_data.specs.declared.produce.ProduceTopicReply.{ProduceTopicReply}
use Rattle.kb_api_data.specs.declared.produce.ProduceReply.{ProduceReply}
use Rattle.kb_api_data.specs.declared.fetch.FetchPartition.{FetchPartition}
use Rattle.kb_api_data.specs.declared.fetch.FetchTopic.{FetchTopic}
use Rattle.kb_api_data.specs.declared.fetch.FetchRequest.{FetchRequest}
use Rattle.kb_api_data.specs.declared.fetch.AbortedTransaction.{AbortedTransaction}
use Rattle.kb_api_data.specs.declared.fetch.FetchPartitionReply.{FetchPartitionReply}
use Rattle.kb_api_data.specs.declared.fetch.FetchTopicReply.{FetchTopicReply}
use Rattle.kb_api_data.specs.declared.fetch.FetchReply.{FetchReply}
use Rattle.kb_api_data.specs.declared.list_offsets.ListOffsetsPartition.{ListOffsetsPartition}
use Rattle.kb_api_data.specs.declared.list_offsets.ListOffsetsTopic.{ListOffsetsTopic}
use Rattle.kb_api_data.specs.declared.list_offsets.ListOffsetsRequest.{ListOffsetsRequest}
use Rattle.kb_api_data.specs.declared.list_offsets.ListOffsetsPartitionReply.{ListOffsetsPartitionReply}
use Rattle.kb_api_data.specs.declared.list_offsets.ListOffsetsTopicReply.{ListOffsetsTopicReply}
use Rattle.kb_api_data.specs.declared.list_offsets.ListOffsetsReply.{ListOffsetsReply}
use Rattle.kb_api_data.specs.declared.metadata.MetadataRequest.{MetadataRequest}
use Rattle.kb_api_data.specs.declared.metadata.MetadataBroker.{MetadataBroker}
use Rattle.kb_api_data.specs.declared.metadata.MetadataPartition.{MetadataPartition}
use Rattle.kb_api_data.specs.declared.metadata.MetadataTopic.{MetadataTopic}
use Rattle.kb_api_data.specs.declared.metadata.MetadataReply.{MetadataReply}
use Rattle.kb_api_data.specs.declared.create_topics.CreateAssignment.{CreateAssignment}
use Rattle.kb_api_data.specs.declared.create_topics.CreateConfig.{CreateConfig}
use Rattle.kb_api_data.specs.declared.create_topics.CreateTopic.{CreateTopic}
use Rattle.kb_api_data.specs.declared.create_topics.CreateTopicsRequest.{CreateTopicsRequest}
use Rattle.kb_api_data.specs.declared.create_topics.CreateTopicReply.{CreateTopicReply}
use Rattle.kb_api_data.specs.declared.create_topics.CreateTopicsReply.{CreateTopicsReply}
use Rattle.kb_api_data.specs.declared.delete_topics.DeleteTopicsRequest.{DeleteTopicsRequest}
use Rattle.kb_api_data.specs.declared.delete_topics.DeleteTopicReply.{DeleteTopicReply}
use Rattle.kb_api_data.specs.declared.delete_topics.DeleteTopicsReply.{DeleteTopicsReply}
use Rattle.kb_api_data.specs.declared.init_producer_id.InitProducerIdRequest.{InitProducerIdRequest}
use Rattle.kb_api_data.specs.declared.init_producer_id.InitProducerIdReply.{InitProducerIdReply}
use Rattle.kb_api_data.specs.declared.delete_records.DeleteRecordsPartition.{DeleteRecordsPartition}
use Rattle.kb_api_data.specs.declared.delete_records.DeleteRecordsTopic.{DeleteRecordsTopic}
use Rattle.kb_api_data.specs.declared.delete_records.DeleteRecordsRequest.{DeleteRecordsRequest}
use Rattle.kb_api_data.specs.declared.delete_records.DeleteRecordsPartitionReply.{DeleteRecordsPartitionReply}
use Rattle.kb_api_data.specs.declared.delete_records.DeleteRecordsTopicReply.{DeleteRecordsTopicReply}
use Rattle.kb_api_data.specs.declared.delete_records.DeleteRecordsReply.{DeleteRecordsReply}
use Rattle.kb_api_data.specs.declared.fetch_v5.FetchPartitionV5.{FetchPartitionV5}
use Rattle.kb_api_data.specs.declared.fetch_v5.FetchTopicV5.{FetchTopicV5}
use Rattle.kb_api_data.specs.declared.fetch_v5.FetchRequestV5.{FetchRequestV5}
use Rattle.kb_api_data.specs.declared.fetch_v5.FetchPartitionReplyV5.{FetchPartitionReplyV5}
use Rattle.kb_api_data.specs.declared.fetch_v5.FetchTopicReplyV5.{FetchTopicReplyV5}
use Rattle.kb_api_data.specs.declared.fetch_v5.FetchReplyV5.{FetchReplyV5}
use Rattle.kb_api_data.specs.declared.metadata_versions.MetadataRequestV0.{MetadataRequestV0}
use Rattle.kb_api_data.specs.declared.metadata_versions.MetadataRequestV4.{MetadataRequestV4}
use Rattle.kb_api_data.specs.declared.metadata_versions.MetadataBrokerV0.{MetadataBrokerV0}
use Rattle.kb_api_data.specs.declared.metadata_versions.MetadataTopicV0.{MetadataTopicV0}
use Rattle.kb_api_data.specs.declared.metadata_versions.MetadataReplyV0.{MetadataReplyV0}
use Rattle.kb_api_data.specs.declared.metadata_versions.MetadataReplyV2.{MetadataReplyV2}
use Rattle.kb_api_data.specs.declared.metadata_versions.MetadataReplyV3.{MetadataReplyV3}
use Rattle.kb_api_data.specs.declared.create_topics_v1.CreateTopicsRequestV1.{CreateTopicsRequestV1}
use Rattle.kb_api_data.specs.declared.create_topics_v1.CreateTopicReplyV1.{CreateTopicReplyV1}
use Rattle.kb_api_data.specs.declared.create_topics_v1.CreateTopicsReplyV1.{CreateTopicsReplyV1}
use Rattle.kb_api_data.specs.declared.delete_topics_v1.DeleteTopicsReplyV1.{DeleteTopicsReplyV1}
use Rattle.kb_api_data.specs.declared.describe_configs.ConfigResource.{ConfigResource}
use Rattle.kb_api_data.specs.declared.describe_configs.DescribeConfigsRequest.{DescribeConfigsRequest}
use Rattle.kb_api_data.specs.declared.describe_configs.DescribedConfig.{DescribedConfig}
use Rattle.kb_api_data.specs.declared.describe_configs.DescribedResource.{DescribedResource}
use Rattle.kb_api_data.specs.declared.describe_configs.DescribeConfigsReply.{DescribeConfigsReply}
use Rattle.kb_api_data.specs.declared.describe_configs_v1.DescribeConfigsRequestV1.{DescribeConfigsRequestV1}
use Rattle.kb_api_data.specs.declared.describe_configs_v1.ConfigSynonym.{ConfigSynonym}
use Rattle.kb_api_data.specs.declared.describe_configs_v1.DescribedConfigV1.{DescribedConfigV1}
use Rattle.kb_api_data.specs.declared.describe_configs_v1.DescribedResourceV1.{DescribedResourceV1}
use Rattle.kb_api_data.specs.declared.describe_configs_v1.DescribeConfigsReplyV1.{DescribeConfigsReplyV1}

-- A partition, in a request of Produce.
unfoldable pub produce_partition : Codec ProducePartition
produce_partition = via (λ p. record { index = p.0; records = p.1 }) (λ v. (v.index, v.records)) (int32 ⊗ nullable_blob)

-- A topic, in a request of Produce.
unfoldable pub produce_topic : Codec ProduceTopic
produce_topic = via (λ p. record { name = p.0; partitions = p.1 }) (λ v. (v.name, v.partitions)) (string ⊗ array produce_partition)

-- A request of Produce, version 3.
unfoldable pub produce_request : Codec ProduceRequest
produce_request = via (λ p. record { transactional_id = p.0; acks = p.1.0; timeout_ms = p.1.1.0; topics = p.1.1.1 }) (λ v.
    (v.transactional_id, (v.acks, (v.timeout_ms, v.topics)))) (nullable_string ⊗ int16 ⊗ int32 ⊗ array produce_topic)

-- A partition, in the reply of Produce.
unfoldable pub produce_partition_reply : Codec ProducePartitionReply
produce_partition_reply = via (λ p. record { index = p.0; error_code = p.1.0; base_offset = p.1.1.0; log_append_time_ms = p.1.1.1 }) (λ v.
    (v.index, (v.error_code, (v.base_offset, v.log_append_time_ms)))) (int32 ⊗ int16 ⊗ int64 ⊗ int64)

-- A topic, in the reply of Produce.
unfoldable pub produce_topic_reply : Codec ProduceTopicReply
produce_topic_reply =
    via (λ p. record { name = p.0; partitions = p.1 }) (λ v. (v.name, v.partitions)) (string ⊗ array produce_partition_reply)

-- The reply of Produce, version 3.
unfoldable pub produce_reply : Codec ProduceReply
produce_reply =
    via (λ p. record { topics = p.0; throttle_time_ms = p.1 }) (λ v. (v.topics, v.throttle_time_ms)) (array produce_topic_reply ⊗ int32)

-- A partition, in a request of Fetch.
unfoldable pub fetch_partition : Codec FetchPartition
fetch_partition = via (λ p. record { partition = p.0; fetch_offset = p.1.0; partition_max_bytes = p.1.1 }) (λ v.
    (v.partition, (v.fetch_offset, v.partition_max_bytes))) (int32 ⊗ int64 ⊗ int32)

-- A topic, in a request of Fetch.
unfoldable pub fetch_topic : Codec FetchTopic
fetch_topic = via (λ p. record { topic = p.0; partitions = p.1 }) (λ v. (v.topic, v.partitions)) (string ⊗ array fetch_partition)

-- A request of Fetch, version 4.
unfoldable pub fetch_request : Codec FetchRequest
fetch_request = via (λ p. record {
  replica_id = p.0;
  max_wait_ms = p.1.0;
  min_bytes = p.1.1.0;
  max_bytes = p.1.1.1.0;
  isolation_level = p.1.1.1.1.0;
  topics = p.1.1.1.1.1;
}) (λ v.
    (v.replica_id, (v.max_wait_ms, (v.min_bytes, (v.max_bytes, (v.isolation_level, v.topics))))))
    (int32 ⊗ int32 ⊗ int32 ⊗ int32 ⊗ int8 ⊗ array fetch_topic)

-- A transaction, in the reply of Fetch.
unfoldable pub aborted_transaction : Codec AbortedTransaction
aborted_transaction = via (λ p. record { producer_id = p.0; first_offset = p.1 }) (λ v. (v.producer_id, v.first_offset)) (int64 ⊗ int64)

-- A partition, in the reply of Fetch.
unfoldable pub fetch_partition_reply : Codec FetchPartitionReply
fetch_partition_reply = via (λ p. record {
  partition = p.0;
  error_code = p.1.0;
  high_watermark = p.1.1.0;
  last_stable_offset = p.1.1.1.0;
  aborted_transactions = p.1.1.1.1.0;
  records = p.1.1.1.1.1;
}) (λ v.
    (v.partition, (v.error_code, (v.high_watermark, (v.last_stable_offset, (v.aborted_transactions, v.records))))))
    (int32 ⊗ int16 ⊗ int64 ⊗ int64 ⊗ nullable_array aborted_transaction ⊗ nullable_blob)

-- A topic, in the reply of Fetch.
unfoldable pub fetch_topic_reply : Codec FetchTopicReply
fetch_topic_reply =
    via (λ p. record { topic = p.0; partitions = p.1 }) (λ v. (v.topic, v.partitions)) (string ⊗ array fetch_partition_reply)

-- The reply of Fetch, version 4.
unfoldable pub fetch_reply : Codec FetchReply
fetch_reply =
    via (λ p. record { throttle_time_ms = p.0; topics = p.1 }) (λ v. (v.throttle_time_ms, v.topics)) (int32 ⊗ array fetch_topic_reply)

-- A partition, in a request of ListOffsets.
unfoldable pub list_offsets_partition : Codec ListOffsetsPartition
list_offsets_partition = via (λ p. record { partition = p.0; timestamp = p.1 }) (λ v. (v.partition, v.timestamp)) (int32 ⊗ int64)

-- A topic, in a request of ListOffsets.
unfoldable pub list_offsets_topic : Codec ListOffsetsTopic
list_offsets_topic =
    via (λ p. record { name = p.0; partitions = p.1 }) (λ v. (v.name, v.partitions)) (string ⊗ array list_offsets_partition)

-- A request of ListOffsets, version 1.
unfoldable pub list_offsets_request : Codec ListOffsetsRequest
list_offsets_request =
    via (λ p. record { replica_id = p.0; topics = p.1 }) (λ v. (v.replica_id, v.topics)) (int32 ⊗ array list_offsets_topic)

-- A partition, in the reply of ListOffsets.
unfoldable pub list_offsets_partition_reply : Codec ListOffsetsPartitionReply
list_offsets_partition_reply = via (λ p. record { partition = p.0; error_code = p.1.0; timestamp = p.1.1.0; offset = p.1.1.1 }) (λ v.
    (v.partition, (v.error_code, (v.timestamp, v.offset)))) (int32 ⊗ int16 ⊗ int64 ⊗ int64)

-- A topic, in the reply of ListOffsets.
unfoldable pub list_offsets_topic_reply : Codec ListOffsetsTopicReply
list_offsets_topic_reply =
    via (λ p. record { name = p.0; partitions = p.1 }) (λ v. (v.name, v.partitions)) (string ⊗ array list_offsets_partition_reply)

-- The reply of ListOffsets, version 1.
unfoldable pub list_offsets_reply : Codec ListOffsetsReply
list_offsets_reply = via (λ p. record { topics = p }) (λ v. v.topics) (array list_offsets_topic_reply)

-- A request of Metadata, version 1.
unfoldable pub metadata_request : Codec MetadataRequest
metadata_request = via (λ p. record { topics = p }) (λ v. v.topics) (nullable_array string)

-- A broker, in the reply of Metadata.
unfoldable pub metadata_broker : Codec MetadataBroker
metadata_broker = via (λ p. record { node_id = p.0; host = p.1.0; port = p.1.1.0; rack = p.1.1.1 }) (λ v.
    (v.node_id, (v.host, (v.port, v.rack)))) (int32 ⊗ string ⊗ int32 ⊗ nullable_string)

-- A partition, in the reply of Metadata.
unfoldable pub metadata_partition : Codec MetadataPartition
metadata_partition = via (λ p. record { error_code = p.0; partition = p.1.0; leader = p.1.1.0; replicas = p.1.1.1.0; isr = p.1.1.1.1 })
    (λ v. (v.error_code, (v.partition, (v.leader, (v.replicas, v.isr))))) (int16 ⊗ int32 ⊗ int32 ⊗ array int32 ⊗ array int32)

-- A topic, in the reply of Metadata.
unfoldable pub metadata_topic : Codec MetadataTopic
metadata_topic = via (λ p. record { error_code = p.0; name = p.1.0; is_internal = p.1.1.0; partitions = p.1.1.1 }) (λ v.
    (v.error_code, (v.name, (v.is_internal, v.partitions)))) (int16 ⊗ string ⊗ boolean ⊗ array metadata_partition)

-- The reply of Metadata, version 1.
unfoldable pub metadata_reply : Codec MetadataReply
metadata_reply = via (λ p. record { brokers = p.0; controller_id = p.1.0; topics = p.1.1 }) (λ v.
    (v.brokers, (v.controller_id, v.topics))) (array metadata_broker ⊗ int32 ⊗ array metadata_topic)

-- An assignment, in a request of CreateTopics.
unfoldable pub create_assignment : Codec CreateAssignment
create_assignment = via (λ p. record { partition = p.0; brokers = p.1 }) (λ v. (v.partition, v.brokers)) (int32 ⊗ array int32)

-- A setting, in a request of CreateTopics.
unfoldable pub create_config : Codec CreateConfig
create_config = via (λ p. record { name = p.0; value = p.1 }) (λ v. (v.name, v.value)) (string ⊗ nullable_string)

-- A topic, in a request of CreateTopics.
unfoldable pub create_topic : Codec CreateTopic
create_topic = via (λ p. record {
  name = p.0;
  num_partitions = p.1.0;
  replication_factor = p.1.1.0;
  assignments = p.1.1.1.0;
  configs = p.1.1.1.1;
}) (λ v. (v.name, (v.num_partitions, (v.replication_factor, (v.assignments, v.configs)))))
    (string ⊗ int32 ⊗ int16 ⊗ array create_assignment ⊗ array create_config)

-- A request of CreateTopics, version 0.
unfoldable pub create_topics_request : Codec CreateTopicsRequest
create_topics_request = via (λ p. record { topics = p.0; timeout_ms = p.1 }) (λ v. (v.topics, v.timeout_ms)) (array create_topic ⊗ int32)

-- A topic, in the reply of CreateTopics.
unfoldable pub create_topic_reply : Codec CreateTopicReply
create_topic_reply = via (λ p. record { name = p.0; error_code = p.1 }) (λ v. (v.name, v.error_code)) (string ⊗ int16)

-- The reply of CreateTopics, version 0.
unfoldable pub create_topics_reply : Codec CreateTopicsReply
create_topics_reply = via (λ p. record { topics = p }) (λ v. v.topics) (array create_topic_reply)

-- A request of DeleteTopics, version 0.
unfoldable pub delete_topics_request : Codec DeleteTopicsRequest
delete_topics_request = via (λ p. record { names = p.0; timeout_ms = p.1 }) (λ v. (v.names, v.timeout_ms)) (array string ⊗ int32)

-- A topic, in the reply of DeleteTopics.
unfoldable pub delete_topic_reply : Codec DeleteTopicReply
delete_topic_reply = via (λ p. record { name = p.0; error_code = p.1 }) (λ v. (v.name, v.error_code)) (string ⊗ int16)

-- The reply of DeleteTopics, version 0.
unfoldable pub delete_topics_reply : Codec DeleteTopicsReply
delete_topics_reply = via (λ p. record { topics = p }) (λ v. v.topics) (array delete_topic_reply)

-- A request of InitProducerId, version 0.
unfoldable pub init_producer_id_request : Codec InitProducerIdRequest
init_producer_id_request = via (λ p. record { transactional_id = p.0; transaction_timeout_ms = p.1 }) (λ v.
    (v.transactional_id, v.transaction_timeout_ms)) (nullable_string ⊗ int32)

-- The reply of InitProducerId, version 0.
unfoldable pub init_producer_id_reply : Codec InitProducerIdReply
init_producer_id_reply = via (λ p. record { throttle_time_ms = p.0; error_code = p.1.0; producer_id = p.1.1.0; producer_epoch = p.1.1.1 })
    (λ v. (v.throttle_time_ms, (v.error_code, (v.producer_id, v.producer_epoch)))) (int32 ⊗ int16 ⊗ int64 ⊗ int16)

-- A partition, in a request of DeleteRecords.
unfoldable pub delete_records_partition : Codec DeleteRecordsPartition
delete_records_partition = via (λ p. record { partition = p.0; offset = p.1 }) (λ v. (v.partition, v.offset)) (int32 ⊗ int64)

-- A topic, in a request of DeleteRecords.
unfoldable pub delete_records_topic : Codec DeleteRecordsTopic
delete_records_topic =
    via (λ p. record { name = p.0; partitions = p.1 }) (λ v. (v.name, v.partitions)) (string ⊗ array delete_records_partition)

-- A request of DeleteRecords, version 0.
unfoldable pub delete_records_request : Codec DeleteRecordsRequest
delete_records_request =
    via (λ p. record { topics = p.0; timeout_ms = p.1 }) (λ v. (v.topics, v.timeout_ms)) (array delete_records_topic ⊗ int32)

-- A partition, in the reply of DeleteRecords.
unfoldable pub delete_records_partition_reply : Codec DeleteRecordsPartitionReply
delete_records_partition_reply = via (λ p. record { partition = p.0; low_watermark = p.1.0; error_code = p.1.1 }) (λ v.
    (v.partition, (v.low_watermark, v.error_code))) (int32 ⊗ int64 ⊗ int16)

-- A topic, in the reply of DeleteRecords.
unfoldable pub delete_records_topic_reply : Codec DeleteRecordsTopicReply
delete_records_topic_reply =
    via (λ p. record { name = p.0; partitions = p.1 }) (λ v. (v.name, v.partitions)) (string ⊗ array delete_records_partition_reply)

-- The reply of DeleteRecords, version 0.
unfoldable pub delete_records_reply : Codec DeleteRecordsReply
delete_records_reply = via (λ p. record { throttle_time_ms = p.0; topics = p.1 }) (λ v.
    (v.throttle_time_ms, v.topics)) (int32 ⊗ array delete_records_topic_reply)

-- A partition, in a request of Fetch, version 5.
unfoldable pub fetch_partition_v5 : Codec FetchPartitionV5
fetch_partition_v5 = via (λ p. record { partition = p.0; fetch_offset = p.1.0; log_start_offset = p.1.1.0; partition_max_bytes = p.1.1.1 })
    (λ v. (v.partition, (v.fetch_offset, (v.log_start_offset, v.partition_max_bytes)))) (int32 ⊗ int64 ⊗ int64 ⊗ int32)

-- A topic, in a request of Fetch, version 5.
unfoldable pub fetch_topic_v5 : Codec FetchTopicV5
fetch_topic_v5 = via (λ p. record { topic = p.0; partitions = p.1 }) (λ v. (v.topic, v.partitions)) (string ⊗ array fetch_partition_v5)

-- A request of Fetch, version 5.
unfoldable pub fetch_request_v5 : Codec FetchRequestV5
fetch_request_v5 = via (λ p. record {
  replica_id = p.0;
  max_wait_ms = p.1.0;
  min_bytes = p.1.1.0;
  max_bytes = p.1.1.1.0;
  isolation_level = p.1.1.1.1.0;
  topics = p.1.1.1.1.1;
}) (λ v.
    (v.replica_id, (v.max_wait_ms, (v.min_bytes, (v.max_bytes, (v.isolation_level, v.topics))))))
    (int32 ⊗ int32 ⊗ int32 ⊗ int32 ⊗ int8 ⊗ array fetch_topic_v5)

-- A partition, in the reply of Fetch, version 5.
unfoldable pub fetch_partition_reply_v5 : Codec FetchPartitionReplyV5
fetch_partition_reply_v5 = via (λ p. record {
  partition = p.0;
  error_code = p.1.0;
  high_watermark = p.1.1.0;
  last_stable_offset = p.1.1.1.0;
  log_start_offset = p.1.1.1.1.0;
  aborted_transactions = p.1.1.1.1.1.0;
  records = p.1.1.1.1.1.1;
}) (λ v.
    (v.partition, (v.error_code, (v.high_watermark, (v.last_stable_offset, (v.log_start_offset, (v.aborted_transactions, v.records)))))))
    (int32 ⊗ int16 ⊗ int64 ⊗ int64 ⊗ int64 ⊗ nullable_array aborted_transaction ⊗ nullable_blob)

-- A topic, in the reply of Fetch, version 5.
unfoldable pub fetch_topic_reply_v5 : Codec FetchTopicReplyV5
fetch_topic_reply_v5 =
    via (λ p. record { topic = p.0; partitions = p.1 }) (λ v. (v.topic, v.partitions)) (string ⊗ array fetch_partition_reply_v5)

-- The reply of Fetch, version 5.
unfoldable pub fetch_reply_v5 : Codec FetchReplyV5
fetch_reply_v5 =
    via (λ p. record { throttle_time_ms = p.0; topics = p.1 }) (λ v. (v.throttle_time_ms, v.topics)) (int32 ⊗ array fetch_topic_reply_v5)

-- A request of Metadata, version 0.
unfoldable pub metadata_request_v0 : Codec MetadataRequestV0
metadata_request_v0 = via (λ p. record { topics = p }) (λ v. v.topics) (array string)

-- A request of Metadata, version 4.
unfoldable pub metadata_request_v4 : Codec MetadataRequestV4
metadata_request_v4 = via (λ p. record { topics = p.0; allow_auto_topic_creation = p.1 }) (λ v.
    (v.topics, v.allow_auto_topic_creation)) (nullable_array string ⊗ boolean)

-- A broker, in the reply of Metadata, version 0.
unfoldable pub metadata_broker_v0 : Codec MetadataBrokerV0
metadata_broker_v0 =
    via (λ p. record { node_id = p.0; host = p.1.0; port = p.1.1 }) (λ v. (v.node_id, (v.host, v.port))) (int32 ⊗ string ⊗ int32)

-- A topic, in the reply of Metadata, version 0.
unfoldable pub metadata_topic_v0 : Codec MetadataTopicV0
metadata_topic_v0 = via (λ p. record { error_code = p.0; name = p.1.0; partitions = p.1.1 }) (λ v.
    (v.error_code, (v.name, v.partitions))) (int16 ⊗ string ⊗ array metadata_partition)

-- The reply of Metadata, version 0.
unfoldable pub metadata_reply_v0 : Codec MetadataReplyV0
metadata_reply_v0 =
    via (λ p. record { brokers = p.0; topics = p.1 }) (λ v. (v.brokers, v.topics)) (array metadata_broker_v0 ⊗ array metadata_topic_v0)

-- The reply of Metadata, version 2.
unfoldable pub metadata_reply_v2 : Codec MetadataReplyV2
metadata_reply_v2 = via (λ p. record { brokers = p.0; cluster_id = p.1.0; controller_id = p.1.1.0; topics = p.1.1.1 }) (λ v.
    (v.brokers, (v.cluster_id, (v.controller_id, v.topics)))) (array metadata_broker ⊗ nullable_string ⊗ int32 ⊗ array metadata_topic)

-- The reply of Metadata, versions 3 and 4.
unfoldable pub metadata_reply_v3 : Codec MetadataReplyV3
metadata_reply_v3 = via (λ p. record {
  throttle_time_ms = p.0;
  brokers = p.1.0;
  cluster_id = p.1.1.0;
  controller_id = p.1.1.1.0;
  topics = p.1.1.1.1;
}) (λ v. (v.throttle_time_ms, (v.brokers, (v.cluster_id, (v.controller_id, v.topics)))))
    (int32 ⊗ array metadata_broker ⊗ nullable_string ⊗ int32 ⊗ array metadata_topic)

-- A request of CreateTopics, version 1.
unfoldable pub create_topics_request_v1 : Codec CreateTopicsRequestV1
create_topics_request_v1 = via (λ p. record { topics = p.0; timeout_ms = p.1.0; validate_only = p.1.1 }) (λ v.
    (v.topics, (v.timeout_ms, v.validate_only))) (array create_topic ⊗ int32 ⊗ boolean)

-- A topic, in the reply of CreateTopics, version 1.
unfoldable pub create_topic_reply_v1 : Codec CreateTopicReplyV1
create_topic_reply_v1 = via (λ p. record { name = p.0; error_code = p.1.0; error_message = p.1.1 }) (λ v.
    (v.name, (v.error_code, v.error_message))) (string ⊗ int16 ⊗ nullable_string)

-- The reply of CreateTopics, version 1.
unfoldable pub create_topics_reply_v1 : Codec CreateTopicsReplyV1
create_topics_reply_v1 = via (λ p. record { topics = p }) (λ v. v.topics) (array create_topic_reply_v1)

-- The reply of DeleteTopics, version 1.
unfoldable pub delete_topics_reply_v1 : Codec DeleteTopicsReplyV1
delete_topics_reply_v1 =
    via (λ p. record { throttle_time_ms = p.0; topics = p.1 }) (λ v. (v.throttle_time_ms, v.topics)) (int32 ⊗ array delete_topic_reply)

-- A resource, in a request of DescribeConfigs.
unfoldable pub config_resource : Codec ConfigResource
config_resource = via (λ p. record { resource_type = p.0; resource_name = p.1.0; configuration_keys = p.1.1 }) (λ v.
    (v.resource_type, (v.resource_name, v.configuration_keys))) (int8 ⊗ string ⊗ nullable_array string)

-- A request of DescribeConfigs, version 0.
unfoldable pub describe_configs_request : Codec DescribeConfigsRequest
describe_configs_request = via (λ p. record { resources = p }) (λ v. v.resources) (array config_resource)

-- A setting, in the reply of DescribeConfigs.
unfoldable pub described_config : Codec DescribedConfig
described_config = via (λ p. record {
  name = p.0;
  value = p.1.0;
  read_only = p.1.1.0;
  is_default = p.1.1.1.0;
  is_sensitive = p.1.1.1.1;
}) (λ v. (v.name, (v.value, (v.read_only, (v.is_default, v.is_sensitive)))))
    (string ⊗ nullable_string ⊗ boolean ⊗ boolean ⊗ boolean)

-- A resource, in the reply of DescribeConfigs.
unfoldable pub described_resource : Codec DescribedResource
described_resource = via (λ p. record {
  error_code = p.0;
  error_message = p.1.0;
  resource_type = p.1.1.0;
  resource_name = p.1.1.1.0;
  configs = p.1.1.1.1;
}) (λ v. (v.error_code, (v.error_message, (v.resource_type, (v.resource_name, v.configs)))))
    (int16 ⊗ nullable_string ⊗ int8 ⊗ string ⊗ array described_config)

-- The reply of DescribeConfigs, version 0.
unfoldable pub describe_configs_reply : Codec DescribeConfigsReply
describe_configs_reply =
    via (λ p. record { throttle_time_ms = p.0; results = p.1 }) (λ v. (v.throttle_time_ms, v.results)) (int32 ⊗ array described_resource)

-- A request of DescribeConfigs, versions 1 and 2.
unfoldable pub describe_configs_request_v1 : Codec DescribeConfigsRequestV1
describe_configs_request_v1 =
    via (λ p. record { resources = p.0; include_synonyms = p.1 }) (λ v. (v.resources, v.include_synonyms)) (array config_resource ⊗ boolean)

-- Another setting that a setting may have its value from, in the reply of DescribeConfigs, versions 1 and 2.
unfoldable pub config_synonym : Codec ConfigSynonym
config_synonym =
    via (λ p. record { name = p.0; value = p.1.0; source = p.1.1 }) (λ v. (v.name, (v.value, v.source))) (string ⊗ nullable_string ⊗ int8)

-- A setting, in the reply of DescribeConfigs, versions 1 and 2.
unfoldable pub described_config_v1 : Codec DescribedConfigV1
described_config_v1 = via (λ p. record {
  name = p.0;
  value = p.1.0;
  read_only = p.1.1.0;
  config_source = p.1.1.1.0;
  is_sensitive = p.1.1.1.1.0;
  synonyms = p.1.1.1.1.1;
}) (λ v. (v.name, (v.value, (v.read_only, (v.config_source, (v.is_sensitive, v.synonyms))))))
    (string ⊗ nullable_string ⊗ boolean ⊗ int8 ⊗ boolean ⊗ array config_synonym)

-- A resource, in the reply of DescribeConfigs, versions 1 and 2.
unfoldable pub described_resource_v1 : Codec DescribedResourceV1
described_resource_v1 = via (λ p. record {
  error_code = p.0;
  error_message = p.1.0;
  resource_type = p.1.1.0;
  resource_name = p.1.1.1.0;
  configs = p.1.1.1.1;
}) (λ v. (v.error_code, (v.error_message, (v.resource_type, (v.resource_name, v.configs)))))
    (int16 ⊗ nullable_string ⊗ int8 ⊗ string ⊗ array described_config_v1)

-- The reply of DescribeConfigs, versions 1 and 2.
unfoldable pub describe_configs_reply_v1 : Codec DescribeConfigsReplyV1
describe_configs_reply_v1 =
    via (λ p. record { throttle_time_ms = p.0; results = p.1 }) (λ v. (v.throttle_time_ms, v.results)) (int32 ⊗ array described_resource_v1)
