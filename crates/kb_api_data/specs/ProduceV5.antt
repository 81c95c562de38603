-- The reply of Produce from version 5 on, which tells where logs start (Kafka protocol guide, "The Messages: Produce").
use Rattle.std.proofs.Common.{refl}
use Rattle.kb_wire.specs.Codec.{Codec, int16, int32, int64, string, array, ◌⊗◌, via}
use Rattle.kb_wire.specs.Laws.{IsLawful, int16_lawful, int32_lawful, int64_lawful, string_lawful, array_lawful, pair_lawful, via_lawful}
use Rattle.kb_api_data.specs.declared.produce_v5.ProducePartitionReplyV5.{ProducePartitionReplyV5}
use Rattle.kb_api_data.specs.declared.produce_v5.ProduceTopicReplyV5.{ProduceTopicReplyV5}
use Rattle.kb_api_data.specs.declared.produce_v5.ProduceReplyV5.{ProduceReplyV5}

-- A partition: behind the append's time stands the offset that its log starts at.
unfoldable pub produce_partition_reply_v5 : Codec ProducePartitionReplyV5
produce_partition_reply_v5 = via (λ p. record {
  index = p.0;
  error_code = p.1.0;
  base_offset = p.1.1.0;
  log_append_time_ms = p.1.1.1.0;
  log_start_offset = p.1.1.1.1;
}) (λ v. (v.index, (v.error_code, (v.base_offset, (v.log_append_time_ms, v.log_start_offset)))))
    (int32 ⊗ int16 ⊗ int64 ⊗ int64 ⊗ int64)

-- A topic.
unfoldable pub produce_topic_reply_v5 : Codec ProduceTopicReplyV5
produce_topic_reply_v5 =
    via (λ p. record { name = p.0; partitions = p.1 }) (λ v. (v.name, v.partitions)) (string ⊗ array produce_partition_reply_v5)

-- The reply.
unfoldable pub produce_reply_v5 : Codec ProduceReplyV5
produce_reply_v5 =
    via (λ p. record { topics = p.0; throttle_time_ms = p.1 }) (λ v. (v.topics, v.throttle_time_ms)) (array produce_topic_reply_v5 ⊗ int32)

pub produce_partition_reply_v5_lawful : IsLawful produce_partition_reply_v5
unfolding produce_partition_reply_v5
produce_partition_reply_v5_lawful = via_lawful _ _ (pair_lawful int32_lawful
    (pair_lawful int16_lawful (pair_lawful int64_lawful (pair_lawful int64_lawful int64_lawful)))) (λ _. refl) (λ _. refl)

pub produce_topic_reply_v5_lawful : IsLawful produce_topic_reply_v5
unfolding produce_topic_reply_v5
produce_topic_reply_v5_lawful =
    via_lawful _ _ (pair_lawful string_lawful (array_lawful _ produce_partition_reply_v5_lawful)) (λ _. refl) (λ _. refl)

pub produce_reply_v5_lawful : IsLawful produce_reply_v5
unfolding produce_reply_v5
produce_reply_v5_lawful = via_lawful _ _ (pair_lawful (array_lawful _ produce_topic_reply_v5_lawful) int32_lawful) (λ _. refl) (λ _. refl)
