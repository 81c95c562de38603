-- Requests of Fetch from version 7 on, which name a fetch session (Kafka protocol guide, "The Messages: Fetch").
use Rattle.std.proofs.Common.{refl}
use Rattle.std.specs.Prelude.{List, ℕ}
use Rattle.kb_wire.specs.Codec.{Codec, int8, int32, int64, string, array, ◌⊗◌, via}
use Rattle.kb_wire.specs.Laws.{IsLawful, int8_lawful, int32_lawful, int64_lawful, string_lawful, array_lawful, pair_lawful, via_lawful}
use Rattle.kb_api_data.specs.Both.{both, both_lawful}
use Rattle.kb_api_data.specs.declared.fetch_v7.FetchPartitionV9.{FetchPartitionV9}
use Rattle.kb_api_data.specs.declared.fetch_v7.FetchRequestV7.{FetchRequestV7}

-- A partition, in a request of version 9.
unfoldable pub fetch_partition_v9 : Codec FetchPartitionV9
fetch_partition_v9 = via (λ p. record {
  partition = p.0;
  current_leader_epoch = p.1.0;
  fetch_offset = p.1.1.0;
  log_start_offset = p.1.1.1.0;
  partition_max_bytes = p.1.1.1.1;
}) (λ v. (v.partition, (v.current_leader_epoch, (v.fetch_offset, (v.log_start_offset, v.partition_max_bytes)))))
    (int32 ⊗ int32 ⊗ int64 ⊗ int64 ⊗ int32)

-- A request with topics of some version. Behind the isolation level it has a session's id and epoch, and behind the topics those that
-- the session is to forget partitions of.
unfoldable pub fetch_request_v7 : {T : Type 0} → Codec T → Codec (FetchRequestV7 T)
fetch_request_v7 topic = via (λ p. record {
  replica_id = p.0;
  max_wait_ms = p.1.0;
  min_bytes = p.1.1.0;
  max_bytes = p.1.1.1.0;
  isolation_level = p.1.1.1.1.0;
  session_id = p.1.1.1.1.1.0;
  session_epoch = p.1.1.1.1.1.1.0;
  topics = p.1.1.1.1.1.1.1.0;
  forgotten_topics_data = p.1.1.1.1.1.1.1.1;
}) (λ v. (
  v.replica_id,
  (
    v.max_wait_ms,
    (
      v.min_bytes,
      (
        v.max_bytes,
        (
          v.isolation_level,
          (v.session_id, (v.session_epoch, (v.topics, v.forgotten_topics_data))),
        ),
      ),
    ),
  ),
))
    (int32 ⊗ int32 ⊗ int32 ⊗ int32 ⊗ int8 ⊗ int32 ⊗ int32 ⊗ array topic ⊗ array (both string (array int32)))

pub fetch_partition_v9_lawful : IsLawful fetch_partition_v9
unfolding fetch_partition_v9
fetch_partition_v9_lawful = via_lawful _ _ (pair_lawful int32_lawful
    (pair_lawful int32_lawful (pair_lawful int64_lawful (pair_lawful int64_lawful int32_lawful)))) (λ _. refl) (λ _. refl)

pub fetch_request_v7_lawful : {T : Type 0} {topic : Codec T} → IsLawful topic → IsLawful (fetch_request_v7 topic)
unfolding fetch_request_v7
fetch_request_v7_lawful lawful = via_lawful _ _ (pair_lawful int32_lawful
    (pair_lawful int32_lawful (pair_lawful int32_lawful (pair_lawful int32_lawful
    (pair_lawful int8_lawful (pair_lawful int32_lawful (pair_lawful int32_lawful (pair_lawful (array_lawful _ lawful)
    (array_lawful _ (both_lawful string_lawful (array_lawful _ int32_lawful))))))))))) (λ _. refl) (λ _. refl)
