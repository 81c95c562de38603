-- What a client finds in a reply.
use Rattle.std.specs.Prelude.{◌≡◌, ◌==◌, ◌&&◌, if◌then◌else◌, ℕ, ℤ, List, Result, Ok, Err}
use Rattle.std.specs.Ordering.{int_eq}
use Rattle.std.specs.Int.{w32}
use Rattle.kb_wire.specs.declared.fault.WireFault.{WireFault}
use Rattle.kb_wire.specs.declared.fault.WireFault.TheVariants.{Bad}
use Rattle.kb_wire.specs.Codec.{Codec, int16, int32, string, count, whole, ◌⊗◌, ◌>>=◌}
use Rattle.kb_api_group.specs.Layouts.{sasl_authenticate_reply}
use Rattle.kb_api_data.specs.Layouts.{produce_partition_reply, init_producer_id_reply}
use Rattle.kb_api_data.specs.declared.produce.ProducePartitionReply.{ProducePartitionReply}
use Rattle.kb_client.specs.declared.stage.ProducerId.{ProducerId}

-- what stands behind the correlation id, if it is that of the request
abbrev pub body_for : ℤ → List ℕ → Result (List ℕ) WireFault
body_for id frame = int32.read frame >>= λ x. if int_eq x.0 id then Ok x.1 else Err Bad

-- SaslHandshake: the code, whatever mechanisms follow
abbrev pub handshake_code : List ℕ → Result ℤ WireFault
handshake_code body = int16.read body >>= λ x. Ok x.0

-- SaslAuthenticate: the code
abbrev pub authenticate_code : List ℕ → Result ℤ WireFault
authenticate_code body = whole sasl_authenticate_reply body >>= λ reply. Ok reply.error_code

-- CreateTopics of one topic: an array of one name with its code
abbrev pub one_topic : Codec (ℕ × (List ℕ × ℤ))
one_topic = count w32 ⊗ string ⊗ int16

abbrev pub create_code : List ℕ → Result ℤ WireFault
create_code body = whole one_topic body >>= λ v. if v.0 == 1 then Ok v.1.1 else Err Bad

-- InitProducerId: the code, and the id with its epoch
abbrev pub identity : List ℕ → Result (ℤ × ProducerId) WireFault
identity body =
    whole init_producer_id_reply body >>= λ reply. Ok (reply.error_code, record { id = reply.producer_id; epoch = reply.producer_epoch })

-- Produce for one partition: an array of one topic, which has an array of one partition
abbrev pub one_partition : Codec (ℕ × (List ℕ × (ℕ × (ProducePartitionReply × ℤ))))
one_partition = count w32 ⊗ string ⊗ count w32 ⊗ produce_partition_reply ⊗ int32

abbrev pub produce_code : List ℕ → Result ℤ WireFault
produce_code body = whole one_partition body >>= λ v. if (v.0 == 1) && (v.1.1.0 == 1) then Ok v.1.1.1.0.error_code else Err Bad

-- the partition in front, and what stands behind it
abbrev pub PartitionAt : List ℕ → Result ProducePartitionReply WireFault → List ℕ → Type 0
PartitionAt before (Ok reply) after = produce_partition_reply.read before ≡ Ok (reply, after)
PartitionAt before (Err fault) after = produce_partition_reply.read before ≡ Err fault
