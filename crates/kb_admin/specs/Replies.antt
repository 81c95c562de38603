-- What a session finds in a reply.
use Rattle.std.specs.Prelude.{ℕ, ℤ, List, [], ◌∷◌, length, map, Result, Ok, Err}
use Rattle.kb_wire.specs.declared.fault.WireFault.{WireFault}
use Rattle.kb_wire.specs.declared.fault.WireFault.TheVariants.{Bad}
use Rattle.kb_wire.specs.Codec.{whole, ◌>>=◌}
use Rattle.kb_api_group.specs.Layouts.{sasl_handshake_reply, sasl_authenticate_reply}
use Rattle.kb_api_data.specs.Layouts.{create_topics_reply, delete_topics_reply, metadata_reply}
use Rattle.kb_api_data.specs.declared.create_topics.CreateTopicReply.{CreateTopicReply}
use Rattle.kb_api_data.specs.declared.delete_topics.DeleteTopicReply.{DeleteTopicReply}
use Rattle.kb_api_data.specs.declared.metadata.MetadataTopic.{MetadataTopic}
use Rattle.kb_admin.specs.Outcomes.{Topic}

-- SaslHandshake: the code
abbrev pub handshake_code : List ℕ → Result ℤ WireFault
handshake_code body = whole sasl_handshake_reply body >>= λ reply. Ok reply.error_code

-- SaslAuthenticate: the code
abbrev pub authenticate_code : List ℕ → Result ℤ WireFault
authenticate_code body = whole sasl_authenticate_reply body >>= λ reply. Ok reply.error_code

-- the code of the only topic
abbrev pub sole_created : List CreateTopicReply → Result ℤ WireFault
sole_created [] = Err Bad
sole_created (topic ∷ []) = Ok topic.error_code
sole_created (topic ∷ other ∷ others) = Err Bad

abbrev pub sole_deleted : List DeleteTopicReply → Result ℤ WireFault
sole_deleted [] = Err Bad
sole_deleted (topic ∷ []) = Ok topic.error_code
sole_deleted (topic ∷ other ∷ others) = Err Bad

-- CreateTopics: the code of the topic that was asked for
abbrev pub created_code : List ℕ → Result ℤ WireFault
created_code body = whole create_topics_reply body >>= λ reply. sole_created reply.topics

-- DeleteTopics: the code of the topic that was asked for
abbrev pub deleted_code : List ℕ → Result ℤ WireFault
deleted_code body = whole delete_topics_reply body >>= λ reply. sole_deleted reply.topics

-- what Metadata says of a topic
abbrev pub as_topic : MetadataTopic → Topic
as_topic t = record { name = t.name; partitions = length t.partitions; error_code = t.error_code }

-- Metadata: its topics, in order
abbrev pub listed_topics : List ℕ → Result (List Topic) WireFault
listed_topics body = whole metadata_reply body >>= λ reply. Ok (map as_topic reply.topics)
