-- What each entry of a request is answered, whatever memory and the store refuse: what is defined, or else a code that names
-- what refused it.
use Rattle.std.specs.Prelude.{◌≡◌, ◌≤◌, ◌+◌, ◌^◌, ◌++◌, ◌⊎◌, ℕ, ℤ, pos, Bool, true, false, List, [], Option, Ok, Err, OnErr, ⊤}
use Rattle.std.specs.List.{AllZip}
use Rattle.kb_wire.specs.Codec.{whole}
use Rattle.kb_api_data.specs.Layouts.{delete_topics_request, init_producer_id_reply, init_producer_id_request}
use Rattle.kb_api_data.specs.Layouts.{produce_request}
use Rattle.kb_api_data.specs.Layouts.{delete_records_reply, delete_records_request}
use Rattle.kb_api_data.specs.declared.create_topics.CreateTopic.{CreateTopic}
use Rattle.kb_api_data.specs.declared.create_topics.CreateTopicReply.{CreateTopicReply}
use Rattle.kb_api_data.specs.declared.create_topics_v1.CreateTopicsRequestV1.{CreateTopicsRequestV1}
use Rattle.kb_api_data.specs.declared.delete_records.DeleteRecordsPartition.{DeleteRecordsPartition}
use Rattle.kb_api_data.specs.declared.delete_records.DeleteRecordsPartitionReply.{DeleteRecordsPartitionReply}
use Rattle.kb_api_data.specs.declared.delete_records.DeleteRecordsReply.{DeleteRecordsReply}
use Rattle.kb_api_data.specs.declared.delete_records.DeleteRecordsRequest.{DeleteRecordsRequest}
use Rattle.kb_api_data.specs.declared.delete_records.DeleteRecordsTopic.{DeleteRecordsTopic}
use Rattle.kb_api_data.specs.declared.delete_records.DeleteRecordsTopicReply.{DeleteRecordsTopicReply}
use Rattle.kb_api_data.specs.declared.delete_topics.DeleteTopicsRequest.{DeleteTopicsRequest}
use Rattle.kb_api_data.specs.declared.delete_topics.DeleteTopicReply.{DeleteTopicReply}
use Rattle.kb_api_data.specs.declared.fetch.FetchPartition.{FetchPartition}
use Rattle.kb_api_data.specs.declared.fetch.FetchRequest.{FetchRequest}
use Rattle.kb_api_data.specs.declared.fetch.FetchTopic.{FetchTopic}
use Rattle.kb_api_data.specs.declared.fetch_v5.FetchPartitionReplyV5.{FetchPartitionReplyV5}
use Rattle.kb_api_data.specs.declared.fetch_v5.FetchReplyV5.{FetchReplyV5}
use Rattle.kb_api_data.specs.declared.fetch_v5.FetchTopicReplyV5.{FetchTopicReplyV5}
use Rattle.kb_api_data.specs.declared.init_producer_id.InitProducerIdReply.{InitProducerIdReply}
use Rattle.kb_api_data.specs.declared.init_producer_id.InitProducerIdRequest.{InitProducerIdRequest}
use Rattle.kb_api_data.specs.declared.list_offsets.ListOffsetsPartition.{ListOffsetsPartition}
use Rattle.kb_api_data.specs.declared.list_offsets.ListOffsetsPartitionReply.{ListOffsetsPartitionReply}
use Rattle.kb_api_data.specs.declared.list_offsets.ListOffsetsReply.{ListOffsetsReply}
use Rattle.kb_api_data.specs.declared.list_offsets.ListOffsetsRequest.{ListOffsetsRequest}
use Rattle.kb_api_data.specs.declared.list_offsets.ListOffsetsTopic.{ListOffsetsTopic}
use Rattle.kb_api_data.specs.declared.list_offsets.ListOffsetsTopicReply.{ListOffsetsTopicReply}
use Rattle.kb_api_data.specs.declared.produce.ProducePartition.{ProducePartition}
use Rattle.kb_api_data.specs.declared.produce_v5.ProducePartitionReplyV5.{ProducePartitionReplyV5}
use Rattle.kb_api_data.specs.declared.produce.ProduceTopic.{ProduceTopic}
use Rattle.kb_api_data.specs.declared.produce_v5.ProduceTopicReplyV5.{ProduceTopicReplyV5}
use Rattle.kb_api_data.specs.declared.produce.ProduceRequest.{ProduceRequest}
use Rattle.kb_api_data.specs.declared.produce_v5.ProduceReplyV5.{ProduceReplyV5}
use Rattle.kb_wire.specs.ErrorCode.{code_of}
use Rattle.kb_wire.specs.declared.error_code.ErrorCode.TheVariants as codes
use Rattle.kb_api_group.specs.Layouts.{offset_commit_reply}
use Rattle.kb_api_group.specs.declared.offset_commit.OffsetCommitReply.{OffsetCommitReply}
use Rattle.kb_api_group.specs.declared.offset_commit.OffsetCommitRequest.{OffsetCommitRequest}
use Rattle.kb_api_group.specs.declared.offset_commit.CommitPartition.{CommitPartition}
use Rattle.kb_api_group.specs.declared.offset_commit.CommitPartitionReply.{CommitPartitionReply}
use Rattle.kb_api_group.specs.declared.offset_commit.CommitTopic.{CommitTopic}
use Rattle.kb_api_group.specs.declared.offset_commit.CommitTopicReply.{CommitTopicReply}
use Rattle.kb_store.specs.Disk.{Grew}
use Rattle.kb_tenant_state.specs.Scene.{Scene, WhereHonest}
use Rattle.kb_tenant_state.specs.declared.fault.PartitionFault.{PartitionFault}
use Rattle.kb_tenant_state.specs.declared.fault.PartitionFault.TheVariants as partition
use Rattle.kb_tenant_state.specs.Parts.{Seen}
use Rattle.kb_topics.specs.CatalogFault.{code_of as fault_code}
use Rattle.kb_topics.specs.declared.fault.CatalogFault.{CatalogFault}
use Rattle.kb_tenant_state.specs.Told.{AreInstancesUsedUp, IsDone, IsLeft, IsLogFull, IsRefused}
use Rattle.kb_topics.specs.Known.{named}
use Rattle.kb_tenant_state.specs.World.{World}
use Rattle.kb_tenant_state.specs.declared.topic_partition.TopicPartition.{TopicPartition}
use Rattle.kb_tenant.specs.CreateTopics.{asked_creations, created_topic, creations_in}
use Rattle.kb_tenant.specs.DeleteRecords.{deletion_answered, deleted}
use Rattle.kb_tenant.specs.DeleteTopics.{deleted_topic, deletions_in}
use Rattle.kb_tenant.specs.Entries.{commit_entries, create_topics_entries, delete_records_entries, delete_topics_entries, within}
use Rattle.kb_tenant.specs.Fetch.{Limits, asked_code, asked_fetch, begun, bounded, deadline_of, fetch_answered, fetched_as, is_ready, places_of}
use Rattle.kb_tenant.specs.Fetch.{refused, reply_written}
use Rattle.kb_tenant.specs.FetchWait.{FetchWait}
use Rattle.kb_tenant.specs.InitProducerId.{id_refused, init_producer_id}
use Rattle.kb_tenant.specs.ListOffsets.{asked_listing, listed, listing_in, offset_refused}
use Rattle.kb_tenant.specs.OffsetCommit.{asked_commit, committed_entry, refusal_of as commit_refusal}
use Rattle.kb_tenant.specs.Produce.{Progress, answer, progress, refusal_of, entry_served, produced_in, tells_starts}
use Rattle.kb_tenant.specs.Replies.{framed}
use Rattle.kb_tenant.specs.Room.{reply_length}
use Rattle.kb_tenant.specs.Turns.{AreFirstServed, AreServed, AreServedInto}
use Rattle.kb_tenant.specs.declared.answer.Answer.{Answer}
use Rattle.kb_tenant.specs.declared.answer.Answer.TheVariants as answers
use Rattle.kb_tenant.specs.declared.fetch.waiting.Fetching.{Fetching}
use Rattle.kb_tenant.specs.declared.fetch.waiting.Fetching.TheVariants as fetching
use Rattle.kb_tenant.specs.declared.limits.DataLimits.{DataLimits}

-- An entry did what is defined, or was refused for a want.
abbrev pub IsTold : Scene Seen → Scene Seen → Type 0 → Type 0 → Type 0
IsTold a b P Want = IsDone a b P ⊎ IsRefused a b Want

-- The code is that of a fault of the catalog, which there was a want for.
pub record IsFaultOf (Want : CatalogFault → Type 0) (code : ℤ) : Type 0 where
  pub fault : CatalogFault
  pub told : code ≡ fault_code fault
  pub want : Want fault

-- A deletion did what is defined, also where the removal of a file or a look at a size was refused.
abbrev pub IsDeleted : Scene Seen → Scene Seen → Type 0 → Type 0
IsDeleted a b P = IsDone a b P ⊎ IsLeft a b P

-- A deletion did what is defined, or was refused for a want. A file is left behind only where it is answered with no error.
abbrev pub IsDeletionTold : Scene Seen → Scene Seen → ℤ → Type 0 → Type 0 → Type 0
IsDeletionTold a b code P Want = IsTold a b P Want ⊎ ((code ≡ code_of codes.None) × IsLeft a b P)

-- A code that is answered for a want: KAFKA_STORAGE_ERROR where the catalog's log or its store failed, which it did, and
-- UNKNOWN_SERVER_ERROR where memory ran out.
abbrev pub IsWantCode : Type 0 → ℤ → Type 0
IsWantCode failed code = ((code ≡ code_of codes.KafkaStorageError) × failed) ⊎ (code ≡ code_of codes.UnknownServerError)

-- ---- topics, producer ids and committed offsets

-- A topic is made, or is refused as is defined; or it is refused for a want, and nothing changes.
abbrev pub IsCreationTold : Type 0 → DataLimits → List CreateTopic → World → CreateTopic → World → CreateTopicReply → Type 0
IsCreationTold failed limits ts w t v x =
    ((v, x) ≡ created_topic limits ts w t) ⊎ ((v ≡ w) × ((x.name ≡ t.name) × IsWantCode failed x.error_code))

-- The same of a topic's deletion.
abbrev pub IsRemovalTold : Type 0 → World × List TopicPartition → List ℕ → World × List TopicPartition → DeleteTopicReply → Type 0
IsRemovalTold failed s name t x = ((t, x) ≡ deleted_topic s name) ⊎ ((t ≡ s) × ((x.name ≡ name) × IsWantCode failed x.error_code))

-- The same of an id.
abbrev pub IsIssueTold : Type 0 → World → InitProducerIdRequest → World → InitProducerIdReply → Type 0
IsIssueTold failed w q v x = ((v, x) ≡ init_producer_id w q) ⊎ ((v ≡ w) × ((x ≡ id_refused x.error_code) × IsWantCode failed x.error_code))

-- The same of an offset that a group commits.
abbrev pub IsCommitTold : Type 0 → DataLimits → Option ℤ → List ℕ → Option ℕ → World → CommitPartition → World → CommitPartitionReply → Type 0
IsCommitTold failed limits refusal group topic w e v x =
    ((v, x) ≡ committed_entry limits refusal group topic w e) ⊎ ((v ≡ w) × ((x.partition ≡ e.partition) × IsWantCode failed x.error_code))

-- The same of a topic's offsets, one after another.
abbrev pub IsCommitTopicTold : Type 0 → DataLimits → Option ℤ → List ℕ → World → CommitTopic → World → CommitTopicReply → Type 0
IsCommitTopicTold failed limits refusal group w t v x =
    (x.name ≡ t.name) × AreServed (IsCommitTold failed limits refusal group (named t.name w.known.topics)) w t.partitions v x.partitions

-- ---- Produce

-- The store's failures grew from one count to another, or that next file number is past the last.
abbrev pub FailedBy : ℕ → ℕ → ℕ → Type 0
FailedBy before now next = Grew before now ⊎ (2 ^ 64 ≤ next)

-- they grew from one moment to another, or no file number is left then
abbrev pub HasFailed : Scene Seen → Scene Seen → Type 0
HasFailed a b = FailedBy a.disk.failures b.disk.failures b.next

-- KAFKA_STORAGE_ERROR is answered where the store failed, and UNKNOWN_SERVER_ERROR where memory ran out.
abbrev pub IsCodeWant : Scene Seen → Scene Seen → ℤ → Type 0
IsCodeWant a b code =
    ((code ≡ code_of codes.KafkaStorageError) × WhereHonest a b (HasFailed a b)) ⊎ (code ≡ code_of codes.UnknownServerError)

-- a batch that was refused is told nowhere
abbrev pub IsAppendWant : Scene Seen → Scene Seen → List TopicPartition → List TopicPartition → ℤ → Type 0
IsAppendWant a b old new code = IsCodeWant a b code × (new ≡ old)

-- The store failed, or the catalog's log has no room for a command in the end.
abbrev pub CatalogFailed : Scene Seen → Scene Seen → Type 0
CatalogFailed a b = HasFailed a b ⊎ IsLogFull b

-- The same of topics that are to be made, which are refused also where each instance was given out in the end.
abbrev pub CreationFailed : Scene Seen → Scene Seen → Type 0
CreationFailed a b = CatalogFailed a b ⊎ AreInstancesUsedUp b

-- An entry is refused since the store failed, which it did, or for want of memory.
abbrev pub IsWanting : Type 0 → ProducePartition → ProducePartitionReplyV5 → Type 0
IsWanting failed e x =
    ((x ≡ answer e.index (Err (code_of codes.KafkaStorageError))) × failed) ⊎ (x ≡ answer e.index (Err (code_of codes.UnknownServerError)))

-- An entry does what is defined, on what those before it left; or it is refused for such a want, and changes nothing.
abbrev pub IsEntryTold : Type 0 → Option ℕ → Option ℤ → Option ℕ → Progress → ProducePartition → Progress → ProducePartitionReplyV5
    → Type 0
IsEntryTold failed limit refusal topic p e q x = ((q, x) ≡ entry_served limit refusal topic p e) ⊎ ((q ≡ p) × IsWanting failed e x)

abbrev pub IsTopicTold : Type 0 → Option ℕ → Option ℤ → Progress → ProduceTopic → Progress → ProduceTopicReplyV5 → Type 0
IsTopicTold failed limit refusal p t q x =
    (x.name ≡ t.name) × AreServed (IsEntryTold failed limit refusal (named t.name p.world.known.topics)) p t.partitions q x.partitions

-- A produce, whose entries are so told one after another, comes to that reply.
abbrev pub IsProduceTold : Type 0 → Option ℕ → Progress → ProduceRequest → Progress → ProduceReplyV5 → Type 0
IsProduceTold failed limit p r q reply =
    AreServed (IsTopicTold failed limit (refusal_of r.transactional_id r.acks)) p r.topics q reply.topics
    × (reply.throttle_time_ms ≡ pos 0)

-- Its answer is that reply's bytes in a version of the API, or none where none is due. Where the connection is shut, nothing has changed, or
-- the entries are so told.
abbrev pub IsAcknowledged : Type 0 → Option ℕ → (id version : ℤ) → World → ProduceRequest → World → List TopicPartition → Answer → Type 0
IsAcknowledged failed limit id version w r v touched (answers.Reply bytes) =
    (reply : ProduceReplyV5) × ((bytes.items ≡ framed id (produced_in version reply))
    × IsProduceTold failed limit (progress w []) r (progress v touched) reply)
IsAcknowledged failed limit id version w r v touched (answers.Wait deadline fetch keys) = ⊥
IsAcknowledged failed limit id version w r v touched answers.NoReply =
    (reply : ProduceReplyV5) × IsProduceTold failed limit (progress w []) r (progress v touched) reply
IsAcknowledged failed limit id version w r v touched answers.Shut =
    (v ≡ w) ⊎ ((reply : ProduceReplyV5) × IsProduceTold failed limit (progress w []) r (progress v touched) reply)

-- The same of a body, where it is a request of Produce.
abbrev pub Acknowledges : Type 0 → Option ℕ → (id version : ℤ) → World → List ℕ → World → List TopicPartition → Answer → Type 0
Acknowledges failed limit id version w body v touched a =
    (r : ProduceRequest) → whole produce_request body ≡ Ok r → IsAcknowledged failed limit id version w r v touched a

-- A produce after which the connection is shut has changed nothing, unless its reply is too long for the INT32 of its size.
abbrev pub IsSpared : ℤ → World → List ℕ → World → Answer → Type 0
IsSpared version w body v (answers.Reply bytes) = ⊤
IsSpared version w body v (answers.Wait deadline fetch keys) = ⊤
IsSpared version w body v answers.NoReply = ⊤
IsSpared version w body v answers.Shut = (v ≡ w)
    ⊎ ((r : ProduceRequest) × ((whole produce_request body ≡ Ok r) × (2 ^ 31 ≤ 4 + reply_length (tells_starts version) r)))

-- ---- replies

-- The answer is a reply whose body tells that, or the connection is shut.
abbrev pub IsReplied : ℤ → (List ℕ → Type 0) → Answer → Type 0
IsReplied id Told (answers.Reply bytes) = (body : List ℕ) × ((bytes.items ≡ framed id body) × Told body)
IsReplied id Told (answers.Wait deadline fetch keys) = ⊥
IsReplied id Told answers.NoReply = ⊥
IsReplied id Told answers.Shut = ⊤

-- The answer is a reply whose body tells that; or the connection is shut, and then something else is told.
abbrev pub IsRepliedOrCut : ℤ → (List ℕ → Type 0) → Type 0 → Answer → Type 0
IsRepliedOrCut id Told Cut (answers.Reply bytes) = (body : List ℕ) × ((bytes.items ≡ framed id body) × Told body)
IsRepliedOrCut id Told Cut (answers.Wait deadline fetch keys) = ⊥
IsRepliedOrCut id Told Cut answers.NoReply = ⊥
IsRepliedOrCut id Told Cut answers.Shut = Cut

-- The connection is shut, and the tenant's topics and logs are as they were.
abbrev pub IsShutUnchanged : World → World → Answer → Type 0
IsShutUnchanged w v a = (a ≡ answers.Shut) × (v ≡ w)

-- The connection is shut, and nothing has changed.
abbrev pub IsTurnedAway : World → World → List TopicPartition → Answer → Type 0
IsTurnedAway w v touched a = (a ≡ answers.Shut) × ((v ≡ w) × (touched ≡ []))

-- It is the reply of a CreateTopics, whose topics are so told one after another.
abbrev pub TellsCreations : Type 0 → DataLimits → ℤ → World → CreateTopicsRequestV1 → World → List ℕ → Type 0
TellsCreations failed limits version w q v body = (replies : List CreateTopicReply)
    × ((body ≡ creations_in version (record { topics = replies })) × AreServed (IsCreationTold failed limits q.topics) w q.topics v replies)

-- The first topics of a CreateTopics, so many, are so told, and nothing else has changed.
abbrev pub AreCreationsCut : Type 0 → DataLimits → World → CreateTopicsRequestV1 → World → Type 0
AreCreationsCut failed limits w q v = AreFirstServed (IsCreationTold failed limits q.topics) w q.topics v

-- A CreateTopics is so told, also where the connection is shut. One that is only to be checked changes nothing.
abbrev pub AreCreationsTold : Type 0 → DataLimits → ℤ → ℤ → World → CreateTopicsRequestV1 → World → Answer → Type 0
AreCreationsTold failed limits id version w q v a =
    (q.validate_only ≡ false → IsRepliedOrCut id (TellsCreations failed limits version w q v) (AreCreationsCut failed limits w q v) a)
    × (q.validate_only ≡ true → v ≡ w)

-- The same of a body, where it is a request of CreateTopics. One that is none, or that names more topics than a limit allows, is turned
-- away.
abbrev pub AcknowledgesCreations : Type 0 → DataLimits → ℤ → ℤ → World → List ℕ → World → Answer → Type 0
AcknowledgesCreations failed limits id version w body v a =
    let read = asked_creations version body in
    ((q : CreateTopicsRequestV1) → read ≡ Ok q → AreCreationsTold failed limits id version w q v a)
    × OnErr (within limits.request_entries create_topics_entries read) (IsShutUnchanged w v a)

-- It is the reply of a DeleteTopics.
abbrev pub TellsRemovals : Type 0 → ℤ → World → DeleteTopicsRequest → World → List TopicPartition → List ℕ → Type 0
TellsRemovals failed version w q v touched body = (replies : List DeleteTopicReply)
    × ((body ≡ deletions_in version (record { topics = replies })) × AreServed (IsRemovalTold failed) (w, []) q.names (v, touched) replies)

-- The first names of a DeleteTopics, so many, are so told, and nothing else has changed.
abbrev pub AreRemovalsCut : Type 0 → World × List TopicPartition → DeleteTopicsRequest → World × List TopicPartition → Type 0
AreRemovalsCut failed s q t = AreFirstServed (IsRemovalTold failed) s q.names t

-- The same of a body, where it is a request of DeleteTopics, also where the connection is shut. One that is none, or that names more topics
-- than a limit allows, is turned away.
abbrev pub AcknowledgesRemovals : Type 0 → Option ℕ → ℤ → ℤ → World → List ℕ → World → List TopicPartition → Answer → Type 0
AcknowledgesRemovals failed limit id version w body v touched a =
    let read = whole delete_topics_request body in
    ((q : DeleteTopicsRequest) → read ≡ Ok q
    → IsRepliedOrCut id (TellsRemovals failed version w q v touched) (AreRemovalsCut failed (w, []) q (v, touched)) a)
    × OnErr (within limit delete_topics_entries read) (IsTurnedAway w v touched a)

-- It is the reply of an InitProducerId.
abbrev pub TellsIssue : Type 0 → World → InitProducerIdRequest → World → List ℕ → Type 0
TellsIssue failed w q v body =
    (reply : InitProducerIdReply) × ((body ≡ init_producer_id_reply.written reply) × IsIssueTold failed w q v reply)

-- No id was given out, or the one that is defined; and nothing else has changed.
abbrev pub IsIssueCut : World → InitProducerIdRequest → World → Type 0
IsIssueCut w q v = (v ≡ w) ⊎ (v ≡ (init_producer_id w q).0)

-- The same of a body, where it is a request of InitProducerId, also where the connection is shut. One that is none is turned away.
abbrev pub AcknowledgesIssue : Type 0 → ℤ → World → List ℕ → World → Answer → Type 0
AcknowledgesIssue failed id w body v a =
    let read = whole init_producer_id_request body in
    ((q : InitProducerIdRequest) → read ≡ Ok q → IsRepliedOrCut id (TellsIssue failed w q v) (IsIssueCut w q v) a)
    × OnErr read (IsShutUnchanged w v a)

-- It is the reply of an OffsetCommit, where groups have no members.
abbrev pub TellsCommits : Type 0 → DataLimits → World → OffsetCommitRequest → World → List ℕ → Type 0
TellsCommits failed limits w q v body =
    (reply : OffsetCommitReply) × ((body ≡ offset_commit_reply.written reply)
    × AreServed (IsCommitTopicTold failed limits (commit_refusal q.group_id q.generation_id) q.group_id) w q.topics v reply.topics)

-- The first entries of a topic, so many, are so told, and nothing else has changed.
abbrev pub IsCommitTopicCut : Type 0 → DataLimits → Option ℤ → List ℕ → World → CommitTopic → World → Type 0
IsCommitTopicCut failed limits refusal group w t v =
    AreFirstServed (IsCommitTold failed limits refusal group (named t.name w.known.topics)) w t.partitions v

-- The first topics of an OffsetCommit, so many, are so told, and of the one behind them the first entries; nothing else has changed.
abbrev pub AreCommitsCut : Type 0 → DataLimits → Option ℤ → World → OffsetCommitRequest → World → Type 0
AreCommitsCut failed limits refusal w q v =
    AreServedInto (IsCommitTopicTold failed limits refusal q.group_id) (IsCommitTopicCut failed limits refusal q.group_id) w q.topics v

-- The same of a body, where it is a request of OffsetCommit of a version, also where the connection is shut. One that is none, or that has
-- more entries than a limit allows, is turned away.
abbrev pub AcknowledgesCommits : Type 0 → DataLimits → (id version : ℤ) → World → List ℕ → World → Answer → Type 0
AcknowledgesCommits failed limits id version w body v a =
    let read = asked_commit version body in
    ((q : OffsetCommitRequest) → read ≡ Ok q → IsRepliedOrCut id (TellsCommits failed limits w q v)
    (AreCommitsCut failed limits (commit_refusal q.group_id q.generation_id) w q v) a)
    × OnErr (within limits.request_entries commit_entries read) (IsShutUnchanged w v a)

-- ---- DeleteRecords

-- A partition's answer is a refusal's, for a fault that there was a want for.
pub record IsRefusalFor (Want : PartitionFault → Type 0) (partition : ℤ) (x : DeleteRecordsPartitionReply) : Type 0 where
  pub fault : PartitionFault
  pub told : x ≡ deletion_answered partition (Err fault)
  pub want : Want fault

-- An entry is refused since the store or the catalog's log failed, which it did, or for want of memory.
abbrev pub IsUntrimmed : Type 0 → DeleteRecordsPartition → DeleteRecordsPartitionReply → Type 0
IsUntrimmed failed e x =
    ((x ≡ deletion_answered e.partition (Err partition.Store)) × failed) ⊎ (x ≡ deletion_answered e.partition (Err partition.Memory))

-- An entry of the topic of an instance does what is defined, on what those before it left; or it is refused for such a want, and
-- changes nothing.
abbrev pub IsTrimTold : Type 0 → Option ℕ → World × List TopicPartition → DeleteRecordsPartition → World × List TopicPartition
    → DeleteRecordsPartitionReply
    → Type 0
IsTrimTold failed topic s e t x = ((t, x) ≡ deleted topic s e) ⊎ ((t ≡ s) × IsUntrimmed failed e x)

-- The same of a topic's entries, one after another.
abbrev pub IsTrimTopicTold : Type 0 → World × List TopicPartition → DeleteRecordsTopic → World × List TopicPartition
    → DeleteRecordsTopicReply → Type 0
IsTrimTopicTold failed s e t x =
    (x.name ≡ e.name) × AreServed (IsTrimTold failed (named e.name s.0.known.topics)) s e.partitions t x.partitions

-- The same of a request's topics.
abbrev pub AreTrimsTold : Type 0 → World × List TopicPartition → DeleteRecordsRequest → World × List TopicPartition → DeleteRecordsReply
    → Type 0
AreTrimsTold failed s q t x = (x.throttle_time_ms ≡ pos 0) × AreServed (IsTrimTopicTold failed) s q.topics t x.topics

-- It is the reply of a DeleteRecords.
abbrev pub TellsDeletions : Type 0 → World → DeleteRecordsRequest → World → List TopicPartition → List ℕ → Type 0
TellsDeletions failed w q v touched body =
    (reply : DeleteRecordsReply) × ((body ≡ delete_records_reply.written reply) × AreTrimsTold failed (w, []) q (v, touched) reply)

-- The first entries of a topic, so many, are so told, and nothing else has changed.
abbrev pub IsTrimTopicCut : Type 0 → World × List TopicPartition → DeleteRecordsTopic → World × List TopicPartition → Type 0
IsTrimTopicCut failed s e t = AreFirstServed (IsTrimTold failed (named e.name s.0.known.topics)) s e.partitions t

-- The first topics of a DeleteRecords, so many, are so told, and of the one behind them the first entries; nothing else has changed.
abbrev pub AreTrimsCut : Type 0 → World × List TopicPartition → DeleteRecordsRequest → World × List TopicPartition → Type 0
AreTrimsCut failed s q t = AreServedInto (IsTrimTopicTold failed) (IsTrimTopicCut failed) s q.topics t

-- The same of a body, where it is a request of DeleteRecords, also where the connection is shut. One that is none, or that has more entries
-- than a limit allows, is turned away.
abbrev pub AcknowledgesDeletions : Type 0 → Option ℕ → ℤ → World → List ℕ → World → List TopicPartition → Answer → Type 0
AcknowledgesDeletions failed limit id w body v touched a =
    let read = whole delete_records_request body in
    ((q : DeleteRecordsRequest) → read ≡ Ok q
    → IsRepliedOrCut id (TellsDeletions failed w q v touched) (AreTrimsCut failed (w, []) q (v, touched)) a)
    × OnErr (within limit delete_records_entries read) (IsTurnedAway w v touched a)

-- ---- ListOffsets

-- A partition is refused since the store failed, which it did, or for want of memory.
abbrev pub IsUnlisted : Type 0 → ℤ → ListOffsetsPartitionReply → Type 0
IsUnlisted failed partition x =
    ((x ≡ offset_refused partition (code_of codes.KafkaStorageError)) × failed)
    ⊎ (x ≡ offset_refused partition (code_of codes.UnknownServerError))

-- An entry of the topic of an instance is answered what is defined, or is refused for such a want.
abbrev pub IsListingTold : Type 0 → World → Option ℕ → ListOffsetsPartition → ListOffsetsPartitionReply → Type 0
IsListingTold failed w topic e x = (x ≡ listed w topic e) ⊎ IsUnlisted failed e.partition x

-- The same of each of a topic's entries.
abbrev pub IsListingTopicTold : Type 0 → World → ListOffsetsTopic → ListOffsetsTopicReply → Type 0
IsListingTopicTold failed w t x =
    (x.name ≡ t.name) × AllZip (IsListingTold failed w (named t.name w.known.topics)) t.partitions x.partitions

-- It is the reply of a ListOffsets of a version, of which each topic is so told.
abbrev pub TellsListing : Type 0 → ℤ → World → ListOffsetsRequest → List ℕ → Type 0
TellsListing failed version w q body = (reply : ListOffsetsReply)
    × ((body ≡ listing_in version reply) × AllZip (IsListingTopicTold failed w) q.topics reply.topics)

-- The same of a body, where it is a request of ListOffsets of a version.
abbrev pub AnswersListing : Type 0 → (id version : ℤ) → World → List ℕ → Answer → Type 0
AnswersListing failed id version w body a =
    (q : ListOffsetsRequest) → asked_listing version body ≡ Ok q → IsReplied id (TellsListing failed version w q) a

-- ---- Fetch

-- An entry is refused since the store failed, which it did, or for want of memory; and the limits are as before it.
abbrev pub IsUnread : Type 0 → Limits → FetchPartition → Limits → FetchPartitionReplyV5 → Type 0
IsUnread failed l e m x = (((m, x) ≡ refused l e.partition partition.Store) × failed) ⊎ ((m, x) ≡ refused l e.partition partition.Memory)

-- An entry comes to what is defined, or is refused for such a want.
abbrev pub IsReadOr : Type 0 → Limits × FetchPartitionReplyV5 → Limits → FetchPartition → Limits → FetchPartitionReplyV5 → Type 0
IsReadOr failed defined l e m x = ((m, x) ≡ defined) ⊎ IsUnread failed l e m x

-- An entry of the topic of an instance is answered what is defined, on what those before it left of the limits; or it is refused for
-- such a want.
abbrev pub IsFetchTold : Type 0 → World → Option ℕ → Limits → FetchPartition → Limits → FetchPartitionReplyV5 → Type 0
IsFetchTold failed w topic l e m x = IsReadOr failed (fetch_answered w topic l e) l e m x

-- The same of a topic's entries, one after another.
abbrev pub IsFetchTopicTold : Type 0 → World → Limits → FetchTopic → Limits → FetchTopicReplyV5 → Type 0
IsFetchTopicTold failed w l t m x =
    (x.topic ≡ t.topic) × AreServed (IsFetchTold failed w (named t.topic w.known.topics)) l t.partitions m x.partitions

-- The same of a request's topics, which leave that of its limits.
abbrev pub AreFetchesTold : Type 0 → World → FetchRequest → Limits → FetchReplyV5 → Type 0
AreFetchesTold failed w q left x = (x.throttle_time_ms ≡ pos 0) × AreServed (IsFetchTopicTold failed w) (begun q) q.topics left x.topics

-- A fetch comes to such a reply at a time of the clock, by which it is ready or not. A refused entry makes it ready.
abbrev pub IsFetchReady : Type 0 → World → ℕ → ℕ → FetchRequest → Bool → FetchReplyV5 → Type 0
IsFetchReady failed w clock deadline q ready x =
    (left : Limits) × (AreFetchesTold failed w q left x × (is_ready clock q x deadline ≡ ready))

-- It is the reply of a Fetch that is ready, in a version of the API, with the error code of its session.
abbrev pub TellsFetch : Type 0 → (version code : ℤ) → World → ℕ → ℕ → FetchRequest → List ℕ → Type 0
TellsFetch failed version code w clock deadline q body =
    (reply : FetchReplyV5) × ((body ≡ fetched_as version code reply) × IsFetchReady failed w clock deadline q true reply)

-- A Fetch is not ready, by what it would be answered.
abbrev pub IsUnready : Type 0 → World → ℕ → ℕ → FetchRequest → Type 0
IsUnready failed w clock deadline q = (reply : FetchReplyV5) × IsFetchReady failed w clock deadline q false reply

-- The answer to what waited is a reply whose body tells that; or none, where it still waits; or the connection is shut.
abbrev pub IsRepliedOrWaits : ℤ → (List ℕ → Type 0) → Type 0 → Answer → Type 0
IsRepliedOrWaits id Told Unready (answers.Reply bytes) = (body : List ℕ) × ((bytes.items ≡ framed id body) × Told body)
IsRepliedOrWaits id Told Unready (answers.Wait deadline fetch keys) = ⊥
IsRepliedOrWaits id Told Unready answers.NoReply = Unready
IsRepliedOrWaits id Told Unready answers.Shut = ⊤

-- The same of a look at a body that waits until a deadline at most, with that limit, where it is a request of Fetch in that version.
abbrev pub AnswersLook : Type 0 → ℤ → ℤ → Option ℕ → World → ℕ → ℕ → List ℕ → Answer → Type 0
AnswersLook failed id version limit w clock deadline body a = (q : FetchRequest) → asked_fetch version body ≡ Ok q
    → let r = bounded limit q in IsRepliedOrWaits id (TellsFetch failed version (pos 0) w clock deadline r) (IsUnready failed w clock deadline r) a

-- A Fetch that is not ready waits until its deadline, for the partitions that it asks.
abbrev pub IsLeftWaiting : Type 0 → World → ℕ → FetchRequest → ℕ → List TopicPartition → Type 0
IsLeftWaiting failed w clock q until places =
    IsUnready failed w clock (deadline_of clock q) q × ((until ≡ deadline_of clock q) × (places ≡ places_of w q))

-- Its reply was written, or it is left waiting.
abbrev pub IsFetchMade : Type 0 → Bool → World → ℕ → FetchRequest → List ℕ → Fetching → List ℕ → Type 0
IsFetchMade failed starts w clock q old fetching.Reply new =
    (reply : FetchReplyV5) × (IsFetchReady failed w clock (deadline_of clock q) q true reply × (new ≡ old ++ reply_written starts reply))
IsFetchMade failed starts w clock q old (fetching.Wait until keys) new = IsLeftWaiting failed w clock q until keys.items

-- The answer to a Fetch is such a reply, or such a wait of this fetch, or the connection is shut.
abbrev pub IsFetchReplied : Type 0 → (id version code : ℤ) → FetchWait → World → ℕ → FetchRequest → Answer → Type 0
IsFetchReplied failed id version code fetch w clock q (answers.Reply bytes) =
    (body : List ℕ) × ((bytes.items ≡ framed id body) × TellsFetch failed version code w clock (deadline_of clock q) q body)
IsFetchReplied failed id version code fetch w clock q (answers.Wait until kept keys) =
    (kept ≡ fetch) × IsLeftWaiting failed w clock q until keys.items
IsFetchReplied failed id version code fetch w clock q answers.NoReply = ⊥
IsFetchReplied failed id version code fetch w clock q answers.Shut = ⊤

-- The same of a body with that limit, where it is a request of Fetch in that version.
abbrev pub AnswersFetch : Type 0 → ℤ → ℤ → Option ℕ → World → ℕ → List ℕ → Answer → Type 0
AnswersFetch failed id version limit w clock body a = (q : FetchRequest) → asked_fetch version body ≡ Ok q
    → IsFetchReplied failed id version (asked_code version body) (record { version = version; body = body; limit = limit }) w clock
    (bounded limit q) a
