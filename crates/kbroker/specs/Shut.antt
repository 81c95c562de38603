-- Why a connection was closed, in words.
use Rattle.std.specs.Prelude.{◌≡◌, ◌⊎◌, ◌++◌, ℕ, ℤ, pos, negsuc, List, [], ◌∷◌, codes, decimal, Option, None, slice_get, unwrap_or}
use Rattle.std.specs.Fmt.{signed_decimal}
use Rattle.kb_isolation_spec.specs.declared.shut.Shut.{Shut}
use Rattle.kb_isolation_spec.specs.declared.shut.Shut.TheVariants as causes
use Rattle.kb_node.specs.Requests.{stranger_frame}
use Rattle.kb_node.specs.declared.closed.Cause.{Cause}
use Rattle.kb_node.specs.declared.closed.Cause.TheVariants as closings

-- the names of the APIs by their keys, from 0 (Kafka protocol guide, "API Keys")
unfoldable pub api_names : List (List ℕ)
api_names =
    codes "Produce" ∷ codes "Fetch" ∷ codes "ListOffsets" ∷ codes "Metadata"
    ∷ codes "LeaderAndIsr" ∷ codes "StopReplica" ∷ codes "UpdateMetadata" ∷ codes "ControlledShutdown"
    ∷ codes "OffsetCommit" ∷ codes "OffsetFetch" ∷ codes "FindCoordinator" ∷ codes "JoinGroup"
    ∷ codes "Heartbeat" ∷ codes "LeaveGroup" ∷ codes "SyncGroup" ∷ codes "DescribeGroups"
    ∷ codes "ListGroups" ∷ codes "SaslHandshake" ∷ codes "ApiVersions" ∷ codes "CreateTopics"
    ∷ codes "DeleteTopics" ∷ codes "DeleteRecords" ∷ codes "InitProducerId" ∷ codes "OffsetForLeaderEpoch"
    ∷ codes "AddPartitionsToTxn" ∷ codes "AddOffsetsToTxn" ∷ codes "EndTxn" ∷ codes "WriteTxnMarkers"
    ∷ codes "TxnOffsetCommit" ∷ codes "DescribeAcls" ∷ codes "CreateAcls" ∷ codes "DeleteAcls"
    ∷ codes "DescribeConfigs" ∷ codes "AlterConfigs" ∷ codes "AlterReplicaLogDirs" ∷ codes "DescribeLogDirs"
    ∷ codes "SaslAuthenticate" ∷ codes "CreatePartitions" ∷ codes "CreateDelegationToken" ∷ codes "RenewDelegationToken"
    ∷ codes "ExpireDelegationToken" ∷ codes "DescribeDelegationToken" ∷ codes "DeleteGroups" ∷ codes "ElectLeaders"
    ∷ codes "IncrementalAlterConfigs" ∷ codes "AlterPartitionReassignments" ∷ codes "ListPartitionReassignments" ∷ codes "OffsetDelete"
    ∷ []

abbrev pub api_name : ℤ → Option (List ℕ)
api_name (pos key) = slice_get api_names key
api_name (negsuc n) = None

-- an API's name, or its key where it has none
abbrev pub api_text : ℤ → List ℕ
api_text key = unwrap_or (api_name key) (codes "API " ++ signed_decimal key)

-- the words for why the broker shut it, where no request of more than so many bytes is read
abbrev pub shut_words : Shut → ℕ → List ℕ
shut_words causes.TooShort request_bytes = codes "a request is too short for its header"
shut_words causes.TooLong request_bytes = codes "a request is longer than " ++ (decimal request_bytes ++ codes " bytes")
shut_words (causes.NotServed key version) request_bytes =
    codes "version " ++ (signed_decimal version ++ (codes " of " ++ (api_text key ++ codes " is not served")))
shut_words (causes.Unanswerable key version) request_bytes =
    codes "the body of " ++ (api_text key ++ (codes " " ++ (signed_decimal version
    ++ codes " does not match or names more than request_entries, or there was no room for its reply")))
shut_words (causes.NotLoggedIn key version) request_bytes = api_text key ++ (codes " " ++ (signed_decimal version ++ codes " before a login"))
shut_words causes.Denied request_bytes = codes "its login failed"
shut_words causes.Overrun request_bytes = codes "more came than there was room for"
shut_words causes.Memory request_bytes = codes "out of memory"

-- the words for why it was closed
abbrev pub cause_words : Cause → ℕ → List ℕ
cause_words (closings.Shut shut) request_bytes = shut_words shut request_bytes
cause_words closings.LongBeforeLogin request_bytes =
    codes "a request is longer than " ++ (decimal stranger_frame ++ codes " bytes before its login")

-- why it was closed, or nothing where there was no memory for the words
abbrev pub IsWhy : Cause → ℕ → List ℕ → Type 0
IsWhy cause request_bytes why = (why ≡ cause_words cause request_bytes) ⊎ (why ≡ [])
