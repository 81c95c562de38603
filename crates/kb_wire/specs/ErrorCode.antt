-- The numbers of the protocol's error codes (Kafka protocol guide, "Error Codes").
use Rattle.std.specs.Prelude.{ℤ, pos, negsuc}
use Rattle.kb_wire.specs.declared.error_code.ErrorCode.{ErrorCode}
use Rattle.kb_wire.specs.declared.error_code.ErrorCode.TheVariants as codes

-- the number that an error_code field carries
abbrev pub code_of : ErrorCode → ℤ
code_of codes.UnknownServerError = negsuc 0
code_of codes.None = pos 0
code_of codes.OffsetOutOfRange = pos 1
code_of codes.CorruptMessage = pos 2
code_of codes.UnknownTopicOrPartition = pos 3
code_of codes.MessageTooLarge = pos 10
code_of codes.OffsetMetadataTooLarge = pos 12
code_of codes.CoordinatorNotAvailable = pos 15
code_of codes.InvalidTopic = pos 17
code_of codes.InvalidRequiredAcks = pos 21
code_of codes.IllegalGeneration = pos 22
code_of codes.InconsistentGroupProtocol = pos 23
code_of codes.InvalidGroupId = pos 24
code_of codes.UnknownMemberId = pos 25
code_of codes.InvalidSessionTimeout = pos 26
code_of codes.RebalanceInProgress = pos 27
code_of codes.UnsupportedSaslMechanism = pos 33
code_of codes.IllegalSaslState = pos 34
code_of codes.UnsupportedVersion = pos 35
code_of codes.TopicAlreadyExists = pos 36
code_of codes.InvalidPartitions = pos 37
code_of codes.InvalidReplicationFactor = pos 38
code_of codes.InvalidReplicaAssignment = pos 39
code_of codes.InvalidConfig = pos 40
code_of codes.InvalidRequest = pos 42
code_of codes.UnsupportedForMessageFormat = pos 43
code_of codes.PolicyViolation = pos 44
code_of codes.OutOfOrderSequenceNumber = pos 45
code_of codes.InvalidProducerEpoch = pos 47
code_of codes.KafkaStorageError = pos 56
code_of codes.SaslAuthenticationFailed = pos 58
code_of codes.UnknownProducerId = pos 59
code_of codes.NonEmptyGroup = pos 68
code_of codes.GroupIdNotFound = pos 69
code_of codes.UnsupportedCompressionType = pos 76
code_of codes.GroupMaxSizeReached = pos 81
code_of codes.InvalidRecord = pos 87
