-- What the catalog answers where its log refuses, and the error codes of its refusals.
use Rattle.std.specs.Prelude.{ℤ, Result, Err}
use Rattle.kb_wire.specs.ErrorCode.{code_of as number}
use Rattle.kb_wire.specs.declared.error_code.ErrorCode.TheVariants as codes
use Rattle.kb_log.specs.declared.fault.LogFault.{LogFault}
use Rattle.kb_log.specs.declared.fault.LogFault.TheVariants as log
use Rattle.kb_topics.specs.declared.fault.CatalogFault.{CatalogFault}
use Rattle.kb_topics.specs.declared.fault.CatalogFault.TheVariants.{Name, Exists, Partitions, Limit, TooMany, Unknown, Metadata, Back}
use Rattle.kb_topics.specs.declared.fault.CatalogFault.TheVariants.{UsedUp, Full, Store, Memory}

-- An append is never out of range.
abbrev pub of_log : LogFault → CatalogFault
of_log log.Full = Full
of_log log.Store = Store
of_log log.Memory = Memory
of_log log.Range = Memory

-- the number of its error code
abbrev pub code_of : CatalogFault → ℤ
code_of Name = number codes.InvalidTopic
code_of Exists = number codes.TopicAlreadyExists
code_of Partitions = number codes.InvalidPartitions
code_of Limit = number codes.InvalidConfig
code_of TooMany = number codes.PolicyViolation
code_of Unknown = number codes.UnknownTopicOrPartition
code_of Metadata = number codes.OffsetMetadataTooLarge
code_of Back = number codes.OffsetOutOfRange
code_of UsedUp = number codes.UnknownServerError
code_of Full = number codes.KafkaStorageError
code_of Store = number codes.KafkaStorageError
code_of Memory = number codes.UnknownServerError

-- memory or the store refused, or the log is full
abbrev pub IsWant : {T : Type 0} → Result T CatalogFault → Type 0
IsWant (Err Full) = Unit {0}
IsWant (Err Store) = Unit {0}
IsWant (Err Memory) = Unit {0}
IsWant _ = ⊥
