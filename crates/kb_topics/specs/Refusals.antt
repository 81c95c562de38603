-- Why a call of the catalog is refused: the first cause, if there is one.
use Rattle.std.specs.Prelude.{ℕ, ℤ, ◌-◌, ◌^◌, List, length, Option, Some, None, is_some, not, nat_le, nat_lt, int_lt, ◌&&◌, if◌then◌else◌}
use Rattle.kb_topics.specs.declared.config.TopicConfig.{TopicConfig}
use Rattle.kb_topics.specs.declared.fault.CatalogFault.{CatalogFault}
use Rattle.kb_topics.specs.declared.fault.CatalogFault.TheVariants as faults
use Rattle.kb_topics.specs.Name.{is_legal}
use Rattle.kb_topics.specs.Known.{Known, PartitionState, has_committed, named, is_limit, is_partition_count}

-- a legal and new name, 1 to 64 partitions, limits from -1 on, fewer than 1,000 topics, and an instance that is left
abbrev pub create_refusal : Known → List ℕ → ℤ → TopicConfig → Option CatalogFault
create_refusal k name partitions config =
    if not (is_legal name) then Some faults.Name
    else (if is_some (named name k.topics) then Some faults.Exists
    else (if not (is_partition_count partitions) then Some faults.Partitions
    else (if not (is_limit config.retention_ms && is_limit config.retention_bytes) then Some faults.Limit
    else (if nat_le 1000 (length k.topics) then Some faults.TooMany
    else (if nat_le (2 ^ 63 - 1) k.creates then Some faults.Full else None)))))

-- the topic is there
abbrev pub delete_refusal : Option ℕ → Option CatalogFault
delete_refusal None = Some faults.Unknown
delete_refusal (Some i) = None

-- the group committed something
abbrev pub delete_group_refusal : Known → List ℕ → Option CatalogFault
delete_group_refusal k group = if has_committed group k.topics then None else Some faults.Unknown

-- fewer than 2^63 - 1 ids were given out
abbrev pub issue_refusal : Known → Option CatalogFault
issue_refusal k = if nat_le (2 ^ 63 - 1) k.issues then Some faults.UsedUp else None

-- the partition is there, and its start does not go back
abbrev pub start_refusal : ℤ → Option PartitionState → Option CatalogFault
start_refusal offset None = Some faults.Unknown
start_refusal offset (Some p) = if int_lt offset p.start then Some faults.Back else None

-- the partition is there, and the metadata has at most 4,096 bytes
abbrev pub commit_refusal : List ℕ → Option PartitionState → Option CatalogFault
commit_refusal metadata None = Some faults.Unknown
commit_refusal metadata (Some p) = if nat_lt 4096 (length metadata) then Some faults.Metadata else None
