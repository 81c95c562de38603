-- What the text format says of tenants, and of a tenant's partitions.
use Rattle.std.specs.Prelude.{ℕ, ℤ, List, [], ◌∷◌, ◌++◌, ◌==◌, map, length, codes, decimal, Option, None, Some, if◌then◌else◌, slice_index_or}
use Rattle.std.specs.Fmt.{signed_decimal}
use Rattle.std.specs.List.{flat_map, range_with_len}
use Rattle.kb_metrics.specs.Causes.{cause_text, each_cause}
use Rattle.kb_metrics.specs.Limits.{each_limit, limit_text}
use Rattle.kb_metrics.specs.Overs.{each_over, over_text}
use Rattle.kb_metrics.specs.Rows.{Commit, Group, Lag, Partition, Tenant}
use Rattle.kb_metrics.specs.Text.{HeadText, behind_text, counter_head, front_text, gauge_head, rows_text, sample_text}
use Rattle.kb_metrics.specs.declared.families.Family.{Family}
use Rattle.kb_metrics.specs.declared.families.Family.TheVariants as families

-- 1. Names

-- the name of a family, what it counts in words, and its kind
abbrev pub head_of : Family → HeadText
head_of families.Connections = gauge_head (codes "kbroker_connections") (codes "Open connections that are logged in.")
head_of families.Waiting = gauge_head (codes "kbroker_waiting_requests") (codes "Connections that wait for the answer to a request.")
head_of families.Topics = gauge_head (codes "kbroker_topics") (codes "Topics.")
head_of families.Partitions = gauge_head (codes "kbroker_partitions") (codes "Partitions of all topics.")
head_of families.StoredBytes = gauge_head (codes "kbroker_stored_bytes") (codes "Bytes of the batches in all logs, where they are known.")
head_of families.CommittedOffsets = gauge_head (codes "kbroker_committed_offsets") (codes "Offsets that groups committed, one for each group and partition.")
head_of families.Limit = gauge_head (codes "kbroker_limit") (codes "Limits that are set.")
head_of families.Members = gauge_head (codes "kbroker_group_members") (codes "Members of each group.")
head_of families.Lag = gauge_head (codes "kbroker_group_lag") (codes "Records between the committed offsets and the ends of the partitions to which the group committed.")
head_of families.Requests = counter_head (codes "kbroker_requests_total") (codes "Requests, by API.")
head_of families.RequestBytes = counter_head (codes "kbroker_request_bytes_total") (codes "Bytes of requests.")
head_of families.ResponseBytes = counter_head (codes "kbroker_response_bytes_total") (codes "Bytes of responses.")
head_of families.Refusals = counter_head (codes "kbroker_refusals_total") (codes "Calls of memory and of the store that were refused, by cause.")
head_of families.OverLimit = counter_head (codes "kbroker_over_limit_total") (codes "Topics, batches, commits and members that were refused for a limit, by what is limited.")
head_of families.Start = gauge_head (codes "kbroker_partition_start_offset") (codes "Offset of the first record.")
head_of families.End = gauge_head (codes "kbroker_partition_end_offset") (codes "Offset behind the last record.")
head_of families.Committed = gauge_head (codes "kbroker_group_committed_offset") (codes "Offset that a group committed.")

-- the name of an API, by its key; none where it is not served
abbrev pub api_name : ℕ → Option (List ℕ)
api_name key =
    if key == 0 then Some (codes "Produce") else if key == 1 then Some (codes "Fetch") else if key == 2 then Some (codes "ListOffsets")
    else if key == 3 then Some (codes "Metadata") else if key == 8 then Some (codes "OffsetCommit")
    else if key == 9 then Some (codes "OffsetFetch") else if key == 10 then Some (codes "FindCoordinator")
    else if key == 11 then Some (codes "JoinGroup") else if key == 12 then Some (codes "Heartbeat")
    else if key == 13 then Some (codes "LeaveGroup") else if key == 14 then Some (codes "SyncGroup")
    else if key == 15 then Some (codes "DescribeGroups") else if key == 16 then Some (codes "ListGroups")
    else if key == 17 then Some (codes "SaslHandshake") else if key == 18 then Some (codes "ApiVersions")
    else if key == 19 then Some (codes "CreateTopics") else if key == 20 then Some (codes "DeleteTopics")
    else if key == 21 then Some (codes "DeleteRecords") else if key == 22 then Some (codes "InitProducerId")
    else if key == 32 then Some (codes "DescribeConfigs") else if key == 36 then Some (codes "SaslAuthenticate")
    else if key == 42 then Some (codes "DeleteGroups") else None

-- 2. Labels

abbrev pub tenant_label : List ℕ → List ℕ × List ℕ
tenant_label name = (codes "tenant", name)

-- what stands in front of each sample of a family: its name, and the label of its tenant
abbrev pub sample_front : Family → List ℕ → List ℕ
sample_front family tenant = front_text (head_of family).name (tenant_label tenant)

-- 3. What is said of a tenant

abbrev pub number_text : Family → List ℕ → ℕ → List ℕ
number_text family tenant n = sample_text (head_of family).name (tenant_label tenant) [] n

-- a number, where it is known
abbrev pub known_text : Family → List ℕ → Option ℕ → List ℕ
known_text family tenant None = []
known_text family tenant (Some n) = number_text family tenant n

-- how many members a group has
abbrev pub members_text : List ℕ → Group → List ℕ
members_text front g = behind_text front ((codes "group", g.id) ∷ []) (decimal g.members)

-- how far a group is behind in a topic
abbrev pub lag_text : List ℕ → Lag → List ℕ
lag_text front l = behind_text front ((codes "group", l.group) ∷ (codes "topic", l.topic) ∷ []) (decimal l.value)

-- how many requests of an API there were, where there were some
abbrev pub counted_text : List ℕ → Option (List ℕ) → ℕ → List ℕ
counted_text front None n = []
counted_text front (Some api) n = if n == 0 then [] else behind_text front ((codes "api", api) ∷ []) (decimal n)

abbrev pub api_text : List ℕ → ℕ × ℕ → List ℕ
api_text front c = counted_text front (api_name c.0) c.1

-- each number with its place
abbrev pub with_place : List ℕ → ℕ → ℕ × ℕ
with_place ns place = (place, slice_index_or ns place 0)

abbrev pub requests_text : List ℕ → List ℕ → List ℕ
requests_text front ns = flat_map (api_text front) (map (with_place ns) (range_with_len 0 (length ns)))

-- what a family says of a tenant
abbrev pub said_of : Family → Tenant → List ℕ
said_of families.Connections t = number_text families.Connections t.name t.connections
said_of families.Waiting t = number_text families.Waiting t.name t.waiting
said_of families.Topics t = number_text families.Topics t.name t.topics
said_of families.Partitions t = number_text families.Partitions t.name t.partitions
said_of families.StoredBytes t = known_text families.StoredBytes t.name t.stored
said_of families.CommittedOffsets t = number_text families.CommittedOffsets t.name t.committed_offsets
said_of families.Limit t = flat_map (limit_text (sample_front families.Limit t.name)) (each_limit t.limits)
said_of families.Members t = flat_map (members_text (sample_front families.Members t.name)) t.groups
said_of families.Lag t = flat_map (lag_text (sample_front families.Lag t.name)) t.lags
said_of families.Requests t = requests_text (sample_front families.Requests t.name) t.requests
said_of families.RequestBytes t = number_text families.RequestBytes t.name t.request_bytes
said_of families.ResponseBytes t = number_text families.ResponseBytes t.name t.response_bytes
said_of families.Refusals t = flat_map (cause_text (sample_front families.Refusals t.name)) (each_cause t.refusals t.store_refusals)
said_of families.OverLimit t = flat_map (over_text (sample_front families.OverLimit t.name)) (each_over t.over)
said_of _ t = []

abbrev pub family_text : List Tenant → Family → List ℕ
family_text ts family = rows_text (head_of family) (said_of family) ts

abbrev pub all_families : List Family
all_families =
    families.Connections ∷ families.Waiting ∷ families.Topics ∷ families.Partitions ∷ families.StoredBytes ∷ families.CommittedOffsets
    ∷ families.Limit ∷ families.Members ∷ families.Lag ∷ families.Requests ∷ families.RequestBytes ∷ families.ResponseBytes
    ∷ families.Refusals ∷ families.OverLimit ∷ []

-- all that is said of tenants, a family after another
abbrev pub families_text : List Tenant → List ℕ
families_text ts = flat_map (family_text ts) all_families

-- 4. What is said of a tenant's partitions

abbrev pub partition_label : List ℕ → ℕ → List (List ℕ × List ℕ)
partition_label topic number = (codes "topic", topic) ∷ (codes "partition", decimal number) ∷ []

abbrev pub offset_text : List ℕ → Partition → ℤ → List ℕ
offset_text front p offset = behind_text front (partition_label p.topic p.number) (signed_decimal offset)

abbrev pub start_text : List ℕ → Partition → List ℕ
start_text front p = offset_text front p p.start

abbrev pub end_text : List ℕ → Partition → List ℕ
end_text front p = offset_text front p p.end

abbrev pub commit_text : List ℕ → Commit → List ℕ
commit_text front c = behind_text front ((codes "group", c.group) ∷ partition_label c.topic c.number) (signed_decimal c.offset)

unfoldable pub starts_text : List ℕ → List Partition → List ℕ
starts_text tenant ps = rows_text (head_of families.Start) (start_text (sample_front families.Start tenant)) ps

unfoldable pub ends_text : List ℕ → List Partition → List ℕ
ends_text tenant ps = rows_text (head_of families.End) (end_text (sample_front families.End tenant)) ps

-- where the partitions start and end
abbrev pub offsets_text : List ℕ → List Partition → List ℕ
offsets_text tenant ps = starts_text tenant ps ++ ends_text tenant ps

-- what groups committed to them
abbrev pub committed_text : List ℕ → List Commit → List ℕ
committed_text tenant cs = rows_text (head_of families.Committed) (commit_text (sample_front families.Committed tenant)) cs
