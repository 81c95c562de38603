-- Versions that a tenant is asked in as in another one, and where a throttle time stands in front of its answer.
--
-- Each is read off the schemas of its API in the Kafka protocol guide, "The Messages", under the API's name ("JoinGroup API" and so on):
-- the request has the fields of that version's in the same order, and so has the reply, behind a `throttle_time_ms` where the tenant's
-- answer in that version has none. Its answers in Fetch 7 and 9, ListOffsets 2 and 4, OffsetCommit 5 and 6, OffsetFetch 5 and
-- FindCoordinator 1 have none, though their replies do.
use Rattle.std.specs.Prelude.{ℕ, ℤ, pos, List, [], ◌∷◌, Bool, true, false, ◌&&◌, int_le, if◌then◌else◌}
use Rattle.std.specs.Ordering.{int_eq}
use Rattle.kb_wire.specs.declared.api_key.TheConstants.{PRODUCE, FETCH, LIST_OFFSETS, OFFSET_COMMIT, OFFSET_FETCH, FIND_COORDINATOR}
use Rattle.kb_wire.specs.declared.api_key.TheConstants.{METADATA, JOIN_GROUP, HEARTBEAT, LEAVE_GROUP, SYNC_GROUP}
use Rattle.kb_wire.specs.declared.api_key.TheConstants.{CREATE_TOPICS, DELETE_TOPICS, DELETE_RECORDS, INIT_PRODUCER_ID}
use Rattle.kb_api_group.specs.declared.group_key.TheConstants.{DELETE_GROUPS, DESCRIBE_GROUPS, LIST_GROUPS}
use Rattle.kb_api_group.specs.declared.header.RequestStart.{RequestStart}
use Rattle.kb_isolation_spec.specs.declared.base.Base.{Base}
use Rattle.kb_isolation_spec.specs.declared.head.Head.{Head}

-- an API's key, a least and a greatest version, the version that those between are asked in, and whether their reply has a throttle time
-- in front which the tenant's answer in that version has not
abbrev pub Newer : Type 0
Newer = ℤ × ℤ × ℤ × ℤ × Bool

-- versions from one to another that are that one, request and reply
abbrev pub same_as : ℤ → ℕ → ℕ → ℕ → Newer
same_as key least greatest version = (key, pos least, pos greatest, pos version, false)

-- the same, but for a throttle time in front of the reply's body
abbrev pub throttled_as : ℤ → ℕ → ℕ → ℕ → Newer
throttled_as key least greatest version = (key, pos least, pos greatest, pos version, true)

-- all that there are
abbrev pub newer_versions : List Newer
newer_versions =
    same_as PRODUCE 4 4 3 ∷
    same_as PRODUCE 6 6 5 ∷
    same_as FETCH 6 6 5 ∷
    throttled_as FETCH 7 8 7 ∷
    throttled_as FETCH 9 9 9 ∷
    throttled_as LIST_OFFSETS 2 3 2 ∷ throttled_as OFFSET_COMMIT 3 4 2 ∷
    throttled_as OFFSET_COMMIT 5 5 5 ∷
    throttled_as OFFSET_COMMIT 6 6 6 ∷
    throttled_as LIST_OFFSETS 4 4 4 ∷
    throttled_as OFFSET_FETCH 5 5 5 ∷
    same_as METADATA 6 6 5 ∷
    throttled_as JOIN_GROUP 2 3 1 ∷ throttled_as OFFSET_FETCH 3 4 2 ∷ throttled_as FIND_COORDINATOR 1 2 1 ∷
    throttled_as HEARTBEAT 1 2 0 ∷ throttled_as LEAVE_GROUP 1 2 0 ∷ throttled_as SYNC_GROUP 1 2 0 ∷
    throttled_as DESCRIBE_GROUPS 1 2 0 ∷ throttled_as LIST_GROUPS 1 2 0 ∷
    throttled_as CREATE_TOPICS 2 3 1 ∷ same_as DELETE_TOPICS 2 3 1 ∷ same_as DELETE_RECORDS 1 1 0 ∷
    same_as INIT_PRODUCER_ID 1 1 0 ∷ same_as DELETE_GROUPS 1 1 0 ∷ []

-- whether a version of an API is one of those
abbrev pub is_among : ℤ → ℤ → Newer → Bool
is_among key version newer = int_eq newer.0 key && (int_le newer.1 version && int_le version newer.2)

-- what a version is asked in: as the first says that has it, or itself
abbrev pub base_among : List Newer → ℤ → ℤ → Base
base_among [] key version = record { version = version; is_throttled = false }
base_among (newer ∷ others) key version =
    if is_among key version newer then record { version = newer.3; is_throttled = newer.4 } else base_among others key version

-- the version that a tenant is asked in for a version of an API
unfoldable pub base_of : ℤ → ℤ → Base
base_of key version = base_among newer_versions key version

-- what of a request is kept for its reply
abbrev pub head_of : RequestStart → Head
head_of start = record {
  correlation_id = start.correlation_id;
  is_throttled = (base_of start.api_key start.api_version).is_throttled;
  api_key = start.api_key;
  api_version = start.api_version;
}

-- where nothing was read
abbrev pub no_head : Head
no_head = record { correlation_id = pos 0; is_throttled = false; api_key = pos 0; api_version = pos 0 }
