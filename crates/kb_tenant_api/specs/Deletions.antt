-- What DeleteGroups makes of a tenant's topics and groups, and its reply (Kafka protocol guide, "The Messages: DeleteGroups").
use Rattle.std.specs.Prelude.{ℕ, ℤ, pos, List, if◌then◌else◌}
use Rattle.kb_wire.specs.ErrorCode.{code_of}
use Rattle.kb_wire.specs.declared.error_code.ErrorCode.TheVariants as codes
use Rattle.kb_api_group.specs.declared.delete_groups.DeletedGroup.{DeletedGroup}
use Rattle.kb_api_group.specs.declared.delete_groups.DeleteGroupsReply.{DeleteGroupsReply}
use Rattle.kb_groups.specs.Calls as one
use Rattle.kb_coordinator.specs.Calls.{deleted, has_members, is_there}
use Rattle.kb_coordinator.specs.Groups.{Groups, silent}
use Rattle.kb_topics.specs.Known.{has_committed, without_group}
use Rattle.kb_tenant_state.specs.World.{World}

-- The topics and the groups, where all that a group committed is gone, to whatever partition, and so is the group, if it is there.
abbrev pub all_deleted : World × Groups → List ℕ → World × Groups
all_deleted s id = (record s.0 { known = without_group s.0.known id }, deleted id s.1)

-- A group without members is deleted, if it committed something or is there; and what it is answered.
abbrev pub deleted_group : World × Groups → List ℕ → (World × Groups) × ℤ
deleted_group s id =
    if one.is_empty id then (s, code_of codes.InvalidGroupId)
    else if has_members id s.1 then (s, code_of codes.NonEmptyGroup)
    else if has_committed id s.0.known.topics then (all_deleted s id, code_of codes.None)
    else if is_there id s.1 then ((s.0, deleted id s.1), code_of codes.None)
    else (s, code_of codes.GroupIdNotFound)

-- a group of a request
abbrev pub deleted_entry : World × Groups → List ℕ → (World × Groups) × DeletedGroup
deleted_entry s id = let r = deleted_group s id in (r.0, record { group_id = id; error_code = r.1 })

-- the reply of these entries; the client is never held back
abbrev pub deletions : List DeletedGroup → DeleteGroupsReply
deletions results = record { throttle_time_ms = pos 0; results = results }
