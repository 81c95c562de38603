-- What each request and moment does to the groups of a tenant, and is answered.
use Rattle.std.specs.Prelude.{◌≡◌, ◌+◌, ◌-◌, ℕ, Bool, ◌&&◌, ◌||◌, List, [], ◌∷◌, ◌++◌, map, length, slice_set, ℤ, pos, nat_eq, nat_le, nat_lt}
use Rattle.std.specs.Prelude.{if◌then◌else◌, false, is_none, is_some, not, Option, Some, None}
use Rattle.kb_groups.specs.declared.code.Code.{Code}
use Rattle.kb_groups.specs.declared.code.Code.TheVariants as of
use Rattle.kb_groups.specs.declared.state.State.{State}
use Rattle.kb_groups.specs.declared.reply.Release.{Release}
use Rattle.kb_groups.specs.declared.reply.Reply.{Reply}
use Rattle.kb_groups.specs.declared.reply.SyncAnswer.{SyncAnswer}
use Rattle.kb_groups.specs.declared.reply.SyncAnswer.TheVariants.{Refused}
use Rattle.std.specs.List.{flat_map}
use Rattle.std.specs.Ordering.{int_eq}
use Rattle.kb_groups.specs.declared.borrowed.Join.{Join}
use Rattle.kb_groups.specs.Calls as one
use Rattle.kb_groups.specs.Bytes.{brought_bytes, group_bytes, is_past, joined_bytes, sync_within}
use Rattle.kb_wire.specs.ErrorCode.{code_of}
use Rattle.kb_groups.specs.Moments.{never, tick}
use Rattle.kb_groups.specs.Members.{has_none}
use Rattle.kb_groups.specs.Rebalance.{Step}
use Rattle.kb_wire.specs.declared.error_code.ErrorCode.{ErrorCode}
use Rattle.kb_wire.specs.declared.error_code.ErrorCode.TheVariants as codes
use Rattle.kb_api_group.specs.declared.join_group.JoinGroupRequest.{JoinGroupRequest}
use Rattle.kb_api_group.specs.declared.sync_group.SyncGroupRequest.{SyncGroupRequest}
use Rattle.kb_api_group.specs.declared.heartbeat.HeartbeatRequest.{HeartbeatRequest}
use Rattle.kb_api_group.specs.declared.leave_group.LeaveGroupRequest.{LeaveGroupRequest}
use Rattle.kb_coordinator.specs.declared.groups.Entry.{Entry}
use Rattle.kb_coordinator.specs.Groups.{Groups, found, changed, earliest, kept_bytes, silent, with_new, without}
use Rattle.kb_coordinator.specs.Requests.{assigned_to, commit_of_none, error_of, join_of, named}

-- What the group says, if it is there.
abbrev pub by_group : {A : Type 0} → A → (State → A) → Option State → A
by_group otherwise says None = otherwise
by_group otherwise says (Some g) = says g

-- That group is changed, if it is there, and nobody who waited is answered.
abbrev pub with_changed : List ℕ → (State → State) → Groups → Groups
with_changed id f gs = record gs { groups = changed id f gs.groups; released = [] }

-- That group takes a step, if it is there.
abbrev pub stepped : List ℕ → (State → Step) → Groups → Groups
stepped id step gs =
    record gs { groups = changed id (λ g. (step g).group) gs.groups; released = by_group [] (λ g. (step g).released) (found id gs.groups) }

-- ## Heartbeat

abbrev pub heartbeat_code : HeartbeatRequest → Groups → Code
heartbeat_code r gs = by_group of.UnknownMemberId (one.heartbeat (named r.member_id) r.generation_id) (found r.group_id gs.groups)

abbrev pub after_heartbeat : ℕ → HeartbeatRequest → Groups → Groups
after_heartbeat clock r gs = with_changed r.group_id (one.after_heartbeat clock (named r.member_id) r.generation_id) gs

-- ## OffsetCommit: whether the member may commit

abbrev pub may_commit : List ℕ → List ℕ → ℤ → Groups → ErrorCode
may_commit id member generation gs =
    if one.is_empty id then codes.InvalidGroupId
    else error_of (by_group (commit_of_none generation) (one.may_commit (named member) generation) (found id gs.groups))

abbrev pub after_may_commit : ℕ → List ℕ → List ℕ → ℤ → Groups → Groups
after_may_commit clock id member generation gs =
    if one.is_empty id then silent gs else with_changed id (one.after_may_commit clock (named member) generation) gs

-- ## LeaveGroup

abbrev pub leave_code : LeaveGroupRequest → Groups → Code
leave_code r gs = by_group of.UnknownMemberId (one.leave_code (named r.member_id)) (found r.group_id gs.groups)

abbrev pub after_leave : ℕ → LeaveGroupRequest → Groups → Groups
after_leave clock r gs = stepped r.group_id (one.leave clock (named r.member_id)) gs

-- ## SyncGroup

-- What the limit leaves to that group, beside all ids and what the other groups keep.
abbrev pub room : Groups → State → ℕ
room gs g = gs.limits.bytes - (kept_bytes gs.groups - group_bytes g)

abbrev pub sync_in : ℕ → ℕ → SyncGroupRequest → Groups → State → SyncAnswer × Step
sync_in clock connection r gs g =
    sync_within (room gs g) clock connection (named r.member_id) r.generation_id (map assigned_to r.assignments) g

abbrev pub sync_answer : ℕ → ℕ → SyncGroupRequest → Groups → SyncAnswer
sync_answer clock connection r gs =
    by_group (Refused of.UnknownMemberId) (λ g. (sync_in clock connection r gs g).0) (found r.group_id gs.groups)

abbrev pub after_sync : ℕ → ℕ → SyncGroupRequest → Groups → Groups
after_sync clock connection r gs = stepped r.group_id (λ g. (sync_in clock connection r gs g).1) gs

-- ## JoinGroup

-- The group's refusal, if it refuses; else the next one.
abbrev pub unless_refused : Code → ErrorCode → ErrorCode
unless_refused of.Fine next = next
unless_refused of.IllegalGeneration next = codes.IllegalGeneration
unless_refused of.InconsistentGroupProtocol next = codes.InconsistentGroupProtocol
unless_refused of.UnknownMemberId next = codes.UnknownMemberId
unless_refused of.InvalidSessionTimeout next = codes.InvalidSessionTimeout
unless_refused of.RebalanceInProgress next = codes.RebalanceInProgress
unless_refused of.GroupMaxSizeReached next = codes.GroupMaxSizeReached

-- A new member, and no number is left for it.
abbrev pub lacks_number : Join → Groups → Bool
lacks_number j gs = is_none j.member && nat_le 9223372036854775807 gs.members

-- What is left for a join that no group refuses: a group and a number, then bytes.
abbrev pub left_for : Bool → Bool → ErrorCode
left_for full past = if full then codes.CoordinatorNotAvailable else if past then codes.GroupMaxSizeReached else codes.None

-- Whether the group would go past the limit by a join that brings more than the group kept for its member.
abbrev pub known_past : Join → State → Groups → Bool
known_past j g gs = is_past (room gs g) (group_bytes g) (joined_bytes j g)

-- A join to a group that is there: the group's refusal, then no number, then the limit of bytes.
abbrev pub known_code : Join → State → Groups → ErrorCode
known_code j g gs = unless_refused (one.join_code j g) (left_for (lacks_number j gs) (known_past j g gs))

-- A new group keeps its id, and what the join brings.
abbrev pub new_past : Join → List ℕ → Groups → Bool
new_past j id gs = nat_lt (gs.limits.bytes - kept_bytes gs.groups) (length id + brought_bytes j)

abbrev pub new_full : Join → Groups → Bool
new_full j gs = nat_le gs.limits.groups (length gs.groups) || lacks_number j gs

-- A join to a group that is not there: the refusal of a group that nobody joined yet, then the limit of groups or no number, then that of
-- bytes.
abbrev pub new_code : Join → List ℕ → Groups → ErrorCode
new_code j id gs = unless_refused (one.join_code j one.fresh) (left_for (new_full j gs) (new_past j id gs))

abbrev pub code_by : Join → List ℕ → Groups → Option State → ErrorCode
code_by j id gs None = new_code j id gs
code_by j id gs (Some g) = known_code j g gs

-- A join's code.
abbrev pub join_code : ℕ → JoinGroupRequest → Groups → ErrorCode
join_code connection r gs =
    if one.is_empty r.group_id then codes.InvalidGroupId else code_by (join_of gs.members connection r) r.group_id gs (found r.group_id gs.groups)

abbrev pub is_accepted : ErrorCode → Bool
is_accepted code = int_eq (code_of code) (pos 0)

-- A new member takes the next number.
abbrev pub given_with : Join → Groups → ℕ
given_with j gs = if is_none j.member then gs.members + 1 else gs.members

abbrev pub numbered : Join → Groups → Groups
numbered j gs = record gs { members = given_with j gs }

-- A new group takes a join, and stands in its place.
abbrev pub new_joined : ℕ → Join → List ℕ → Groups → Groups
new_joined clock j id gs = numbered j (record gs {
  groups = with_new id (one.join clock j one.fresh).group gs.groups;
  released = (one.join clock j one.fresh).released;
})

abbrev pub after_new : ℕ → Join → List ℕ → Groups → Groups
after_new clock j id gs = if is_accepted (new_code j id gs) then new_joined clock j id gs else silent gs

abbrev pub entry_joined : ℕ → Join → Entry → Entry
entry_joined clock j e = record { id = e.id; group = (one.join clock j e.group).group }

-- A join to the group at a place.
abbrev pub after_known : ℕ → Join → ℕ → Entry → Groups → Groups
after_known clock j place e gs =
    if is_accepted (known_code j e.group gs)
    then numbered j (record gs {
      groups = slice_set gs.groups place (entry_joined clock j e);
      released = (one.join clock j e.group).released;
    })
    else silent gs

abbrev pub joined_by : ℕ → Join → List ℕ → Groups → Option State → Groups
joined_by clock j id gs None = new_joined clock j id gs
joined_by clock j id gs (Some g) =
    numbered j (record gs { groups = changed id (λ h. (one.join clock j h).group) gs.groups; released = (one.join clock j g).released })

abbrev pub after_join : ℕ → ℕ → JoinGroupRequest → Groups → Groups
after_join clock connection r gs =
    if is_accepted (join_code connection r gs)
    then joined_by clock (join_of gs.members connection r) r.group_id gs (found r.group_id gs.groups)
    else silent gs

-- ## DeleteGroups

-- Whether a group of that id is there, with or without members.
abbrev pub is_there : List ℕ → Groups → Bool
is_there id gs = is_some (found id gs.groups)

-- Whether it has members.
abbrev pub has_members : List ℕ → Groups → Bool
has_members id gs = by_group false (λ g. not (has_none g.members)) (found id gs.groups)

-- Without that group.
abbrev pub deleted : List ℕ → Groups → Groups
deleted id gs = record gs { groups = without id gs.groups }

-- ## A connection ends

abbrev pub hung_up : ℕ → ℕ → Entry → Entry
hung_up clock connection e = record { id = e.id; group = one.dropped clock connection e.group }

-- The wait of that connection goes; its member stays, and its session starts.
abbrev pub left : ℕ → ℕ → Groups → Groups
left clock connection gs = record gs { groups = map (hung_up clock connection) gs.groups }

-- ## A moment

abbrev pub ticked : ℕ → Entry → Entry
ticked clock e = record { id = e.id; group = (tick clock e.group).group }

-- Each group has its moment, in byte order of the ids.
abbrev pub at_moment : ℕ → Groups → Groups
at_moment clock gs = record gs { groups = map (ticked clock) gs.groups; released = flat_map (λ e. (tick clock e.group).released) gs.groups }

-- Whether a session ends or a deadline comes by that moment.
abbrev pub is_due : ℕ → Groups → Bool
is_due clock gs = nat_le (earliest gs.groups) clock

-- A moment, if anything is due by then; else nothing happens.
abbrev pub passed : ℕ → Groups → Groups
passed clock gs = if is_due clock gs then at_moment clock gs else gs

-- The groups after a moment that only those had that are marked; the others were refused memory, and are as they were.
unfoldable pub some_ticked : ℕ → List Bool → List Entry → List Entry
some_ticked clock [] es = []
some_ticked clock (b ∷ bs) [] = []
some_ticked clock (b ∷ bs) (e ∷ es) = (if b then ticked clock e else e) ∷ some_ticked clock bs es

-- The replies of that moment.
unfoldable pub some_released : ℕ → List Bool → List Entry → List Release
some_released clock [] es = []
some_released clock (b ∷ bs) [] = []
some_released clock (b ∷ bs) (e ∷ es) = (if b then (tick clock e.group).released else []) ++ some_released clock bs es

-- How many are not marked.
unfoldable pub unmarked : List Bool → ℕ
unmarked [] = 0
unmarked (b ∷ bs) = (if b then 0 else 1) + unmarked bs

-- Each group had its moment, or was refused memory and is as it was; that many were refused.
abbrev pub Ticks : ℕ → List Entry → List Entry → List Release → ℕ → Type 0
Ticks clock es new released refused = (marks : List Bool) × (length marks ≡ length es) × (new ≡ some_ticked clock marks es)
    × (released ≡ some_released clock marks es) × (refused ≡ unmarked marks)

-- The next moment at which a session ends or a deadline comes, if there is one.
abbrev pub next_due : Groups → Option ℕ
next_due gs = if nat_lt (earliest gs.groups) never then Some (earliest gs.groups) else None

-- ## Who is answered

unfoldable pub reply_among : ℕ → List Release → Option Reply
reply_among connection [] = None
reply_among connection (r ∷ rs) = if nat_eq r.connection connection then Some r.reply else reply_among connection rs

-- What the request that waits on that connection is answered, if the last request or moment answered it.
abbrev pub reply_to : ℕ → Groups → Option Reply
reply_to connection gs = reply_among connection gs.released
