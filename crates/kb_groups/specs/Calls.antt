-- What each call of a consumer group answers and leaves.
use Rattle.std.specs.Prelude.{ℕ, Bool, true, false, not, ◌&&◌, ◌||◌, List, [], ◌∷◌, map, length, ℤ, pos, negsuc, int_lt, nat_eq, nat_le}
use Rattle.std.specs.Prelude.{bytes_eq, if◌then◌else◌, is_some, is_none, Option, Some, None, unwrap_or}
use Rattle.std.specs.Ordering.{int_eq}
use Rattle.kb_groups.specs.declared.code.Code.{Code}
use Rattle.kb_groups.specs.declared.code.Code.TheVariants.{Fine, IllegalGeneration, InconsistentGroupProtocol, UnknownMemberId}
use Rattle.kb_groups.specs.declared.code.Code.TheVariants.{InvalidSessionTimeout, RebalanceInProgress, GroupMaxSizeReached}
use Rattle.kb_groups.specs.declared.state.Phase.{Phase}
use Rattle.kb_groups.specs.declared.state.Phase.TheVariants.{Empty, Joining, Syncing, Stable}
use Rattle.kb_groups.specs.declared.state.State.{State}
use Rattle.kb_groups.specs.declared.member.Asked.{Asked}
use Rattle.kb_groups.specs.declared.member.Asked.TheVariants.{FirstJoin, Rejoin, Sync}
use Rattle.kb_groups.specs.declared.member.Member.{Member}
use Rattle.kb_groups.specs.declared.protocol.Protocol.{Protocol}
use Rattle.kb_groups.specs.declared.borrowed.JoinProtocol.{JoinProtocol}
use Rattle.kb_groups.specs.declared.borrowed.SyncAssignment.{SyncAssignment}
use Rattle.kb_groups.specs.declared.borrowed.Join.{Join}
use Rattle.kb_groups.specs.declared.reply.Reply.{Reply}
use Rattle.kb_groups.specs.declared.reply.Reply.TheVariants.{Synced}
use Rattle.kb_groups.specs.declared.reply.SyncAnswer.{SyncAnswer}
use Rattle.kb_groups.specs.declared.reply.SyncAnswer.TheVariants.{Refused, Got, Waits}
use Rattle.kb_groups.specs.MemberId.{member_id}
use Rattle.kb_groups.specs.Members.{Roster, member, changed, each, put, without, has_none}
use Rattle.kb_groups.specs.Answers.{waits_on, answers, turned_away}
use Rattle.kb_groups.specs.Protocols.{common}
use Rattle.kb_groups.specs.Rebalance.{Step, freed, opened, opened_unless, looked_at, is_joining}

-- A group without members, whose last generation was that.
abbrev pub fresh_at : ℤ → State
fresh_at generation = record { generation = generation; phase = Empty; leader = None; protocol_type = []; members = [] }

-- A group that nobody joined yet.
abbrev pub fresh : State
fresh = fresh_at (pos 0)

-- Nothing is changed, and nobody is answered.
abbrev pub unmoved : State → Step
unmoved g = record { group = g; released = [] }

abbrev pub is_fine : Code → Bool
is_fine Fine = true
is_fine IllegalGeneration = false
is_fine InconsistentGroupProtocol = false
is_fine UnknownMemberId = false
is_fine InvalidSessionTimeout = false
is_fine RebalanceInProgress = false
is_fine GroupMaxSizeReached = false

-- ## JoinGroup

-- The number of the member that joins.
abbrev pub number_of : Join → ℕ
number_of j = unwrap_or j.member j.new_member

-- A timeout below 0 counts as 0.
abbrev pub at_least_zero : ℤ → ℕ
at_least_zero (pos n) = n
at_least_zero (negsuc _) = 0

abbrev pub kept : JoinProtocol → Protocol
kept p = record { name = p.name; metadata = p.metadata }

abbrev pub asked_of : Option ℕ → Asked
asked_of None = FirstJoin
asked_of (Some _) = Rejoin

-- A member whose join waits.
abbrev pub joining : ℕ → Join → Member
joining clock j = record {
  protocols = map kept j.protocols.now;
  session_timeout = at_least_zero j.session_timeout;
  rebalance_timeout = at_least_zero j.rebalance_timeout;
  assignment = [];
  waiter = Some (record { connection = j.connection; asked = asked_of j.member });
  session_start = clock;
}

-- The member waits; its earlier waiting request is refused with 27.
abbrev pub entered : ℕ → Join → State → Step
entered clock j g = record {
  group = record g { protocol_type = j.protocol_type; members = put (number_of j) (joining clock j) g.members };
  released = turned_away RebalanceInProgress (number_of j) g.members [];
}

-- Outside Joining an accepted join opens it; Joining then ends if every member waits.
abbrev pub joined : ℕ → Join → State → Step
joined clock j g = looked_at clock (opened_unless clock g.phase (entered clock j g))

abbrev pub is_empty : {A : Type 0} → List A → Bool
is_empty [] = true
is_empty (_ ∷ _) = false

abbrev pub is_stranger : Option ℕ → Roster → Bool
is_stranger None ms = false
is_stranger (Some n) ms = is_none (member ms n)

-- Whether that is the number, if there is one.
abbrev pub is_that : Option ℕ → ℕ → Bool
is_that None n = false
is_that (Some l) n = nat_eq l n

-- The members but that one.
unfoldable pub others : Option ℕ → Roster → Roster
others but [] = []
others but (e ∷ ms) = if is_that but e.0 then others but ms else e ∷ others but ms

-- Other members' type and names have to agree with the join's.
abbrev pub agrees : Join → Roster → List ℕ → Bool
agrees j [] name = true
agrees j (e ∷ ms) name = bytes_eq j.protocol_type name && is_some (common (map (λ p. p.name) j.protocols.now) (e ∷ ms))

-- A join's code, by the first test that fails: session timeout, protocols and type, member, agreement with the others, and 200 members.
abbrev pub join_code : Join → State → Code
join_code j g =
    if int_lt j.session_timeout (pos 6000) || int_lt (pos 1800000) j.session_timeout then InvalidSessionTimeout
    else if is_empty j.protocols.now || is_empty j.protocol_type then InconsistentGroupProtocol
    else if is_stranger j.member g.members then UnknownMemberId
    else if not (agrees j (others j.member g.members) g.protocol_type) then InconsistentGroupProtocol
    else if is_none j.member && nat_le 200 (length g.members) then GroupMaxSizeReached
    else Fine

abbrev pub join : ℕ → Join → State → Step
join clock j g = if is_fine (join_code j g) then joined clock j g else unmoved g

-- ## Heartbeat and OffsetCommit

-- Its session starts.
abbrev pub started : ℕ → Member → Member
started clock m = record m { session_start = clock }

-- Unknown member, then generation, then the code.
abbrev pub known : ℤ → ℤ → Option Member → Code → Code
known asked generation None code = UnknownMemberId
known asked generation (Some _) code = if int_eq asked generation then code else IllegalGeneration

abbrev pub heartbeat_code : Phase → Code
heartbeat_code Empty = Fine
heartbeat_code (Joining _) = RebalanceInProgress
heartbeat_code Syncing = Fine
heartbeat_code Stable = Fine

abbrev pub commit_code : Phase → Code
commit_code Empty = Fine
commit_code (Joining _) = Fine
commit_code Syncing = RebalanceInProgress
commit_code Stable = Fine

-- A heartbeat with these codes starts the member's session.
abbrev pub starts : Code → Bool
starts Fine = true
starts IllegalGeneration = false
starts InconsistentGroupProtocol = false
starts UnknownMemberId = false
starts InvalidSessionTimeout = false
starts RebalanceInProgress = true
starts GroupMaxSizeReached = false

-- The group after a call that starts the member's session, or not.
abbrev pub touched : Bool → ℕ → ℕ → State → State
touched b clock n g = if b then record g { members = changed n (started clock) g.members } else g

abbrev pub heartbeat : ℕ → ℤ → State → Code
heartbeat n generation g = known generation g.generation (member g.members n) (heartbeat_code g.phase)

abbrev pub after_heartbeat : ℕ → ℕ → ℤ → State → State
after_heartbeat clock n generation g = touched (starts (heartbeat n generation g)) clock n g

-- A commit of no generation is taken while the group has no members.
abbrev pub may_commit : ℕ → ℤ → State → Code
may_commit n generation g = if int_lt generation (pos 0) && has_none g.members then Fine
    else known generation g.generation (member g.members n) (commit_code g.phase)

abbrev pub after_may_commit : ℕ → ℕ → ℤ → State → State
after_may_commit clock n generation g = touched (is_fine (may_commit n generation g)) clock n g

-- ## A connection ends

abbrev pub hung_up : ℕ → ℕ → Member → Member
hung_up clock connection m = if waits_on connection m.waiter then freed clock m else m

-- The wait of that connection goes; the member stays.
abbrev pub dropped : ℕ → ℕ → State → State
dropped clock connection g = record g { members = each (λ n m. hung_up clock connection m) g.members }

-- ## SyncGroup

-- The first entry under a member's id counts; a missing one is empty.
unfoldable pub assigned : List SyncAssignment → ℕ → List ℕ
assigned [] n = []
assigned (a ∷ as_) n = if bytes_eq a.member_id (member_id n) then a.assignment else assigned as_ n

abbrev pub assigned_reply : List SyncAssignment → ℕ → Member → Asked → Option Reply
assigned_reply as_ n m asked = Some (Synced (assigned as_ n))

abbrev pub handed : ℕ → ℕ → ℕ → List ℕ → Member → Member
handed clock leader n bytes m = record m {
  assignment = bytes;
  waiter = None;
  session_start = if is_some m.waiter || nat_eq n leader then clock else m.session_start;
}

-- A member gets its assignment; those that waited and the leader have their answer.
abbrev pub given : ℕ → List SyncAssignment → ℕ → ℕ → Member → Member
given clock as_ leader n m = handed clock leader n (assigned as_ n) m

-- The leader's sync fixes the assignments and answers all.
abbrev pub fixed : ℕ → List SyncAssignment → ℕ → State → Step
fixed clock as_ n g = record {
  group = record g { phase = Stable; members = each (given clock as_ n) g.members };
  released = answers (assigned_reply as_) g.members [];
}

abbrev pub sync_waiting : ℕ → Member → Member
sync_waiting connection m = record m { waiter = Some (record { connection = connection; asked = Sync }) }

-- A sync waits; an earlier waiting request of the member is refused with 27.
abbrev pub waiting_sync : ℕ → ℕ → State → Step
waiting_sync connection n g = record {
  group = record g { members = changed n (sync_waiting connection) g.members };
  released = turned_away RebalanceInProgress n g.members [];
}

-- While Syncing, the leader fixes the assignments; any other member waits.
abbrev pub sync_step : ℕ → ℕ → List SyncAssignment → ℕ → Bool → State → Step
sync_step clock connection as_ n leads g = if leads then fixed clock as_ n g else waiting_sync connection n g

abbrev pub assignment_of : Option Member → List ℕ
assignment_of None = []
assignment_of (Some m) = m.assignment

-- A sync by its phase, once the member is known and the generation is the group's. A group with members is not Empty.
abbrev pub synced : Phase → ℕ → ℕ → ℕ → List SyncAssignment → State → SyncAnswer × Step
synced Empty clock connection n as_ g = (Refused UnknownMemberId, unmoved g)
synced (Joining _) clock connection n as_ g = (Refused RebalanceInProgress, unmoved g)
synced Syncing clock connection n as_ g =
    (if is_that g.leader n then Got (assigned as_ n) else Waits, sync_step clock connection as_ n (is_that g.leader n) g)
synced Stable clock connection n as_ g = (Got (assignment_of (member g.members n)), unmoved (touched true clock n g))

abbrev pub sync_known : Code → ℕ → ℕ → ℕ → List SyncAssignment → State → SyncAnswer × Step
sync_known code clock connection n as_ g = if is_fine code then synced g.phase clock connection n as_ g else (Refused code, unmoved g)

abbrev pub sync : ℕ → ℕ → ℕ → ℤ → List SyncAssignment → State → SyncAnswer × Step
sync clock connection n generation as_ g = sync_known (known generation g.generation (member g.members n) Fine) clock connection n as_ g

-- ## LeaveGroup

-- A member is gone; its waiting request is refused with 25.
abbrev pub left : ℕ → Step → Step
left n s = record {
  group = record s.group { members = without n s.group.members };
  released = turned_away UnknownMemberId n s.group.members s.released;
}

-- Outside Joining, it opens if members stay, else the group is Empty. Joining ends if every member left waits.
abbrev pub after_left : ℕ → Phase → Step → Step
after_left clock phase s =
    if is_joining phase then looked_at clock s
    else if has_none s.group.members then record s { group = record s.group { phase = Empty } }
    else opened clock s

abbrev pub gone : ℕ → ℕ → Step → Step
gone clock n s = after_left clock s.group.phase (left n s)

abbrev pub leave_code : ℕ → State → Code
leave_code n g = if is_some (member g.members n) then Fine else UnknownMemberId

abbrev pub leave : ℕ → ℕ → State → Step
leave clock n g = if is_some (member g.members n) then gone clock n (unmoved g) else unmoved g
