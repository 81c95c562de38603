-- The bodies of replies.
use Rattle.std.specs.Prelude.{ℕ, ℤ, pos, negsuc, List, [], map, Option, Some, None}
use Rattle.kb_groups.specs.declared.reply.Reply.{Reply}
use Rattle.kb_groups.specs.declared.reply.Joined.{Joined as Generation}
use Rattle.kb_groups.specs.declared.reply.Reply.TheVariants.{Joined, JoinRefused, Synced, SyncRefused}
use Rattle.kb_groups.specs.declared.reply.SyncAnswer.{SyncAnswer}
use Rattle.kb_groups.specs.declared.reply.SyncAnswer.TheVariants as sync
use Rattle.kb_groups.specs.declared.reply.Listed.{Listed}
use Rattle.kb_groups.specs.MemberId.{member_id}
use Rattle.kb_groups.specs.Codes.{number}
use Rattle.kb_api_group.specs.Layouts.{join_group_reply, sync_group_reply}
use Rattle.kb_api_group.specs.declared.join_group.JoinMember.{JoinMember}

-- A join that is refused: no generation, protocol, leader or members, and the member id that was asked.
abbrev pub join_refusal : ℤ → List ℕ → List ℕ
join_refusal code asked = join_group_reply.written
    (record { error_code = code; generation_id = negsuc 0; protocol_name = []; leader = []; member_id = asked; members = [] })

abbrev pub id_of : Option ℕ → List ℕ
id_of None = []
id_of (Some n) = member_id n

abbrev pub listed : Listed → JoinMember
listed l = record { member_id = member_id l.member; metadata = l.metadata }

abbrev pub sync_reply : ℤ → List ℕ → List ℕ
sync_reply code assignment = sync_group_reply.written (record { error_code = code; assignment = assignment })

-- A join that a generation answers.
abbrev pub joined_spelled : Generation → List ℕ
joined_spelled j = join_group_reply.written
    (record {
      error_code = pos 0;
      generation_id = j.generation;
      protocol_name = j.protocol;
      leader = member_id j.leader;
      member_id = member_id j.member;
      members = map listed j.members;
    })

-- The body of the reply to a request that waited.
abbrev pub spelled : Reply → List ℕ
spelled (Joined j) = joined_spelled j
spelled (JoinRefused code asked) = join_refusal (number code) (id_of asked)
spelled (Synced assignment) = sync_reply (pos 0) assignment
spelled (SyncRefused code) = sync_reply (number code) []

-- The body of the reply to a sync that does not wait; none to one that waits.
abbrev pub sync_spelled : SyncAnswer → List ℕ
sync_spelled (sync.Refused code) = sync_reply (number code) []
sync_spelled (sync.Got assignment) = sync_reply (pos 0) assignment
sync_spelled sync.Waits = []
