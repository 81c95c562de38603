use Rattle.std.proofs.Common.{◌≡◌, ◌++◌, map, drop}
use Rattle.std.specs.List.{flat_map}
use Rattle.kb_api_group.specs.Layouts.{join_member}
use Rattle.kb_coordinator.specs.Replies.{listed}
use Rattle.kb_coordinator.proofs.replies.put_members.Given as goal

-- What was written, and what is to come, are all.
abbrev pub invariant-loop-member : goal.invariant-loop-member
invariant-loop-member l = l.sink.bytes ++ flat_map join_member.written (map listed (drop l.member-index l.members)) ≡ l.initial.sink.bytes ++ flat_map join_member.written (map listed l.members)
