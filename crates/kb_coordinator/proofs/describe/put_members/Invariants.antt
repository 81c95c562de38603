use Rattle.std.proofs.Common.{◌≡◌, ◌++◌, map, drop, option_copied}
use Rattle.std.specs.List.{flat_map}
use Rattle.kb_api_group.specs.Layouts.{described_member}
use Rattle.kb_coordinator.specs.Tools.{member_told}
use Rattle.kb_coordinator.proofs.describe.put_members.Given as goal

-- What was written, and what is to come, are all.
abbrev pub invariant-loop-i : goal.invariant-loop-i
invariant-loop-i l = l.sink.bytes ++ flat_map described_member.written (map (member_told (option_copied l.protocol)) (drop l.i l.members)) ≡ l.initial.sink.bytes ++ flat_map described_member.written (map (member_told (option_copied l.protocol)) l.members)
