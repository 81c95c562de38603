use Rattle.std.proofs.Common.{◌≡◌, map, drop}
use Rattle.kb_api_group.specs.Layouts.{listed_group}
use Rattle.kb_coordinator.specs.Tools.{listed, written_until}
use Rattle.kb_coordinator.proofs.list.put_groups.Given as goal

-- What was written, and what is to come, are all.
abbrev pub invariant-loop-entry : goal.invariant-loop-entry
invariant-loop-entry l = written_until l.most listed_group.written l.sink.bytes (map listed (drop l.entry-index l.groups)) ≡ written_until l.most listed_group.written l.initial.sink.bytes (map listed l.groups)
