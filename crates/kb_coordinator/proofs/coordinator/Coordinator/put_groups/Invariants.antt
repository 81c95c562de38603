use Rattle.std.proofs.Common.{◌≡◌, map, drop}
use Rattle.kb_api_group.specs.Layouts.{described_group}
use Rattle.kb_coordinator.specs.Tools.{description, written_until}
use Rattle.kb_coordinator.proofs.coordinator.Coordinator.put_groups.Given as goal

-- What was written, and what is to come, are all.
abbrev pub invariant-loop-id : goal.invariant-loop-id
invariant-loop-id l = written_until l.most described_group.written l.sink.bytes (map (description l.self) (drop l.id-index l.ids)) ≡ written_until l.most described_group.written l.initial.sink.bytes (map (description l.self) l.ids)
