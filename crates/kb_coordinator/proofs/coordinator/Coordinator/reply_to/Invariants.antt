use Rattle.std.proofs.Common.{◌≡◌, drop}
use Rattle.std.specs.List.{flat_map}
use Rattle.kb_coordinator.specs.Calls.{reply_among}
use Rattle.kb_coordinator.proofs.coordinator.Coordinator.reply_to.Given as goal

-- It is among those that are left, if at all.
abbrev pub invariant-loop-i : goal.invariant-loop-i
invariant-loop-i l = reply_among l.connection (flat_map (λ v. v.items) (drop l.i l.self-inside.released.items)) ≡ reply_among l.connection (flat_map (λ v. v.items) l.self-inside.released.items)
