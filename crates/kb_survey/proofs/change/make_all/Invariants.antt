use Rattle.std.proofs.Common.{◌≡◌, ◌≤◌, [], length}
use Rattle.kb_store.specs.Disk.{Keeps}
use Rattle.kb_survey.specs.Changes.{ArePossible, disk_after}
use Rattle.kb_survey.proofs.change.make_all.Given as goal

abbrev pub invariant-loop-change : goal.invariant-loop-change
invariant-loop-change g l =
    ArePossible l.changes.items (g.S.Store.disk l.store).table
    × Keeps (disk_after l.fn.changes.items (g.S.Store.disk l.fn.store)) (disk_after l.changes.items (g.S.Store.disk l.store))
    × ((g.S.Store.disk l.fn.store).failures ≤ (g.S.Store.disk l.store).failures)
    × (l.fn.changes.items ≡ [] → (l.store ≡ l.fn.store) × (l.changes.items ≡ []))

abbrev pub decreases-loop-change : goal.decreases-loop-change
decreases-loop-change g l = length l.changes.items
