use Rattle.std.proofs.Common.{◌≡◌, ◌-◌, length}
use Rattle.kb_cache.specs.Kept.{latest, seen, total}
use Rattle.kb_cache.proofs.entries.make_room.Given as goal

abbrev pub invariant-loop-entries : goal.invariant-loop-entries
invariant-loop-entries l = record {
  counted : l.bytes ≡ total (seen l.entries.entries);
  latest : latest (l.initial.entries.cap - 1) (l.most_bytes - l.size) (seen l.entries.entries) ≡ latest (l.initial.entries.cap - 1) (l.most_bytes - l.size) (seen l.initial.entries.entries);
  cap : l.entries.cap ≡ l.initial.entries.cap;
}

abbrev pub decreases-loop-entries : goal.decreases-loop-entries
decreases-loop-entries l = length (seen l.entries.entries)
