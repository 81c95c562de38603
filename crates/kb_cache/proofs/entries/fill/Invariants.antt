use Rattle.std.proofs.Common.{◌≡◌, ◌-◌, length}
use Rattle.kb_cache.specs.Kept.{seen}
use Rattle.kb_cache.proofs.Filling.{Filling}
use Rattle.kb_cache.proofs.entries.fill.Given as goal

abbrev pub invariant-loop-done : goal.invariant-loop-done
invariant-loop-done l = record {
  filling : Filling (seen l.initial.entries.entries) l.file l.at (length l.initial.buffer) (seen l.entries.entries) l.done l.buffer;
  cap : l.entries.cap ≡ l.initial.entries.cap;
}

abbrev pub decreases-loop-done : goal.decreases-loop-done
decreases-loop-done l = length l.initial.buffer - l.done
