use Rattle.std.proofs.Common.{◌≡◌, ◌-◌}
use Rattle.kb_cache.specs.Kept.{seen, total}
use Rattle.kb_cache.proofs.Seen.{walked}
use Rattle.kb_cache.proofs.entries.drop_behind.Given as goal

abbrev pub invariant-loop : goal.invariant-loop
invariant-loop l = record {
  counted : l.bytes ≡ total (seen l.entries.entries);
  walked : seen l.entries.entries ≡ walked l.file l.len (l.count - l.counter) (seen l.initial.entries.entries);
  cap : l.entries.cap ≡ l.initial.entries.cap;
}
