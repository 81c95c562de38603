-- A producer's last batches, as a list.
use Rattle.std.specs.Prelude.{List, take}
use Rattle.kb_producers.specs.declared.kept.Kept.{Kept}
use Rattle.kb_producers.specs.declared.recent.Recent.{Recent}

-- The newest first.
abbrev pub recent_of : Recent → List Kept
recent_of r = take r.len r.batches
