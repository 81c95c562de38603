use Rattle.std.proofs.Common.{length}
use Rattle.kb_start.proofs.starts.+starts_named.Given as goal

abbrev pub decreases-starts_named : goal.decreases-starts_named
decreases-starts_named l = length l.names.now
