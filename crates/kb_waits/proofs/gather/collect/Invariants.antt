use Rattle.std.proofs.Common.{take}
use Rattle.kb_waits.specs.Waiters.{AreWaiting}
use Rattle.kb_waits.proofs.gather.collect.Given as goal

abbrev pub invariant-loop-key : goal.invariant-loop-key
invariant-loop-key l = AreWaiting l.waiters (take l.key-index l.keys) l.found.items
