use Rattle.std.proofs.Common.{◌≡◌, ℕ, take, not}
use Rattle.std.specs.Prelude.{◌&&◌}
use Rattle.kb_waits.specs.Waiters.{has, is_one_of}
use Rattle.kb_waits.specs.declared.key.WaitKey.{WaitKey}
use Rattle.kb_waits.proofs.waiters.Waiters.remove_all.Given as goal

abbrev pub invariant-loop-key : goal.invariant-loop-key
invariant-loop-key l = (k : WaitKey) (n : ℕ) → has l.self k n ≡ (not (is_one_of (take l.key-index l.keys) l.connection k n) && has l.initial.self k n)
