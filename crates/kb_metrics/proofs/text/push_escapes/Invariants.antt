use Rattle.std.proofs.Common.{◌≡◌, ◌++◌, take}
use Rattle.kb_metrics.specs.Text.{escaped}
use Rattle.kb_metrics.proofs.text.push_escapes.Given as goal

-- the bytes so far were written
abbrev pub invariant-loop-byte : goal.invariant-loop-byte
invariant-loop-byte l = l.out.items ≡ l.fn.out.items ++ escaped (take l.byte-index l.value)
