use Rattle.std.proofs.Common.{◌≡◌, ◌++◌, take}
use Rattle.kb_metrics.specs.Markup.{marked}
use Rattle.kb_metrics.proofs.markup.push_entities.Given as goal

-- the bytes so far were written
abbrev pub invariant-loop-byte : goal.invariant-loop-byte
invariant-loop-byte l = l.out.items ≡ l.fn.out.items ++ marked (take l.byte-index l.name)
