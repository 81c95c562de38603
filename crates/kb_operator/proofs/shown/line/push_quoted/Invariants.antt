use Rattle.std.proofs.Common.{◌≡◌, ◌++◌, drop}
use Rattle.kb_operator.specs.Shown.{quoted_behind}
use Rattle.kb_operator.proofs.shown.line.push_quoted.Given as goal

-- the bytes so far, and those that are left
abbrev pub invariant-loop-byte : goal.invariant-loop-byte
invariant-loop-byte l =
    l.text.items ++ quoted_behind l.before (drop l.byte-index l.bytes) ≡ l.initial.text.items ++ quoted_behind 0 l.bytes
