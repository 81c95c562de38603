use Rattle.std.proofs.Common.{◌≡◌, string_bytes, take}
use Rattle.kb_operator.specs.Logins.{shown}
use Rattle.kb_operator.proofs.journal.logins.shown.Given as goal

-- the bytes so far are told
abbrev pub invariant-loop-byte : goal.invariant-loop-byte
invariant-loop-byte l = string_bytes l.text ≡ shown (take l.byte-index l.name)
