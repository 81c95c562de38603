use Rattle.std.proofs.Common.{◌≡◌, drop}
use Rattle.kb_durable.specs.Waiting.{has}
use Rattle.kb_durable.proofs.waiting.is_among.Given as goal

abbrev pub invariant-loop-number : goal.invariant-loop-number
invariant-loop-number l = has (drop l.number-index l.numbers) l.file ≡ has l.numbers l.file
