use Rattle.std.proofs.Common.{◌≡◌, ◌==◌, ◌+◌, ◌-◌, length, sym, arith}
use Rattle.std.specs.List.{position_or_len}
use Rattle.kb_broker.proofs.ScriptLines.{position-some, position-none}
use Rattle.kb_broker.proofs.ScriptReading.{none-before}
use Rattle.kb_broker.proofs.script.reading.len_through.Goals as goal

pub returns-in-Some-clause-before : goal.returns-in-Some-clause-before
returns-in-Some-clause-before c =
    let i : position_or_len (λ b. b == 10) c.args.bytes.now ≡ c.in-Some.i = position-some (λ b. b == 10) c.args.bytes.now c.in-Some.i (sym c.in-Some.ensures) in
    none-before c.args.bytes.now (c.in-Some.i + 1 - 1) (omega arith)

pub returns-in-None-clause-before : goal.returns-in-None-clause-before
returns-in-None-clause-before c =
    let n : position_or_len (λ b. b == 10) c.args.bytes.now ≡ length c.args.bytes.now = position-none (λ b. b == 10) c.args.bytes.now (sym c.in-None.ensures) in
    none-before c.args.bytes.now (length c.args.bytes.now - 1) (omega arith)
