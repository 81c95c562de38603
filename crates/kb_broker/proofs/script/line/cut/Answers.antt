use Rattle.std.proofs.Common.{◌≡◌, ◌==◌, ◌+◌, length, take, drop, sym, ap, ◌∙◌, arith, take_all, drop_of_length-le}
use Rattle.std.specs.List.{position_or_len}
use Rattle.std.proofs.lemmas.Grind.{common_steps}
use Rattle.kb_broker.proofs.ScriptLines.{position-some, position-none}
use Rattle.kb_broker.proofs.script.line.cut.Goals as goal

pub returns-in-Some-clause-word : goal.returns-in-Some-clause-word
returns-in-Some-clause-word c = ap (λ i. take i c.args.text.now) (sym (position-some (λ b. b == 32) c.args.text.now c.in-Some.i (sym c.in-Some.ensures)))

pub returns-in-Some-clause-behind : goal.returns-in-Some-clause-behind
returns-in-Some-clause-behind c =
    let i : position_or_len (λ b. b == 32) c.args.text.now ≡ c.in-Some.i = position-some (λ b. b == 32) c.args.text.now c.in-Some.i (sym c.in-Some.ensures) in
    take_all _ _ (grind (arith, common_steps)) ∙ ap (λ k. drop (k + 1) c.args.text.now) (sym i)

pub returns-in-None-clause-word : goal.returns-in-None-clause-word
returns-in-None-clause-word c =
    let n : position_or_len (λ b. b == 32) c.args.text.now ≡ length c.args.text.now = position-none (λ b. b == 32) c.args.text.now (sym c.in-None.ensures) in
    sym (take_all _ c.args.text.now (omega arith))

pub returns-in-None-clause-behind : goal.returns-in-None-clause-behind
returns-in-None-clause-behind c =
    let n : position_or_len (λ b. b == 32) c.args.text.now ≡ length c.args.text.now = position-none (λ b. b == 32) c.args.text.now (sym c.in-None.ensures) in
    sym (drop_of_length-le c.args.text.now (omega arith))
