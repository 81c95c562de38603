use Rattle.std.proofs.Common.{◌≡◌, ◌+◌, ◌*◌, ◌^◌, ◌<◌, ◌≤◌, length, get_or, sym, ap, ◌∙◌, arith, None, rules, drop_of_length-le}
use Rattle.std.proofs.lemmas.Grind.{common_steps}
use Rattle.std.specs.Char.{digit_value}
use Rattle.std.specs.Str.{all_ascii_digits}
use Rattle.std.specs.Str.Parse.{digits_value_after}
use Rattle.kb_broker.specs.Script.{number}
use Rattle.kb_broker.proofs.ScriptLines.{value-next, number-none, number-some}
use Rattle.kb_broker.proofs.script.line.number.Goals as goal

pub returns-in_err-value : goal.returns-in_err-value
returns-in_err-value c =
    let lt : c.loop-c.c-index < length c.args.text.now = omega arith in
    let next = value-next c.args.text.now c.loop-c.c-index c.loop-c.value _ lt c.loop-c.invariant.value in
    let none : c.with_digit.result ≡ None = search rules in
    let over : 2 ^ 64 ≤ c.loop-c.value * 10 + digit_value (get_or c.args.text.now c.loop-c.c-index 0) = grind (arith, common_steps) in
    let is : number c.args.text.now ≡ None = number-none c.args.text.now (omega arith) in
    let was : c.from_residual.result ≡ None = search rules in
    was ∙ sym is

pub returns : goal.returns
returns c =
    let none = drop_of_length-le c.args.text.now {i = c.loop-c.c-index} (omega arith) in
    number-some c.args.text.now c.loop-c.value c.loop-c.invariant.some
    (sym c.loop-c.invariant.digits ∙ ap all_ascii_digits none) (sym c.loop-c.invariant.value ∙ ap (digits_value_after 10 c.loop-c.value) none) c.loop-c.invariant.fits
