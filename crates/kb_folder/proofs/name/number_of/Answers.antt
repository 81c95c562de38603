use Rattle.std.proofs.Common.{◌≤◌, ◌<◌, ◌+◌, ◌-◌, ◌*◌, get_or, sym, arith, rules}
use Rattle.kb_folder.proofs.Names.{too_many, all_read}
use Rattle.kb_folder.proofs.name.number_of.Goals as goal

pub returns-then-number-value : goal.returns-then-number-value
returns-then-number-value c =
    let i = c.loop-digit.invariant in
    let over : 18446744073709551616 ≤ 10 * c.loop-digit.number + (get_or c.args.digits.now c.loop-digit.digit-index 0 - 48) = search rules in
    sym (too_many c.args.digits.now c.loop-digit.digit-index c.loop-digit.number c.loop-digit-test.true i.number over)

pub returns : goal.returns
returns c =
    let i = c.loop-digit.invariant in
    let small : c.loop-digit.number < 18446744073709551616 = search rules in
    all_read c.args.digits.now c.loop-digit.digit-index c.loop-digit.number (omega (arith, c.loop-digit-test.false)) i.digits i.number small
