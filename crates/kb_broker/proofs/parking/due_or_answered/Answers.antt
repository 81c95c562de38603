use Rattle.std.proofs.Common.{◌≡◌, ◌∙◌, ◌++◌, ap, arith, take}
use Rattle.std.proofs.lemmas.List.{take_all}
use Rattle.kb_broker.proofs.Parked.{due-more, when-ok}
use Rattle.kb_broker.proofs.parking.due_or_answered.Goals as goal

pub returns : goal.returns
returns c =
    let all : take c.loop-number.number-index c.args.answered.now ≡ c.args.answered.now = take_all c.loop-number.number-index c.args.answered.now (omega (arith, c.loop-number-test.false)) in
    due-more c.args.waits.now c.args.clock c.due.new.out.items c.args.answered.now c.loop-number.numbers.items (when-ok c.due.result _ (c.due.ensures.succeeds c.requires) c.due.ensures.due)
    (c.loop-number.invariant ∙ ap (λ xs. c.due.new.out.items ++ xs) all)
