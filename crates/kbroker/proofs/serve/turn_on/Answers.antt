use Rattle.std.proofs.Common.{arith, rules, refl, ◌∙◌, ◌+◌, ◌++◌, ◌∷◌, [], ap, length-append}
use Rattle.kbroker.proofs.Turned.{turned_none, turned_on}
use Rattle.kbroker.proofs.serve.turn_on.Goals as goal

pub loop-init : goal.loop-init
loop-init g c = (c.requires, ([], turned_none _ _, refl))

pub loop-preserved : goal.loop-preserved
loop-preserved g c =
    let before = c.loop.invariant.1 in
    let reading = c.turn_once.ensures.clock in (
      c.in_ok-turn_once.ensures.well,
      (
        before.0 ++ reading.0 ∷ [],
        turned_on g.S.Store.settled g.S.Store.disk g.S.Store.loss reading.0 _ _ c.loop.invariant.0 before.1 reading.1 refl c.turn_once.ensures.turn,
        length-append before.0 (reading.0 ∷ []) ∙ ap (λ n. n + 1) before.2,
      ),
    )

pub returns-in_err-turn_once-clause-turned : goal.returns-in_err-turn_once-clause-turned
returns-in_err-turn_once-clause-turned g c =
    let before = c.loop.invariant.1 in
    let reading = c.turn_once.ensures.clock in
    (before.0 ++ reading.0 ∷ [], turned_on g.S.Store.settled g.S.Store.disk g.S.Store.loss reading.0 _ _ c.loop.invariant.0 before.1 reading.1 refl c.turn_once.ensures.turn, search rules)

pub returns-clause-turned : goal.returns-clause-turned
returns-clause-turned g c = let all = c.loop.invariant.1 in (all.0, all.1, omega (arith, all.2))
