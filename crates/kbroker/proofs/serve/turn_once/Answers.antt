use Rattle.std.proofs.Common.{ap, refl, ◌∙◌}
use Rattle.kb_node.proofs.Goes.{seen_same}
use Rattle.kbroker.proofs.Turned.{turned_between}
use Rattle.kbroker.proofs.serve.turn_once.Goals as goal

pub returns-in-Ok-clause-clock : goal.returns-in-Ok-clause-clock
returns-in-Ok-clause-clock g c = (c.of-reading.result, c.next-tick.ensures.clock)

pub returns-in-Ok-clause-turn : goal.returns-in-Ok-clause-turn
returns-in-Ok-clause-turn g c = turned_between g.S.Store.settled g.S.Store.disk g.S.Store.loss _ _ c.wait.ensures.seen c.next-tick.ensures.moment
    (c.turn-turned.ensures.turn (ap (λ x. x.host.commits.fault) c.wait.ensures.seen ∙ c.requires)) (seen_same c.note_turn.ensures.host c.note_turn.ensures.sockets)

pub returns-in-Ok-clause-well : goal.returns-in-Ok-clause-well
returns-in-Ok-clause-well g c = ap (λ h. h.commits.fault) c.note_turn.ensures.host ∙ c.in-Ok.ensures.well

pub returns-in-Err-clause-clock : goal.returns-in-Err-clause-clock
returns-in-Err-clause-clock g c = (c.of-reading.result, c.next-tick.ensures.clock)

pub returns-in-Err-clause-turn : goal.returns-in-Err-clause-turn
returns-in-Err-clause-turn g c = turned_between g.S.Store.settled g.S.Store.disk g.S.Store.loss _ _ c.wait.ensures.seen c.next-tick.ensures.moment
    (c.turn-turned.ensures.turn (ap (λ x. x.host.commits.fault) c.wait.ensures.seen ∙ c.requires)) refl
