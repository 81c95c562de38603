use Rattle.std.proofs.Common.{IsSome, ap, length, ◌∙◌, subst, sym}
use Rattle.kb_broker.specs.Speakers.{speakers}
use Rattle.kb_node.specs.declared.commits.Commits.{Commits}
use Rattle.kb_node.specs.Ready.{AreCalled}
use Rattle.kb_node.proofs.Goes.{goes_knowing, goes_same, goes_silent, goes_then, run_of, turned}
use Rattle.kb_node.proofs.Known.{lasting_on}
use Rattle.kb_node.proofs.edge.Edge.turn.Goals as goal

pub returns-in_err-answer-clause-turn : goal.returns-in_err-answer-clause-turn
returns-in_err-answer-clause-turn g c = λ _. turned c.begin.ensures.moment c.begin.ensures.tried c.begin.ensures.sync c.begin.ensures.sockets
    (goes_then (goes_silent c.close_silent.ensures) (goes_then (goes_silent c.accept.ensures) c.answer.ensures.goes))

pub returns-in_err-answer-clause-run : goal.returns-in_err-answer-clause-run
returns-in_err-answer-clause-run g c = λ _. run_of (turned c.begin.ensures.moment c.begin.ensures.tried c.begin.ensures.sync c.begin.ensures.sockets
    (goes_then (goes_silent c.close_silent.ensures) (goes_then (goes_silent c.accept.ensures) c.answer.ensures.goes)))

pub returns-clause-turn : goal.returns-clause-turn
returns-clause-turn g c = λ _.
    let same = ap (λ x. x.host.commits) c.hear_speakers.ensures.seen ∙ c.close_late.ensures.commits in
    let weaker = lasting_on g.S.Store.settled g.S.Store.disk g.S.Store.loss c.answer.new.self.host.commits c.hear_speakers.new.self.host.commits (ap (λ x. x.sync) same)
    (λ some. subst (λ (x : Commits). IsSome x.fault) (sym same) some) in
    turned c.begin.ensures.moment c.begin.ensures.tried c.begin.ensures.sync c.begin.ensures.sockets
    (goes_then (goes_silent c.close_silent.ensures) (goes_then (goes_silent c.accept.ensures)
    (goes_then (goes_knowing weaker c.answer.ensures.goes) (goes_same c.hear_speakers.ensures.seen (goes_silent c.close_late.ensures.goes)))))

pub returns-clause-run : goal.returns-clause-run
returns-clause-run g c = λ ready. run_of (returns-clause-turn g c ready)

pub returns-clause-well : goal.returns-clause-well
returns-clause-well g c = ap (λ x. x.host.commits.fault) c.hear_speakers.ensures.seen ∙ ap (λ x. x.fault) c.close_late.ensures.commits ∙ c.in_ok-answer.ensures.well

pub returns-clause-called : goal.returns-clause-called
returns-clause-called g c = λ more. λ room.
    let host = ap (λ x. x.host.broker.state) c.hear_speakers.ensures.seen in
    subst (λ b. AreCalled b c.hear_speakers.new.self.sockets.items) (sym host) (c.hear_speakers.ensures.called
    (λ e. more (ap (λ b. length (speakers b.lines)) host ∙ e ∙ sym (ap (λ d. length d.moments.moments.keys) c.hear_speakers.ensures.delays))) room)
