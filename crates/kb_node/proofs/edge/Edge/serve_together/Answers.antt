use Rattle.std.proofs.Common.{refl, ap, ◌∙◌}
use Rattle.kb_node.proofs.Goes.{goes_committed, goes_refused, goes_silent, goes_still, goes_then}
use Rattle.kb_node.proofs.Known.{some_is_there, telling_lasting}
use Rattle.kb_node.proofs.Seats.{same_host}
use Rattle.kb_node.proofs.Telling.{goes_telling, telling_knowing, telling_then}
use Rattle.kb_node.proofs.edge.Edge.serve_together.Goals as goal

pub returns-in_err-commit-clause-goes : goal.returns-in_err-commit-clause-goes
returns-in_err-commit-clause-goes g c =
    let some = some_is_there c.in_err-commit.ensures.refused in
    goes_then (goes_silent c.hand_on.ensures) (goes_then (goes_still c.hear_speakers.ensures.seen)
    (goes_refused c.commit.ensures.tried c.commit.ensures.sync some (c.commit.ensures.commits, some) refl))

pub returns-clause-goes : goal.returns-clause-goes
returns-clause-goes g c =
    let settled = g.S.Store.settled in let disk = g.S.Store.disk in let loss = g.S.Store.loss in
    let last = c.tell_asked.new.self.host.commits in
    let told = c.tell_asked.ensures.commits in
    goes_then (goes_silent c.hand_on.ensures) (goes_then (goes_still c.hear_speakers.ensures.seen)
    (goes_then (goes_committed c.commit.ensures.tried c.commit.ensures.sync c.in_ok-commit.ensures.well.1 (c.commit.ensures.commits, c.in_ok-commit.ensures.lasts) refl)
    (goes_telling (telling_then
    (telling_knowing (telling_lasting settled disk loss c.commit.new.self.commits last (ap (λ x. x.sync) (told ∙ c.tell.ensures.commits))) c.tell.ensures.tells)
    (telling_knowing (telling_lasting settled disk loss c.tell.new.self.host.commits last (ap (λ x. x.sync) told)) c.tell_asked.ensures.tells)))))

pub returns-clause-well : goal.returns-clause-well
returns-clause-well g c = ap (λ x. x.fault) (c.tell_asked.ensures.commits ∙ c.tell.ensures.commits) ∙ c.in_ok-commit.ensures.well.1

pub invariant_of-self-clause-seated : goal.invariant_of-self-clause-seated
invariant_of-self-clause-seated g c = same_host c.hear_speakers.new.self.host c.commit.new.self c.hear_speakers.new.self.shares c.hear_speakers.new.self.sockets.items c.commit.ensures.tried c.hear_speakers.new.self.seated
