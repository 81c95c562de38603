use Rattle.std.proofs.Common.{⊎_elim, ap, refl}
use Rattle.kb_node.specs.Cores.{seen}
use Rattle.kb_node.proofs.Goes.{goes_committed, goes_knowing, goes_refused, goes_still, goes_then}
use Rattle.kb_node.proofs.Known.{hasty_lasting, some_is_there}
use Rattle.kb_node.proofs.Told.{no_fault, none_waits}
use Rattle.kb_node.proofs.Seats.{same_host}
use Rattle.kb_node.proofs.edge.Edge.answer.Goals as goal

pub returns-in_err-commit_in_time-clause-goes : goal.returns-in_err-commit_in_time-clause-goes
returns-in_err-commit_in_time-clause-goes g c =
    let some = some_is_there c.in_err-commit_in_time.ensures.refused in
    goes_refused c.commit_in_time.ensures.tried c.commit_in_time.ensures.sync some (c.commit_in_time.ensures.commits, some) refl

pub returns-clause-goes : goal.returns-clause-goes
returns-clause-goes g c =
    let last = c.serve_at_once.new.self.host.commits in
    goes_then (⊎_elim
    (λ same. goes_still (ap (λ h. seen h c.args.self.now.sockets.items) same))
    (λ lasts. goes_committed c.commit_in_time.ensures.tried c.commit_in_time.ensures.sync c.in_ok-commit_in_time.ensures.well (c.commit_in_time.ensures.commits, lasts) refl)
    c.in_ok-commit_in_time.ensures.lasts)
    (goes_knowing (hasty_lasting g.S.Store.settled g.S.Store.disk g.S.Store.loss last (none_waits last c.serve_at_once.ensures.commits)) c.serve_at_once.ensures.goes)

pub returns-clause-well : goal.returns-clause-well
returns-clause-well g c = no_fault c.serve_at_once.new.self.host.commits c.serve_at_once.ensures.commits

pub invariant_of-self-clause-seated : goal.invariant_of-self-clause-seated
invariant_of-self-clause-seated g c = same_host c.args.self.now.host c.commit_in_time.new.self c.args.self.now.shares c.args.self.now.sockets.items c.commit_in_time.ensures.tried c.args.self.now.seated
