use Rattle.kb_isolation_spec.proofs.LimitsKept.{left-within, own-within}
use Rattle.kb_broker.proofs.Honest.{ready-of}
use Rattle.kb_broker.proofs.promises.limits_are_kept.Goals as goal

pub returns-clause-moments : goal.returns-clause-moments
returns-clause-moments g c = λ honest t mine es run owns.
    let b = c.args.broker.now in
    own-within t mine es b.state (ready-of g.S.Store.disk b c.connections.ensures.ready honest) run owns (c.connections.ensures.ordered honest t)

pub returns-clause-worlds : goal.returns-clause-worlds
returns-clause-worlds g c = λ honest t es after got run leaves calm.
    let b = c.args.broker.now in
    left-within t es b.state after got leaves (ready-of g.S.Store.disk b c.connections.ensures.ready honest) run calm (c.connections.ensures.ordered honest t)
