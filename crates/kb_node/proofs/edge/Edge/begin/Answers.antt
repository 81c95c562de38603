use Rattle.std.proofs.Common.{◌∙◌, ap}
use Rattle.kb_node.proofs.Goes.{happens_same}
use Rattle.kb_node.proofs.Seats.{same_host}
use Rattle.kb_node.proofs.edge.Edge.begin.Goals as goal

pub returns-clause-moment : goal.returns-clause-moment
returns-clause-moment g c = happens_same (c.hear_all.ensures ∙ c.answer_denied.ensures ∙ c.hear_speakers.ensures.seen) c.moment.ensures.happens

pub returns-clause-tried : goal.returns-clause-tried
returns-clause-tried g c =
    ap (λ x. x.host.tried) (c.hear_all.ensures ∙ c.answer_denied.ensures ∙ c.hear_speakers.ensures.seen) ∙ c.moment.ensures.tried

pub returns-clause-sync : goal.returns-clause-sync
returns-clause-sync g c =
    ap (λ x. x.host.commits.sync) (c.hear_all.ensures ∙ c.answer_denied.ensures ∙ c.hear_speakers.ensures.seen) ∙ ap (λ x. x.sync) c.moment.ensures.commits

pub returns-clause-sockets : goal.returns-clause-sockets
returns-clause-sockets g c = ap (λ x. x.sockets) (c.hear_all.ensures ∙ c.answer_denied.ensures ∙ c.hear_speakers.ensures.seen)

pub invariant_of-self-clause-seated : goal.invariant_of-self-clause-seated
invariant_of-self-clause-seated g c = same_host c.args.self.now.host c.moment.new.self c.args.self.now.shares c.args.self.now.sockets.items c.moment.ensures.tried c.args.self.now.seated
