use Rattle.std.proofs.Common.{◌≡◌, ◌∙◌, ap, subst}
use Rattle.kb_broker.specs.Hosts.{OnStore}
use Rattle.kb_node.specs.Commits.{Host}
use Rattle.kb_node.specs.Sockets.{speaks_of}
use Rattle.kb_node.proofs.Speaks.{speaks_found}
use Rattle.kb_node.proofs.committed.Committed.speaks.Goals as goal

pub returns : goal.returns
returns g c =
    let same = ap (λ (h : Host g.row.S.Denot). h.broker) c.self.view_is in
    subst (λ (b : OnStore g.row.S.Denot). c.is_ok.result ≡ speaks_of c.args.number b.state) same
    (c.is_ok.ensures.value ∙ speaks_found c.args.number c.self.inside.broker.state c.speakers.result.now c.binary_search.result
    c.speakers.ensures.is c.speakers.ensures.rises c.binary_search.ensures.position)
