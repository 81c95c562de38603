use Rattle.std.proofs.Common.{◌<◌, ap, subst, sym}
use Rattle.kb_isolation_spec.specs.Machine.{Opens}
use Rattle.kb_broker.specs.Hosts.{OnStore}
use Rattle.kb_node.specs.Commits.{Host}
use Rattle.kb_node.specs.Traffic.{Happens}
use Rattle.kb_node.proofs.Traffic.{opens}
use Rattle.kb_node.proofs.committed.Committed.connect.Goals as goal

pub returns-clause-happens : goal.returns-clause-happens
returns-clause-happens g c =
    let disk = g.S.Store.disk in
    let same = ap (λ (h : Host g.row.S.Denot). h.broker) c.self.view_is in
    subst (λ (b : OnStore g.row.S.Denot). Happens disk (Opens c.args.number) b c.connect.new.self) same
    (opens disk c.args.number c.self.inside.broker c.connect.new.self c.connect.result c.connect.ensures.store c.connect.ensures.step
    c.connect.ensures.spoken c.connect.ensures.ready
    (subst (λ (b : OnStore g.row.S.Denot). b.state.last < c.args.number) (sym same) c.requires.last) c.connect.ensures.ok c.connect.ensures.err)
