use Rattle.std.proofs.Common.{ap, refl, subst}
use Rattle.kb_isolation_spec.specs.Machine.{Closes, leaving}
use Rattle.kb_broker.specs.Hosts.{OnStore}
use Rattle.kb_broker.proofs.Honest.{ready-of}
use Rattle.kb_node.specs.Commits.{Host}
use Rattle.kb_node.specs.Traffic.{Happens}
use Rattle.kb_node.proofs.committed.Committed.disconnect.Goals as goal

pub returns-clause-happens : goal.returns-clause-happens
returns-clause-happens g c =
    let disk = g.S.Store.disk in
    let same = ap (λ (h : Host g.row.S.Denot). h.broker) c.self.view_is in
    let old = c.self.inside.broker in
    let is = c.disconnect.ensures.state in
    subst (λ (b : OnStore g.row.S.Denot). Happens disk (Closes c.args.number) b c.disconnect.new.self) same (record {
      step = c.disconnect.ensures.step;
      spoken = λ honest. c.disconnect.ensures.spoken;
      ready = ready-of disk c.disconnect.new.self c.disconnect.ensures.ready;
      honest = λ honest. subst (λ s. (disk s).honest) (ap (λ (b : OnStore g.row.S.Denot). b.store) is) honest;
      within = tt;
      leads = (leaving (Closes c.args.number) old.state.lines, (ap (λ (b : OnStore g.row.S.Denot). b.state) is, refl));
    })
