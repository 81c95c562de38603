use Rattle.std.proofs.Common.{[], ap, refl, subst}
use Rattle.kb_isolation_spec.specs.Machine.{Moment}
use Rattle.kb_broker.specs.Hosts.{OnStore}
use Rattle.kb_broker.proofs.Honest.{ready-of}
use Rattle.kb_node.specs.Commits.{Host}
use Rattle.kb_node.specs.Traffic.{Happens}
use Rattle.kb_node.proofs.committed.Committed.moment.Goals as goal

pub returns-clause-happens : goal.returns-clause-happens
returns-clause-happens g c =
    let disk = g.S.Store.disk in
    let same = ap (λ (h : Host g.row.S.Denot). h.broker) c.self.view_is in
    let later = c.moment.ensures.later in
    subst (λ (b : OnStore g.row.S.Denot). Happens disk (Moment c.args.now) b c.moment.new.self) same (record {
      step = c.moment.ensures.step;
      spoken = later.spoken;
      ready = ready-of disk c.moment.new.self c.moment.ensures.ready;
      honest = later.honest;
      within = (c.requires, tt);
      leads = ([], (c.moment.ensures.numbers, refl));
    })
