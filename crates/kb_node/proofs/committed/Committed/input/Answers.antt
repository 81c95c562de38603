use Rattle.std.proofs.Common.{[], ap, refl, subst}
use Rattle.kb_isolation_spec.specs.Machine.{Comes}
use Rattle.kb_broker.specs.Hosts.{OnStore}
use Rattle.kb_broker.proofs.Honest.{ready-of}
use Rattle.kb_node.specs.Commits.{Host}
use Rattle.kb_node.specs.Traffic.{Happens}
use Rattle.kb_node.proofs.committed.Committed.input.Goals as goal

pub returns-clause-happens : goal.returns-clause-happens
returns-clause-happens g c =
    let disk = g.S.Store.disk in
    let same = ap (λ (h : Host g.row.S.Denot). h.broker) c.self.view_is in
    let later = c.input.ensures.later in
    subst (λ (b : OnStore g.row.S.Denot). Happens disk (Comes c.args.number c.args.piece.now) b c.input.new.self) same (record {
      step = c.input.ensures.step;
      spoken = later.spoken;
      ready = ready-of disk c.input.new.self c.input.ensures.ready;
      honest = later.honest;
      within = tt;
      leads = ([], (c.input.ensures.numbers, refl));
    })
