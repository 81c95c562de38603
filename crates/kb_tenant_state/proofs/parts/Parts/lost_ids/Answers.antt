use Rattle.std.proofs.Common.{arith}
use Rattle.kb_tenant_state.proofs.SkippedIds.{next_seen}
use Rattle.kb_tenant_state.proofs.parts.Parts.lost_ids.Goals as goal

pub returns-clause-lost : goal.returns-clause-lost
returns-clause-lost g c = λ table next files sound agrees.
    let is = next_seen g.L.PartitionLog.log files c.args.self.now table next sound agrees in
    omega (arith, is, c.next_id.ensures, c.min-next.ensures, c.next_producer_id.ensures, c.saturating_sub.ensures)

pub returns-clause-left : goal.returns-clause-left
returns-clause-left g c = λ n lt. omega (arith, lt, c.min-next.ensures, c.next_producer_id.ensures, c.saturating_sub.ensures)
