use Rattle.std.proofs.Common.{rules}
use Rattle.kb_wire.proofs.Whole.{bad_stays, short_ends}
use Rattle.kb_wire.proofs.layout.faults_stand.Goals as goal

pub returns-clause-bad : goal.returns-clause-bad
returns-clause-bad g c = search (rules, bad_stays)

pub returns-clause-short : goal.returns-clause-short
returns-clause-short g c = search (rules, short_ends)
