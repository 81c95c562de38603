use Rattle.std.proofs.Common.{◌≡◌, ◌-◌, ◌++◌}
use Rattle.kb_operator.specs.Refused.{closed_lines, in_thirties}
use Rattle.kb_operator.specs.Report.{bytes_of_each}
use Rattle.kb_operator.proofs.journal.sockets.closed_texts.Given as goal

-- the texts so far, and those that are left
abbrev pub invariant-loop-line : goal.invariant-loop-line
invariant-loop-line g l =
    let closed = (g.B.RefusalCounts.counts l.broker).closed in
    bytes_of_each l.texts.items ++ closed_lines closed l.silent (in_thirties (l.count - l._line) l.rest)
    ≡ closed_lines closed l.fn.closed (in_thirties l.count l.tenants)
