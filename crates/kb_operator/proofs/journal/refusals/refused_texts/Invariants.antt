use Rattle.std.proofs.Common.{◌≡◌, ◌-◌, ◌++◌}
use Rattle.kb_operator.specs.Refused.{in_thirties, refused_lines}
use Rattle.kb_operator.specs.Report.{bytes_of_each}
use Rattle.kb_operator.proofs.journal.refusals.refused_texts.Given as goal

-- the texts so far, and those that are left
abbrev pub invariant-loop-line : goal.invariant-loop-line
invariant-loop-line g l =
    let refused = (g.B.RefusalCounts.counts l.broker).refused in
    bytes_of_each l.texts.items ++ refused_lines refused l.unbound l.others.disk l.others.whose.now (in_thirties (l.count - l._line) l.rest)
    ≡ refused_lines refused l.others.unbound l.others.disk l.others.whose.now (in_thirties l.count l.tenants)
