use Rattle.std.proofs.Common.{◌≡◌, ◌++◌, drop}
use Rattle.kb_operator.specs.Report.{bytes_of_each}
use Rattle.kb_operator.specs.Unread.{unread_texts}
use Rattle.kb_operator.proofs.journal.unread.unread_texts.Given as goal

-- the texts so far, and those that are left
abbrev pub invariant-loop-tenant : goal.invariant-loop-tenant
invariant-loop-tenant g l =
    let unread = (g.B.RefusalCounts.counts l.broker).unread in
    bytes_of_each l.texts.items ++ unread_texts unread (drop l.tenant-index l.tenants) ≡ unread_texts unread l.tenants
