use Rattle.std.proofs.Common.{◌∙◌, ◌<◌, ap, arith, length, set, sym}
use Rattle.std.proofs.lemmas.List.Edits.{map_over_more}
use Rattle.kb_operator.specs.Unread.{with_unread}
use Rattle.kb_operator.specs.declared.journal.Tenant.{Tenant}
use Rattle.kb_operator.proofs.journal.unread.count_as_told.Goals as goal

pub loop-tenant-preserved : goal.loop-tenant-preserved
loop-tenant-preserved g c =
    let before = c.loop-tenant in
    let tell : Tenant → Tenant = with_unread (g.B.RefusalCounts.counts c.args.broker.now).unread in
    let tenants = c.args.tenants.now in
    let i = before.tenant-index in
    let item = c.tenant-item.result in
    let within : i < length tenants = omega arith in
    ap (set before.tenants i) (c.note_waits.ensures ∙ ap tell (sym c.tenant-item.is))
    ∙ map_over_more tell tenants before.tenants i item within before.invariant c.tenant-item.is
