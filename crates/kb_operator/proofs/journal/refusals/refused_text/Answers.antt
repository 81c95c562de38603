use Rattle.std.proofs.Common.{◌<◌, arith, length, string_bytes}
use Rattle.kb_operator.specs.Refused.{refused_part}
use Rattle.kb_operator.proofs.Pushed.{parts_left}
use Rattle.kb_operator.proofs.journal.refusals.refused_text.Goals as goal

pub loop-tenant-preserved : goal.loop-tenant-preserved
loop-tenant-preserved g c =
    let before = c.loop-tenant in
    let tenants = c.args.tenants.now in
    let i = before.tenant-index in
    let item = c.tenant-item.result in
    let within : i < length tenants = omega arith in
    parts_left (refused_part (g.B.RefusalCounts.counts c.args.broker.now).refused) tenants i item (string_bytes before.text)
    (string_bytes c.push_refused.new.text) _ within c.tenant-item.is c.in_ok-push_refused.ensures before.invariant
