use Rattle.std.proofs.Common.{rules, ◌≡◌, true}
use Rattle.kb_tenant.proofs.Room.{value_due}
use Rattle.kb_tenant.proofs.produce.reply.put.Goals as goal

pub returns-clause-put : goal.returns-clause-put
returns-clause-put g c =
    let due : c.args.due ≡ true = search rules in
    let w = c.write.ensures in
    value_due c.args.due _ c.args.sink.now c.write.new.sink c.write.result due w.ok w.succeeds w.room
