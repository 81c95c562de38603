use Rattle.std.proofs.Common.{rules, ◌≡◌, true, w32}
use Rattle.kb_wire.specs.Codec.{count}
use Rattle.kb_tenant.proofs.Room.{count_length, put_due}
use Rattle.kb_tenant.proofs.produce.reply.put_count.Goals as goal

pub returns-clause-put : goal.returns-clause-put
returns-clause-put c =
    let due : c.args.due ≡ true = search rules in
    put_due c.args.due 4 ((count w32).written c.args.n) c.args.sink.now c.put_count.new.self c.put_count.result due (count_length c.args.n) c.put_count.ensures
