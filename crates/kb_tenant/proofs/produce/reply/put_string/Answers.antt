use Rattle.std.proofs.Common.{rules, ◌≡◌, true, ◌+◌, length}
use Rattle.kb_wire.specs.Codec.{string}
use Rattle.kb_tenant.proofs.Room.{put_due, string_length}
use Rattle.kb_tenant.proofs.produce.reply.put_string.Goals as goal

pub returns-clause-put : goal.returns-clause-put
returns-clause-put c =
    let due : c.args.due ≡ true = search rules in
    put_due c.args.due (2 + length c.args.text.now) (string.written c.args.text.now) c.args.sink.now c.put_string.new.self c.put_string.result due (string_length c.args.text.now) c.put_string.ensures
