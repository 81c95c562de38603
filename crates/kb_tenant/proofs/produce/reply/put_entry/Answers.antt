use Rattle.std.proofs.Common.{refl, subst, sym}
use Rattle.kb_tenant.specs.Room.{entry_length, length_due, IsPut}
use Rattle.kb_tenant.proofs.Produced.{entry_reply_fits, entry_reply_v5_fits}
use Rattle.kb_tenant.proofs.Room.{answer_length, answer_v5_length}
use Rattle.kb_tenant.proofs.produce.reply.put_entry.Goals as goal

pub put-requires : goal.put-requires
put-requires c κs = ((refl, tt), entry_reply_v5_fits c.args.reply.now)

pub put-requires-2 : goal.put-requires-2
put-requires-2 c κs = ((refl, tt), entry_reply_fits _)

pub returns-then-has_starts-clause-put : goal.returns-then-has_starts-clause-put
returns-then-has_starts-clause-put c =
    let due = c.args.due in
    subst (λ s. IsPut (length_due due (entry_length s)) c.args.sink.now c.put.result c.put.new.sink) (sym c.if-has_starts.true)
    (subst (λ n. IsPut (length_due due n) c.args.sink.now c.put.result c.put.new.sink) (answer_v5_length c.args.reply.now) c.put.ensures.put)

pub returns-clause-put : goal.returns-clause-put
returns-clause-put c =
    let due = c.args.due in
    subst (λ s. IsPut (length_due due (entry_length s)) c.args.sink.now c.put-2.result c.put-2.new.sink) (sym c.if-has_starts.false)
    (subst (λ n. IsPut (length_due due n) c.args.sink.now c.put-2.result c.put-2.new.sink) (answer_length _) c.put-2.ensures.put)
