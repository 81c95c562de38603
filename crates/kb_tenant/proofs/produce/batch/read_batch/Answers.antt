use Rattle.kb_tenant.proofs.Produced.{batch_read}
use Rattle.kb_tenant.proofs.produce.batch.read_batch.Goals as goal

pub returns-in-Ok : goal.returns-in-Ok
returns-in-Ok c = batch_read c.args.records.now _ c.as_slice.result.now c.in-Ok.batch c.in-Some.is c.as_slice.ensures c.in-Ok.ensures.read c.in-Ok.ensures.accepted
