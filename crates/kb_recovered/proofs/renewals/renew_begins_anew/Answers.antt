use Rattle.kb_topics.specs.Catalog.{known}
use Rattle.kb_tenant_state.specs.Parts.{meta}
use Rattle.kb_loss.proofs.Known.{anew_of}
use Rattle.kb_recovered.proofs.Results.{on_ok}
use Rattle.kb_recovered.proofs.renewals.renew_begins_anew.Goals as goal

pub returns : goal.returns
returns g c =
    let files = (g.S.Store.disk c.renew.new.shelf.store).files in
    let log = meta g.L.PartitionLog.log c.renew.new.parts in
    on_ok c.renew.result c.renew.ensures.order (λ order honest generation batches more was before fold later front.
    anew_of generation batches more was (known c.args.parts.now.catalog) (log.batches files) later before fold (order.said honest) front)
