use Rattle.std.proofs.Common.{ap, sym}
use Rattle.kb_tenant_state.specs.Gone.{bytes_at}
use Rattle.kb_tenant_state.specs.Stored.{up_to_end}
use Rattle.kb_tenant_state.proofs.Gone.{size_there, size_wants}
use Rattle.kb_tenant_state.proofs.Placed.{missing}
use Rattle.kb_tenant_state.proofs.Sized.{no_look}
use Rattle.kb_tenant_state.proofs.partitions.Partitions.size_at.Goals as goal

pub returns-in-Some-clause-looks : goal.returns-in-Some-clause-looks
returns-in-Some-clause-looks g c =
    let shelf = c.size.ensures.shelf in
    record { disk = shelf.disk; next = shelf.next; failures = shelf.failures }

pub returns-in-Some-clause-size : goal.returns-in-Some-clause-size
returns-in-Some-clause-size g c =
    let disk = g.S.Store.disk in
    let old = c.args.shelf.now in
    let new = c.size.new.shelf in
    size_there g.L.PartitionLog.log c.args.self.now.topics.entries (disk old.store) (disk new.store) old.next new.next c.args.instance c.args.number c.in-Some.partition.now c.size.result c.in-Some.ensures c.size.ensures.size

pub returns-in-Some-clause-cause : goal.returns-in-Some-clause-cause
returns-in-Some-clause-cause g c =
    let disk = g.S.Store.disk in
    let old = c.args.shelf.now in
    let new = c.size.new.shelf in
    size_wants g.L.PartitionLog.log c.args.self.now.topics.entries (disk old.store) (disk new.store) old.next new.next c.args.instance c.args.number c.in-Some.partition.now c.size.result c.in-Some.ensures c.size.ensures.cause

pub returns-in-None-clause-looks : goal.returns-in-None-clause-looks
returns-in-None-clause-looks g c = no_look (g.S.Store.disk c.args.shelf.now.store) c.args.shelf.now.next

pub returns-in-None-clause-size : goal.returns-in-None-clause-size
returns-in-None-clause-size g c = λ honest agree.
    sym (ap (λ o. up_to_end (bytes_at o)) (missing g.L.PartitionLog.log c.args.self.now.topics.entries c.args.instance c.args.number (g.S.Store.disk c.args.shelf.now.store).files (sym c.in-None.ensures)))
