use Rattle.std.proofs.Common.{ap, sym}
use Rattle.kb_tenant_state.specs.Stored.{up_to_end}
use Rattle.kb_tenant_state.proofs.Gone.{sound_here, topic_missing, topic_there, topic_wants}
use Rattle.kb_tenant_state.proofs.Sized.{no_look}
use Rattle.kb_tenant_state.proofs.partitions.Partitions.topic_size.Goals as goal

pub size_of_topic-requires : goal.size_of_topic-requires
size_of_topic-requires g c =
    sound_here g.L.PartitionLog.log c.args.self.now.topics.entries c.args.instance c.in-Some.partitions.now (sym c.in-Some.ensures.value) c.as_slice.result.now c.as_slice.ensures.value
    (g.S.Store.disk c.args.shelf.now.store).table c.args.shelf.now.next c.requires

pub returns-in-Some-clause-size : goal.returns-in-Some-clause-size
returns-in-Some-clause-size g c =
    let disk = g.S.Store.disk in
    let old = c.args.shelf.now in
    let new = c.size_of_topic.new.shelf in
    topic_there g.L.PartitionLog.log c.args.self.now.topics.entries c.args.instance c.in-Some.partitions.now (sym c.in-Some.ensures.value) (disk old.store) (disk new.store) old.next new.next
    c.as_slice.result.now c.as_slice.ensures.value c.size_of_topic.result c.size_of_topic.ensures.size

pub returns-in-Some-clause-cause : goal.returns-in-Some-clause-cause
returns-in-Some-clause-cause g c =
    let disk = g.S.Store.disk in
    let old = c.args.shelf.now in
    let new = c.size_of_topic.new.shelf in
    topic_wants g.L.PartitionLog.log c.args.self.now.topics.entries c.args.instance c.in-Some.partitions.now (sym c.in-Some.ensures.value) (disk old.store) (disk new.store) old.next new.next
    c.as_slice.result.now c.as_slice.ensures.value c.size_of_topic.result c.size_of_topic.ensures.cause

pub returns-in-None-clause-looks : goal.returns-in-None-clause-looks
returns-in-None-clause-looks g c = no_look (g.S.Store.disk c.args.shelf.now.store) c.args.shelf.now.next

pub returns-in-None-clause-size : goal.returns-in-None-clause-size
returns-in-None-clause-size g c = λ honest agree.
    sym (ap up_to_end (topic_missing g.L.PartitionLog.log c.args.self.now.topics.entries c.args.instance (g.S.Store.disk c.args.shelf.now.store).files (sym c.in-None.ensures.value)))
