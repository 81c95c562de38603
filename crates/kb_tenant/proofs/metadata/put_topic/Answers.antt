use Rattle.std.proofs.Common.{arith, w16}
use Rattle.std.proofs.lemmas.Int.{to_z-of_z}
use Rattle.std.proofs.lemmas.Result.{on_ok_weaker}
use Rattle.kb_tenant.proofs.Described.{topic_written}
use Rattle.kb_tenant.proofs.Fitting.{small_count}
use Rattle.kb_tenant.proofs.metadata.put_topic.Goals as goal

pub put_count-requires : goal.put_count-requires
put_count-requires c = small_count c.args.partitions (omega (arith, c.if-partitions.false))

pub returns : goal.returns
returns c = on_ok_weaker c.put_partitions.result (λ last.
    topic_written c.args.version _ c.args.error_code _ c.args.name.now c.args.partitions c.has_epochs.result c.has_offline-has_offline.result c.args.sink.now.bytes c.put_i16.new.self.bytes c.put_string.new.self.bytes c.put_internal.new.sink.bytes c.put_count.new.self.bytes c.put_partitions.new.sink.bytes
    (to_z-of_z w16 c.args.version c.ranges.version) (to_z-of_z w16 c.args.error_code c.ranges.error_code) c.has_epochs.ensures c.has_offline-has_offline.ensures c.in_ok-put_i16.ensures.ok c.in_ok-put_string.ensures.ok c.in_ok-put_internal.ensures c.in_ok-put_count.ensures.ok last) c.put_partitions.ensures
