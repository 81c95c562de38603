use Rattle.std.proofs.Common.{lit<}
use Rattle.std.proofs.lemmas.Result.{on_ok_weaker}
use Rattle.kb_tenant.specs.Metadata.{partition_described}
use Rattle.kb_tenant.proofs.Described.{partition_plain, partition_with, partition_without}
use Rattle.kb_tenant.proofs.Fitting.{small_count}
use Rattle.kb_tenant.proofs.metadata.put_partition_as.Goals as goal

pub put_count-requires : goal.put_count-requires
put_count-requires c = small_count 0 (lit< tt)

pub returns-then-has_epochs : goal.returns-then-has_epochs
returns-then-has_epochs c = on_ok_weaker c.put_partition_v7.result (λ last.
    partition_with (partition_described c.args.partition) c.args.has_epochs c.args.has_offline c.args.sink.now.bytes c.put_partition_v7.new.sink.bytes
    c.if-has_epochs.true last) c.put_partition_v7.ensures

pub returns-then-not-has_offline : goal.returns-then-not-has_offline
returns-then-not-has_offline c =
    partition_plain (partition_described c.args.partition) c.args.has_epochs c.args.has_offline c.args.sink.now.bytes c.put_partition.new.sink.bytes
    c.if-has_epochs.false c.if-not-has_offline.true c.in_ok-put_partition.ensures

pub returns : goal.returns
returns c = on_ok_weaker c.put_count.result (λ last.
    partition_without (partition_described c.args.partition) c.args.has_epochs c.args.has_offline c.args.sink.now.bytes c.put_partition.new.sink.bytes
    c.put_count.new.self.bytes c.if-has_epochs.false c.if-not-has_offline.false c.in_ok-put_partition.ensures last) c.put_count.ensures.ok
