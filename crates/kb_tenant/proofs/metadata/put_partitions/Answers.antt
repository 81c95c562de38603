use Rattle.kb_tenant.proofs.Described.{partitions_more}
use Rattle.kb_tenant.proofs.metadata.put_partitions.Goals as goal

pub loop-partition-preserved : goal.loop-partition-preserved
loop-partition-preserved c = partitions_more c.args.has_epochs c.args.has_offline c.loop-partition.partition c.args.sink.now.bytes c.loop-partition.sink.bytes c.put_partition_as.new.sink.bytes c.loop-partition.invariant c.in_ok-put_partition_as.ensures
