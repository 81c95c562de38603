use Rattle.std.proofs.Common.{◌≡◌, drop}
use Rattle.kb_topics.specs.Known.{has_committed_to}
use Rattle.kb_topics.proofs.topic.Topic.has_committed.Given as goal

-- None up to here has any, so that it is for those still to come to say.
abbrev pub invariant-loop-partition : goal.invariant-loop-partition
invariant-loop-partition l = has_committed_to l.group (drop l.partition-index l.self.partitions) ≡ has_committed_to l.group l.self.partitions
