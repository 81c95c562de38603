use Rattle.std.proofs.Common.{◌≡◌, map, take}
use Rattle.kb_tenant.specs.OffsetCommit.{plain_topic}
use Rattle.kb_tenant.proofs.group_commit.plain_topics.Given as goal

-- those so far
abbrev pub invariant-loop-topic : goal.invariant-loop-topic
invariant-loop-topic g l = l.plain ≡ map plain_topic (take l.topic-index l.topics)
