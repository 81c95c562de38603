use Rattle.std.proofs.Common.{◌≡◌, map, take}
use Rattle.kb_tenant.specs.Fetch.{plain_topic_v9}
use Rattle.kb_tenant.proofs.fetch.version.plain_topics_v9.Given as goal

-- those so far
abbrev pub invariant-loop-topic : goal.invariant-loop-topic
invariant-loop-topic l = l.plain ≡ map plain_topic_v9 (take l.topic-index l.topics)
