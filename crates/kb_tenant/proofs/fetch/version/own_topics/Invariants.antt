use Rattle.std.proofs.Common.{◌≡◌, take}
use Rattle.kb_tenant.proofs.fetch.version.own_topics.Given as goal

-- those so far
abbrev pub invariant-loop-topic : goal.invariant-loop-topic
invariant-loop-topic l = l.own ≡ take l.topic-index l.topics
