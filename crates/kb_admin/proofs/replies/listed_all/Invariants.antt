use Rattle.std.proofs.Common.{◌≡◌, map, take}
use Rattle.kb_admin.specs.Replies.{as_topic}
use Rattle.kb_admin.proofs.replies.listed_all.Given as goal

-- what is said of the topics in front
abbrev pub invariant-loop-topic : goal.invariant-loop-topic
invariant-loop-topic l = l.all ≡ map as_topic (take l.topic-index l.topics)
