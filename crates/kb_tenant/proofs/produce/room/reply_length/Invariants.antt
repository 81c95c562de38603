use Rattle.std.proofs.Common.{◌≡◌, ◌+◌, ◌<◌, ◌^◌, take}
use Rattle.std.specs.List.{sum_by}
use Rattle.kb_tenant.specs.Room.{topic_length}
use Rattle.kb_tenant.proofs.produce.room.reply_length.Given as goal

-- what the topics so far take is counted
abbrev pub invariant-loop-topic : goal.invariant-loop-topic
invariant-loop-topic l = record {
  counted : l.length ≡ 8 + sum_by (topic_length l.has_starts) (take l.topic-index l.request.topics);
  small : l.length < 2 ^ 64;
}
