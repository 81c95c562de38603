use Rattle.std.proofs.Common.{◌≡◌, string_bytes, take}
use Rattle.std.specs.List.{flat_map}
use Rattle.kb_topic_command.specs.Printing.{topic_line}
use Rattle.kb_topic_command.proofs.texts.topics_text.Given as goal

-- the lines so far
abbrev pub invariant-loop-topic : goal.invariant-loop-topic
invariant-loop-topic l = string_bytes l.text ≡ flat_map topic_line (take l.topic-index l.topics)
