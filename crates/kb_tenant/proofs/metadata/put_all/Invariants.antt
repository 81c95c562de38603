use Rattle.std.proofs.Common.{◌≡◌, ℕ, map}
use Rattle.kb_topics.specs.Known.{TopicState}
use Rattle.kb_tenant.specs.Metadata.{topic_in, topic_known}
use Rattle.kb_tenant.specs.Replies.{written_until}
use Rattle.kb_tenant.proofs.metadata.put_all.Given as goal

-- what was written, and what is still to come, is all
abbrev pub invariant-loop-topic : goal.invariant-loop-topic
invariant-loop-topic g l =
    let f = λ (e : ℕ × TopicState). topic_known e.1 in
    let write = topic_in l.version in
    written_until l.most write l.sink.bytes (map f l.topic-iterator) ≡ written_until l.most write l.initial.sink.bytes (map f l.initial.topic-iterator)
