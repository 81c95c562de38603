use Rattle.std.proofs.Common.{◌≡◌, map, drop}
use Rattle.kb_store.specs.Disk.{Files}
use Rattle.kb_topics.specs.Catalog.{known}
use Rattle.kb_tenant.specs.Metadata.{topic_asked, topic_in}
use Rattle.kb_tenant.specs.Replies.{written_until}
use Rattle.kb_tenant.proofs.metadata.put_all_asked.Given as goal

-- what was written, and what the rest is still to be answered, is the whole answer
abbrev pub invariant-loop-name : goal.invariant-loop-name
invariant-loop-name g l =
    let f = topic_asked (known l.parts.catalog).topics in
    let write = topic_in l.version in
    (files : Files) → written_until l.most write l.sink.bytes (map f (drop l.name-index l.names)) ≡ written_until l.most write l.initial.sink.bytes (map f l.names)
