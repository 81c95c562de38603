use Rattle.std.proofs.Common.{◌≡◌, map, drop}
use Rattle.kb_store.specs.Disk.{Files}
use Rattle.kb_topics.specs.Catalog.{known}
use Rattle.kb_tenant.specs.DescribeConfigs.{described, resource_as}
use Rattle.kb_tenant.specs.Replies.{written_until}
use Rattle.kb_tenant.proofs.describe_configs.put_resources.Given as goal

-- what was written, and what the rest is still to be answered, is the whole answer
abbrev pub invariant-loop-resource : goal.invariant-loop-resource
invariant-loop-resource g l =
    let f = described (known l.parts.catalog).topics in
    let write = resource_as l.old in
    (files : Files) → written_until l.most write l.sink.bytes (map f (drop l.resource-index l.resources)) ≡ written_until l.most write l.initial.sink.bytes (map f l.resources)
