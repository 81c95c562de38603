use Rattle.std.proofs.Common.{rules, ◌≡◌, ◌∙◌, ◌++◌, ap}
use Rattle.std.specs.Prelude.{pos}
use Rattle.std.proofs.lemmas.Result.{on_ok_weaker}
use Rattle.kb_topics.specs.Catalog.{known}
use Rattle.kb_tenant.specs.DescribeConfigs.{resource_as}
use Rattle.kb_tenant.proofs.Configs.{described_topic}
use Rattle.kb_tenant.proofs.describe_configs.put_resource.Goals as goal

pub returns-in-2 : goal.returns-in-2
returns-in-2 g c files = on_ok_weaker c.put_topic.result (λ told.
    let kind : c.args.resource.now.resource_type ≡ pos 2 = search rules in
    told ∙ ap (λ d. c.args.sink.now.bytes ++ resource_as c.args.old d) (described_topic (known c.args.parts.now.catalog).topics c.args.resource.now kind)) (c.put_topic.ensures files)
