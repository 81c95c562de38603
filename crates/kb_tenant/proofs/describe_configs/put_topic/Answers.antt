use Rattle.std.proofs.Common.{◌∙◌, ◌++◌, ap}
use Rattle.std.proofs.lemmas.Result.{on_ok_weaker}
use Rattle.kb_topics.specs.Catalog.{known}
use Rattle.kb_tenant.specs.DescribeConfigs.{config_named, resource_as, topic_found}
use Rattle.kb_tenant.proofs.describe_configs.put_topic.Goals as goal

pub returns-in-Some : goal.returns-in-Some
returns-in-Some g c files = on_ok_weaker c.put_config.result (λ told.
    let r = c.args.resource.now in
    let ts = (known c.args.parts.now.catalog).topics in
    told ∙ ap (λ o. c.args.sink.now.bytes ++ resource_as c.args.old (topic_found r o)) (c.in-Some.ensures files ∙ ap (λ n. config_named n ts) c.as_str.ensures)) c.put_config.ensures

pub returns-in-None : goal.returns-in-None
returns-in-None g c files = on_ok_weaker c.put_answered.result (λ told.
    let r = c.args.resource.now in
    let ts = (known c.args.parts.now.catalog).topics in
    told ∙ ap (λ o. c.args.sink.now.bytes ++ resource_as c.args.old (topic_found r o)) (c.in-None.ensures files ∙ ap (λ n. config_named n ts) c.as_str.ensures)) c.put_answered.ensures
