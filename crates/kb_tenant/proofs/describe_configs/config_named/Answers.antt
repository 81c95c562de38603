use Rattle.std.proofs.Common.{◌∙◌, ap}
use Rattle.std.specs.Prelude.{Some}
use Rattle.kb_topics.specs.Catalog.{known}
use Rattle.kb_tenant.proofs.Configs.{config_gone, config_known, config_unknown}
use Rattle.kb_tenant.proofs.describe_configs.config_named.Goals as goal

pub returns-in_default : goal.returns-in_default
returns-in_default g c files = config_unknown (known c.args.parts.now.catalog).topics c.args.name.now (c.in_default.ensures files)

pub returns-in_default-topic : goal.returns-in_default-topic
returns-in_default-topic g c files =
    config_gone (known c.args.parts.now.catalog).topics c.args.name.now c.in-Some.instance (c.in-Some.ensures files) (c.in_default-topic.ensures files)

pub returns : goal.returns
returns g c files =
    ap Some c.config.ensures
    ∙ config_known (known c.args.parts.now.catalog).topics c.args.name.now c.in-Some.instance c.in-Some-topic.topic.now (c.in-Some.ensures files) (c.in-Some-topic.ensures files)
