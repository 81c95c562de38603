use Rattle.std.specs.FinMap.{empty}
use Rattle.kb_tenant_tests.proofs.topics.steps.empty_catalog.Goals as goal

pub returns : goal.returns
returns c = c.new-2.ensures.log.sound empty 0
