use Rattle.kb_log.specs.ListLog.{IsListed}
use Rattle.kb_topics.specs.Catalog.{meta_log}
use Rattle.kb_tenant_tests.proofs.topics.steps.Kept.take_all.Given as goal

abbrev pub invariant-loop-number : goal.invariant-loop-number
invariant-loop-number g l = IsListed (meta_log l.self.catalog)
