use Rattle.kb_store.specs.Memory.{memory_disk}
use Rattle.kb_log.specs.ListLog.{list_log}
use Rattle.kb_tenant_state.specs.Parts.{scene}
use Rattle.kb_tenant_tests.proofs.tenant.steps.Tenant.is_refused.Given as goal

abbrev pub invariant-loop-text : goal.invariant-loop-text
invariant-loop-text g l = (scene list_log (λ s. memory_disk s.files.entries) l.self.parts l.self.shelf).sound
