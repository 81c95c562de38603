use Rattle.kb_store.specs.Memory.{memory_disk}
use Rattle.kb_log.specs.ListLog.{list_log}
use Rattle.kb_tenant_state.specs.Parts.{scene}
use Rattle.kb_tenant_tests.proofs.world.steps.Tenant.take_all.Given as goal

abbrev pub invariant-loop-number : goal.invariant-loop-number
invariant-loop-number g l = (scene list_log (λ s. memory_disk s.files.entries) l.self.parts l.self.shelf).sound
