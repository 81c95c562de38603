use Rattle.kb_store.specs.Memory.{memory_disk}
use Rattle.kb_log.specs.ListLog.{list_log}
use Rattle.kb_tenants.specs.Tenants.{AreKept}
use Rattle.kb_tenant_tests.proofs.tenants.a_batch_is_due_once.Given as goal

abbrev pub invariant-loop-clock : goal.invariant-loop-clock
invariant-loop-clock g l = AreKept list_log (λ s. memory_disk s.files.entries) l.tenants
