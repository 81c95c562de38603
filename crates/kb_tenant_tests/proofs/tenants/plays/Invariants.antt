use Rattle.kb_store.specs.Memory.{memory_disk}
use Rattle.kb_log.specs.ListLog.{list_log}
use Rattle.kb_tenants.specs.Tenants.{AreKept}
use Rattle.kb_tenant_tests.proofs.tenants.plays.Given as goal

abbrev pub invariant-loop-tenant : goal.invariant-loop-tenant
invariant-loop-tenant g l = AreKept list_log (λ s. memory_disk s.files.entries) l.tenants
