use Rattle.std.proofs.Common.{subst, sym}
use Rattle.kb_store.specs.Memory.{memory_disk}
use Rattle.kb_log.specs.ListLog.{list_log}
use Rattle.kb_tenant_state.specs.Parts.{scene}
use Rattle.kb_tenant_tests.specs.declared.tenant.steps.Tenant.{Tenant}
use Rattle.kb_tenant_tests.proofs.tenant.steps.Tenant.is_served.Goals.{then-is_reply-2+else-assert-3, else-is_reply-2+else-assert-4}
use Rattle.kb_tenant_tests.proofs.tenant.steps.Tenant.is_served.Goals as goal

-- the parts of a tenant are sound
abbrev are_sound : Tenant → Type 0
are_sound t = (scene list_log (λ s. memory_disk s.files.entries) t.parts t.shelf).sound

pub returns : goal.returns
returns g c = elim c.if-is_reply-2.branch [
  | then-is_reply-2+else-assert-3 w ↦ subst are_sound (sym w.self-is) w.serve-again.ensures
  | else-is_reply-2+else-assert-4 w ↦ subst are_sound (sym w.self-is) c.serve-served.ensures
]
