use Rattle.kb_tenant_tests.proofs.tenant.steps.Tenant.new.Goals as goal

pub returns : goal.returns
returns c = c.in_ok-parts.ensures.sound _ _
