use Rattle.kb_tenant_tests.proofs.world.steps.Tenant.new.Goals as goal

pub returns : goal.returns
returns c = c.in_ok-parts.ensures.sound _ _
