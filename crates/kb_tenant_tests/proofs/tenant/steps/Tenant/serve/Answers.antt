use Rattle.std.proofs.Common.{◌<◌, ◌^◌, length, sym, subst, rules}
use Rattle.kb_wire.specs.Fits.{string_fits}
use Rattle.kb_tenant_tests.proofs.tenant.steps.Tenant.serve.Goals as goal

pub serve-requires-clause-host : goal.serve-requires-clause-host
serve-requires-clause-host c = string_fits c.new.result (subst (λ s. length s < 2 ^ 15) (sym c.new.ensures) (search rules))
