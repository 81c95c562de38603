use Rattle.std.proofs.Common.{length, ap, arith}
use Rattle.kb_wire.specs.Fits.{string_fits}
use Rattle.kb_tenant_tests.proofs.tenants.plays.Goals as goal

pub serve-served-requires-clause-host : goal.serve-served-requires-clause-host
serve-served-requires-clause-host g c = string_fits c.new.result (omega (arith, ap length c.new.ensures))
