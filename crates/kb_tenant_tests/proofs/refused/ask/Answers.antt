use Rattle.std.proofs.Common.{length, ap, arith}
use Rattle.kb_wire.specs.Fits.{string_fits}
use Rattle.kb_tenant_tests.proofs.refused.ask.Goals as goal

pub serve-requires-clause-host : goal.serve-requires-clause-host
serve-requires-clause-host g c = string_fits c.new.result (omega (arith, ap length c.new.ensures))
