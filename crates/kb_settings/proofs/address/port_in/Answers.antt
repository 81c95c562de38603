use Rattle.std.proofs.Common.{rules}
use Rattle.kb_settings.proofs.Addresses.{no-port}
use Rattle.kb_settings.proofs.address.port_in.Goals as goal

pub returns-in_default-clause-says : goal.returns-in_default-clause-says
returns-in_default-clause-says c = no-port c.args.text.now (search rules) c.in_default.ensures.value.0
