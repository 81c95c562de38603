use Rattle.std.proofs.Common.{refl}
use Rattle.kb_client.proofs.Fitting.{handshake_fits}
use Rattle.kb_client.proofs.requests.handshake.Goals as goal

pub request-requires : goal.request-requires
request-requires c κs = ((refl, tt), handshake_fits _ c.new.ensures)
