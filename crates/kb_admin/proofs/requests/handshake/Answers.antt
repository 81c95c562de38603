use Rattle.std.proofs.Common.{refl}
use Rattle.kb_admin.proofs.Fitting.{handshake_fits}
use Rattle.kb_admin.proofs.requests.handshake.Goals as goal

pub request-requires : goal.request-requires
request-requires c κs = ((refl, tt), handshake_fits _ c.new.ensures)
