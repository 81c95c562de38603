use Rattle.std.proofs.Common.{refl, ap, length, arith}
use Rattle.kb_admin.proofs.Fitting.{authenticate_fits}
use Rattle.kb_admin.proofs.requests.authenticate.Goals as goal

pub request-requires : goal.request-requires
request-requires c κs = ((refl, tt), authenticate_fits _ (grind (arith, c.in_ok-message.ensures.short, ap length c.new.ensures, ap length c.deref.ensures.value)))
