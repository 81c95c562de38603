use Rattle.std.proofs.Common.{refl, ap, length, arith}
use Rattle.kb_admin.proofs.Fitting.{delete_fits}
use Rattle.kb_admin.proofs.requests.delete.Goals as goal

pub request-requires : goal.request-requires
request-requires c κs = ((refl, tt), delete_fits _ _ _ _ (grind (arith, c.as_str.ensures.short, ap length c.new.ensures)) c.new-names.ensures c.in_ok-push.ensures.ok)
