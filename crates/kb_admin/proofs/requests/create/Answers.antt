use Rattle.std.proofs.Common.{refl, ap, length, arith}
use Rattle.kb_admin.proofs.Fitting.{create_fits}
use Rattle.kb_admin.proofs.requests.create.Goals as goal

pub request-requires : goal.request-requires
request-requires c κs = ((refl, tt), create_fits _ _ _ _ _ _ _ _ (grind (arith, c.as_str.ensures.short, ap length c.new.ensures)) (grind (arith, c.len.ensures, c.if-len-gt-MAX_INT32.false)) c.in_ok-configs.ensures.fits c.new-2.ensures c.new-topics.ensures c.in_ok-push.ensures.ok)
