use Rattle.std.proofs.Common.{refl, ap, length, arith}
use Rattle.kb_client.proofs.Fitting.{create_fits}
use Rattle.kb_client.proofs.requests.create.Goals as goal

pub request-requires : goal.request-requires
request-requires c κs = ((refl, tt), create_fits _ _ _ _ _ _ _ _ (grind (arith, c.topic.ensures.short, ap length c.new.ensures)) c.new-2.ensures c.new-3.ensures c.new-topics.ensures c.in_ok-push.ensures.ok)
