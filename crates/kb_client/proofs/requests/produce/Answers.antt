use Rattle.std.proofs.Common.{refl, ap, length, arith}
use Rattle.kb_client.proofs.Fitting.{produce_fits}
use Rattle.kb_client.proofs.requests.produce.Goals as goal

pub request-requires : goal.request-requires
request-requires c κs = ((refl, tt), produce_fits c.args.target.now _ _ _ _ (grind (arith, c.topic.ensures.short, ap length c.topic.ensures.value)) c.requires c.in_ok-topics_of.ensures)
