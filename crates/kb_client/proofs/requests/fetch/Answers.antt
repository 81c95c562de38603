use Rattle.std.proofs.Common.{refl, ap, length, arith}
use Rattle.kb_client.proofs.Fitting.{fetch_fits}
use Rattle.kb_client.proofs.requests.fetch.Goals as goal

pub request-requires : goal.request-requires
request-requires c κs = ((refl, tt), fetch_fits c.args.target.now _ _ _ _ _ _ _ (grind (arith, c.topic.ensures.short, ap length c.topic.ensures.value)) c.in_ok-fetch_topics_of.ensures)
