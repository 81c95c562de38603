use Rattle.std.proofs.Common.{refl}
use Rattle.kb_client.proofs.Fitting.{identify_fits}
use Rattle.kb_client.proofs.requests.identify.Goals as goal

pub request-requires : goal.request-requires
request-requires c κs = ((refl, tt), identify_fits _)
