use Rattle.std.proofs.Common.{refl}
use Rattle.kb_admin.proofs.Fitting.{list_fits}
use Rattle.kb_admin.proofs.requests.list.Goals as goal

pub request-requires : goal.request-requires
request-requires c κs = ((refl, tt), list_fits)
