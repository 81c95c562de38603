use Rattle.std.proofs.Common.{subst, sym}
use Rattle.kb_wire.specs.Codec.{int, items, sized}
use Rattle.kb_api_data.specs.Layouts.{fetch_request}
use Rattle.kb_tenant.proofs.fetch.asked.AskedFetch.bound.Goals as goal

pub returns-clause-fits : goal.returns-clause-fits
unfolding fetch_request int sized items
returns-clause-fits c = λ fits. subst fetch_request.Fits (sym c.self.view_is) fits
