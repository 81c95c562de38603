use Rattle.kb_tenant.proofs.Versions.{asked_fits}
use Rattle.kb_tenant.proofs.fetch.waiting_fetch.WaitingFetch.asked.Goals as goal

pub returns-clause-fits : goal.returns-clause-fits
returns-clause-fits c =
    let f = c.self.inside in
    asked_fits (record { version = f.version; body = f.body.items; limit = f.limit }) f.asked c.self.invariant
