use Rattle.std.proofs.Common.{◌≡◌, rules}
use Rattle.kb_tenant.specs.Fetch.{has_epochs, has_session}
use Rattle.kb_tenant.proofs.Versions.{epochs_read, read_fits, session_read, starts_fit}
use Rattle.kb_tenant.proofs.fetch.version.read_request.Goals as goal

pub returns-then-has_epochs-clause-exact : goal.returns-then-has_epochs-clause-exact
returns-then-has_epochs-clause-exact c =
    let is : c.has_epochs.result ≡ has_epochs c.args.version = search rules in
    epochs_read c.args.version c.args.body.now c.has_epochs.result c.in_ok-epochs.epochs c.in_ok-asked_v9.field-0 is c.if-has_epochs.true c.in_ok-epochs.ensures.exact c.in_ok-asked_v9.ensures

pub returns-then-has_epochs-clause-fits : goal.returns-then-has_epochs-clause-fits
returns-then-has_epochs-clause-fits c =
    read_fits c.args.version c.args.body.now c.in_ok-asked_v9.field-0 (returns-then-has_epochs-clause-exact c)

pub returns-then-has_session-clause-exact : goal.returns-then-has_session-clause-exact
returns-then-has_session-clause-exact c =
    let is : c.has_epochs.result ≡ has_epochs c.args.version = search rules in
    let has : c.has_session.result ≡ has_session c.args.version = search rules in
    session_read c.args.version c.args.body.now c.has_epochs.result c.has_session.result c.in_ok-session.session c.in_ok-asked_v7.field-0 is c.if-has_epochs.false has c.if-has_session.true
    c.in_ok-session.ensures.exact c.in_ok-asked_v7.ensures

pub returns-then-has_session-clause-fits : goal.returns-then-has_session-clause-fits
returns-then-has_session-clause-fits c =
    read_fits c.args.version c.args.body.now c.in_ok-asked_v7.field-0 (returns-then-has_session-clause-exact c)

pub returns-then-has_starts-clause-fits : goal.returns-then-has_starts-clause-fits
returns-then-has_starts-clause-fits c =
    starts_fit c.args.body.now c.in_ok-starts.starts c.in_ok-plain.field-0 c.at_once.result c.in_ok-starts.ensures.exact c.in_ok-plain.ensures c.at_once.ensures
