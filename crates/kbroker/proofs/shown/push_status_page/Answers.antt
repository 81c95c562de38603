use Rattle.std.proofs.Common.{◌≡◌, ◌∙◌, ◌++◌, ap, map}
use Rattle.kb_settings.specs.Values.{values_of}
use Rattle.kb_metrics.specs.Gauges.{shown_tenant}
use Rattle.kb_metrics.specs.Status.{status_text}
use Rattle.kb_metrics.specs.View.{observed}
use Rattle.kbroker.specs.Observed.{observed_unstored, observed_from, unstored}
use Rattle.kbroker.proofs.Told.{on_ok}
use Rattle.kbroker.proofs.Gathered.{map_both}
use Rattle.kbroker.proofs.shown.push_status_page.Goals as goal

pub returns : goal.returns
returns g c =
    let edge = c.args.edge.now in
    let files = (g.S.Store.disk edge.host.broker.store).files in
    let tenants = c.deref.result.now in
    let os = map (observed g.L.PartitionLog.log files) tenants in
    let server = c.server_of-server.result in
    let process = c.process_of-process.result in
    let all : map (observed_unstored g.L.PartitionLog.log files) tenants
    ≡ observed_from (values_of c.args.settings.now) edge.host.broker.state edge.host.broker.counts edge.traffic.items =
    ap (map (observed_unstored g.L.PartitionLog.log files)) c.deref.ensures.value ∙ c.in_ok-tenants.ensures in
    on_ok _ _
    (λ told. (
      os,
      process,
      map_both unstored (observed g.L.PartitionLog.log files) tenants ∙ all,
      c.process_of-process.ensures.began,
      told files ∙ ap (λ o. o ++ status_text server process (map shown_tenant os) c.deref-2.result.now) c.requires
          ∙ ap (status_text server process (map shown_tenant os)) c.deref-2.ensures.value
          ∙ ap (λ s. status_text s process (map shown_tenant os) c.args.history.now.rates.items) c.server_of-server.ensures,
    ))
    c.push_status.result c.push_status.ensures
