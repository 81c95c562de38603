use Rattle.std.proofs.Common.{◌≡◌, ◌∙◌, ap, map}
use Rattle.kb_settings.specs.Values.{values_of}
use Rattle.kbroker.specs.Observed.{observed_unstored, observed_from}
use Rattle.kbroker.proofs.Told.{is_unknown, page_told}
use Rattle.kbroker.proofs.shown.ShownSource.push_tenant.Goals as goal

pub returns-in-Some-clause-known : goal.returns-in-Some-clause-known
returns-in-Some-clause-known g c known =
    let shown = c.args.self.now in
    let files = (g.S.Store.disk shown.edge.now.host.broker.store).files in
    let tenants = c.deref.result.now in
    let all : map (observed_unstored g.L.PartitionLog.log files) tenants
    ≡ observed_from (values_of shown.settings.now) shown.edge.now.host.broker.state shown.edge.now.host.broker.counts shown.edge.now.traffic.items =
    ap (map (observed_unstored g.L.PartitionLog.log files)) c.deref.ensures.value ∙ c.in_ok-tenants.ensures in
    page_told g.L.PartitionLog.log files c.args.form _ tenants c.in-Some.gauges.now c.args.tenant.now _ _ all
    (c.in-Some.ensures files) c.requires (c.in_ok-push_page-in-Some.ensures files)

pub returns-clause-unknown : goal.returns-clause-unknown
returns-clause-unknown g c missing =
    let shown = c.args.self.now in
    let files = (g.S.Store.disk shown.edge.now.host.broker.store).files in
    let tenants = c.deref.result.now in
    let all : map (observed_unstored g.L.PartitionLog.log files) tenants
    ≡ observed_from (values_of shown.settings.now) shown.edge.now.host.broker.state shown.edge.now.host.broker.counts shown.edge.now.traffic.items =
    ap (map (observed_unstored g.L.PartitionLog.log files)) c.deref.ensures.value ∙ c.in_ok-tenants.ensures in
    is_unknown g.L.PartitionLog.log files _ tenants c.args.tenant.now all (c.in-None.ensures files)
