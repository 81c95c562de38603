use Rattle.std.proofs.Common.{map}
use Rattle.kb_settings.specs.Values.{values_of}
use Rattle.kbroker.specs.Observed.{observed_unstored, observed_slot}
use Rattle.kbroker.proofs.Gathered.{place_more}
use Rattle.kbroker.proofs.shown.tenants_of.Goals as goal

pub loop-place-preserved : goal.loop-place-preserved
loop-place-preserved g c =
    place_more (observed_slot (values_of c.args.settings.now) c.args.edge.now.host.broker.state c.args.edge.now.host.broker.counts c.args.edge.now.traffic.items)
    (map (observed_unstored g.L.PartitionLog.log (g.S.Store.disk c.args.edge.now.host.broker.store).files) c.loop-place.tenants.items)
    (map (observed_unstored g.L.PartitionLog.log (g.S.Store.disk c.args.edge.now.host.broker.store).files) c.push_gauges.new.tenants.items)
    c.loop-place.place c.loop-place.invariant c.in_ok-push_gauges.ensures
