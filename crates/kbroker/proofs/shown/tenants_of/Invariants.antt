use Rattle.std.proofs.Common.{◌≡◌, map}
use Rattle.std.specs.List.{flat_map, range_with_len}
use Rattle.kb_settings.specs.Values.{values_of}
use Rattle.kbroker.specs.Observed.{observed_unstored, observed_slot}
use Rattle.kbroker.proofs.shown.tenants_of.Given as goal

-- the tenants at the places so far are there
abbrev pub invariant-loop-place : goal.invariant-loop-place
invariant-loop-place g l =
    map (observed_unstored g.L.PartitionLog.log (g.S.Store.disk l.edge.host.broker.store).files) l.tenants.items
    ≡ flat_map (observed_slot (values_of l.settings) l.edge.host.broker.state l.edge.host.broker.counts l.edge.traffic.items) (range_with_len 0 l.place)
