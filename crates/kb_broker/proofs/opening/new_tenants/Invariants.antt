use Rattle.std.proofs.Common.{◌≡◌, None, map, take}
use Rattle.kb_tenant_api.specs.Hosted.{new_tenant}
use Rattle.kb_broker.specs.Hosts.{tenants_in, AreHosted}
use Rattle.kb_broker.proofs.opening.new_tenants.Given as goal

abbrev pub invariant-loop-name : goal.invariant-loop-name
invariant-loop-name g l =
    let disk = g.S.Store.disk in
    record {
      hosted : AreHosted g.L.PartitionLog.log disk l.tenants;
      new : tenants_in g.L.PartitionLog.log disk l.tenants ≡ map (λ name. new_tenant name.now) (take l.name-index l.names);
      store : l.tenants.shelf ≡ l.fn.shelf;
      strays : l.tenants.strays ≡ None;
    }
