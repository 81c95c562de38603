use Rattle.std.proofs.Common.{◌≡◌, map, None}
use Rattle.kb_segment_log.specs.SegmentLog.{segment_log}
use Rattle.kb_tenants.specs.Tenants.{hosted, parts_of, restored_tenant, AreKept}
use Rattle.kb_restart.proofs.opening.host.Given as goal

-- the first tenants are there
abbrev pub invariant-loop-name : goal.invariant-loop-name
invariant-loop-name g l =
    let disk = g.S.Store.disk in
    record {
      kept : AreKept segment_log disk l.tenants;
      shelf : l.tenants.shelf ≡ l.fn.shelf;
      hosted : hosted segment_log disk l.tenants ≡ map (λ e. restored_tenant segment_log (disk l.fn.shelf.store).files e.0.now.now e.1) l.yielded;
      early : l.tenants.strays ≡ None;
      parts : parts_of l.tenants.tenants.items ≡ map (λ e. e.1) l.yielded;
    }
