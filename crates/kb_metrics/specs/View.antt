-- A tenant that is looked at.
use Rattle.kb_store.specs.Disk.{Files}
use Rattle.kb_log.specs.OnShelf.{Log}
use Rattle.kb_tenant_state.specs.Parts.{world_of}
use Rattle.kb_metrics.specs.Gauges.{Observed}
use Rattle.kb_metrics.specs.declared.gauges.TenantGauges.{TenantGauges}

-- what it keeps, and what is counted of it, where the files are those
abbrev pub observed : {L : Type 0} → (L → Log) → Files → TenantGauges L → Observed
observed log files g = record {
  name = g.name.now;
  world = world_of log g.parts.now files;
  stored = g.parts.now.stored;
  groups = g.groups.now.groups;
  limits = g.limits;
  connections = g.connections;
  waiting = g.waiting;
  requests = g.traffic.requests.now;
  request_bytes = g.traffic.request_bytes;
  response_bytes = g.traffic.response_bytes;
  refusals = g.parts.now.refusals;
  store_refusals = g.store_refusals;
  over = g.over;
}
