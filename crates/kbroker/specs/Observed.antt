-- What pages of metrics tell of a broker.
use Rattle.std.specs.Prelude.{ℕ, List, [], ◌∷◌, length, Option, None, Some, option_map, slice_get}
use Rattle.std.specs.List.{flat_map, range_with_len}
use Rattle.kb_isolation_spec.specs.Broker.{BrokerState}
use Rattle.kb_isolation_spec.specs.Machine.{Line}
use Rattle.kb_broker.specs.Counts.{lines_bound_to, waiting_lines}
use Rattle.kb_store.specs.Disk.{Files}
use Rattle.kb_log.specs.OnShelf.{Log}
use Rattle.kb_settings.specs.Values.{Values, data_of, groups_of}
use Rattle.kb_settings.specs.declared.tenant_limits.DataLimits.{DataLimits}
use Rattle.kb_settings.specs.declared.tenant_limits.GroupLimits.{GroupLimits}
use Rattle.kb_metrics.specs.Gauges.{Observed}
use Rattle.kb_metrics.specs.View.{observed}
use Rattle.kb_metrics.specs.declared.gauges.TenantGauges.{TenantGauges}
use Rattle.kb_metrics.specs.declared.limits.Limits.{Limits}
use Rattle.kb_node.specs.declared.tenant_traffic.TenantTraffic.{TenantTraffic}
use Rattle.kb_tenant_api.specs.Hosted.{TenantState}
use Rattle.kb_tenants.specs.Counts.{over_at, store_share}
use Rattle.kb_tenants.specs.declared.counts.Counts.{Counts}

-- the requests that were counted, by API key: of nobody where they are not counted
abbrev pub requests_of : Option TenantTraffic → List ℕ
requests_of None = []
requests_of (Some t) = t.requests

abbrev pub request_bytes_of : Option TenantTraffic → ℕ
request_bytes_of None = 0
request_bytes_of (Some t) = t.request_bytes

abbrev pub response_bytes_of : Option TenantTraffic → ℕ
response_bytes_of None = 0
response_bytes_of (Some t) = t.response_bytes

abbrev pub limits_in : DataLimits → GroupLimits → Limits
limits_in limits groups = record {
  topics = limits.topics;
  partitions = limits.partitions;
  offsets = Some limits.offsets;
  bytes = limits.bytes;
  fetch_bytes = limits.fetch_bytes;
  groups = Some groups.groups;
  group_bytes = Some groups.bytes;
}

-- what the tenant of a name may have
abbrev pub named_limits : List ℕ → Values → Limits
named_limits name values = limits_in (data_of name values) (groups_of name values)

-- What is told of the tenant at a place: what it keeps, its limits, how many connections are bound to it and how many of them wait, and what
-- was counted at its place. One number stands apart: the bytes of its batches, which may not be known.
abbrev pub observed_at : Values → ℕ → List Line → List Counts → List TenantTraffic → TenantState → Observed
observed_at values place lines counts traffic t = record {
  name = t.name;
  world = t.kept.world;
  stored = None;
  groups = t.kept.groups.groups;
  limits = named_limits t.name values;
  connections = length (lines_bound_to place lines);
  waiting = length (waiting_lines place lines);
  requests = requests_of (slice_get traffic place);
  request_bytes = request_bytes_of (slice_get traffic place);
  response_bytes = response_bytes_of (slice_get traffic place);
  refusals = t.refusals;
  store_refusals = store_share counts place t.refusals;
  over = over_at counts place;
}

-- what there is, as a list
abbrev pub as_list : {X : Type 0} → Option X → List X
as_list None = []
as_list (Some x) = x ∷ []

-- of the tenant at a place of a broker, where there is one
abbrev pub observed_slot : Values → BrokerState → List Counts → List TenantTraffic → ℕ → List Observed
observed_slot values b counts traffic place =
    as_list (option_map (observed_at values place b.lines counts traffic) (slice_get b.tenants place))

-- of all its tenants, by their places
abbrev pub observed_from : Values → BrokerState → List Counts → List TenantTraffic → List Observed
observed_from values b counts traffic = flat_map (observed_slot values b counts traffic) (range_with_len 0 (length b.tenants))

-- what is observed of a tenant, but for the bytes of its batches
abbrev pub unstored : Observed → Observed
unstored o = record o { stored = None }

abbrev pub observed_unstored : {L : Type 0} → (L → Log) → Files → TenantGauges L → Observed
observed_unstored log files g = unstored (observed log files g)
