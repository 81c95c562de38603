-- What clients of each tenant are told to connect to, and what the tenant may have, by settings.
use Rattle.std.specs.Prelude.{ℕ, List, Bool, true, false, Option, Some}
use Rattle.kb_tenant.specs.declared.limits.DataLimits.{DataLimits}
use Rattle.kb_tenant.specs.declared.node.Node.{Node}
use Rattle.kb_settings.specs.declared.tenant_limits.DataLimits.{DataLimits as SetLimits}
use Rattle.kb_settings.specs.Limits.{standard_data, standard_groups}
use Rattle.kb_settings.specs.Values.{Values, told, told_to, data_of, entries_for, groups_of, reply_bytes_for}
use Rattle.kb_broker.specs.declared.opening.Listing.{Listing}
use Rattle.kb_broker.specs.declared.opening.Listing.TheVariants as listings

-- whether stock clients are served
abbrev pub has_stock_clients : Listing → Bool
has_stock_clients listings.Served = false
has_stock_clients listings.StockClients = true

-- Limits of what a tenant has, with that of its groups for the texts of its committed offsets; of what its requests name, and of what its
-- replies have.
abbrev pub data_limits : Listing → Values → SetLimits → ℕ → DataLimits
data_limits listing v limits group_bytes = record {
  topics = limits.topics;
  partitions = limits.partitions;
  offsets = Some limits.offsets;
  group_bytes = Some group_bytes;
  bytes = limits.bytes;
  request_entries = entries_for (has_stock_clients listing) v;
  fetch_bytes = limits.fetch_bytes;
  reply_bytes = reply_bytes_for (has_stock_clients listing) v;
}

-- the node of the tenant of that name
abbrev pub node_named : Listing → Values → List ℕ → Node
node_named listing v name = record {
  host = (told_to name v).0;
  port = (told_to name v).1;
  limits = data_limits listing v (data_of name v) (groups_of name v).bytes;
}

-- the node of a tenant that there is not
abbrev pub node_unnamed : Listing → Values → Node
node_unnamed listing v = record {
  host = (told v).0;
  port = (told v).1;
  limits = data_limits listing v standard_data standard_groups.bytes;
}
