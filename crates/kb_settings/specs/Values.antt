-- The settings as bytes and numbers, and the standard ones.
use Rattle.std.specs.Prelude.{ℕ, List, [], ◌∷◌, ◌++◌, map, Bool, true, false}
use Rattle.std.specs.Prelude.{Option, None, Some, option_map, unwrap_or, string_bytes, codes}
use Rattle.std.specs.List.{find}
use Rattle.std.specs.Str.{bytes_eq}
use Rattle.kb_settings.specs.Settings.{limit_for}
use Rattle.kb_settings.specs.Endpoint.{host_and_port}
use Rattle.kb_settings.specs.Limits.{Limits, limits_in, standard_groups, standard_data}
use Rattle.kb_settings.specs.declared.settings.User.{User}
use Rattle.kb_settings.specs.declared.settings.Settings.{Settings}
use Rattle.kb_settings.specs.declared.requests.RequestLimits.{RequestLimits}
use Rattle.kb_settings.specs.declared.metrics.MetricsSettings.{MetricsSettings}
use Rattle.kb_settings.specs.declared.sync.Sync.{Sync}
use Rattle.kb_settings.specs.declared.sync.Sync.TheVariants.{Interval}
use Rattle.kb_settings.specs.declared.tenant_limits.ConnectionLimits.{ConnectionLimits}
use Rattle.kb_settings.specs.declared.tenant_limits.GroupLimits.{GroupLimits}
use Rattle.kb_settings.specs.declared.tenant_limits.DataLimits.{DataLimits}

pub record Account : Type 0 where
  pub name : List ℕ
  pub password : List ℕ
  pub tenant : List ℕ

-- by when a request is whole and a socket is used, the bytes of all begun requests, and those of one; and where it is said, how many
-- entries a request may name, and how many bytes its reply may have
pub record Requests : Type 0 where
  pub request_seconds : ℕ
  pub idle_seconds : ℕ
  pub input_bytes : ℕ
  pub request_bytes : ℕ
  pub request_entries : Option ℕ
  pub reply_bytes : Option ℕ

-- where metrics are served, and the token that who asks has to name
pub record Metrics : Type 0 where
  pub address : Option (List ℕ × ℕ)
  pub token : Option (List ℕ)

pub record Values : Type 0 where
  pub host : List ℕ
  pub port : ℕ
  pub advertise : Option (List ℕ × ℕ)
  pub segment_bytes : ℕ
  pub cache_batches : ℕ
  pub cache_bytes : ℕ
  pub connections : ℕ
  pub output_bytes : ℕ
  pub sync : Sync
  pub sync_ms : ℕ
  pub login_seconds : ℕ
  pub reply_seconds : ℕ
  pub strangers : ℕ
  pub requests : Requests
  pub stock_clients : Bool
  pub logins : Bool
  pub metrics : Metrics
  pub folder : Option (List ℕ)
  pub users : List Account
  pub tenants : List Limits

abbrev pub account_of : User → Account
account_of u = record { name = string_bytes u.name; password = string_bytes u.password; tenant = string_bytes u.tenant }

abbrev pub requests_of : RequestLimits → Requests
requests_of r = record {
  request_seconds = r.request_seconds;
  idle_seconds = r.idle_seconds;
  input_bytes = r.input_bytes;
  request_bytes = r.request_bytes;
  request_entries = r.request_entries;
  reply_bytes = r.reply_bytes;
}

abbrev pub metrics_of : MetricsSettings → Metrics
metrics_of m = record { address = option_map host_and_port m.address; token = option_map string_bytes m.token }

abbrev pub values_of : Settings → Values
values_of s = record {
  host = string_bytes s.host;
  port = s.port;
  advertise = option_map host_and_port s.advertise;
  segment_bytes = s.segment_bytes;
  cache_batches = s.cache_batches;
  cache_bytes = s.cache_bytes;
  connections = s.connections;
  output_bytes = s.output_bytes;
  sync = s.sync;
  sync_ms = s.sync_ms;
  login_seconds = s.login_seconds;
  reply_seconds = s.reply_seconds;
  strangers = s.strangers;
  requests = requests_of s.requests;
  stock_clients = s.stock_clients;
  logins = s.logins;
  metrics = metrics_of s.metrics;
  folder = option_map string_bytes s.folder;
  users = map account_of s.users.items;
  tenants = map limits_in s.tenants.items;
}

-- the host and the port that clients are told
abbrev pub told : Values → List ℕ × ℕ
told v = unwrap_or v.advertise (v.host, v.port)

abbrev pub limits_or : ℕ → Option Limits → ConnectionLimits
limits_or connections None = record { most = connections; reserved = 0 }
limits_or connections (Some t) = record { most = t.connections; reserved = t.reserved_connections }

-- how many connections a tenant may have: all of them, and none reserved, where no limits name it
abbrev pub limits_of : List ℕ → Values → ConnectionLimits
limits_of name v = limits_or v.connections (find (λ t. bytes_eq t.name name) v.tenants)

abbrev pub groups_or : Option Limits → GroupLimits
groups_or None = standard_groups
groups_or (Some t) = t.groups

-- what a tenant's groups may take: the standard, where no limits name it
abbrev pub groups_of : List ℕ → Values → GroupLimits
groups_of name v = groups_or (find (λ t. bytes_eq t.name name) v.tenants)

abbrev pub data_or : Option Limits → DataLimits
data_or None = standard_data
data_or (Some t) = t.data_limits

-- what a tenant may have: the standard, where no limits name it
abbrev pub data_of : List ℕ → Values → DataLimits
data_of name v = data_or (find (λ t. bytes_eq t.name name) v.tenants)

abbrev pub told_or : List ℕ × ℕ → Option Limits → List ℕ × ℕ
told_or broker None = broker
told_or broker (Some t) = unwrap_or t.advertise broker

-- the host and the port that a tenant's clients are told: the broker's, where the tenant has none of its own
abbrev pub told_to : List ℕ → Values → List ℕ × ℕ
told_to name v = told_or (told v) (find (λ t. bytes_eq t.name name) v.tenants)

-- how many entries a request may name: where it is not said, 65,536 where stock clients are served, and else any number
abbrev pub entries_for : Bool → Values → Option ℕ
entries_for stock_clients v = limit_for 65536 stock_clients v.requests.request_entries

-- how many bytes a reply may have: where it is not said, 33,554,432 where stock clients are served, and else any number
abbrev pub reply_bytes_for : Bool → Values → Option ℕ
reply_bytes_for stock_clients v = limit_for 33554432 stock_clients v.requests.reply_bytes

abbrev pub ann : Account
ann = record { name = codes "ann"; password = codes "pw1"; tenant = codes "a" }

abbrev pub bob : Account
bob = record { name = codes "bob"; password = codes "pw2"; tenant = codes "b" }

abbrev pub standard_requests : Requests
standard_requests = record {
  request_seconds = 30;
  idle_seconds = 600;
  input_bytes = 268435456;
  request_bytes = 2097152;
  request_entries = None;
  reply_bytes = None;
}

-- the standard settings
abbrev pub standard : Values
standard = record {
  host = codes "localhost";
  port = 9092;
  advertise = None;
  segment_bytes = 16777216;
  cache_batches = 1024;
  cache_bytes = 67108864;
  connections = 1024;
  output_bytes = 268435456;
  sync = Interval;
  sync_ms = 1000;
  login_seconds = 10;
  reply_seconds = 60;
  strangers = 1024;
  requests = standard_requests;
  stock_clients = false;
  logins = true;
  metrics = record { address = None; token = None };
  folder = None;
  users = ann ∷ bob ∷ [];
  tenants = [];
}

-- a text that names their two users
abbrev pub standard_text : List ℕ
standard_text =
    codes "[[user]]\nname = \"ann\"\npassword = \"pw1\"\ntenant = \"a\"\n"
    ++ codes "[[user]]\nname = \"bob\"\npassword = \"pw2\"\ntenant = \"b\"\n"
