-- What pages tell of the server and of its process, and what is kept of the turns.
use Rattle.std.specs.Prelude.{◌≡◌, ◌+◌, ◌-◌, ◌/◌, ◌^◌, ◌==◌, ℕ, List, [], ◌∷◌, length, min, nat_lt, if◌then◌else◌, Option, None, Some, option_map, slice_index_or, slice_set}
use Rattle.kb_isolation_spec.specs.Broker.{BrokerState}
use Rattle.kb_broker.specs.Counts.{strangers}
use Rattle.kb_metrics.specs.Rates.{History, Series, no_history, noted_series, noted_both}
use Rattle.kb_metrics.specs.declared.server.Closed.{Closed}
use Rattle.kb_metrics.specs.declared.server.ProcessGauges.{ProcessGauges}
use Rattle.kb_metrics.specs.declared.server.ServerGauges.{ServerGauges}
use Rattle.kb_node.specs.declared.tenant_traffic.TenantTraffic.{TenantTraffic}
use Rattle.kb_node.specs.declared.turn.Turn.{Turn}

-- 1. The server

-- the sockets that the turns closed, by cause
abbrev pub closed_in : Turn → Closed
closed_in turns = record {
  no_place = turns.turned_away;
  no_login = turns.strangers;
  unread_reply = turns.unread;
  idle = turns.idle;
  slow_request = turns.slow;
  limit = turns.over_limit;
}

-- A server: its broker, the files of no log where they are known, how many calls its store refused, how many sockets are open and may be, what
-- its turns did, and the longest of them since the last page.
abbrev pub server_at : BrokerState → Option (List ℕ) → ℕ → ℕ → ℕ → Turn → ℕ → ServerGauges
server_at b strays failures sockets limit turns longest = record {
  strangers = length (strangers b.lines);
  sockets = sockets;
  sockets_limit = limit;
  accepted = turns.accepted;
  read_bytes = turns.read;
  written_bytes = turns.written;
  logins_failed = turns.denied;
  closed = closed_in turns;
  refusals_before_login = b.unbound_refusals;
  store_failures = failures;
  stray_files = option_map length strays;
  turn_micros_max = longest;
}

-- 2. The process

-- A process that began to serve at that moment, in milliseconds. Of its version and of what it takes nothing is said.
abbrev pub IsProcess : ℕ → List ℕ → ProcessGauges → Type 0
IsProcess started start_text p = (p.start_seconds ≡ started / 1000) × (p.start_text.now ≡ start_text)

-- 3. Turns

-- as far as 64 bits go
abbrev pub sum : ℕ → ℕ → ℕ
sum a b = min (a + b) (2 ^ 64 - 1)

-- what two turns did together
abbrev pub together : Turn → Turn → Turn
together a b = record {
  accepted = sum a.accepted b.accepted;
  read = sum a.read b.read;
  written = sum a.written b.written;
  closed = sum a.closed b.closed;
  turned_away = sum a.turned_away b.turned_away;
  denied = sum a.denied b.denied;
  strangers = sum a.strangers b.strangers;
  unread = sum a.unread b.unread;
  idle = sum a.idle b.idle;
  slow = sum a.slow b.slow;
  over_limit = sum a.over_limit b.over_limit;
}

-- calls that were refused in a second, where a store that had refused so many has refused more
abbrev pub refused_by : ℕ → ℕ → ℕ → Series → Series
refused_by second had failures refused =
    if nat_lt had failures then noted_series (record { second = second; total = failures }) refused else refused

-- the rates of each tenant whose bytes are counted, with what came and went up to a second
abbrev pub noted_each : ℕ → List TenantTraffic → List History → List History
noted_each second [] rates = rates
noted_each second (t ∷ traffic) [] = []
noted_each second (t ∷ traffic) (h ∷ rates) = noted_both second t.request_bytes t.response_bytes h ∷ noted_each second traffic rates

-- what came and went at a place, where it is counted
abbrev pub noted_at : ℕ → ℕ → Option TenantTraffic → List History → List History
noted_at second place None rates = rates
noted_at second place (Some t) rates =
    slice_set rates place (noted_both second t.request_bytes t.response_bytes (slice_index_or rates place no_history))

-- they are noted once a second
abbrev pub rates_by : ℕ → ℕ → List TenantTraffic → List History → List History
rates_by second last traffic rates = if second == last then rates else noted_each second traffic rates
