-- From which number on a broker numbers the members of its tenants' groups.
use Rattle.std.specs.Prelude.{ℕ}
use Rattle.kb_tenants.specs.Members as tenants
use Rattle.kb_isolation_spec.specs.Broker.{BrokerState}

-- the same broker, where the first new member of each tenant gets that number
abbrev pub broker_numbered_from : ℕ → BrokerState → BrokerState
broker_numbered_from first b = record b { tenants = tenants.numbered_from first b.tenants }
