-- A tenant that has a broker to itself, beside one that it shares with others.
use Rattle.std.specs.Prelude.{◌≡◌, ℕ, List}
use Rattle.kb_isolation_spec.specs.Machine.{Happening}
use Rattle.kb_isolation_spec.specs.Broker.{BrokerState, kept_of_tenant}
use Rattle.kb_isolation_spec.specs.Isolation.{own_lines}

-- beside a shared broker to which those events are still to come, one that the tenant has to itself: what is fixed, what the tenant
-- keeps and the clock are the same, and of the open connections only the tenant's are there
pub record HasToItself (t : ℕ) (es : List Happening) (shared own : BrokerState) : Type 0 where
  pub setup : own.setup ≡ shared.setup
  pub kept : kept_of_tenant own t ≡ kept_of_tenant shared t
  pub clock : own.clock ≡ shared.clock
  pub lines : own.lines ≡ own_lines t es shared
