-- What isolation is to a tenant: what its connections get depends on its own events and the moments, and on nothing that others do.
use Rattle.std.specs.Prelude.{◌≡◌, ℕ, List}
use Rattle.kb_isolation_spec.specs.Machine.{Happening, Line, Sent, those, those_sent, by_number}
use Rattle.kb_isolation_spec.specs.Owners.{purge}
use Rattle.kb_isolation_spec.specs.Broker.{BrokerState, IsCalmFor, kept_of_tenant, owned_by, alone}

-- 1. One run

-- each tenant's connections got what the machine of that tenant alone writes, unless something was refused to it or to a connection
-- that was not bound
abbrev pub IsIsolated : List Happening → BrokerState → BrokerState → List Sent → Type 0
IsIsolated es old new got = (t : ℕ) → IsCalmFor t old new → those_sent (owned_by t es old) got ≡ by_number (alone t es old)

-- 2. What is the tenant's own in a run

-- the events of its connections and the moments, in order
abbrev pub own_events : ℕ → List Happening → BrokerState → List Happening
own_events t es b = purge (owned_by t es b) es

-- those of its connections that are open before the run, also where they are still to log in
abbrev pub own_lines : ℕ → List Happening → BrokerState → List Line
own_lines t es b = those (owned_by t es b) b.lines

-- what its connections got, and whether each was shut
abbrev pub own_sent : ℕ → List Happening → BrokerState → List Sent → List Sent
own_sent t es b got = those_sent (owned_by t es b) got

-- 3. Two runs

-- before the runs the tenant has the same in both: what is fixed, what it keeps, the clock, and its open connections
pub record StartsAlike (t : ℕ) (es fs : List Happening) (a b : BrokerState) : Type 0 where
  pub setup : b.setup ≡ a.setup
  pub kept : kept_of_tenant b t ≡ kept_of_tenant a t
  pub clock : b.clock ≡ a.clock
  pub lines : own_lines t fs b ≡ own_lines t es a

-- two runs, from a to after_a by the events es and from b to after_b by the events fs, are the same to the tenant: it has the same
-- before them, its own events and the moments are the same in the same order, and in neither anything is refused to it or to a
-- connection that is not bound
pub record AreAlike (t : ℕ) (es fs : List Happening) (a after_a b after_b : BrokerState) : Type 0 where
  pub start : StartsAlike t es fs a b
  pub events : own_events t fs b ≡ own_events t es a
  pub first : IsCalmFor t a after_a
  pub second : IsCalmFor t b after_b
