-- The connections of a tenant, and those of none.
use Rattle.std.specs.Prelude.{ℕ, List, Bool, filter, is_none, Some, ◌&&◌}
use Rattle.kb_isolation_spec.specs.Machine.{Line}
use Rattle.kb_isolation_spec.specs.Owners.{is_owner, whose}
use Rattle.kb_broker.specs.Places.{waits_in}

-- whether a connection is bound to the tenant at that place
abbrev pub is_of : ℕ → Line → Bool
is_of t l = is_owner t (whose l.session.stage)

-- the connections that are bound to it
abbrev pub lines_bound_to : ℕ → List Line → List Line
lines_bound_to t ls = filter (is_of t) ls

-- those of them that wait for the answer to a request
abbrev pub waiting_lines : ℕ → List Line → List Line
waiting_lines t ls = filter (λ (l : Line). is_of t l && waits_in (Some l.session)) ls

-- the connections that have not logged in
abbrev pub strangers : List Line → List Line
strangers ls = filter (λ (l : Line). is_none (whose l.session.stage)) ls
