-- What connections get in deeds, and what a machine writes to them.
use Rattle.std.specs.Prelude.{◌≡◌, ◌⊎◌, ◌==◌, ℕ, List, [], ◌∷◌, ◌++◌, filter, length, if◌then◌else◌, Bool, true, false, Option, Some, None}
use Rattle.kb_tenant_state.specs.Counts.{IsCalm}
use Rattle.kb_isolation_spec.specs.Session.{Session}
use Rattle.kb_isolation_spec.specs.Machine.{Sent, each_line, find_line, on, those_sent}
use Rattle.kb_isolation_spec.specs.Owners.{concerns}
use Rattle.kb_isolation_spec.specs.Calls.{output_in, without_output}
use Rattle.kb_broker.specs.Truth.{IsSettled, MayAct, Own, own_of}
use Rattle.kb_isolation_spec.specs.Broker.{BrokerState, IsCalmFor, IsSound, IsUnowned, alone, alone_unowned, only, owned_by}
use Rattle.kb_node.specs.Traffic.{Along, Commit, Deed, Event, Fail, Take, events_of}

-- the bytes that were taken of a connection, in order
abbrev pub taken_of : ℕ → List Deed → List ℕ
taken_of n [] = []
taken_of n (Event e ∷ ds) = taken_of n ds
taken_of n (Take k bytes ∷ ds) = if n == k then bytes ++ taken_of n ds else taken_of n ds
taken_of n (Commit ∷ ds) = taken_of n ds
taken_of n (Fail ∷ ds) = taken_of n ds

-- What a connection got of which those bytes were taken. One that is open got those, and then what it has still to be told, and was shut as it
-- is now, for the same cause. One that is not open never was, or it got those, and then what was dropped as it closed.
abbrev pub HasGot : ℕ → List ℕ → Option Session → List Sent → Type 0
HasGot n bytes (Some s) got = got ≡ record { number = n; bytes = bytes ++ s.output; shut = s.shut; why = s.why } ∷ []
HasGot n bytes None got = ((bytes ≡ []) × (got ≡ []))
    ⊎ ((last : Sent) × (dropped : List ℕ) × (got ≡ last ∷ []) × (last.number ≡ n) × (last.bytes ≡ bytes ++ dropped))

-- whether a deed is one of those connections', or a moment
abbrev pub is_own : (ℕ → Bool) → Deed → Bool
is_own mine (Event e) = concerns mine e
is_own mine (Take n bytes) = mine n
is_own mine Commit = false
is_own mine Fail = false

abbrev pub own_deeds : (ℕ → Bool) → List Deed → List Deed
own_deeds mine deeds = filter (is_own mine) deeds

-- What the machine of a tenant may do in a deed, where each step may be refused something: an event, or a take of all that a connection has
-- to say.
abbrev pub MayDo : ℕ → Deed → Own → Own → Type 0
MayDo t (Event e) old new = MayAct t e old new × IsSettled new
MayDo t (Take n bytes) old new = (bytes ≡ output_in (find_line n old.view.lines))
    × (new ≡ record old { view = record old.view { lines = each_line (on n without_output) old.view.lines } })
MayDo t Commit old new = new ≡ old
MayDo t Fail old new = new ≡ old

-- the deeds of those connections, and no others, one after another
abbrev pub GoAlone : ℕ → (ℕ → Bool) → List Deed → BrokerState → BrokerState → Type 0
GoAlone t mine deeds old new = Along (MayDo t) (own_deeds mine deeds) (own_of t mine old) (own_of t mine new)

-- A run of deeds kept tenants apart.
pub record AreIsolated (deeds : List Deed) (old new : BrokerState) : Type 0 where
  -- Each connection of a tenant got what the machine of that tenant alone writes to it, given the tenant's events and the moments, unless
  -- something was refused to the tenant or to a connection that was not bound.
  pub owned : (t : ℕ) → IsCalmFor t old new → (n : ℕ) → owned_by t (events_of deeds) old n ≡ true
      → HasGot n (taken_of n deeds) (find_line n new.lines) (those_sent (only n) (alone t (events_of deeds) old))
  -- One without owner got what a machine with nothing in it but that connection writes, unless something was refused to one that was not bound.
  pub unowned : IsSound old → (n : ℕ) → IsUnowned n (events_of deeds) old → IsCalm old.unbound_refusals new.unbound_refusals
      → HasGot n (taken_of n deeds) (find_line n new.lines) (those_sent (only n) (alone_unowned n (events_of deeds) old))
  -- Whatever was refused, what was taken of a tenant's connections is what the machine of that tenant alone may have had to say, given the
  -- tenant's own deeds and the moments.
  pub own : (t : ℕ) → GoAlone t (owned_by t (events_of deeds) old) deeds old new
  -- So it is of a connection without owner.
  pub stranger : IsSound old → (n : ℕ) → IsUnowned n (events_of deeds) old → GoAlone (length old.tenants) (only n) deeds old new
