-- What a run leaves to a tenant: its machine's last world.
use Rattle.std.specs.Prelude.{◌≡◌, ℕ, List, [], ◌∷◌, ◌++◌, Bool}
use Rattle.kb_isolation_spec.specs.Machine.{Happening, View, Sent, those_sent, step, run, by_number}
use Rattle.kb_isolation_spec.specs.Owners.{purge}
use Rattle.kb_isolation_spec.specs.Broker.{BrokerState, IsCalmFor, Mine, view_of}
use Rattle.kb_isolation_spec.specs.Told.{quieted}

-- the machine's last world
abbrev pub last_world : List Happening → View → View
last_world [] w = w
last_world (e ∷ es) w = last_world es (step e w)

-- a run by the events es, to a tenant, where those are its connections: they got what its machine writes, and what the tenant then
-- has is the machine's last world, without the output, which was taken. They are still the tenant's by what is to come later
pub record IsLeft (t : ℕ) (mine : ℕ → Bool) (es later : List Happening) (old new : BrokerState) (got : List Sent) : Type 0 where
  pub sent : those_sent mine got ≡ by_number (run (purge mine es) (view_of t mine old))
  pub world : view_of t mine new ≡ quieted (last_world (purge mine es) (view_of t mine old))
  pub owns : Mine t mine later new

-- so it is for each tenant to which nothing was refused, nor to a connection that was not bound, whatever is to come later
abbrev pub LeavesWorlds : List Happening → BrokerState → BrokerState → List Sent → Type 0
LeavesWorlds es old new got = (t : ℕ) (mine : ℕ → Bool) (later : List Happening) → Mine t mine (es ++ later) old → IsCalmFor t old new
    → IsLeft t mine es later old new got
