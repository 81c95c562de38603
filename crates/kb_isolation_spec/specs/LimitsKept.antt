-- That what a tenant has never passes its limits, in a whole run.
use Rattle.std.specs.Prelude.{◌≡◌, ℕ, true, List, [], ◌∷◌, None}
use Rattle.kb_tenant_state.specs.World as tenants
use Rattle.kb_tenant.specs.LimitsKept.{AreLimitsKept}
use Rattle.kb_tenant.specs.declared.limits.DataLimits.{DataLimits}
use Rattle.kb_isolation_spec.specs.Broker.{IsEventRun, Rising}
use Rattle.kb_isolation_spec.specs.Machine.{Happening, View, first_able, step}
use Rattle.kb_isolation_spec.specs.Owners.{OwnsLines}

-- Before these events no connection of a machine can take a turn, and the events are a run. All its connections, those that are still to
-- open too, are that tenant's: what they say binds none of them to another.
pub record IsMachineOf (t last : ℕ) (es : List Happening) (w : View) : Type 0 where
  pub rising : Rising 0 last w.lines
  pub settled : first_able w.lines ≡ None
  pub in_order : IsEventRun last es
  pub own : OwnsLines w.setup t (λ n. true) last es w.lines

-- Before a run of a machine by these events, and after each of them, each count of its world that has a limit is kept: it is at most the
-- limit, or at most what it was in a first world.
abbrev pub StaysWithin : DataLimits → tenants.World → List Happening → View → Type 0
StaysWithin limits first [] w = AreLimitsKept limits first w.kept.world
StaysWithin limits first (e ∷ es) w = AreLimitsKept limits first w.kept.world × StaysWithin limits first es (step e w)
