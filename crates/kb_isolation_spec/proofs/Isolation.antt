-- Two runs that are alike for a tenant give its connections the same.
use Rattle.std.proofs.Common.{◌≡◌, ℕ, List, [], ◌∷◌, ◌++◌, Bool, true, false, cond, sym, ◌∙◌, ap, refl}
use Rattle.kb_isolation_spec.specs.Machine.{Happening, View, Sent, run, stepped, those, those_sent, by_number}
use Rattle.kb_isolation_spec.specs.Owners.{concerns, purge}
use Rattle.kb_isolation_spec.specs.Broker.{BrokerState, IsCalmFor, Mine, view_of, kept_of_tenant, owned_by, alone}
use Rattle.kb_isolation_spec.specs.Told.{quieted}
use Rattle.kb_isolation_spec.specs.Isolation.{IsIsolated, StartsAlike, AreAlike, own_events, own_lines, own_sent}
use Rattle.kb_isolation_spec.specs.Left.{last_world, LeavesWorlds}

view-alike : (t : ℕ) (es fs : List Happening) (a b : BrokerState) → StartsAlike t es fs a b → view_of t (owned_by t fs b) b ≡ view_of t (owned_by t es a) a
view-alike t es fs a b s =
    let lines = own_lines t fs b in
    ap (λ x. let w : View = record { setup = x; kept = kept_of_tenant b t; clock = b.clock; lines = lines } in w) s.setup
    ∙ (ap (λ x. let w : View = record { setup = a.setup; kept = x; clock = b.clock; lines = lines } in w) s.kept
    ∙ (ap (λ x. let w : View = record { setup = a.setup; kept = kept_of_tenant a t; clock = x; lines = lines } in w) s.clock
    ∙ ap (λ x. let w : View = record { setup = a.setup; kept = kept_of_tenant a t; clock = a.clock; lines = x } in w) s.lines))

alone-alike : (t : ℕ) (es fs : List Happening) (a after_a b after_b : BrokerState) → AreAlike t es fs a after_a b after_b → alone t fs b ≡ alone t es a
alone-alike t es fs a after_a b after_b h =
    ap (λ x. run x (view_of t (owned_by t fs b) b)) h.events ∙ ap (run (own_events t es a)) (view-alike t es fs a b h.start)

pub sent-alike : (t : ℕ) (es fs : List Happening) (a after_a b after_b : BrokerState) (got others : List Sent) → IsIsolated es a after_a got → IsIsolated fs b after_b others → AreAlike t es fs a after_a b after_b
    → own_sent t fs b others ≡ own_sent t es a got
sent-alike t es fs a after_a b after_b got others p q h =
    q t h.second ∙ (ap by_number (alone-alike t es fs a after_a b after_b h) ∙ sym (p t h.first))

-- where nobody is connected everything starts alike
pub starts-empty : (t : ℕ) (es fs : List Happening) (b : BrokerState) → b.lines ≡ [] → StartsAlike t es fs b b
starts-empty t es fs b e = record {
  setup = refl;
  kept = refl;
  clock = refl;
  lines = ap (those (owned_by t fs b)) e ∙ sym (ap (those (owned_by t es b)) e);
}

-- the last world after one event more in front
pub last-step : (mine : ℕ → Bool) (e : Happening) (es : List Happening) (w : View) → last_world (purge mine es) (stepped (concerns mine e) e w) ≡ last_world (purge mine (e ∷ es)) w
last-step mine e es w = by (concerns mine e)
  where
    by : (b : Bool) → last_world (purge mine es) (stepped b e w) ≡ last_world (cond b (e ∷ purge mine es) (purge mine es)) w
    by true = refl
    by false = refl

-- a run after a run starts from the world that the first left
pub left-then : (t : ℕ) (mine : ℕ → Bool) (es fs later : List Happening) (a b c : BrokerState) (got more : List Sent) → LeavesWorlds es a b got → LeavesWorlds fs b c more → Mine t mine (es ++ (fs ++ later)) a → IsCalmFor t a b → IsCalmFor t b c
    → (those_sent mine more ≡ by_number (run (purge mine fs) (quieted (last_world (purge mine es) (view_of t mine a)))))
    × (view_of t mine c ≡ quieted (last_world (purge mine fs) (quieted (last_world (purge mine es) (view_of t mine a)))))
left-then t mine es fs later a b c got more p q m first second =
    let left = p t mine (fs ++ later) m first in
    let then = q t mine later left.owns second in (
      then.sent ∙ ap (λ w. by_number (run (purge mine fs) w)) left.world,
      then.world ∙ ap (λ w. quieted (last_world (purge mine fs) w)) left.world,
    )
