-- In a whole run of a tenant's machine no count of what it has passes its limit.
use Rattle.std.proofs.Common.{◌≡◌, ◌∙◌, ◌++◌, ℕ, zero, suc, max, List, [], ◌∷◌, Bool, true, false, cond, Option, Some, None, refl, sym, ap, subst}
use Rattle.std.proofs.lemmas.List.{append-nil}
use Rattle.kb_api_group.specs.Frames.{Front, Whole, Partial, TooSmall, TooLarge}
use Rattle.kb_tenant_state.specs.World as tenants
use Rattle.kb_tenant.specs.LimitsKept.{AreLimitsKept, HasOrderedCommits}
use Rattle.kb_tenant.specs.declared.limits.DataLimits.{DataLimits}
use Rattle.kb_tenant.proofs.LimitsKept.{Stays, less_kept, limits_then, none_less, stays_same, stays_then}
use Rattle.kb_tenant.proofs.RequestsKept.{all_retained_stays}
use Rattle.kb_tenant_api.specs.Hosted.{Kept, left, passed}
use Rattle.kb_tenant_api.proofs.LimitsKept.{served_stays}
use Rattle.kb_isolation_spec.specs.Requests.{Asked, Versions, OtherVersions, Handshake, Authenticate, Another, Malformed, request}
use Rattle.kb_isolation_spec.specs.Tenant.{Wait, kept_after}
use Rattle.kb_isolation_spec.specs.Session.{Stage, Greets, BoundTo, Session, fed, has_member, overruns, in_front}
use Rattle.kb_isolation_spec.specs.Greeting.{Setup, for_tenant, node_of}
use Rattle.kb_isolation_spec.specs.Machine.{Happening, Opens, Comes, Closes, Moment, Line, Sent, View, again, all_woken, each_line, find_line, first_able, kept_at, kept_by, kept_closed, kept_fed, kept_without, on, kept_by_turn, step, turn, turn_at, turns, work}
use Rattle.kb_isolation_spec.specs.Owners.{purge}
use Rattle.kb_isolation_spec.specs.Broker.{BrokerState, IsCalmFor, IsReady, IsEventRun, Mine, kept_of_tenant, last_after, owned_by, view_of}
use Rattle.kb_isolation_spec.specs.Left.{LeavesWorlds, last_world}
use Rattle.kb_isolation_spec.specs.LimitsKept.{IsMachineOf, StaysWithin}
use Rattle.kb_isolation_spec.proofs.Laws.{turn-none, turn-some}
use Rattle.kb_isolation_spec.proofs.Owned.{owned-mine}
use Rattle.kb_isolation_spec.proofs.OwnMachine.{IsTurning, fed-turning, machine-step, moment-turning, own-machine, step-setup, turn-own, turn-setup, turn-turning}

abbrev Keeps : DataLimits → Kept → Kept → Type 0
Keeps limits k l = Stays limits k.world l.world

-- ---- a moment, and a connection that is gone

stays-passed : (limits : DataLimits) (clock : ℕ) (kept : Kept) → Keeps limits kept (passed clock kept)
unfolding passed
stays-passed limits clock kept = all_retained_stays limits clock kept.world

stays-left : (limits : DataLimits) (clock n : ℕ) (kept : Kept) → Keeps limits kept (left clock n kept)
unfolding left
stays-left limits clock n kept = stays_same limits kept.world

stays-if : (limits : DataLimits) (b : Bool) (kept k l : Kept) → Keeps limits kept k → Keeps limits kept l → Keeps limits kept (cond b k l)
stays-if limits true kept k l first second = first
stays-if limits false kept k l first second = second

stays-without : (limits : DataLimits) (clock n : ℕ) (stage : Stage) (kept : Kept) → Keeps limits kept (kept_without clock n stage kept)
stays-without limits clock n stage kept = stays-if limits (has_member stage) kept (left clock n kept) kept (stays-left limits clock n kept) (stays_same limits kept.world)

stays-closed : (limits : DataLimits) (clock n : ℕ) (o : Option Session) (kept : Kept) → Keeps limits kept (kept_closed clock n o kept)
stays-closed limits clock n None kept = stays_same limits kept.world
stays-closed limits clock n (Some s) kept = stays-without limits clock n s.stage kept

stays-fed : (limits : DataLimits) (piece : List ℕ) (clock n : ℕ) (o : Option Session) (kept : Kept) → Keeps limits kept (kept_fed piece clock n o kept)
stays-fed limits piece clock n None kept = stays_same limits kept.world
stays-fed limits piece clock n (Some s) kept =
    stays-if limits (overruns piece s) kept (kept_without clock n s.stage kept) kept (stays-without limits clock n s.stage kept) (stays_same limits kept.world)

-- ---- a request

stays-by : (setup : Setup) (kept : Kept) (clock n : ℕ) (a : Asked) → Keeps setup.node.limits kept (kept_by setup kept clock n a)
unfolding kept_after
stays-by setup kept clock n Versions = stays_same setup.node.limits kept.world
stays-by setup kept clock n OtherVersions = stays_same setup.node.limits kept.world
stays-by setup kept clock n (Handshake version mechanism) = stays_same setup.node.limits kept.world
stays-by setup kept clock n (Authenticate message) = stays_same setup.node.limits kept.world
stays-by setup kept clock n (Another key version body) = served_stays setup.node kept.world clock kept.groups n key version body
stays-by setup kept clock n Malformed = stays_same setup.node.limits kept.world

stays-at : (setup : Setup) (kept : Kept) (clock n : ℕ) (f : Front) → Keeps setup.node.limits kept (kept_at setup kept clock n f)
stays-at setup kept clock n (Whole frame rest) = stays-by setup kept clock n (request setup.versions frame).asked
stays-at setup kept clock n TooSmall = stays_same setup.node.limits kept.world
stays-at setup kept clock n TooLarge = stays_same setup.node.limits kept.world
stays-at setup kept clock n Partial = stays_same setup.node.limits kept.world

stays-put : (setup : Setup) (kept : Kept) (clock n : ℕ) (f : Front) → Keeps setup.node.limits kept (kept_by_turn setup kept clock n f)
unfolding kept_by_turn
stays-put setup kept clock n f = stays-at setup kept clock n f

-- ---- a turn

abbrev limits_of : View → ℕ → DataLimits
limits_of w t = (node_of w.setup t).limits

stays-turn_at : (w : View) (t n : ℕ) (f : Front) (stage : Stage) → ((u : ℕ) (wait : Option Wait) → stage ≡ BoundTo u wait → u ≡ t) → Keeps (limits_of w t) w.kept (turn_at w n f stage).kept
stays-turn_at w t n f (Greets greeting) own = stays_same (limits_of w t) w.kept.world
stays-turn_at w t n f (BoundTo u wait) own =
    let after : Kept = kept_by_turn (for_tenant w.setup u) w.kept w.clock n f in
    subst (λ v. Keeps (limits_of w v) w.kept after) (own u wait refl) (stays-put (for_tenant w.setup u) w.kept w.clock n f)

stays-turn : (w : View) (t : ℕ) → ((l : Line) (u : ℕ) (wait : Option Wait) → first_able w.lines ≡ Some l → l.session.stage ≡ BoundTo u wait → u ≡ t) → Keeps (limits_of w t) w.kept (turn w).kept
stays-turn w t own = by (first_able w.lines) refl
  where
    by : (o : Option Line) → first_able w.lines ≡ o → Keeps (limits_of w t) w.kept (turn w).kept
    by None e = subst (λ (v : View). Keeps (limits_of w t) w.kept v.kept) (sym (turn-none w e)) (stays_same (limits_of w t) w.kept.world)
    by (Some l) e =
        subst (λ (v : View). Keeps (limits_of w t) w.kept v.kept) (sym (turn-some w l e))
        (stays-turn_at w t l.number (in_front l.session) l.session.stage (λ u wait at. own l u wait e at))

-- the turn of a connection that is bound to a tenant
pub turn-kept : (w : View) (l : Line) (t : ℕ) (wait : Option Wait) → first_able w.lines ≡ Some l → l.session.stage ≡ BoundTo t wait → HasOrderedCommits w.kept.world
    → AreLimitsKept (node_of w.setup t).limits w.kept.world (turn w).kept.world
turn-kept w l t wait able bound =
    (stays-turn w t (λ m u other first at.
    let here : Some m ≡ Some l = sym first ∙ able in
    let same : m ≡ l = cc in
    let both : BoundTo u other ≡ BoundTo t wait = sym at ∙ ap (λ (x : Line). x.session.stage) same ∙ bound in
    let own : u ≡ t = cc in
    own)).kept

module _ (t last : ℕ) (es : List Happening) where
  stays-again : (n : ℕ) (w : View) → IsTurning t last es w → Keeps (limits_of w t) w.kept (again turn n w).kept
  stays-again zero w h = stays_same (limits_of w t) w.kept.world
  stays-again (suc n) w h =
      let v : View = turn w in
      let first = stays-turn w t (λ l u wait able at. turn-own t last es w l u wait h able at) in
      let rest : Keeps (limits_of w t) v.kept (again turn n v).kept =
      subst (λ (s : Setup). Keeps (node_of s t).limits v.kept (again turn n v).kept) (turn-setup w) (stays-again n v (turn-turning t last es w h)) in
      stays_then (limits_of w t) w.kept.world v.kept.world (again turn n v).kept.world first rest

  stays-turns : (w : View) → IsTurning t last es w → Keeps (limits_of w t) w.kept (turns w).kept
  unfolding turns
  stays-turns w h = stays-again (work w.lines) w h

-- ---- an event

stays-step : (t last : ℕ) (e : Happening) (es : List Happening) (w : View) → IsMachineOf t last (e ∷ es) w → Keeps (limits_of w t) w.kept (step e w).kept
stays-step t last (Opens n) es w h = stays_same (limits_of w t) w.kept.world
stays-step t last (Comes n piece) es w h =
    let v : View = record w { kept = kept_fed piece w.clock n (find_line n w.lines) w.kept; lines = each_line (on n (fed piece)) w.lines } in
    stays_then (limits_of w t) w.kept.world v.kept.world (turns v).kept.world (stays-fed (limits_of w t) piece w.clock n (find_line n w.lines) w.kept) (stays-turns t last es v (fed-turning t last n piece es w h))
stays-step t last (Closes n) es w h = stays-closed (limits_of w t) w.clock n (find_line n w.lines) w.kept
stays-step t last (Moment now) es w h =
    let clock = max w.clock now in
    let v : View = all_woken (record w { kept = passed clock w.kept; clock = clock }) in
    stays_then (limits_of w t) w.kept.world v.kept.world (turns v).kept.world (stays-passed (limits_of w t) clock w.kept) (stays-turns t last es v (moment-turning t last now es w h))

-- ---- a run

stays-within : (t last : ℕ) (limits : DataLimits) (first : tenants.World) (es : List Happening) (w : View) → limits_of w t ≡ limits → IsMachineOf t last es w → HasOrderedCommits w.kept.world → AreLimitsKept limits first w.kept.world
    → StaysWithin limits first es w
stays-within t last limits first [] w is h ordered kept = kept
stays-within t last limits first (e ∷ es) w is h ordered kept =
    let v : View = step e w in
    let stays : Keeps limits w.kept v.kept = subst (λ x. Keeps x w.kept v.kept) is (stays-step t last e es w h) in (
      kept,
      stays-within t (last_after e last) limits first es v (ap (λ (s : Setup). (node_of s t).limits) (step-setup e w) ∙ is) (machine-step t last e es w h) (stays.ordered ordered)
          (limits_then limits first w.kept.world v.kept.world kept (stays.kept ordered)),
    )

pub run-within : (t last : ℕ) (es : List Happening) (w : View) → IsMachineOf t last es w → HasOrderedCommits w.kept.world → StaysWithin (node_of w.setup t).limits w.kept.world es w
run-within t last es w h ordered =
    stays-within t last (limits_of w t) w.kept.world es w refl h ordered (less_kept (limits_of w t) w.kept.world w.kept.world (none_less w.kept.world))

-- after the last event
last-within : (limits : DataLimits) (first : tenants.World) (es : List Happening) (w : View) → StaysWithin limits first es w → AreLimitsKept limits first (last_world es w).kept.world
last-within limits first [] w h = h
last-within limits first (e ∷ es) w h = last-within limits first es (step e w) h.1

-- ---- the broker of all tenants

pub own-within : (t : ℕ) (mine : ℕ → Bool) (es : List Happening) (b : BrokerState) → IsReady b → IsEventRun b.last es → Mine t mine es b → HasOrderedCommits (kept_of_tenant b t).world
    → StaysWithin (node_of b.setup t).limits (kept_of_tenant b t).world (purge mine es) (view_of t mine b)
own-within t mine es b ready run owns ordered =
    run-within t b.last (purge mine es) (view_of t mine b) (own-machine t mine es b ready.sound.rising ready.settled run owns) ordered

pub left-within : (t : ℕ) (es : List Happening) (old new : BrokerState) (got : List Sent) → LeavesWorlds es old new got → IsReady old → IsEventRun old.last es → IsCalmFor t old new → HasOrderedCommits (kept_of_tenant old t).world
    → AreLimitsKept (node_of old.setup t).limits (kept_of_tenant old t).world (kept_of_tenant new t).world
left-within t es old new got leaves ready run calm ordered =
    let mine : ℕ → Bool = owned_by t es old in
    let limits = (node_of old.setup t).limits in
    let owns : Mine t mine es old = owned-mine t es old ready.sound.rising in
    let more : Mine t mine (es ++ []) old = subst (λ x. Mine t mine x old) (sym (append-nil es)) owns in
    let same = ap (λ (w : View). w.kept.world) (leaves t mine [] more calm).world in
    subst (AreLimitsKept limits (kept_of_tenant old t).world) (sym same)
    (last-within limits (kept_of_tenant old t).world (purge mine es) (view_of t mine old) (own-within t mine es old ready run owns ordered))
