-- In a whole run of a machine each fetch is answered with whole batches.
use Rattle.std.proofs.Common.{ℕ, zero, suc, max, List, [], ◌∷◌, Bool, true, false, cond, Option, Some, None}
use Rattle.std.specs.List.{AllByRecursion}
use Rattle.kb_api_group.specs.Frames.{Front, Whole, Partial, TooSmall, TooLarge}
use Rattle.kb_tenant_state.specs.World as tenants
use Rattle.kb_tenant_state.specs.Calls.{all_places, retain, retain_each}
use Rattle.kb_tenant_state.specs.declared.topic_partition.TopicPartition.{TopicPartition}
use Rattle.kb_tenant.specs.Batches.{HasSmallLogs}
use Rattle.kb_tenant_api.specs.Hosted.{Kept, left, passed}
use Rattle.kb_tenant.proofs.Small.{retained_small}
use Rattle.kb_tenant_api.proofs.Laws.{served_small}
use Rattle.kb_isolation_spec.specs.Requests.{Asked, Versions, OtherVersions, Handshake, Authenticate, Another, Malformed, request}
use Rattle.kb_isolation_spec.specs.Tenant.{kept_after}
use Rattle.kb_isolation_spec.specs.Session.{Stage, Greets, BoundTo, Session, fed, overruns, has_member, in_front}
use Rattle.kb_isolation_spec.specs.Greeting.{Setup, for_tenant}
use Rattle.kb_isolation_spec.specs.Machine.{Happening, Opens, Comes, Closes, Moment, Line, View, kept_by_turn, kept_by, kept_at, each_line, on, find_line, first_able, all_woken, turn_at, turn_of, turn, again, work, turns, kept_without, kept_closed, kept_fed, step}
use Rattle.kb_isolation_spec.specs.Left.{last_world}
use Rattle.kb_isolation_spec.specs.Fetches.{ServesBatches, WakesWithBatches, AllWakeWithBatches, after_request, TurnGivesBatches, NextGivesBatches, TurnsGiveBatches, EventGivesBatches, FetchesGetBatches}
use Rattle.kb_isolation_spec.proofs.Fetches.{served-batches, woken-batches}

-- the logs of what the tenant keeps are within their limits
abbrev IsSmall : View → Type 0
IsSmall w = HasSmallLogs w.kept.world

-- 1. Logs stay within their limits

each-small : (clock : ℕ) (places : List TopicPartition) (w : tenants.World) → HasSmallLogs w → HasSmallLogs (retain_each clock places w).0
each-small clock [] w small = small
each-small clock (place ∷ places) w small = each-small clock places (retain clock w place).0 (retained_small clock w place small)

small-passed : (clock : ℕ) (kept : Kept) → HasSmallLogs kept.world → HasSmallLogs (passed clock kept).world
unfolding passed
small-passed clock kept small = each-small clock (all_places kept.world) kept.world small

small-left : (clock n : ℕ) (kept : Kept) → HasSmallLogs kept.world → HasSmallLogs (left clock n kept).world
unfolding left
small-left clock n kept small = small

small-if : (b : Bool) (k l : Kept) → HasSmallLogs k.world → HasSmallLogs l.world → HasSmallLogs (cond b k l).world
small-if true k l small also = small
small-if false k l small also = also

small-without : (clock n : ℕ) (stage : Stage) (kept : Kept) → HasSmallLogs kept.world → HasSmallLogs (kept_without clock n stage kept).world
small-without clock n stage kept small = small-if (has_member stage) (left clock n kept) kept (small-left clock n kept small) small

small-closed : (clock n : ℕ) (o : Option Session) (kept : Kept) → HasSmallLogs kept.world → HasSmallLogs (kept_closed clock n o kept).world
small-closed clock n None kept small = small
small-closed clock n (Some s) kept small = small-without clock n s.stage kept small

small-fed : (piece : List ℕ) (clock n : ℕ) (o : Option Session) (kept : Kept) → HasSmallLogs kept.world → HasSmallLogs (kept_fed piece clock n o kept).world
small-fed piece clock n None kept small = small
small-fed piece clock n (Some s) kept small = small-if (overruns piece s) (kept_without clock n s.stage kept) kept (small-without clock n s.stage kept small) small

small-by : (setup : Setup) (kept : Kept) (clock n : ℕ) (a : Asked) → HasSmallLogs kept.world → HasSmallLogs (kept_by setup kept clock n a).world
unfolding kept_after
small-by setup kept clock n Versions small = small
small-by setup kept clock n OtherVersions small = small
small-by setup kept clock n (Handshake version mechanism) small = small
small-by setup kept clock n (Authenticate message) small = small
small-by setup kept clock n (Another key version body) small = served_small setup.node kept.world clock kept.groups n key version body small
small-by setup kept clock n Malformed small = small

small-at : (setup : Setup) (kept : Kept) (clock n : ℕ) (f : Front) → HasSmallLogs kept.world → HasSmallLogs (kept_at setup kept clock n f).world
small-at setup kept clock n (Whole frame rest) small = small-by setup kept clock n (request setup.versions frame).asked small
small-at setup kept clock n TooSmall small = small
small-at setup kept clock n TooLarge small = small
small-at setup kept clock n Partial small = small

small-put : (setup : Setup) (kept : Kept) (clock n : ℕ) (f : Front) → HasSmallLogs kept.world → HasSmallLogs (kept_by_turn setup kept clock n f).world
unfolding kept_by_turn
small-put setup kept clock n f small = small-at setup kept clock n f small

small-turn_at : (w : View) (n : ℕ) (f : Front) (stage : Stage) → IsSmall w → IsSmall (turn_at w n f stage)
small-turn_at w n f (Greets greeting) small = small
small-turn_at w n f (BoundTo tenant wait) small = small-put (for_tenant w.setup tenant) w.kept w.clock n f small

small-turn_of : (w : View) (o : Option Line) → IsSmall w → IsSmall (turn_of w o)
small-turn_of w None small = small
small-turn_of w (Some l) small = small-turn_at w l.number (in_front l.session) l.session.stage small

small-turn : (w : View) → IsSmall w → IsSmall (turn w)
unfolding turn
small-turn w small = small-turn_of w (first_able w.lines) small

small-again : (n : ℕ) (w : View) → IsSmall w → IsSmall (again turn n w)
small-again zero w small = small
small-again (suc n) w small = small-again n (turn w) (small-turn w small)

small-turns : (w : View) → IsSmall w → IsSmall (turns w)
unfolding turns
small-turns w small = small-again (work w.lines) w small

small-step : (e : Happening) (w : View) → IsSmall w → IsSmall (step e w)
small-step (Opens n) w small = small
small-step (Comes n piece) w small =
    let o = find_line n w.lines in
    small-turns (record w { kept = kept_fed piece w.clock n o w.kept; lines = each_line (on n (fed piece)) w.lines }) (small-fed piece w.clock n o w.kept small)
small-step (Closes n) w small = small-closed w.clock n (find_line n w.lines) w.kept small
small-step (Moment now) w small =
    let clock = max w.clock now in
    small-turns (all_woken (record w { kept = passed clock w.kept; clock = clock })) (small-passed clock w.kept small)

pub small-last : (es : List Happening) (w : View) → IsSmall w → IsSmall (last_world es w)
small-last [] w small = small
small-last (e ∷ es) w small = small-last es (step e w) (small-step e w small)

-- 2. Answers

serves : (w : View) (tenant n : ℕ) (s : Session) → IsSmall w → ServesBatches w tenant n s
serves w tenant n s small frame rest version body fetch at asks read = served-batches (for_tenant w.setup tenant) w.kept w.clock n s frame rest version body fetch small at asks read

wakes : (w : View) (n : ℕ) (s : Session) → IsSmall w → WakesWithBatches w n s
wakes w n s small tenant head version body deadline limit fetch waits read = woken-batches w.kept w.clock n tenant s head version body deadline limit fetch small waits read

each-line : (P : Line → Type 0) → ((l : Line) → P l) → (ls : List Line) → AllByRecursion P ls
each-line P all [] = tt
each-line P all (l ∷ ls) = (all l, each-line P all ls)

all-wake : (w : View) → IsSmall w → AllWakeWithBatches w
all-wake w small = each-line (λ (l : Line). WakesWithBatches w l.number l.session) (λ l. wakes w l.number l.session small) w.lines

turn-gives : (w : View) (l : Line) (stage : Stage) → IsSmall w → TurnGivesBatches w l stage
turn-gives w l (Greets greeting) small = tt
turn-gives w l (BoundTo tenant wait) small = (serves w tenant l.number l.session small, all-wake (after_request w tenant l) (small-put (for_tenant w.setup tenant) w.kept w.clock l.number (in_front l.session) small))

next-gives : (w : View) (o : Option Line) → IsSmall w → NextGivesBatches w o
next-gives w None small = tt
next-gives w (Some l) small = turn-gives w l l.session.stage small

turns-give : (n : ℕ) (w : View) → IsSmall w → TurnsGiveBatches n w
turns-give zero w small = tt
turns-give (suc n) w small = (next-gives w (first_able w.lines) small, turns-give n (turn w) (small-turn w small))

event-gives : (e : Happening) (w : View) → IsSmall w → EventGivesBatches e w
event-gives (Opens n) w small = tt
event-gives (Comes n piece) w small =
    let o = find_line n w.lines in
    let next = record w { kept = kept_fed piece w.clock n o w.kept; lines = each_line (on n (fed piece)) w.lines } in
    turns-give (work next.lines) next (small-fed piece w.clock n o w.kept small)
event-gives (Closes n) w small = tt
event-gives (Moment now) w small =
    let clock = max w.clock now in
    let after = record w { kept = passed clock w.kept; clock = clock } in
    let kept = small-passed clock w.kept small in
    (all-wake after kept, turns-give (work (all_woken after).lines) (all_woken after) kept)

-- a whole run
pub run-gives : (es : List Happening) (w : View) → IsSmall w → FetchesGetBatches es w
run-gives [] w small = tt
run-gives (e ∷ es) w small = (event-gives e w small, run-gives es (step e w) (small-step e w small))
