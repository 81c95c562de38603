-- What a connection gets for a fetch: whole batches of its tenant's partitions, as they are at the moment of answering.
use Rattle.std.specs.Prelude.{◌≡◌, ◌⊎◌, ℕ, zero, suc, ℤ, max, List, [], ◌∷◌, Option, Some, None, Ok, ⊤}
use Rattle.std.specs.List.{AllByRecursion}
use Rattle.kb_wire.specs.declared.api_key.TheConstants.{FETCH}
use Rattle.kb_api_group.specs.Frames.{Whole}
use Rattle.kb_api_data.specs.declared.fetch.FetchRequest.{FetchRequest}
use Rattle.kb_tenant_state.specs.World as tenants
use Rattle.kb_tenant.specs.Batches.{HoldsBatches}
use Rattle.kb_tenant.specs.Fetch.{asked_fetch}
use Rattle.kb_tenant_api.specs.Hosted.{passed}
use Rattle.kb_isolation_spec.specs.declared.head.Head.{Head}
use Rattle.kb_isolation_spec.specs.Requests.{Another, request}
use Rattle.kb_isolation_spec.specs.Tenant.{Records}
use Rattle.kb_isolation_spec.specs.Session.{Stage, Greets, BoundTo, Session, fed, replied, without_wait, in_front}
use Rattle.kb_isolation_spec.specs.Greeting.{for_tenant}
use Rattle.kb_isolation_spec.specs.Machine.{Happening, Opens, Comes, Closes, Moment, Line, View, after_turn, kept_by_turn, woken, kept_fed, find_line, each_line}
use Rattle.kb_isolation_spec.specs.Machine.{on, first_able, all_woken, turn, work, step}

-- it got a reply that holds such batches, as that version tells them, or no reply
abbrev pub GetsBatches : tenants.World → ℤ → FetchRequest → Head → Session → Session → Type 0
GetsBatches world version fetch head old new =
    ((reply : List ℕ) × HoldsBatches version world fetch reply × (new ≡ replied head reply old)) ⊎ (new.output ≡ old.output)

-- 1. One answer

-- where a fetch stands in front of a tenant's connection, of number n, that takes its turn, the connection gets such batches
abbrev pub ServesBatches : View → ℕ → ℕ → Session → Type 0
ServesBatches w tenant n s = (frame rest : List ℕ) (version : ℤ) (body : List ℕ) (fetch : FetchRequest)
    → in_front s ≡ Whole frame rest → (request w.setup.versions frame).asked ≡ Another FETCH version body
    → asked_fetch version body ≡ Ok fetch
    → GetsBatches w.kept.world version fetch (request w.setup.versions frame).head (record s { unread = rest })
    (after_turn (for_tenant w.setup tenant) w.kept w.clock n s)

-- where a fetch waits on a connection, of number n, that is looked at, the connection gets such batches
abbrev pub WakesWithBatches : View → ℕ → Session → Type 0
WakesWithBatches w n s = (tenant : ℕ) (head : Head) (version : ℤ) (body : List ℕ) (deadline : ℕ) (limit : Option ℕ) (fetch : FetchRequest)
    → s.stage ≡ BoundTo tenant (Some (record { head = head; awaited = Records version body deadline limit }))
    → asked_fetch version body ≡ Ok fetch
    → GetsBatches w.kept.world version fetch head (record s { stage = without_wait s.stage }) (woken w.kept w.clock n s)

-- so does each that waits
abbrev pub AllWakeWithBatches : View → Type 0
AllWakeWithBatches w = AllByRecursion (λ (l : Line). WakesWithBatches w l.number l.session) w.lines

-- 2. A whole run

-- the world after the request of a tenant's connection, when those that wait are looked at
abbrev pub after_request : View → ℕ → Line → View
after_request w tenant l = record w {
  kept = kept_by_turn (for_tenant w.setup tenant) w.kept w.clock l.number (in_front l.session);
  lines = each_line (on l.number (after_turn (for_tenant w.setup tenant) w.kept w.clock l.number)) w.lines;
}

-- a turn: its own connection, and then those that wait
abbrev pub TurnGivesBatches : View → Line → Stage → Type 0
TurnGivesBatches w l (Greets greeting) = ⊤
TurnGivesBatches w l (BoundTo tenant wait) = ServesBatches w tenant l.number l.session × AllWakeWithBatches (after_request w tenant l)

abbrev pub NextGivesBatches : View → Option Line → Type 0
NextGivesBatches w None = ⊤
NextGivesBatches w (Some l) = TurnGivesBatches w l l.session.stage

-- so many turns
abbrev pub TurnsGiveBatches : ℕ → View → Type 0
TurnsGiveBatches zero w = ⊤
TurnsGiveBatches (suc n) w = NextGivesBatches w (first_able w.lines) × TurnsGiveBatches n (turn w)

-- all turns that there are
abbrev pub AllTurnsGiveBatches : View → Type 0
AllTurnsGiveBatches w = TurnsGiveBatches (work w.lines) w

abbrev pub EventGivesBatches : Happening → View → Type 0
EventGivesBatches (Opens n) w = ⊤
EventGivesBatches (Comes n piece) w =
    let kept = kept_fed piece w.clock n (find_line n w.lines) w.kept in
    AllTurnsGiveBatches (record w { kept = kept; lines = each_line (on n (fed piece)) w.lines })
EventGivesBatches (Closes n) w = ⊤
EventGivesBatches (Moment now) w =
    let clock = max w.clock now in
    let after = record w { kept = passed clock w.kept; clock = clock } in
    AllWakeWithBatches after × AllTurnsGiveBatches (all_woken after)

-- In a run of the machine by these events each reply to a fetch, at once or after a wait, holds whole batches of each partition that it
-- answers without an error, as the partition is at that moment: one after the other, from the one that holds the asked offset.
abbrev pub FetchesGetBatches : List Happening → View → Type 0
FetchesGetBatches [] w = ⊤
FetchesGetBatches (e ∷ es) w = EventGivesBatches e w × FetchesGetBatches es (step e w)
