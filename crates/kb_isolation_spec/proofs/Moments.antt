-- Which worlds the statements on fetches speak of, when a fetch's wait ends, and whose events are a tenant's own.
use Rattle.std.proofs.Common.{◌≡◌, ◌∙◌, ◌≤◌, ◌<◌, ℕ, ℤ, zero, suc, List, Bool, true, false, cond, nat_lt, nat_le, Option, Some, None, Ok, refl, sym, ap, subst, arith}
use Rattle.std.specs.Prelude.{◌||◌, not, pos, negsuc}
use Rattle.std.specs.List.{Contains}
use Rattle.std.proofs.lemmas.Bool.Decides.{nat_tests}
use Rattle.std.proofs.lemmas.List.Elements.{All-contains, filter_passes}
use Rattle.kb_api_data.specs.declared.fetch.FetchRequest.{FetchRequest}
use Rattle.kb_tenant.specs.Fetch.{asked_fetch, bounded, bytes_of, fetched, is_error, is_ready, some_partition, fetched_in}
use Rattle.kb_tenant.specs.Replies.{Replies}
use Rattle.kb_tenant.specs.Serve.{looked, looked_at}
use Rattle.kb_tenant_api.specs.Hosted.{Kept}
use Rattle.kb_isolation_spec.specs.declared.head.Head.{Head}
use Rattle.kb_isolation_spec.specs.Tenant.{Records, Wait, ready}
use Rattle.kb_isolation_spec.specs.Session.{BoundTo, Session, replied, without_wait, in_front}
use Rattle.kb_isolation_spec.specs.Machine.{View, Line, Happening, again, all_woken, first_able, told, turn, turn_at, turns, woken, woken_by, work}
use Rattle.kb_isolation_spec.specs.Owners.{concerns, purge}
use Rattle.kb_isolation_spec.specs.Fetches.{AllTurnsGiveBatches, AllWakeWithBatches, NextGivesBatches, ServesBatches, TurnGivesBatches, TurnsGiveBatches, after_request}
use Rattle.kb_isolation_spec.proofs.Laws.{turn-some}
use Rattle.kb_isolation_spec.proofs.Parking.{told_as}
use Rattle.kb_isolation_spec.proofs.Pinned.{again-settled}

-- 1. Turns

-- the turn after that many gives batches
abbrev GivesAfter : View → ℕ → Type 0
GivesAfter w count = NextGivesBatches (again turn count w) (first_able (again turn count w).lines)

early-turn : (n count : ℕ) (w : View) → count < n → TurnsGiveBatches n w → GivesAfter w count
early-turn zero count w early all = absurd (omega (arith, early))
early-turn (suc n) zero w early all = all.0
early-turn (suc n) (suc count) w early all = early-turn n count (turn w) (omega (arith, early)) all.1

late-turn : (count : ℕ) (w : View) → work w.lines ≤ count → GivesAfter w count
late-turn count w late = subst (NextGivesBatches (again turn count w)) (sym (again-settled count w late)) tt

some-turn : (count : ℕ) (w : View) (b : Bool) → nat_lt count (work w.lines) ≡ b → TurnsGiveBatches (work w.lines) w → GivesAfter w count
some-turn count w true e all = early-turn (work w.lines) count w (grind (arith, nat_tests, e)) all
some-turn count w false e all = late-turn count w (grind (arith, nat_tests, e))

pub each-turn : (w : View) → AllTurnsGiveBatches w → (count : ℕ) → GivesAfter w count
each-turn w all count = some-turn count w (nat_lt count (work w.lines)) refl all

so-many-turns : (n : ℕ) (w : View) → ((count : ℕ) → GivesAfter w count) → TurnsGiveBatches n w
so-many-turns zero w each = tt
so-many-turns (suc n) w each = (each 0, so-many-turns n (turn w) (λ count. each (suc count)))

pub all-turns : (w : View) → ((count : ℕ) → GivesAfter w count) → AllTurnsGiveBatches w
all-turns w each = so-many-turns (work w.lines) w each

pub turns-again : (w : View) → turns w ≡ again turn (work w.lines) w
unfolding turns
turns-again w = refl

-- the turn of a bound connection
pub turn-bound : (w : View) (l : Line) (tenant : ℕ) (wait : Option Wait) → first_able w.lines ≡ Some l → l.session.stage ≡ BoundTo tenant wait → turn w ≡ all_woken (after_request w tenant l)
turn-bound w l tenant wait first bound = turn-some w l first ∙ ap (turn_at w l.number (in_front l.session)) bound

pub next-serves : (w : View) (l : Line) (tenant : ℕ) (wait : Option Wait) → first_able w.lines ≡ Some l → l.session.stage ≡ BoundTo tenant wait
    → NextGivesBatches w (first_able w.lines) → ServesBatches w tenant l.number l.session × AllWakeWithBatches (after_request w tenant l)
next-serves w l tenant wait first bound gives = subst (TurnGivesBatches w l) bound (subst (NextGivesBatches w) first gives)

pub serves-next : (w : View) (l : Line) (tenant : ℕ) (wait : Option Wait) → first_able w.lines ≡ Some l → l.session.stage ≡ BoundTo tenant wait
    → ServesBatches w tenant l.number l.session × AllWakeWithBatches (after_request w tenant l) → NextGivesBatches w (first_able w.lines)
serves-next w l tenant wait first bound both = subst (NextGivesBatches w) (sym first) (subst (TurnGivesBatches w l) (sym bound) both)

-- 2. The deadline of a fetch

last-passes : (a b c d : Bool) → d ≡ true → (a || b || c || d) ≡ true
last-passes a b c d e = grind (arith, e)

pub ready-late : (kept : Kept) (clock n : ℕ) (head : Head) (version : ℤ) (body : List ℕ) (deadline : ℕ) (limit : Option ℕ) (fetch : FetchRequest) → asked_fetch version body ≡ Ok fetch → deadline ≤ clock
    → ready kept clock n (record { head = head; awaited = Records version body deadline limit }) ≡ Replies (fetched_in version (fetched kept.world (bounded limit fetch)).1)
unfolding ready looked
ready-late kept clock n head version body deadline limit fetch read late =
    let reply = (fetched kept.world (bounded limit fetch)).1 in
    let over : nat_le deadline clock ≡ true = grind (arith, nat_tests, late) in
    let is : is_ready clock (bounded limit fetch) reply deadline ≡ true =
    last-passes (not (some_partition (λ p. true) reply)) (some_partition (λ p. is_error p.error_code) reply) (nat_le (elim fetch.min_bytes [ pos n ↦ n | negsuc n ↦ 0 ]) (bytes_of reply)) (nat_le deadline clock) over in
    ap (looked_at kept.world clock deadline version limit) read ∙ ap (λ (b : Bool). told_as version (cond b (Some reply) None)) is

pub woken-late : (kept : Kept) (clock n tenant : ℕ) (s : Session) (head : Head) (version : ℤ) (body : List ℕ) (deadline : ℕ) (limit : Option ℕ) (fetch : FetchRequest)
    → s.stage ≡ BoundTo tenant (Some (record { head = head; awaited = Records version body deadline limit })) → asked_fetch version body ≡ Ok fetch → deadline ≤ clock
    → woken kept clock n s ≡ replied head (fetched_in version (fetched kept.world (bounded limit fetch)).1) (record s { stage = without_wait s.stage })
unfolding woken_by
woken-late kept clock n tenant s head version body deadline limit fetch waits read late =
    ap (woken_by kept clock n s) waits ∙ ap (λ r. told r head s) (ready-late kept clock n head version body deadline limit fetch read late)

-- 3. A tenant's own events

pub purged-concerns : (mine : ℕ → Bool) (es : List Happening) (e : Happening) → Contains (purge mine es) e → concerns mine e ≡ true
purged-concerns mine es e has = All-contains (λ x. concerns mine x ≡ true) (purge mine es) e (filter_passes (concerns mine) es) has
