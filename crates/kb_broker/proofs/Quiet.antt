-- A moment before the next deadline.
use Rattle.std.proofs.Common.{◌≡◌, ◌≤◌, ◌<◌, ◌≤ℤ◌, ℕ, ℤ, pos, negsuc, List, [], ◌∷◌, Option, Some, None, false, refl, sym, ◌∙◌, ap, subst, arith}
use Rattle.std.specs.Prelude.{max, IfSome}
use Rattle.std.specs.FinMap as fin
use Rattle.std.specs.List.{AllByRecursion}
use Rattle.std.proofs.lemmas.Bool.Decides.{nat_tests}
use Rattle.std.proofs.lemmas.Int.{ints}
use Rattle.kb_waits.specs.Queue as queue
use Rattle.kb_waits.specs.Queue.{Queue, IsFirstDeadline}
use Rattle.kb_store.specs.Disk.{Disk}
use Rattle.kb_tenant_api.specs.Hosted.{TenantState, passed}
use Rattle.kb_tenants.specs.Tenants.{IsIdleUntil}
use Rattle.kb_isolation_spec.specs.Tenant.{Awaited, Records, Group, is_overdue}
use Rattle.kb_isolation_spec.specs.Session.{Stage, Greets, BoundTo}
use Rattle.kb_isolation_spec.specs.Machine.{Moment, Line, all_woken, find_line, turns}
use Rattle.kb_isolation_spec.specs.Broker.{BrokerState, IsReady, IsUnready, AreUnready, AnyWait, IsStep, Mine, kept_of_tenant, view_of}
use Rattle.kb_isolation_spec.specs.Calls.{moved}
use Rattle.kb_isolation_spec.specs.declared.whom.Whom.TheVariants as whoms
use Rattle.kb_isolation_spec.specs.Turned.{IsPassedOver}
use Rattle.kb_isolation_spec.proofs.Steps.{due-unready, settled-turns}
use Rattle.kb_isolation_spec.proofs.Wakes.{unready-view}
use Rattle.kb_broker.specs.Deadline.{moment_after, next_deadline, IsNextDeadline, IsQuietBefore}
use Rattle.kb_broker.specs.Hosts.{OnStore, is_honest, IsReadyOn}
use Rattle.kb_broker.specs.Parked.{until, deadline_at, deadline_in, until_of, IsQueueOf}
use Rattle.kb_broker.proofs.Honest.{ready-of, state-is}
use Rattle.kb_broker.proofs.Parked.{each-find}

-- 1. Which moment it is

-- a clock before the moment after another is not above that one
pub up-to : (quiet_until : ℤ) (clock : ℕ) → clock < moment_after quiet_until → pos clock ≤ℤ quiet_until
up-to (pos n) clock h = grind (arith, ints, h)
up-to (negsuc n) clock h = absurd (omega (arith, h))

-- it is not after the moment after that clock
pub within-quiet : (first : Option ℕ) (quiet_until : ℤ) → next_deadline first quiet_until ≤ moment_after quiet_until
within-quiet None quiet_until = omega arith
within-quiet (Some d) quiet_until = omega arith

-- and not after a deadline in the queue
first-within : (q : Queue) (n : ℕ) (w : queue.Wait) (first : Option ℕ) (quiet_until : ℤ) → fin.get q n ≡ Some w → IsFirstDeadline q first → next_deadline first quiet_until ≤ w.deadline
first-within q n w None quiet_until there none = let no : Some w ≡ None = sym there ∙ none n in absurd (cc)
first-within q n w (Some d) quiet_until there least = let h : d ≤ w.deadline = least.least n w there in omega (arith, h)

-- 2. What waits

-- no request waits with an earlier deadline
pub no-deadline : (H : Type 0) (q : Queue) (ts : List TenantState) (ls : List Line) (quiet_until : ℤ) (moment : ℕ) → IsQueueOf H q ts ls → IsNextDeadline q quiet_until moment → (n : ℕ) → IfSome (deadline_in (find_line n ls)) (λ d. moment ≤ d)
no-deadline H q ts ls quiet_until moment v next n = subst (λ o. IfSome o (λ d. moment ≤ d)) (v.dated n) (by (fin.get q n) refl)
  where
    by : (o : Option queue.Wait) → fin.get q n ≡ o → IfSome (until_of o) (λ d. moment ≤ d)
    by None e = tt
    by (Some w) e = let h = first-within q n w next.first quiet_until e next.first_is in subst (λ m. m ≤ w.deadline) (sym next.is) h

early : (clock moment : ℕ) (x : Awaited) → clock < moment → moment ≤ until x → is_overdue clock x ≡ false
early clock moment (Records version body deadline limit) before late = let h : clock < deadline = omega (arith, before, late) in grind (arith, nat_tests, h)
early clock moment Group before late = refl

-- so nothing that waits is ready before that moment
pub still-unready : (b : BrokerState) (now moment : ℕ) → IsReady b → max b.clock now < moment → ((n : ℕ) → IfSome (deadline_in (find_line n b.lines)) (λ d. moment ≤ d)) → AreUnready AnyWait (moved b now)
still-unready b now moment ready before late =
    each b.lines (each-find (λ n o. IfSome (deadline_in o) (λ d. moment ≤ d)) 0 b.last b.lines ready.sound.rising late)
    (due-unready b now b.tenants (λ t. refl) ready.unready)
  where
    one : (n : ℕ) (st : Stage) → IfSome (deadline_at st) (λ d. moment ≤ d) → IsUnready (IsPassedOver whoms.Due (max b.clock now)) (moved b now) n st → IsUnready AnyWait (moved b now) n st
    one n (Greets h) late' u = tt
    one n (BoundTo t None) late' u = tt
    one n (BoundTo t (Some w)) late' u = λ any. u (early (max b.clock now) moment w.awaited before late')

    each : (ls : List Line) → AllByRecursion (λ (l : Line). IfSome (deadline_at l.session.stage) (λ d. moment ≤ d)) ls → AllByRecursion (λ (l : Line). IsUnready (IsPassedOver whoms.Due (max b.clock now)) (moved b now) l.number l.session.stage) ls → AllByRecursion (λ (l : Line). IsUnready AnyWait (moved b now) l.number l.session.stage) ls
    each [] h u = tt
    each (l ∷ ls) h u = (one l.number l.session.stage h.0 u.0, each ls h.1 u.1)

-- 3. A moment

-- where tenants keep what they keep, and nothing that waits is ready, a moment is nothing but the clock
pub quiet-step : (b : BrokerState) (now : ℕ) → IsReady b → ((t : ℕ) → passed (max b.clock now) (kept_of_tenant b t) ≡ kept_of_tenant b t) → AreUnready AnyWait (moved b now) → IsStep (Moment now) b (moved b now)
quiet-step b now ready kept unready = record {
  last = omega arith;
  grows = record { setup = refl; names = refl; own = λ t. omega arith; unbound = omega arith };
  counted = refl;
  mine = λ t mine es m calm. record { now = m.now; later = m.later };
  view = λ t mine es m calm.
      let d = moved b now in
      let v = view_of t mine d in
      let md : Mine t mine es d = record { now = m.now; later = m.later } in
      sym (ap (λ k. turns (all_woken (record v { kept = k }))) (kept t)
      ∙ (ap turns (unready-view AnyWait d t mine es unready (λ w. tt) md)
      ∙ settled-turns t mine d ready.settled));
}

-- the tenants have nothing due before that moment, and nothing that waits has its deadline
pub quiet-before : (b : BrokerState) (q : Queue) (quiet_until : ℤ) (moment : ℕ) → IsReady b → IsNextDeadline q quiet_until moment → IsIdleUntil quiet_until b.tenants → ((n : ℕ) → IfSome (deadline_in (find_line n b.lines)) (λ d. moment ≤ d)) → IsQuietBefore moment b
quiet-before b q quiet_until moment ready next idle late = λ now before.
    let le : moment ≤ moment_after quiet_until = subst (λ m. m ≤ moment_after quiet_until) (sym next.is) (within-quiet next.first quiet_until) in
    let earlier : max b.clock now < moment_after quiet_until = omega (arith, before, le) in
    let kept : (t : ℕ) → passed (max b.clock now) (kept_of_tenant b t) ≡ kept_of_tenant b t = λ t. idle t (max b.clock now) (up-to quiet_until (max b.clock now) earlier) in
    let unready = still-unready b now moment ready before late in
    record { kept = kept; unready = unready; step = quiet-step b now ready kept unready }

-- of a broker on its store, where a is what the broker's own fields are
pub late-on : {S : Type 0} (a b : OnStore S) (q : Queue) (quiet_until : ℤ) (moment : ℕ) (H : Type 0) → a ≡ b → IsQueueOf H q a.state.tenants a.state.lines → IsNextDeadline q quiet_until moment → (n : ℕ) → IfSome (deadline_in (find_line n b.state.lines)) (λ d. moment ≤ d)
late-on {S} a b q quiet_until moment H e v next = subst (λ (x : BrokerState). (n : ℕ) → IfSome (deadline_in (find_line n x.lines)) (λ d. moment ≤ d)) (state-is a b e) (no-deadline H q a.state.tenants a.state.lines quiet_until moment v next)

pub quiet-on : {S : Type 0} (disk : S → Disk) (H : Type 0) (a b : OnStore S) (q : Queue) (quiet_until : ℤ) (moment : ℕ) → a ≡ b → IsReadyOn disk b → IsQueueOf H q a.state.tenants a.state.lines → IsNextDeadline q quiet_until moment
    → (is_honest disk a → IsIdleUntil quiet_until a.state.tenants) → is_honest disk b → IsQuietBefore moment b.state
quiet-on {S} disk H a b q quiet_until moment e ready v next idle honest =
    quiet-before b.state q quiet_until moment (ready-of disk b ready honest) next
    (subst (λ (x : OnStore S). is_honest disk x → IsIdleUntil quiet_until x.state.tenants) e idle honest)
    (late-on a b q quiet_until moment H e v next)
