-- The answers of a group stand by rising connection number, whatever call gave them.
use Rattle.std.proofs.Common.{◌≡◌, ℕ, ℤ, zero, suc, ◌<◌, ◌≤◌, Bool, true, false, List, [], ◌∷◌, length, Option, Some, None, get_or, is_some, nat_lt, if◌then◌else◌, refl, arith, map}
use Rattle.kb_groups.specs.declared.code.Code.{Code}
use Rattle.kb_groups.specs.declared.code.Code.TheVariants.{RebalanceInProgress, UnknownMemberId}
use Rattle.kb_groups.specs.declared.state.State.{State}
use Rattle.kb_groups.specs.declared.state.Phase.{Phase}
use Rattle.kb_groups.specs.declared.state.Phase.TheVariants.{Empty, Joining, Syncing, Stable}
use Rattle.kb_groups.specs.declared.member.Asked.{Asked}
use Rattle.kb_groups.specs.declared.member.Member.{Member}
use Rattle.kb_groups.specs.declared.member.Waiter.{Waiter}
use Rattle.kb_groups.specs.declared.borrowed.Join.{Join}
use Rattle.kb_groups.specs.declared.borrowed.SyncAssignment.{SyncAssignment}
use Rattle.kb_groups.specs.declared.reply.Reply.{Reply}
use Rattle.kb_groups.specs.declared.reply.Release.{Release}
use Rattle.kb_groups.specs.declared.reply.SyncAnswer.TheVariants.{Refused}
use Rattle.kb_groups.specs.Answers.{waiter_answered, answers, place, placed, refusal, sync_refused, turned_away, waiter_of}
use Rattle.kb_groups.specs.Members.{Roster, has_none, member}
use Rattle.kb_groups.specs.Rebalance.{Step, all_join, ended, ended_by, is_joining, looked_at, next_leader, opened, opened_unless}
use Rattle.kb_groups.specs.Calls.{assigned_reply, entered, gone, is_fine, is_that, join, join_code, joined, leave, left, number_of, sync, sync_known, sync_step, synced, unmoved}
use Rattle.kb_groups.specs.Bytes.{group_bytes, is_past, sync_if, sync_within}
use Rattle.kb_groups.specs.Moments.{closed, expired, expired_one, expires, is_due, only_joining, tick}
use Rattle.kb_coordinator.specs.Groups.{AreInOrder}

-- Each connection number is at least c.
abbrev AtLeast : ℕ → List Release → Type 0
AtLeast c [] = Unit {0}
AtLeast c (x ∷ xs) = (c ≤ x.connection) × AtLeast c xs

abbrev Rises : List Release → Type 0
Rises [] = Unit {0}
Rises (x ∷ xs) = AtLeast x.connection xs × Rises xs

lower : (b c : ℕ) (xs : List Release) → b ≤ c → AtLeast c xs → AtLeast b xs
lower b c [] h l = tt
lower b c (x ∷ xs) h l = (omega (arith, h, l.0), lower b c xs h l.1)

place_least : (c : ℕ) (r : Release) (xs : List Release) → c ≤ r.connection → AtLeast c xs → AtLeast c (place r xs)
unfolding place
place_least c r [] h l = (h, tt)
place_least c r (x ∷ xs) h l = by (nat_lt x.connection r.connection) (place_least c r xs h l.1)
  where
    by : (b : Bool) → AtLeast c (place r xs) → AtLeast c (if b then x ∷ place r xs else r ∷ x ∷ xs)
    by true rest = (l.0, rest)
    by false rest = (h, l)

place_rises : (r : Release) (xs : List Release) → Rises xs → Rises (place r xs)
unfolding place
place_rises r [] h = (tt, tt)
place_rises r (x ∷ xs) h = by (nat_lt x.connection r.connection) refl (place_rises r xs h.1)
  where
    by : (b : Bool) → nat_lt x.connection r.connection ≡ b → Rises (place r xs) → Rises (if b then x ∷ place r xs else r ∷ x ∷ xs)
    by true e rest = let below : x.connection ≤ r.connection = grind (arith, e) in (place_least x.connection r xs below h.0, rest)
    by false e rest = let above : r.connection ≤ x.connection = grind (arith, e) in ((above, lower r.connection x.connection xs above h.0), h)

answered_rises : (o : Option Waiter) (f : Asked → Option Reply) (out : List Release) → Rises out → Rises (waiter_answered o f out)
answered_rises None f out h = h
answered_rises (Some w) f out h = by (f w.asked)
  where
    by : (o : Option Reply) → Rises (placed w.connection o out)
    by None = h
    by (Some r) = place_rises (record { connection = w.connection; reply = r }) out h

answers_rise : (f : ℕ → Member → Asked → Option Reply) (ms : Roster) (out : List Release) → Rises out → Rises (answers f ms out)
unfolding answers
answers_rise f [] out h = h
answers_rise f (e ∷ ms) out h = answers_rise f ms (waiter_answered e.1.waiter (f e.0 e.1) out) (answered_rises e.1.waiter (f e.0 e.1) out h)

turned_rises : (code : Code) (n : ℕ) (ms : Roster) (out : List Release) → Rises out → Rises (turned_away code n ms out)
turned_rises code n ms out h = answered_rises (waiter_of (member ms n)) (λ asked. Some (refusal code n asked)) out h

either : (b : Bool) (s t : Step) → Rises s.released → Rises t.released → Rises (if b then s else t).released
either true s t p q = p
either false s t p q = q

-- ## How a group goes on

opened_rises : (clock : ℕ) (s : Step) → Rises s.released → Rises (opened clock s).released
opened_rises clock s h = answers_rise sync_refused s.group.members s.released h

ended_rises : (clock : ℕ) (s : Step) → Rises s.released → Rises (ended clock s).released
ended_rises clock s h = by (next_leader s.group.leader s.group.members)
  where
    by : (o : Option ℕ) → Rises (ended_by clock o s).released
    by None = h
    by (Some leader) = answers_rise _ s.group.members s.released h

looked_rises : (clock : ℕ) (s : Step) → Rises s.released → Rises (looked_at clock s).released
looked_rises clock s h = either (all_join s.group.members) (ended clock s) s (ended_rises clock s h) h

gone_rises : (clock n : ℕ) (s : Step) → Rises s.released → Rises (gone clock n s).released
gone_rises clock n s h =
    let t : Step = left n s in
    let rises : Rises t.released = turned_rises UnknownMemberId n s.group.members s.released h in
    let empty : Step = record t { group = record t.group { phase = Empty } } in
    let reopened : Step = if has_none t.group.members then empty else opened clock t in
    either (is_joining s.group.phase) (looked_at clock t) reopened (looked_rises clock t rises)
    (either (has_none t.group.members) empty (opened clock t) rises (opened_rises clock t rises))

-- ## Calls

-- By the numbers of the list.
in_order : (xs : List Release) → Rises xs → AreInOrder xs
in_order [] h i j d le lt = absurd (omega (arith, lt))
in_order (x ∷ xs) h zero zero d le lt = omega arith
in_order (x ∷ xs) h zero (suc j) d le lt = by xs h.0 j (omega (arith, lt))
  where
    by : (ys : List Release) → AtLeast x.connection ys → (k : ℕ) → k < length ys → x.connection ≤ (get_or ys k d).connection
    by [] l k m = absurd (omega (arith, m))
    by (y ∷ ys) l zero m = l.0
    by (y ∷ ys) l (suc k) m = by ys l.1 k (omega (arith, m))
in_order (x ∷ xs) h (suc i) zero d le lt = absurd (omega (arith, le))
in_order (x ∷ xs) h (suc i) (suc j) d le lt = in_order xs h.1 i j d (omega (arith, le)) (omega (arith, lt))

pub join_in_order : (clock : ℕ) (j : Join) (g : State) → AreInOrder (join clock j g).released
join_in_order clock j g =
    let start : Step = entered clock j g in
    let first : Rises start.released = turned_rises RebalanceInProgress (number_of j) g.members [] tt in
    let next : Step = opened_unless clock g.phase start in
    let second : Rises next.released = either (is_joining g.phase) start (opened clock start) first (opened_rises clock start first) in
    in_order (join clock j g).released (either (is_fine (join_code j g)) (joined clock j g) (unmoved g) (looked_rises clock next second) tt)

pub leave_in_order : (clock n : ℕ) (g : State) → AreInOrder (leave clock n g).released
leave_in_order clock n g =
    in_order (leave clock n g).released (by (member g.members n))
  where
    by : (o : Option Member) → Rises (if is_some o then gone clock n (unmoved g) else unmoved g).released
    by None = tt
    by (Some m) = gone_rises clock n (unmoved g) tt

sync_step_rises : (clock connection n : ℕ) (as_ : List SyncAssignment) (leads : Bool) (g : State) → Rises (sync_step clock connection as_ n leads g).released
sync_step_rises clock connection n as_ true g = answers_rise (assigned_reply as_) g.members [] tt
sync_step_rises clock connection n as_ false g = turned_rises RebalanceInProgress n g.members [] tt

synced_rises : (phase : Phase) (clock connection n : ℕ) (as_ : List SyncAssignment) (g : State) → Rises (synced phase clock connection n as_ g).1.released
synced_rises Empty clock connection n as_ g = tt
synced_rises (Joining d) clock connection n as_ g = tt
synced_rises Syncing clock connection n as_ g = sync_step_rises clock connection n as_ (is_that g.leader n) g
synced_rises Stable clock connection n as_ g = tt

sync_known_rises : (code : Code) (clock connection n : ℕ) (as_ : List SyncAssignment) (g : State) → Rises (sync_known code clock connection n as_ g).1.released
sync_known_rises code clock connection n as_ g = by (is_fine code)
  where
    by : (b : Bool) → Rises (if b then synced g.phase clock connection n as_ g else (Refused code, unmoved g)).1.released
    by true = synced_rises g.phase clock connection n as_ g
    by false = tt

pub sync_in_order : (clock connection n : ℕ) (generation : ℤ) (as_ : List SyncAssignment) (g : State) → AreInOrder (sync clock connection n generation as_ g).1.released
sync_in_order clock connection n generation as_ g = in_order (sync clock connection n generation as_ g).1.released (sync_known_rises _ clock connection n as_ g)

pub within_in_order : (most clock connection n : ℕ) (generation : ℤ) (as_ : List SyncAssignment) (g : State) → AreInOrder (sync_within most clock connection n generation as_ g).1.released
within_in_order most clock connection n generation as_ g = by (is_past most (group_bytes g) (group_bytes (sync clock connection n generation as_ g).1.group))
  where
    by : (b : Bool) → AreInOrder (sync_if b (sync clock connection n generation as_ g) g).1.released
    by true = in_order [] tt
    by false = sync_in_order clock connection n generation as_ g

expired_rises : (clock : ℕ) (ns : List ℕ) (s : Step) → Rises s.released → Rises (expired clock ns s).released
unfolding expired
expired_rises clock [] s h = h
expired_rises clock (n ∷ ns) s h =
    expired_rises clock ns (expired_one clock n s) (either (expires clock (member s.group.members n)) (gone clock n s) s (gone_rises clock n s h) h)

pub tick_in_order : (clock : ℕ) (g : State) → AreInOrder (tick clock g).released
tick_in_order clock g =
    let s : Step = expired clock (map (λ e. e.0) g.members) (unmoved g) in
    let rises : Rises s.released = expired_rises clock (map (λ e. e.0) g.members) (unmoved g) tt in
    in_order (tick clock g).released (either (is_due clock s.group.phase) (closed clock s) s (ended_rises clock (record s { group = only_joining s.group }) rises) rises)
