-- Members that wait, one request or moment after the other: each waits on, or is answered.
use Rattle.std.proofs.Common.{ℤ, ◌≡◌, ◌≤◌, ◌+◌, ℕ, Bool, true, false, ◌&&◌, List, [], ◌∷◌, map, Option, Some, None, nat_eq, nat_lt, if◌then◌else◌, is_some, refl, ap, arith}
use Rattle.std.specs.Prelude.{not}
use Rattle.kb_groups.specs.declared.code.Code.{Code}
use Rattle.kb_groups.specs.declared.code.Code.TheVariants.{Fine, RebalanceInProgress, UnknownMemberId}
use Rattle.kb_groups.specs.declared.state.State.{State}
use Rattle.kb_groups.specs.declared.state.Phase.{Phase}
use Rattle.kb_groups.specs.declared.state.Phase.TheVariants.{Empty, Joining, Syncing, Stable}
use Rattle.kb_groups.specs.declared.member.Asked.{Asked}
use Rattle.kb_groups.specs.declared.member.Asked.TheVariants.{Sync}
use Rattle.kb_groups.specs.declared.member.Waiter.{Waiter}
use Rattle.kb_groups.specs.declared.member.Member.{Member}
use Rattle.kb_groups.specs.declared.reply.Release.{Release}
use Rattle.kb_groups.specs.declared.reply.Reply.{Reply}
use Rattle.kb_groups.specs.declared.borrowed.Join.{Join}
use Rattle.kb_groups.specs.declared.borrowed.SyncAssignment.{SyncAssignment}
use Rattle.kb_groups.specs.Answers.{waiter_answered, refusal, answers, place, placed, sync_refused, turned_away, waiter_of, waits_join, waits_on, waits_sync}
use Rattle.kb_groups.specs.Members.{Roster, changed, each, has_none, keeping, member, put, without}
use Rattle.kb_groups.specs.Rebalance.{Step, all_join, joined_reply, next_generation, ended, ended_by, freed, is_joining, looked_at, next_leader, opened, opened_unless, sync_freed}
use Rattle.kb_groups.specs.Protocols.{chosen}
use Rattle.kb_groups.specs.Bytes.{group_bytes, is_past, sync_if, sync_within}
use Rattle.kb_groups.specs.Calls as one
use Rattle.kb_groups.specs.Moments as moments
use Rattle.kb_groups.specs.declared.reply.SyncAnswer.TheVariants.{Refused, Got, Waits}
use Rattle.kb_tenant_api.specs.Serve.{sync_reaction}
use Rattle.kb_tenant_api.specs.Waiters.{given, once, rebalances, waiting}

-- 1. Answers

given_placed : (k : ℕ) (r : Release) (rs : List Release) → given k (place r rs) ≡ once (nat_eq r.connection k) + given k rs
unfolding place
given_placed k r [] = refl
given_placed k r (x ∷ xs) = by (nat_lt x.connection r.connection) (given_placed k r xs)
  where
    by : (b : Bool) → given k (place r xs) ≡ once (nat_eq r.connection k) + given k xs → given k (if b then x ∷ place r xs else r ∷ x ∷ xs) ≡ once (nat_eq r.connection k) + (once (nat_eq x.connection k) + given k xs)
    by true h = omega (arith, h)
    by false h = refl

given_answered : (k : ℕ) (o : Option Waiter) (reply : Asked → Option Reply) (out : List Release) → given k (waiter_answered o reply out) ≤ once (waits_on k o) + given k out
given_answered k None reply out = omega arith
given_answered k (Some w) reply out = by (reply w.asked)
  where
    by : (r : Option Reply) → given k (placed w.connection r out) ≤ once (nat_eq w.connection k) + given k out
    by None = omega arith
    by (Some r) = omega (arith, given_placed k (record { connection = w.connection; reply = r }) out)

-- members that wait on, or are answered
abbrev Passes : ℕ → (ℕ → Member → Member) → (ℕ → Member → Asked → Option Reply) → Type 0
Passes k f reply = (n : ℕ) (m : Member) (out : List Release) → once (waits_on k (f n m).waiter) + given k (waiter_answered m.waiter (reply n m) out) ≤ once (waits_on k m.waiter) + given k out

each_answered : (k : ℕ) (f : ℕ → Member → Member) (reply : ℕ → Member → Asked → Option Reply) → Passes k f reply → (ms : Roster) (out : List Release) → waiting k (each f ms) + given k (answers reply ms out) ≤ waiting k ms + given k out
unfolding each answers
each_answered k f reply h [] out = omega arith
each_answered k f reply h (e ∷ ms) out = omega (arith, each_answered k f reply h ms (waiter_answered e.1.waiter (reply e.0 e.1) out), h e.0 e.1 out)

freed_passes : (k : ℕ) (f : ℕ → Member → Member) (reply : ℕ → Member → Asked → Option Reply) → ((n : ℕ) (m : Member) → (f n m).waiter ≡ None) → Passes k f reply
freed_passes k f reply free n m out =
    let none : once (waits_on k (f n m).waiter) ≡ 0 = ap (λ o. once (waits_on k o)) (free n m) in
    omega (arith, none, given_answered k m.waiter (reply n m) out)

syncs_pass : (k clock : ℕ) → Passes k (λ n m. sync_freed clock m) sync_refused
syncs_pass k clock n m out = by (waits_sync m.waiter) refl
  where
    stays : (o : Option Waiter) → waits_sync o ≡ false → waiter_answered o (sync_refused n m) out ≡ out
    stays None e = refl
    stays (Some w) e = rw e refl

    by : (b : Bool) → waits_sync m.waiter ≡ b → once (waits_on k (if b then freed clock m else m).waiter) + given k (waiter_answered m.waiter (sync_refused n m) out) ≤ once (waits_on k m.waiter) + given k out
    by true e = omega (arith, given_answered k m.waiter (sync_refused n m) out)
    by false e = let same : given k (waiter_answered m.waiter (sync_refused n m) out) ≡ given k out = ap (given k) (stays m.waiter e) in omega (arith, same)

-- 2. Rosters

put_waits : (k n : ℕ) (c : Code) (m : Member) (ms : Roster) (out : List Release) → waiting k (put n m ms) + given k (turned_away c n ms out) ≤ waiting k ms + once (waits_on k m.waiter) + given k out
unfolding put
put_waits k n c m [] out = omega arith
put_waits k n c m (e ∷ ms) out = by (nat_eq n e.0) (put_waits k n c m ms out)
  where
    by : (b : Bool) → waiting k (put n m ms) + given k (turned_away c n ms out) ≤ waiting k ms + once (waits_on k m.waiter) + given k out
        → waiting k (if b then (e.0, m) ∷ ms else e ∷ put n m ms) + given k (waiter_answered (waiter_of (if b then Some e.1 else member ms n)) (λ asked. Some (refusal c n asked)) out) ≤ once (waits_on k e.1.waiter) + waiting k ms + once (waits_on k m.waiter) + given k out
    by true h = omega (arith, given_answered k e.1.waiter (λ asked. Some (refusal c n asked)) out)
    by false h = omega (arith, h)

changed_waits : (k n : ℕ) (c : Code) (f : Member → Member) (o : Option Waiter) → ((m : Member) → (f m).waiter ≡ o) → (ms : Roster) (out : List Release) → waiting k (changed n f ms) + given k (turned_away c n ms out) ≤ waiting k ms + once (waits_on k o) + given k out
unfolding changed
changed_waits k n c f o is [] out = omega arith
changed_waits k n c f o is (e ∷ ms) out = by (nat_eq n e.0) (changed_waits k n c f o is ms out)
  where
    by : (b : Bool) → waiting k (changed n f ms) + given k (turned_away c n ms out) ≤ waiting k ms + once (waits_on k o) + given k out
        → waiting k (if b then (e.0, f e.1) ∷ ms else e ∷ changed n f ms) + given k (waiter_answered (waiter_of (if b then Some e.1 else member ms n)) (λ asked. Some (refusal c n asked)) out) ≤ once (waits_on k e.1.waiter) + waiting k ms + once (waits_on k o) + given k out
    by true h =
        let now : once (waits_on k (f e.1).waiter) ≡ once (waits_on k o) = ap (λ x. once (waits_on k x)) (is e.1) in
        omega (arith, now, given_answered k e.1.waiter (λ asked. Some (refusal c n asked)) out)
    by false h = omega (arith, h)

without_waits : (k n : ℕ) (c : Code) (ms : Roster) (out : List Release) → waiting k (without n ms) + given k (turned_away c n ms out) ≤ waiting k ms + given k out
unfolding without
without_waits k n c [] out = omega arith
without_waits k n c (e ∷ ms) out = by (nat_eq n e.0) (without_waits k n c ms out)
  where
    by : (b : Bool) → waiting k (without n ms) + given k (turned_away c n ms out) ≤ waiting k ms + given k out
        → waiting k (if b then ms else e ∷ without n ms) + given k (waiter_answered (waiter_of (if b then Some e.1 else member ms n)) (λ asked. Some (refusal c n asked)) out) ≤ once (waits_on k e.1.waiter) + waiting k ms + given k out
    by true h = omega (arith, given_answered k e.1.waiter (λ asked. Some (refusal c n asked)) out)
    by false h = omega (arith, h)

started_waits : (k clock n : ℕ) (ms : Roster) → waiting k (changed n (one.started clock) ms) ≡ waiting k ms
unfolding changed
started_waits k clock n [] = refl
started_waits k clock n (e ∷ ms) = by (nat_eq n e.0) (started_waits k clock n ms)
  where
    by : (b : Bool) → waiting k (changed n (one.started clock) ms) ≡ waiting k ms → waiting k (if b then (e.0, one.started clock e.1) ∷ ms else e ∷ changed n (one.started clock) ms) ≡ once (waits_on k e.1.waiter) + waiting k ms
    by true h = refl
    by false h = omega (arith, h)

pub touched_waits : (k : ℕ) (b : Bool) (clock n : ℕ) (g : State) → waiting k (one.touched b clock n g).members ≡ waiting k g.members
touched_waits k true clock n g = started_waits k clock n g.members
touched_waits k false clock n g = refl

keeping_waits : (k : ℕ) (p : Member → Bool) (ms : Roster) → waiting k (keeping p ms) ≤ waiting k ms
keeping_waits k p [] = omega arith
keeping_waits k p (e ∷ ms) = by (p e.1) (keeping_waits k p ms)
  where
    by : (b : Bool) → waiting k (keeping p ms) ≤ waiting k ms → waiting k (if b then e ∷ keeping p ms else keeping p ms) ≤ once (waits_on k e.1.waiter) + waiting k ms
    by true h = omega (arith, h)
    by false h = omega (arith, h)

-- 3. Steps of a group

abbrev pub all : ℕ → Step → ℕ
all k s = waiting k s.group.members + given k s.released

opened_waits : (k clock : ℕ) (s : Step) → all k (opened clock s) ≤ all k s
opened_waits k clock s = each_answered k (λ n m. sync_freed clock m) sync_refused (syncs_pass k clock) s.group.members s.released

ended_waits : (k clock : ℕ) (s : Step) → all k (ended clock s) ≤ all k s
ended_waits k clock s = by (next_leader s.group.leader s.group.members)
  where
    by : (o : Option ℕ) → all k (ended_by clock o s) ≤ all k s
    by None = omega arith
    by (Some leader) = each_answered k (λ n m. freed clock m) (joined_reply (next_generation s.group.generation) (chosen leader s.group.members) leader s.group.members) (freed_passes k (λ n m. freed clock m) (joined_reply (next_generation s.group.generation) (chosen leader s.group.members) leader s.group.members) (λ n m. refl)) s.group.members s.released

if_less : (k : ℕ) (b : Bool) (s t : Step) (c : ℕ) → all k s ≤ c → all k t ≤ c → all k (if b then s else t) ≤ c
if_less k true s t c p q = p
if_less k false s t c p q = q

looked_waits : (k clock : ℕ) (s : Step) → all k (looked_at clock s) ≤ all k s
looked_waits k clock s = if_less k (all_join s.group.members) (ended clock s) s (all k s) (ended_waits k clock s) (omega arith)

-- a join: it waits, or was answered
pub join_waits : (k clock : ℕ) (j : Join) (g : State) → all k (one.join clock j g) ≤ waiting k g.members + once (nat_eq j.connection k)
join_waits k clock j g =
    let entered = put_waits k (one.number_of j) RebalanceInProgress (one.joining clock j) g.members [] in
    let s : Step = one.entered clock j g in
    let t : Step = opened_unless clock g.phase s in
    let opens = if_less k (is_joining g.phase) s (opened clock s) (all k s) (omega arith) (opened_waits k clock s) in
    if_less k (one.is_fine (one.join_code j g)) (one.joined clock j g) (one.unmoved g) (waiting k g.members + once (nat_eq j.connection k))
    (omega (arith, entered, opens, looked_waits k clock t)) (omega arith)

-- a sync
sync_waits : (k clock connection n : ℕ) (as_ : List SyncAssignment) (leads : Bool) (g : State) → all k (one.sync_step clock connection as_ n leads g) ≤ waiting k g.members + once (nat_eq connection k && not leads)
sync_waits k clock connection n as_ true g =
    let c = each_answered k (one.given clock as_ n) (one.assigned_reply as_) (freed_passes k (one.given clock as_ n) (one.assigned_reply as_) (λ n m. refl)) g.members [] in
    omega (arith, c)
sync_waits k clock connection n as_ false g =
    let c = changed_waits k n RebalanceInProgress (one.sync_waiting connection) (Some (record { connection = connection; asked = Sync })) (λ m. refl) g.members [] in
    by (nat_eq connection k) c
  where
    by : (b : Bool) → all k (one.waiting_sync connection n g) ≤ waiting k g.members + once b + 0 → all k (one.waiting_sync connection n g) ≤ waiting k g.members + once (b && true)
    by true h = omega (arith, h)
    by false h = omega (arith, h)

sync_by : (k clock connection n : ℕ) (as_ : List SyncAssignment) (g : State) (p : Phase) → all k (one.synced p clock connection n as_ g).1 ≤ waiting k g.members + once (nat_eq connection k && rebalances (sync_reaction (one.synced p clock connection n as_ g).0))
sync_by k clock connection n as_ g Empty = omega arith
sync_by k clock connection n as_ g (Joining deadline) = omega arith
sync_by k clock connection n as_ g Syncing = by (one.is_that g.leader n)
  where
    by : (b : Bool) → all k (one.sync_step clock connection as_ n b g) ≤ waiting k g.members + once (nat_eq connection k && rebalances (sync_reaction (if b then Got (one.assigned as_ n) else Waits)))
    by true = sync_waits k clock connection n as_ true g
    by false = sync_waits k clock connection n as_ false g
sync_by k clock connection n as_ g Stable = omega (arith, touched_waits k true clock n g)

pub sync_known_waits : (k clock connection n : ℕ) (generation : ℤ) (as_ : List SyncAssignment) (g : State) → all k (one.sync clock connection n generation as_ g).1 ≤ waiting k g.members + once (nat_eq connection k && rebalances (sync_reaction (one.sync clock connection n generation as_ g).0))
sync_known_waits k clock connection n generation as_ g = by (one.known generation g.generation (member g.members n) Fine)
  where
    code : (c : Code) (b : Bool) → all k (if b then one.synced g.phase clock connection n as_ g else (Refused c, one.unmoved g)).1 ≤ waiting k g.members + once (nat_eq connection k && rebalances (sync_reaction (if b then one.synced g.phase clock connection n as_ g else (Refused c, one.unmoved g)).0))
    code c true = sync_by k clock connection n as_ g g.phase
    code c false = omega arith

    by : (c : Code) → all k (one.sync_known c clock connection n as_ g).1 ≤ waiting k g.members + once (nat_eq connection k && rebalances (sync_reaction (one.sync_known c clock connection n as_ g).0))
    by c = code c (one.is_fine c)

-- a sync where the group may keep that many bytes
pub within_waits : (most k clock connection n : ℕ) (generation : ℤ) (as_ : List SyncAssignment) (g : State) → all k (sync_within most clock connection n generation as_ g).1 ≤ waiting k g.members + once (nat_eq connection k && rebalances (sync_reaction (sync_within most clock connection n generation as_ g).0))
within_waits most k clock connection n generation as_ g = by (is_past most (group_bytes g) (group_bytes (one.sync clock connection n generation as_ g).1.group))
  where
    by : (b : Bool) → all k (sync_if b (one.sync clock connection n generation as_ g) g).1 ≤ waiting k g.members + once (nat_eq connection k && rebalances (sync_reaction (sync_if b (one.sync clock connection n generation as_ g) g).0))
    by true = omega arith
    by false = sync_known_waits k clock connection n generation as_ g

-- a member that leaves
gone_waits : (k clock n : ℕ) (s : Step) → all k (one.gone clock n s) ≤ all k s
gone_waits k clock n s =
    let l : Step = one.left n s in
    let less = without_waits k n UnknownMemberId s.group.members s.released in
    let e : Step = record l { group = record l.group { phase = Empty } } in
    if_less k (is_joining s.group.phase) (looked_at clock l) (if has_none l.group.members then e else opened clock l) (all k s)
    (omega (arith, less, looked_waits k clock l))
    (if_less k (has_none l.group.members) e (opened clock l) (all k s) less (omega (arith, less, opened_waits k clock l)))

pub leave_waits : (k clock n : ℕ) (g : State) → all k (one.leave clock n g) ≤ waiting k g.members
leave_waits k clock n g = if_less k (is_some (member g.members n)) (one.gone clock n (one.unmoved g)) (one.unmoved g) (waiting k g.members) (omega (arith, gone_waits k clock n (one.unmoved g))) (omega arith)

-- a moment
expired_waits : (k clock : ℕ) (ns : List ℕ) (s : Step) → all k (moments.expired clock ns s) ≤ all k s
unfolding moments.expired
expired_waits k clock [] s = omega arith
expired_waits k clock (n ∷ ns) s =
    let t : Step = moments.expired_one clock n s in
    let first = if_less k (moments.expires clock (member s.group.members n)) (one.gone clock n s) s (all k s) (gone_waits k clock n s) (omega arith) in
    omega (arith, first, expired_waits k clock ns t)

pub tick_waits : (k clock : ℕ) (g : State) → all k (moments.tick clock g) ≤ waiting k g.members
tick_waits k clock g =
    let s : Step = moments.expired clock (map (λ e. e.0) g.members) (one.unmoved g) in
    let some : Step = record s { group = moments.only_joining s.group } in
    let fewer = keeping_waits k (λ m. waits_join m.waiter) s.group.members in
    let first = expired_waits k clock (map (λ e. e.0) g.members) (one.unmoved g) in
    if_less k (moments.is_due clock s.group.phase) (moments.closed clock s) s (waiting k g.members)
    (omega (arith, first, fewer, ended_waits k clock some)) (omega (arith, first))

-- a connection that ends
pub dropped_waits : (k clock c : ℕ) (ms : Roster) → waiting k (each (λ n m. one.hung_up clock c m) ms) ≤ waiting k ms
unfolding each
dropped_waits k clock c [] = omega arith
dropped_waits k clock c (e ∷ ms) = by (waits_on c e.1.waiter) (dropped_waits k clock c ms)
  where
    by : (b : Bool) → waiting k (each (λ n m. one.hung_up clock c m) ms) ≤ waiting k ms → once (waits_on k (if b then freed clock e.1 else e.1).waiter) + waiting k (each (λ n m. one.hung_up clock c m) ms) ≤ once (waits_on k e.1.waiter) + waiting k ms
    by true h = omega (arith, h)
    by false h = omega (arith, h)

pub dropped_none : (clock c : ℕ) (ms : Roster) → waiting c (each (λ n m. one.hung_up clock c m) ms) ≡ 0
unfolding each
dropped_none clock c [] = refl
dropped_none clock c (e ∷ ms) = by (waits_on c e.1.waiter) refl (dropped_none clock c ms)
  where
    by : (b : Bool) → waits_on c e.1.waiter ≡ b → waiting c (each (λ n m. one.hung_up clock c m) ms) ≡ 0 → once (waits_on c (if b then freed clock e.1 else e.1).waiter) + waiting c (each (λ n m. one.hung_up clock c m) ms) ≡ 0
    by true h rest = omega (arith, rest)
    by false h rest = let none : once (waits_on c e.1.waiter) ≡ 0 = ap once h in omega (arith, none, rest)
