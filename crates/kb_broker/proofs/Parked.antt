-- The queue of the connections that wait, as the broker changes; and what is told by the numbers of connections.
use Rattle.std.proofs.Common.{◌≡◌, ◌≢◌, ◌++◌, ◌<◌, ◌≤◌, ℕ, List, [], ◌∷◌, length, get_or, set, eqb, nat_cmp, Option, Some, None, Result, Ok, Err, OnOk, Bool, true, false, zero, suc, inl, inr, refl, sym, ◌∙◌, ap, subst, arith, rules}
use Rattle.std.specs.Prelude.{cond, Contains, IsOk, IsSomeAnd, ◌⊎◌, ◌↔◌}
use Rattle.std.specs.FinMap as fin
use Rattle.std.specs.declared.alloc.Global.{Global}
use Rattle.std.specs.declared.vec.Vec.{Vec}
use Rattle.std.specs.List.{All, AllByRecursion}
use Rattle.std.proofs.lemmas.Bool.Decides.{nat_tests}
use Rattle.std.proofs.lemmas.List.Elements.{All-contains, All-map, Contains-append_cases, Contains-append_left, Contains-append_right, Contains-push, Contains-push_cases}
use Rattle.kb_waits.specs.Queue as queue
use Rattle.kb_waits.specs.Queue.{Queue, AreParked}
use Rattle.kb_tenant_state.specs.Counts.{IsCalm}
use Rattle.kb_tenant_state.specs.declared.topic_partition.TopicPartition.{TopicPartition}
use Rattle.kb_tenant_api.specs.Hosted as hosted
use Rattle.kb_tenant_api.specs.Hosted.{TenantState}
use Rattle.kb_tenant_api.specs.Turns.{IsTurn, HavePassed}
use Rattle.kb_tenant.specs.Replies.{Silent}
use Rattle.kb_isolation_spec.specs.Tenant.{Awaited, Wait, Records, Group, is_overdue, ready, asked}
use Rattle.kb_isolation_spec.specs.Session.{Stage, Greets, BoundTo, Session, is_free, can}
use Rattle.kb_isolation_spec.specs.Machine.{Line, first_able}
use Rattle.kb_isolation_spec.specs.Machine.{find_line}
use Rattle.kb_isolation_spec.specs.Broker.{BrokerState, IsSound, IsUnready, AreUnready, AnyWait, Rising, kept_of_tenant}
use Rattle.kb_isolation_spec.specs.declared.whom.Whom.{Whom}
use Rattle.kb_isolation_spec.specs.declared.whom.Whom.TheVariants as whoms
use Rattle.kb_isolation_spec.specs.Turned.{Waked, IsPassedOver, SameOthers}
use Rattle.kb_isolation_spec.proofs.Sets.{IsAt, all-map, all-still, find-at, find-set_other, rising-set, rising-above, set-at, tail-at, no-at}
use Rattle.kb_isolation_spec.proofs.Parts.{each-tenant, eqb_same, eqb_other}
use Rattle.kb_isolation_spec.proofs.Owned.{found as found-all}
use Rattle.kb_isolation_spec.proofs.Quiet.{first-silent, asked-passed}
use Rattle.kb_isolation_spec.proofs.Turns.{unready-same}
use Rattle.kb_isolation_spec.proofs.Wakes.{waked-then}
use Rattle.kb_isolation_spec.specs.Calls.{left_by}
use Rattle.kb_broker.proofs.Left.{left-refusals, left-ready_in, left-asked_in}
use Rattle.kb_broker.specs.Parked.{until, key_of, keys_for, keys_of, deadline_at, deadline_in, until_of, IsKeyedAt, IsKeyedIn, IsOwnedAt, IsOwnedIn, IsQueueOf, IsAskedOn, IsWaitingOnAt, AreWaitingOn, IsReadyAmong, IsUnreadyIn, IsUnreadyAt, AreSought, IsSoughtAt, IsSoughtIn, IsMinded, AreMinded, SameBut, can_in, AreAmong}

-- 1. The connection of a number

-- in a list with one more at its end
pub find-push : (P : Option Session → Type 0) (n : ℕ) (ls : List Line) (l : Line) → P (find_line n ls) → (find_line n ls ≡ None → P (Some l.session)) → P (find_line n (ls ++ l ∷ []))
find-push P n [] l old new = by (eqb l.number n)
  where
    by : (b : Bool) → P (cond b (Some l.session) None)
    by true = new refl
    by false = old
find-push P n (k ∷ ls) l old new = by (eqb k.number n) (find-push P n ls l) old new
  where
    by : (b : Bool) → (P (find_line n ls) → (find_line n ls ≡ None → P (Some l.session)) → P (find_line n (ls ++ l ∷ []))) → P (cond b (Some k.session) (find_line n ls)) → (cond b (Some k.session) (find_line n ls) ≡ None → P (Some l.session)) → P (cond b (Some k.session) (find_line n (ls ++ l ∷ [])))
    by true rest old new = old
    by false rest old new = rest old new

-- in a list with another at a place
pub find-set : (P : Option Session → Type 0) (low last n : ℕ) (ls : List Line) (i : ℕ) (l m : Line) → Rising low last ls → IsAt ls i l → m.number ≡ l.number → (n ≢ l.number → P (find_line n ls)) → (n ≡ l.number → P (Some m.session)) → P (find_line n (set ls i m))
find-set P low last n ls i l m rising at same other own = by (eqb l.number n) refl
  where
    by : (b : Bool) → eqb l.number n ≡ b → P (find_line n (set ls i m))
    by true e =
        let is : l.number ≡ n = eqb_same l.number n e in
        let here : find_line n (set ls i m) ≡ Some m.session = ap (λ k. find_line k (set ls i m)) (sym (same ∙ is)) ∙ find-at low last (set ls i m) i m (rising-set low last ls i l m rising at same) (set-at ls i l m at) in
        subst P (sym here) (own (sym is))
    by false e = let ne : n ≢ l.number = eqb_other l.number n e in subst P (sym (find-set_other n ls i l m at same ne)) (other ne)

-- of the connection of a number holds what holds of each
pub find-each : (P : ℕ → Session → Type 0) (n : ℕ) (s : Session) (ls : List Line) → AllByRecursion (λ (l : Line). P l.number l.session) ls → find_line n ls ≡ Some s → P n s
find-each P n s [] h e = absurd (cc)
find-each P n s (l ∷ ls) h e = by (eqb l.number n) refl (find-each P n s ls h.1) e
  where
    by : (b : Bool) → eqb l.number n ≡ b → (find_line n ls ≡ Some s → P n s) → cond b (Some l.session) (find_line n ls) ≡ Some s → P n s
    by true same rest g = let is : l.session ≡ s = cc in subst (λ k. P k s) (eqb_same l.number n same) (subst (P l.number) is h.0)
    by false other rest g = rest g

-- and of each holds what holds of the connection of each number
pub each-find : (P : ℕ → Option Session → Type 0) (low last : ℕ) (ls : List Line) → Rising low last ls → ((n : ℕ) → P n (find_line n ls)) → AllByRecursion (λ (l : Line). P l.number (Some l.session)) ls
each-find P low last ls rising h = all-map (λ (l : Line). find_line l.number ls ≡ Some l.session) (λ (l : Line). P l.number (Some l.session)) (λ l is. subst (P l.number) is (h l.number)) ls (found-all low last ls rising)

-- 2. The queue

keyed-free : (ts : List TenantState) (n : ℕ) (st : Stage) (o : Option queue.Wait) → deadline_at st ≡ None → IsKeyedAt ts n st o
keyed-free ts n (Greets h) o e = tt
keyed-free ts n (BoundTo t None) o e = tt
keyed-free ts n (BoundTo t (Some w)) o e = absurd (cc)

owned-free : (st : Stage) (o : Option queue.Wait) → deadline_at st ≡ None → IsOwnedAt st o
owned-free (Greets h) o e = tt
owned-free (BoundTo t None) o e = tt
owned-free (BoundTo t (Some w)) o e = absurd (cc)

pub deadline-free : (st : Stage) → is_free st ≡ true → deadline_at st ≡ None
deadline-free (Greets h) e = refl
deadline-free (BoundTo t None) e = refl
deadline-free (BoundTo t (Some w)) e = let no : false ≡ true = e in absurd (cc)

-- of nobody
pub queue-none : (H : Type 0) (ts : List TenantState) → IsQueueOf H fin.empty ts []
queue-none H ts = record { dated = λ n. ap until_of (fin.get-empty nat_cmp n); owned = λ n. tt; keyed = λ honest n. tt }

-- one more is connected
pub queue-opened : (H : Type 0) (q : Queue) (ts : List TenantState) (ls : List Line) (l : Line) → IsQueueOf H q ts ls → deadline_at l.session.stage ≡ None → IsQueueOf H q ts (ls ++ l ∷ [])
queue-opened H q ts ls l v free = record {
  dated = λ n. find-push (λ o. until_of (fin.get q n) ≡ deadline_in o) n ls l (v.dated n) (λ none. v.dated n ∙ (ap deadline_in none ∙ sym free));
  owned = λ n. find-push (λ o. IsOwnedIn o (fin.get q n)) n ls l (v.owned n) (λ none. owned-free l.session.stage (fin.get q n) free);
  keyed = λ honest n. find-push (λ o. IsKeyedIn ts n o (fin.get q n)) n ls l (v.keyed honest n) (λ none. keyed-free ts n l.session.stage (fin.get q n) free);
}

-- nobody stands there under one of some partitions of a tenant, if nobody does under any
pub none-parked : (q : Queue) (t : ℕ) (places : List TopicPartition) → All (λ place. (k : ℕ) → IsSomeAnd (fin.get q k) (queue.IsUnder (key_of t place)) → ⊥) places → AreParked q (queue.IsUnderAny (keys_of t places)) []
none-parked q t places none = record {
  exactly = λ k. ((λ c. absurd (let h = c.1 in omega (arith, h))), λ any. absurd (by k (fin.get q k) refl any));
  ascending = search rules;
}
  where
    by : (k : ℕ) (o : Option queue.Wait) → fin.get q k ≡ o → IsSomeAnd o (queue.IsUnderAny (keys_of t places)) → ⊥
    by k None e any = any
    by k (Some w) e any =
        All-contains (λ key. (k : ℕ) → IsSomeAnd (fin.get q k) (queue.IsUnder key) → ⊥) (keys_of t places) any.1 (All-map (λ key. (k : ℕ) → IsSomeAnd (fin.get q k) (queue.IsUnder key) → ⊥) (key_of t) places none) (any.0, any.2, any.3) k
        (subst (λ o. IsSomeAnd o (queue.IsUnder any.1)) (sym e) any.4)

-- of one partition alone, those that stand there under it
pub alone-parked : (q : Queue) (t : ℕ) (places : List TopicPartition) (d : TopicPartition) (ns : List ℕ) → length places ≡ 1 → AreParked q (queue.IsUnder (key_of t (get_or places 0 d))) ns → AreParked q (queue.IsUnderAny (keys_of t places)) ns
alone-parked q t [] d ns one parked = absurd (omega (arith, one))
alone-parked q t (p ∷ x ∷ xs) d ns one parked = absurd (omega (arith, one))
alone-parked q t (p ∷ []) d ns one parked = record {
  exactly = λ k. (λ c. under (fin.get q k) ((parked.exactly k).0 c), λ any. (parked.exactly k).1 (back (fin.get q k) any));
  ascending = parked.ascending;
}
  where
    under : (o : Option queue.Wait) → IsSomeAnd o (queue.IsUnder (key_of t p)) → IsSomeAnd o (queue.IsUnderAny (keys_of t (p ∷ [])))
    under None h = h
    under (Some w) h = let here = Contains-push [] (key_of t p) in (here.0, key_of t p, here.1, here.2, h)

    back : (o : Option queue.Wait) → IsSomeAnd o (queue.IsUnderAny (keys_of t (p ∷ []))) → IsSomeAnd o (queue.IsUnder (key_of t p))
    back None h = h
    back (Some w) any = by (Contains-push_cases [] (key_of t p) any.1 (any.0, any.2, any.3))
      where
        by : Contains [] any.1 ⊎ (key_of t p ≡ any.1) → queue.IsUnder (key_of t p) w
        by (inl c) = absurd (let none = c.1 in omega (arith, none))
        by (inr e) = subst (λ key. queue.IsUnder key w) (sym e) any.4

-- what holds of the tenants then
pub record IsCarried (ts us : List TenantState) (ls : List Line) (q : Queue) : Type 0 where
  pub keyed : (k : ℕ) (s : Session) → find_line k ls ≡ Some s → IsKeyedAt ts k s.stage (fin.get q k) → IsKeyedAt us k s.stage (fin.get q k)

pub carried-in : (ts us : List TenantState) (ls : List Line) (q : Queue) (k : ℕ) → IsCarried ts us ls q → IsKeyedIn ts k (find_line k ls) (fin.get q k) → IsKeyedIn us k (find_line k ls) (fin.get q k)
carried-in ts us ls q k c h = by (find_line k ls) refl h
  where
    by : (o : Option Session) → find_line k ls ≡ o → IsKeyedIn ts k o (fin.get q k) → IsKeyedIn us k o (fin.get q k)
    by None e h = tt
    by (Some s) e h = c.keyed k s e h

-- the tenants have changed
pub queue-tenants : (H G : Type 0) (q : Queue) (ts us : List TenantState) (ls : List Line) → IsQueueOf H q ts ls → (G → H) → (G → IsCarried ts us ls q) → IsQueueOf G q us ls
queue-tenants H G q ts us ls v back carried = record {
  dated = v.dated;
  owned = v.owned;
  keyed = λ honest n. carried-in ts us ls q n (carried honest) (v.keyed (back honest) n);
}

-- the connection at a place has changed, and what stands in the queue of it
pub queue-put : (H G : Type 0) (q p : Queue) (ts us : List TenantState) (low last : ℕ) (ls : List Line) (i : ℕ) (l m : Line) → IsQueueOf H q ts ls → Rising low last ls → IsAt ls i l → m.number ≡ l.number → (G → H)
    → ((k : ℕ) → k ≢ l.number → fin.get p k ≡ fin.get q k) → until_of (fin.get p l.number) ≡ deadline_at m.session.stage → IsOwnedAt m.session.stage (fin.get p l.number)
    → (G → IsCarried ts us ls q) → (G → IsKeyedAt us l.number m.session.stage (fin.get p l.number)) → IsQueueOf G p us (set ls i m)
queue-put H G q p ts us low last ls i l m v rising at same back others dated owned carried keyed = record {
  dated = λ n. find-set (λ o. until_of (fin.get p n) ≡ deadline_in o) low last n ls i l m rising at same (λ ne. ap until_of (others n ne) ∙ v.dated n) (λ e. subst (λ k. until_of (fin.get p k) ≡ deadline_at m.session.stage) (sym e) dated);
  owned = λ n. find-set (λ o. IsOwnedIn o (fin.get p n)) low last n ls i l m rising at same (λ ne. subst (IsOwnedIn (find_line n ls)) (sym (others n ne)) (v.owned n)) (λ e. subst (λ k. IsOwnedAt m.session.stage (fin.get p k)) (sym e) owned);
  keyed = λ honest n. find-set (λ o. IsKeyedIn us n o (fin.get p n)) low last n ls i l m rising at same
      (λ ne. subst (IsKeyedIn us n (find_line n ls)) (sym (others n ne)) (carried-in ts us ls q n (carried honest) (v.keyed (back honest) n)))
      (λ e. subst (λ k. IsKeyedAt us k m.session.stage (fin.get p k)) (sym e) (keyed honest));
}

-- the same, where it waits for nothing then and stands in the queue no longer
pub queue-left : (H G : Type 0) (q p : Queue) (ts us : List TenantState) (low last : ℕ) (ls : List Line) (i : ℕ) (l m : Line) → IsQueueOf H q ts ls → Rising low last ls → IsAt ls i l → m.number ≡ l.number → (G → H)
    → ((k : ℕ) → k ≢ l.number → fin.get p k ≡ fin.get q k) → fin.get p l.number ≡ None → deadline_at m.session.stage ≡ None
    → (G → IsCarried ts us ls q) → IsQueueOf G p us (set ls i m)
queue-left H G q p ts us low last ls i l m v rising at same back others gone free carried =
    queue-put H G q p ts us low last ls i l m v rising at same back others (ap until_of gone ∙ sym free) (owned-free m.session.stage (fin.get p l.number) free) carried (λ honest. keyed-free us l.number m.session.stage (fin.get p l.number) free)

-- the same, where it waits as before
pub queue-kept : (H G : Type 0) (q : Queue) (ts us : List TenantState) (low last : ℕ) (ls : List Line) (i : ℕ) (l m : Line) → IsQueueOf H q ts ls → Rising low last ls → IsAt ls i l → m.number ≡ l.number → (G → H)
    → m.session.stage ≡ l.session.stage → (G → IsCarried ts us ls q) → IsQueueOf G q us (set ls i m)
queue-kept H G q ts us low last ls i l m v rising at same back stage carried =
    let here : find_line l.number ls ≡ Some l.session = find-at low last ls i l rising at in
    queue-put H G q q ts us low last ls i l m v rising at same back (λ k ne. refl) (v.dated l.number ∙ (ap deadline_in here ∙ ap deadline_at (sym stage)))
    (subst (λ st. IsOwnedAt st (fin.get q l.number)) (sym stage) (subst (λ o. IsOwnedIn o (fin.get q l.number)) here (v.owned l.number))) carried
    (λ honest. subst (λ st. IsKeyedAt us l.number st (fin.get q l.number)) (sym stage) ((carried honest).keyed l.number l.session here (subst (λ o. IsKeyedIn ts l.number o (fin.get q l.number)) here (v.keyed (back honest) l.number))))

-- nobody waits where the queue is empty
pub nobody-waits : (H : Type 0) (q : Queue) (ts : List TenantState) (n : ℕ) (ls : List Line) → IsQueueOf H q ts ls → fin.get q n ≡ None → deadline_in (find_line n ls) ≡ None
nobody-waits H q ts n ls v none = sym (v.dated n) ∙ ap until_of none

-- 3. What tenants keep

-- counts have only risen, and what is kept is the same
pub carried-same : (ts us : List TenantState) (ls : List Line) (q : Queue) → ((t : ℕ) → hosted.refusals_of ts t ≤ hosted.refusals_of us t) → ((t : ℕ) → hosted.kept_of us t ≡ hosted.kept_of ts t) → IsCarried ts us ls q
carried-same ts us ls q grows kept = record { keyed = λ k s e h. at k s.stage (fin.get q k) h }
  where
    before : (t : ℕ) → hosted.refusals_of us t ≡ 0 → hosted.refusals_of ts t ≡ 0
    before t calm = let up = grows t in omega (arith, calm, up)

    at : (n : ℕ) (st : Stage) (o : Option queue.Wait) → IsKeyedAt ts n st o → IsKeyedAt us n st o
    at n (Greets h) o k = tt
    at n (BoundTo t None) o k = tt
    at n (BoundTo t (Some w)) o k = λ calm silent.
        k (before t calm) (subst (λ x. ready x 0 n w ≡ Silent) (kept t) silent) ∙ ap (λ x. Some (keys_for t (asked x w))) (sym (kept t))

-- a connection is gone on which a member waited
pub carried-left : (clock m : ℕ) (gone : Stage) (ts : List TenantState) (ls : List Line) (q : Queue) → IsCarried ts (left_by clock m gone ts) ls q
carried-left clock m gone ts ls q = record { keyed = λ k s e h. at k s.stage (fin.get q k) h }
  where
    at : (n : ℕ) (st : Stage) (o : Option queue.Wait) → IsKeyedAt ts n st o → IsKeyedAt (left_by clock m gone ts) n st o
    at n (Greets h) o k = tt
    at n (BoundTo t None) o k = tt
    at n (BoundTo t (Some w)) o k = λ calm silent.
        k (sym (left-refusals clock m gone ts t) ∙ calm) (sym (left-ready_in clock m gone ts t 0 n w) ∙ silent) ∙ ap (λ ps. Some (keys_for t ps)) (sym (left-asked_in clock m gone ts t w))

-- and then they change again
pub carried-then : (ts us vs : List TenantState) (ls : List Line) (q : Queue) → IsCarried ts us ls q → IsCarried us vs ls q → IsCarried ts vs ls q
carried-then ts us vs ls q first then = record { keyed = λ k s e h. then.keyed k s e (first.keyed k s e h) }

waiting-find : (ts : List TenantState) (k : ℕ) (s : Session) (ls : List Line) → AllByRecursion (λ (l : Line). IsWaitingOnAt ts l.number l.session.stage) ls → find_line k ls ≡ Some s → IsWaitingOnAt ts k s.stage
waiting-find ts k s ls h e = find-each (λ n (x : Session). IsWaitingOnAt ts n x.stage) k s ls h e

-- a call for a tenant, after which a fetch that still waits asks the same
pub carried-turn : (H : Type 0) → H → (u : ℕ) (ts us : List TenantState) (ls : List Line) (q : Queue) → IsTurn u H ts us → IsAskedOn u ts us → AllByRecursion (λ (l : Line). IsWaitingOnAt ts l.number l.session.stage) ls → IsCarried ts us ls q
carried-turn H honest u ts us ls q turn still waiting = record { keyed = λ k s e h. at k s.stage (fin.get q k) (waiting-find ts k s ls waiting e) h }
  where
    before : (t : ℕ) → hosted.refusals_of us t ≡ 0 → hosted.refusals_of ts t ≡ 0
    before t calm = let up = turn.grows t in omega (arith, calm, up)

    at : (n : ℕ) (st : Stage) (o : Option queue.Wait) → IsWaitingOnAt ts n st → IsKeyedAt ts n st o → IsKeyedAt us n st o
    at n (Greets h) o w k = tt
    at n (BoundTo t None) o w k = tt
    at n (BoundTo t (Some w)) o waits k = λ calm silent.
        let same = each-tenant (λ v. hosted.refusals_of us v ≡ 0 → ready (hosted.kept_of ts v) 0 n w ≡ Silent → ready (hosted.kept_of us v) 0 n w ≡ Silent → asked (hosted.kept_of us v) w ≡ asked (hosted.kept_of ts v) w) u t (eqb u t) refl
        (λ c. still c n w) (λ ne c a b. ap (λ x. asked x w) (turn.others honest t ne)) calm waits silent in
        k (before t calm) waits ∙ ap (λ ps. Some (keys_for t ps)) (sym same)

-- a moment
pub carried-passed : (H : Type 0) → H → (clock : ℕ) (ts us : List TenantState) (ls : List Line) (q : Queue) → HavePassed clock H ts us → AllByRecursion (λ (l : Line). IsWaitingOnAt ts l.number l.session.stage) ls → IsCarried ts us ls q
carried-passed H honest clock ts us ls q kept waiting = record { keyed = λ k s e h. at k s.stage (fin.get q k) (waiting-find ts k s ls waiting e) h }
  where
    before : (t : ℕ) → hosted.refusals_of us t ≡ 0 → hosted.refusals_of ts t ≡ 0
    before t calm = let up = kept.grows t in omega (arith, calm, up)

    quiet : (t : ℕ) → hosted.refusals_of us t ≡ 0 → IsCalm (hosted.refusals_of ts t) (hosted.refusals_of us t)
    quiet t calm = let none = before t calm in record { same = calm ∙ sym none; below = grind (arith, nat_tests, none) }

    at : (n : ℕ) (st : Stage) (o : Option queue.Wait) → IsWaitingOnAt ts n st → IsKeyedAt ts n st o → IsKeyedAt us n st o
    at n (Greets h) o w k = tt
    at n (BoundTo t None) o w k = tt
    at n (BoundTo t (Some w)) o waits k = λ calm silent.
        k (before t calm) waits ∙ ap (λ ps. Some (keys_for t ps)) (sym (ap (λ x. asked x w) (kept.kept honest t (quiet t calm)) ∙ asked-passed clock (hosted.kept_of ts t) w))

-- where no fetch that waits is ready, each would wait at the first moment too
pub waiting-on : (b : BrokerState) → AreUnready AnyWait b → AreWaitingOn b
waiting-on b u = all-map (λ (l : Line). IsUnready AnyWait b l.number l.session.stage) (λ (l : Line). IsWaitingOnAt b.tenants l.number l.session.stage) (λ l. at l.number l.session.stage) b.lines u
  where
    at : (n : ℕ) (st : Stage) → IsUnready AnyWait b n st → IsWaitingOnAt b.tenants n st
    at n (Greets h) u = tt
    at n (BoundTo t None) u = tt
    at n (BoundTo t (Some w)) u = first-silent (kept_of_tenant b t) b.clock n w (u tt)

-- 4. Unready, by number

pub unready-at : (b : BrokerState) → AreUnready AnyWait b → (k : ℕ) → IsUnreadyAt k b
unready-at b u k = by (find_line k b.lines) refl
  where
    by : (o : Option Session) → find_line k b.lines ≡ o → IsUnreadyIn b k o
    by None e = tt
    by (Some s) e = find-each (λ n (x : Session). IsUnready AnyWait b n x.stage) k s b.lines u e

pub at-unready : (b : BrokerState) → IsSound b → ((k : ℕ) → IsUnreadyAt k b) → AreUnready AnyWait b
at-unready b sound h = each-find (IsUnreadyIn b) 0 b.last b.lines sound.rising h

unready-in : (a b : BrokerState) (k : ℕ) (o : Option Session) → b.clock ≡ a.clock → ((t : ℕ) → kept_of_tenant b t ≡ kept_of_tenant a t) → IsUnreadyIn a k o → IsUnreadyIn b k o
unready-in a b k None clock kept u = tt
unready-in a b k (Some s) clock kept u = unready-same AnyWait a b k s.stage clock kept u

-- a connection that is the same at a later moment, in which tenants keep the same
pub unready-later : (a b : BrokerState) (k : ℕ) → b.clock ≡ a.clock → ((t : ℕ) → kept_of_tenant b t ≡ kept_of_tenant a t) → find_line k b.lines ≡ find_line k a.lines → IsUnreadyAt k a → IsUnreadyAt k b
unready-later a b k clock kept same u = subst (IsUnreadyIn b k) (sym same) (unready-in a b k (find_line k a.lines) clock kept u)

-- 5. Looks by number

-- a number under which nobody is connected
pub minded-absent : (whom : Whom) (a b : BrokerState) (n : ℕ) (ns : List ℕ) → AreMinded whom a b ns → find_line n b.lines ≡ None → AreMinded whom a b (ns ++ n ∷ [])
minded-absent whom a b n ns v none = record { waked = v.waked; rest = v.rest; done = λ k c s. by k s (Contains-push_cases ns n k c); todo = v.todo }
  where
    by : (k : ℕ) → IsSoughtIn whom a.clock (find_line k a.lines) → Contains ns k ⊎ (n ≡ k) → IsUnreadyAt k b
    by k s (inl c) = v.done k c s
    by k s (inr e) = subst (IsUnreadyIn b k) (sym (ap (λ j. find_line j b.lines) (sym e) ∙ none)) tt

-- one look more: what it leaves of the connection of that number
pub record IsMindedOne (whom : Whom) (n : ℕ) (b c : BrokerState) : Type 0 where
  pub waked : Waked whom b c
  pub others : SameOthers n b c
  pub rest : IsUnreadyAt n b → IsUnreadyAt n c
  pub done : IsSoughtIn whom b.clock (find_line n b.lines) → IsUnreadyAt n c
  pub todo : IsUnreadyAt n c ⊎ (find_line n c.lines ≡ find_line n b.lines)

pub minded-more : (whom : Whom) (a b c : BrokerState) (n : ℕ) (ns : List ℕ) → AreMinded whom a b ns → IsMindedOne whom n b c → AreMinded whom a c (ns ++ n ∷ [])
minded-more whom a b c n ns v one = record {
  waked = waked-then whom a b c v.waked one.waked;
  rest = λ k u. later k (v.rest k u);
  done = λ k in' s. by k s (Contains-push_cases ns n k in');
  todo = λ k. left k (eqb n k) refl (v.todo k);
}
  where
    clock : c.clock ≡ b.clock
    clock = one.waked.going.clock

    other : (k : ℕ) → k ≢ n → IsUnreadyAt k b → IsUnreadyAt k c
    other k ne u = unready-later b c k clock one.waked.kept (one.others k ne) u

    later : (k : ℕ) → IsUnreadyAt k b → IsUnreadyAt k c
    later k u = each-tenant (λ j. IsUnreadyAt j b → IsUnreadyAt j c) n k (eqb n k) refl one.rest (other k) u

    sought : IsSoughtIn whom a.clock (find_line n a.lines) → IsUnreadyAt n b ⊎ (find_line n b.lines ≡ find_line n a.lines) → IsUnreadyAt n c
    sought s (inl u) = one.rest u
    sought s (inr same) = one.done (subst (λ x. IsSoughtIn whom x (find_line n b.lines)) (sym v.waked.going.clock) (subst (IsSoughtIn whom a.clock) (sym same) s))

    by : (k : ℕ) → IsSoughtIn whom a.clock (find_line k a.lines) → Contains ns k ⊎ (n ≡ k) → IsUnreadyAt k c
    by k s (inl in') = later k (v.done k in' s)
    by k s (inr e) = subst (λ j. IsUnreadyAt j c) e (sought (subst (λ j. IsSoughtIn whom a.clock (find_line j a.lines)) (sym e) s) (v.todo n))

    left-own : IsUnreadyAt n b ⊎ (find_line n b.lines ≡ find_line n a.lines) → IsUnreadyAt n c ⊎ (find_line n c.lines ≡ find_line n b.lines) → IsUnreadyAt n c ⊎ (find_line n c.lines ≡ find_line n a.lines)
    left-own before (inl u) = inl u
    left-own (inl u) (inr same) = inl (one.rest u)
    left-own (inr first) (inr same) = inr (same ∙ first)

    left-other : (k : ℕ) → k ≢ n → IsUnreadyAt k b ⊎ (find_line k b.lines ≡ find_line k a.lines) → IsUnreadyAt k c ⊎ (find_line k c.lines ≡ find_line k a.lines)
    left-other k ne (inl u) = inl (other k ne u)
    left-other k ne (inr same) = inr (one.others k ne ∙ same)

    left : (k : ℕ) (b' : Bool) → eqb n k ≡ b' → IsUnreadyAt k b ⊎ (find_line k b.lines ≡ find_line k a.lines) → IsUnreadyAt k c ⊎ (find_line k c.lines ≡ find_line k a.lines)
    left k true e before = let is = eqb_same n k e in subst (λ j. IsUnreadyAt j c ⊎ (find_line j c.lines ≡ find_line j a.lines)) is (left-own (subst (λ j. IsUnreadyAt j b ⊎ (find_line j b.lines ≡ find_line j a.lines)) (sym is) before) one.todo)
    left k false e before = left-other k (eqb_other n k e) before

-- where each is unready, or is looked at, none is ready then
pub minded-all : (whom : Whom) (a b : BrokerState) (ns : List ℕ) → AreMinded whom a b ns → ((k : ℕ) → IsMinded whom ns a k) → AreUnready AnyWait b
minded-all whom a b ns v all = at-unready b v.waked.going.sound (λ k. by k (all k))
  where
    by : (k : ℕ) → IsMinded whom ns a k → IsUnreadyAt k b
    by k (inl u) = v.rest k u
    by k (inr p) = v.done k p.0 p.1

-- 6. What a turn leaves to be looked at

-- a number is in a list or is not
pub among : (k : ℕ) (ns : List ℕ) → Contains ns k ⊎ (Contains ns k → ⊥)
among k [] = inr (λ c. let h = c.1 in omega (arith, h))
among k (n ∷ ns) = by (eqb n k) refl (among k ns)
  where
    by : (b : Bool) → eqb n k ≡ b → Contains ns k ⊎ (Contains ns k → ⊥) → Contains (n ∷ ns) k ⊎ (Contains (n ∷ ns) k → ⊥)
    by true e rest = inl (0, omega arith, eqb_same n k e)
    by false e (inl c) = inl (suc c.0, (let h = c.1 in omega (arith, h)), c.2)
    by false e (inr not-in) = inr (λ c. at c.0 c.1 c.2)
      where
        at : (i : ℕ) → i < suc (length ns) → get_or (n ∷ ns) i k ≡ k → ⊥
        at zero lt is = eqb_other n k e (sym is)
        at (suc i) lt is = not-in (i, omega (arith, lt), is)

-- those that are due, and some behind them
pub due-more : (q : Queue) (clock : ℕ) (ns told ms : List ℕ) → AreParked q (queue.IsDue clock) ns → ms ≡ ns ++ told → (k : ℕ) → Contains ms k ↔ (IsSomeAnd (fin.get q k) (queue.IsDue clock) ⊎ Contains told k)
due-more q clock ns told ms parked is k = (λ c. into (Contains-append_cases ns told k (subst (λ xs. Contains xs k) is c)), λ c. subst (λ xs. Contains xs k) (sym is) (back c))
  where
    into : Contains ns k ⊎ Contains told k → IsSomeAnd (fin.get q k) (queue.IsDue clock) ⊎ Contains told k
    into (inl c) = inl ((parked.exactly k).0 c)
    into (inr c) = inr c

    back : IsSomeAnd (fin.get q k) (queue.IsDue clock) ⊎ Contains told k → Contains (ns ++ told) k
    back (inl due) = Contains-append_left ns told k ((parked.exactly k).1 due)
    back (inr c) = Contains-append_right ns told k c

-- a result that is ok
pub when-ok : {A E : Type 0} (r : Result A E) (P : Type 0) → IsOk r → OnOk r P → P
when-ok (Ok x) P ok h = h
when-ok (Err x) P ok h = absurd (cc)

-- a fetch whose deadline has come stands in the queue until then
due-there : (clock : ℕ) (w : Wait) (o : Option queue.Wait) → until_of o ≡ Some (until w.awaited) → is_overdue clock w.awaited ≡ true → IsSomeAnd o (queue.IsDue clock)
due-there clock w None e h = absurd (cc)
due-there clock w (Some x) e h = by w.awaited e h
  where
    by : (a : Awaited) → until_of (Some x) ≡ Some (until a) → is_overdue clock a ≡ true → queue.IsDue clock x
    by (Records version body deadline limit) e h = let is : x.deadline ≡ deadline = cc in let come : deadline ≤ clock = grind (arith, nat_tests, h) in omega (arith, is, come)
    by Group e h = let no : false ≡ true = h in absurd (cc)

-- what waits stands in the queue
any-there : (w : Wait) (o : Option queue.Wait) → until_of o ≡ Some (until w.awaited) → IsSomeAnd o queue.IsAny
any-there w None e = absurd (cc)
any-there w (Some x) e = tt

all-sought : (clock : ℕ) (st : Stage) → IsSoughtAt whoms.All clock st
all-sought clock (Greets h) = tt
all-sought clock (BoundTo t None) = tt
all-sought clock (BoundTo t (Some w)) = refl

-- those that may be ready are looked at
pub sought-minded : (H : Type 0) (q : Queue) (answered : Option (Vec ℕ Global)) (b : BrokerState) (ns : List ℕ) → IsQueueOf H q b.tenants b.lines → AreSought q answered b.clock ns → IsReadyAmong answered b → (k : ℕ) → IsMinded whoms.All ns b k
sought-minded H q None b ns v sought ready k = by (find_line k b.lines) refl
  where
    waits : (s : Session) (st : Stage) → s.stage ≡ st → find_line k b.lines ≡ Some s → IsUnready AnyWait b k st ⊎ (Contains ns k × IsSoughtAt whoms.All b.clock st)
    waits s (Greets h) is e = inl tt
    waits s (BoundTo t None) is e = inl tt
    waits s (BoundTo t (Some w)) is e = inr ((sought.exactly k).1 (any-there w (fin.get q k) (v.dated k ∙ (ap deadline_in e ∙ ap deadline_at is))), refl)

    by : (o : Option Session) → find_line k b.lines ≡ o → IsMinded whoms.All ns b k
    by None e = inl (subst (IsUnreadyIn b k) (sym e) tt)
    by (Some s) e = subst (λ o. IsUnreadyIn b k o ⊎ (Contains ns k × IsSoughtIn whoms.All b.clock o)) (sym e) (waits s s.stage refl e)
sought-minded H q (Some told) b ns v sought ready k = by (find_line k b.lines) refl
  where
    waits : (s : Session) (st : Stage) → s.stage ≡ st → find_line k b.lines ≡ Some s → IsUnready (IsPassedOver whoms.Due b.clock) b k st → IsUnready AnyWait b k st ⊎ (Contains ns k × IsSoughtAt whoms.All b.clock st)
    waits s (Greets h) is e u = inl tt
    waits s (BoundTo t None) is e u = inl tt
    waits s (BoundTo t (Some w)) is e u = when (is_overdue b.clock w.awaited) refl
      where
        when : (c : Bool) → is_overdue b.clock w.awaited ≡ c → IsUnready AnyWait b k (BoundTo t (Some w)) ⊎ (Contains ns k × IsSoughtAt whoms.All b.clock (BoundTo t (Some w)))
        when true c = inr ((sought k).1 (inl (due-there b.clock w (fin.get q k) (v.dated k ∙ (ap deadline_in e ∙ ap deadline_at is)) c)), refl)
        when false c = inl (λ any. u c)

    either : (s : Session) → find_line k b.lines ≡ Some s → Contains told.items k ⊎ IsUnready (IsPassedOver whoms.Due b.clock) b k s.stage → IsUnready AnyWait b k s.stage ⊎ (Contains ns k × IsSoughtAt whoms.All b.clock s.stage)
    either s e (inl c) = inr ((sought k).1 (inr c), all-sought b.clock s.stage)
    either s e (inr u) = waits s s.stage refl e u

    by : (o : Option Session) → find_line k b.lines ≡ o → IsMinded whoms.All ns b k
    by None e = inl (subst (IsUnreadyIn b k) (sym e) tt)
    by (Some s) e = subst (λ o. IsUnreadyIn b k o ⊎ (Contains ns k × IsSoughtIn whoms.All b.clock o)) (sym e)
        (either s e (find-each (λ n (x : Session). Contains told.items n ⊎ IsUnready (IsPassedOver whoms.Due b.clock) b n x.stage) k s b.lines ready e))

-- 7. Who may go on

-- where no other has changed but those, each that can take a turn is among those or was before
pub among-same : (ns ms : List ℕ) (a b : BrokerState) → SameBut ns a b → AreAmong ms a → (k : ℕ) → can_in (find_line k b.lines) ≡ true → Contains ms k ⊎ Contains ns k
among-same ns ms a b same before k able = by (among k ns)
  where
    by : Contains ns k ⊎ (Contains ns k → ⊥) → Contains ms k ⊎ Contains ns k
    by (inl c) = inr c
    by (inr apart) = inl (before k (sym (ap can_in (same k apart)) ∙ able))

-- nobody can take a turn where nobody could
pub among-settled : (ns : List ℕ) (a b : BrokerState) → first_able a.lines ≡ None → SameBut ns a b → AreAmong ns b
among-settled ns a b settled same k able = by (among k ns)
  where
    still : (o : Option Session) → find_line k a.lines ≡ o → can_in o ≡ true → ⊥
    still None e c = cc
    still (Some s) e c = let no : can s ≡ false = find-each (λ n (x : Session). can x ≡ false) k s a.lines (all-still a.lines settled) e in let bad : false ≡ true = sym no ∙ c in cc

    by : Contains ns k ⊎ (Contains ns k → ⊥) → Contains ns k
    by (inl c) = c
    by (inr apart) = absurd (still (find_line k a.lines) refl (ap can_in (sym (same k apart)) ∙ able))

-- the first that can take a turn, where none before it can
pub first-least : (low last : ℕ) (ls : List Line) (i : ℕ) (l : Line) → Rising low last ls → IsAt ls i l → AllByRecursion (λ (k : Line). k.number < l.number → can k.session ≡ false) ls → can l.session ≡ true → first_able ls ≡ Some l
first-least low last [] i l r a s c = no-at i l a
first-least low last (k ∷ ls) zero l r a s c = let e = a.here in grind (arith, e, c)
first-least low last (k ∷ ls) (suc i) l r a s c =
    let lt : k.number < l.number = rising-above k.number last ls i l r.1 (tail-at k ls i l a) in
    let no : can k.session ≡ false = s.0 lt in
    let rest = first-least k.number last ls i l r.1 (tail-at k ls i l a) s.1 c in
    grind (arith, no, rest)
