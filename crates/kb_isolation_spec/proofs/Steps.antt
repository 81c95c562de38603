-- The events of the broker.
use Rattle.std.proofs.Common.{◌≡◌, ◌≢◌, ◌<◌, ◌≤◌, ◌^◌, ◌++◌, ◌∷◌, [], ℕ, zero, suc, List, eqb, Bool, true, false, None, refl, sym, ◌∙◌, ap, subst, arith, append-nil}
use Rattle.std.specs.Prelude.{not, cond, max}
use Rattle.std.specs.List.{AllByRecursion, remove}
use Rattle.std.proofs.lemmas.Bool.Decides.{nat_tests}
use Rattle.kb_api_group.specs.Frames.{front}
use Rattle.kb_wire.specs.Codec.{int}
use Rattle.kb_tenant_state.specs.Counts.{IsCalm}
use Rattle.kb_tenant_api.specs.Hosted as hosted
use Rattle.kb_tenant_api.specs.Hosted.{Kept, TenantState}
use Rattle.kb_tenant_api.specs.Turns.{HavePassed}
use Rattle.std.specs.Prelude.{Some}
use Rattle.kb_tenant.specs.Replies.{Silent}
use Rattle.kb_isolation_spec.proofs.Quiet.{still-silent}
use Rattle.kb_isolation_spec.specs.Tenant.{Wait, Awaited, Records, Group, is_overdue, ready, ready_for}
use Rattle.kb_isolation_spec.specs.Session.{Stage, Greets, BoundTo, new_session, can}
use Rattle.kb_isolation_spec.specs.Greeting.{Setup, User}
use Rattle.kb_isolation_spec.specs.Machine.{Happening, Opens, Closes, Moment, Line, View, those, find_line, first_able, all_woken, kept_closed, turns, stepped}
use Rattle.kb_isolation_spec.specs.Owners.{OwnsLines, Fits, whose, greeted_so_far, destiny, unborn}
use Rattle.kb_isolation_spec.specs.Broker.{BrokerState, InRange, Grows, IsSound, IsUnready, AreUnready, AnyWait, kept_of_tenant, IsStep, Rising, Mine, view_of}
use Rattle.kb_isolation_spec.specs.Calls.{opened, closed, moved, other_than}
use Rattle.kb_isolation_spec.proofs.Laws.{none-those, turns-none}
use Rattle.kb_isolation_spec.specs.declared.whom.Whom.{Whom}
use Rattle.kb_isolation_spec.specs.declared.whom.Whom.TheVariants as whoms
use Rattle.kb_isolation_spec.specs.Turned.{Everybody, Turned, Waked, IsPassedOver}
use Rattle.kb_isolation_spec.proofs.Owners.{IsMine, heard-still}
use Rattle.kb_isolation_spec.proofs.Parts.{calm-right, calm-first, calm-then, grows-then, length-names}
use Rattle.kb_isolation_spec.proofs.Leaving.{kept-closed, kept-unclosed, names-closed, refusals-closed, ready-closed}
use Rattle.kb_isolation_spec.proofs.Turns.{going-then, unready-quiet}
use Rattle.kb_isolation_spec.proofs.Wakes.{unready-view}
use Rattle.kb_isolation_spec.proofs.Sets.{IsAt, all-map, all-those, all-push, rising-above, tail-at, no-at}

-- where no connection can take a turn, turns are nothing
pub settled-turns : (t : ℕ) (mine : ℕ → Bool) (b : BrokerState) → first_able b.lines ≡ None → turns (view_of t mine b) ≡ view_of t mine b
settled-turns t mine b h = turns-none (view_of t mine b) (none-those mine b.lines h)

-- the same world with other connections
abbrev pub with_lines : View → List Line → View
with_lines w ls = record w { lines = ls }

-- 1. A new connection

pub lines-push : (ls : List Line) (x : Line) (mine : ℕ → Bool) → those mine (ls ++ x ∷ []) ≡ those mine ls ++ those mine (x ∷ [])
lines-push [] x mine = refl
lines-push (l ∷ ls) x mine = let rest = lines-push ls x mine in grind (arith, rest)

pub rising-push : (low last n : ℕ) (ls : List Line) (x : Line) → Rising low last ls → last < n → x.number ≡ n → Rising low n (ls ++ x ∷ [])
rising-push low last n [] x r h e = (omega (arith, r), omega arith)
rising-push low last n (l ∷ ls) x r h e = (r.0, rising-push l.number last n ls x r.1 h e)

pub first-push : (ls : List Line) (x : Line) → first_able ls ≡ None → can x.session ≡ false → first_able (ls ++ x ∷ []) ≡ None
first-push [] x h e = grind (arith, e)
first-push (l ∷ ls) x h e = let rest = first-push ls x in grind (arith, rest)

pub can-fresh : (limit : ℕ) → can (new_session limit) ≡ false
unfolding can front int
can-fresh limit = refl

heard-fresh : (setup : Setup) (limit : ℕ) → greeted_so_far setup (new_session limit) ≡ new_session limit
heard-fresh setup limit = heard-still setup (new_session limit) (can-fresh limit)

pub owns-opens : (setup : Setup) (t last n : ℕ) (mine : ℕ → Bool) (es : List Happening) (ls : List Line) → last < n → OwnsLines setup t mine last (Opens n ∷ es) ls → OwnsLines setup t mine n es (ls ++ record { number = n; session = new_session setup.request_bytes } ∷ [])
owns-opens setup t last n mine es ls h o =
    let same : eqb n n ≡ true = grind (arith, nat_tests) in
    let new : Fits t (mine n) (destiny setup n (new_session setup.request_bytes) es) = subst (Fits t (mine n)) (ap (λ (b : Bool). cond b (destiny setup n (new_session setup.request_bytes) es) (unborn setup n es)) same) (o.later n h) in
    record {
      now = all-push (IsMine setup t mine es) ls (record { number = n; session = new_session setup.request_bytes }) o.now (subst (λ s. Fits t (mine n) (destiny setup n s es)) (sym (heard-fresh setup setup.request_bytes)) new);
      later = λ k lt.
          let ne : eqb n k ≡ false = grind (arith, nat_tests) in
          subst (Fits t (mine k)) (ap (λ (b : Bool). cond b (destiny setup k (new_session setup.request_bytes) es) (unborn setup k es)) ne) (o.later k (omega arith));
    }

pub sound-opened : (b : BrokerState) (n : ℕ) → IsSound b → b.last < n → IsSound (opened b n)
sound-opened b n s lt = record {
  rising = rising-push 0 b.last n b.lines (record { number = n; session = new_session b.setup.request_bytes }) s.rising lt refl;
  in_range = all-push _ b.lines (record { number = n; session = new_session b.setup.request_bytes }) s.in_range tt;
  users = s.users;
  clock = s.clock;
}

pub settled-opened : (b : BrokerState) (n : ℕ) → first_able b.lines ≡ None → first_able (opened b n).lines ≡ None
settled-opened b n settled = first-push b.lines (record { number = n; session = new_session b.setup.request_bytes }) settled (can-fresh b.setup.request_bytes)

pub unready-opened : (b : BrokerState) (n : ℕ) → AreUnready AnyWait b → AreUnready AnyWait (opened b n)
unready-opened b n unready = all-push (λ l. IsUnready AnyWait b l.number l.session.stage) b.lines (record { number = n; session = new_session b.setup.request_bytes }) unready tt

pub view-opened : (w : View) (n : ℕ) (mine : ℕ → Bool) (yes : Bool) → mine n ≡ yes → with_lines w (w.lines ++ those mine (record { number = n; session = new_session w.setup.request_bytes } ∷ [])) ≡ stepped yes (Opens n) w
view-opened w n mine true e = ap (λ (x : List Line). with_lines w (w.lines ++ x)) (grind (arith, e))
view-opened w n mine false e =
    let none : those mine (record { number = n; session = new_session w.setup.request_bytes } ∷ []) ≡ [] = grind (arith, e) in
    ap (with_lines w) (ap (λ x. w.lines ++ x) none ∙ append-nil w.lines)

pub step-opened : (b : BrokerState) (n : ℕ) → b.last < n → IsStep (Opens n) b (opened b n)
step-opened b n lt = record {
  last = omega arith;
  grows = record { setup = refl; names = refl; own = λ t. omega arith; unbound = omega arith };
  counted = λ t. refl;
  mine = λ t mine es m q. owns-opens b.setup t b.last n mine es b.lines lt m;
  view = λ t mine es m q. ap (with_lines (view_of t mine b)) (lines-push b.lines (record { number = n; session = new_session b.setup.request_bytes }) mine) ∙ view-opened (view_of t mine b) n mine (mine n) refl;
}

-- a connection that could not be kept
pub step-unopened : (b : BrokerState) (n x : ℕ) → b.last < n → b.unbound_refusals ≤ x → (IsCalm b.unbound_refusals x → ⊥) → IsStep (Opens n) b (record b { unbound_refusals = x })
step-unopened b n x lt up rises = record {
  last = omega arith;
  grows = record { setup = refl; names = refl; own = λ t. omega arith; unbound = up };
  counted = λ t. refl;
  mine = λ t mine es m q. absurd (rises q);
  view = λ t mine es m q. absurd (rises q.unbound);
}

-- 2. A connection that closes

those-above : (low last n : ℕ) (ls : List Line) → Rising low last ls → n ≤ low → those (other_than n) ls ≡ ls
those-above low last n [] r h = refl
those-above low last n (l ∷ ls) r h = let lt = r.0 in let rest = those-above l.number last n ls r.1 (omega arith) in grind (arith, nat_tests, rest)

pub remove-those : (low last : ℕ) (ls : List Line) (i : ℕ) (l : Line) → Rising low last ls → IsAt ls i l → remove ls i ≡ those (other_than l.number) ls
remove-those low last [] i l r a = no-at i l a
remove-those low last (k ∷ ls) zero l r a =
    let n : l.number ≡ k.number = ap (λ (x : Line). x.number) a.here in
    let rest = those-above k.number last l.number ls r.1 (omega (arith, n)) in
    grind (arith, nat_tests, rest, n)
remove-those low last (k ∷ ls) (suc i) l r a =
    let lt : k.number < l.number = rising-above k.number last ls i l r.1 (tail-at k ls i l a) in
    let rest = remove-those k.number last ls i l r.1 (tail-at k ls i l a) in
    grind (arith, nat_tests, rest, lt)

pub those-all : (n : ℕ) (ls : List Line) → AllByRecursion (λ l. l.number ≢ n) ls → those (other_than n) ls ≡ ls
those-all n [] h = refl
those-all n (l ∷ ls) h = let no = h.0 in let rest = those-all n ls h.1 in grind (arith, nat_tests, rest)

those-those : (p q : ℕ → Bool) (ls : List Line) → those p (those q ls) ≡ those q (those p ls)
those-those p q [] = refl
those-those p q (l ∷ ls) = let rest = those-those p q ls in grind (arith, rest)

those-without : (mine : ℕ → Bool) (n : ℕ) (ls : List Line) → mine n ≡ false → those mine (those (other_than n) ls) ≡ those mine ls
those-without mine n [] h = refl
those-without mine n (l ∷ ls) h = let rest = those-without mine n ls h in grind (arith, nat_tests, rest)

rising-lower : (low low' last : ℕ) (ls : List Line) → low' ≤ low → Rising low last ls → Rising low' last ls
rising-lower low low' last [] h r = omega (arith, r)
rising-lower low low' last (l ∷ ls) h r = (let lt = r.0 in omega arith, r.1)

pub rising-those : (low last : ℕ) (mine : ℕ → Bool) (ls : List Line) → Rising low last ls → Rising low last (those mine ls)
rising-those low last mine [] r = r
rising-those low last mine (l ∷ ls) r = rising-those_by low last mine l (those mine ls) (mine l.number) refl r.0 (rising-those l.number last mine ls r.1)
  where
    rising-those_by : (low last : ℕ) (mine : ℕ → Bool) (l : Line) (ls : List Line) (b : Bool) → mine l.number ≡ b → low < l.number → Rising l.number last ls → Rising low last (cond (mine l.number) (l ∷ ls) ls)
    rising-those_by low last mine l ls true e p h = rw e (p, h)
    rising-those_by low last mine l ls false e p h = rw e (rising-lower l.number low last ls (omega arith) h)

-- the others are still where they were
pub closes-others : (setup : Setup) (t n : ℕ) (mine : ℕ → Bool) (es : List Happening) (ls : List Line) → AllByRecursion (IsMine setup t mine (Closes n ∷ es)) ls → AllByRecursion (IsMine setup t mine es) (those (other_than n) ls)
closes-others setup t n mine es [] h = tt
closes-others setup t n mine es (l ∷ ls) h = closes-others_by setup t n mine es l (those (other_than n) ls) (eqb l.number n) refl h.0 (closes-others setup t n mine es ls h.1)
  where
    closes-others_by : (setup : Setup) (t n : ℕ) (mine : ℕ → Bool) (es : List Happening) (l : Line) (ls : List Line) (b : Bool) → eqb l.number n ≡ b → IsMine setup t mine (Closes n ∷ es) l → AllByRecursion (IsMine setup t mine es) ls → AllByRecursion (IsMine setup t mine es) (cond (not (eqb l.number n)) (l ∷ ls) ls)
    closes-others_by setup t n mine es l ls true e p h = rw e h
    closes-others_by setup t n mine es l ls false e p h = let ne : eqb n l.number ≡ false = grind (arith, nat_tests) in rw e (subst (Fits t (mine l.number)) (ap (λ (b : Bool). cond b (whose (greeted_so_far setup l.session).stage) (destiny setup l.number (greeted_so_far setup l.session) es)) ne) p, h)

pub view-closed : (w : View) (n : ℕ) (mine : ℕ → Bool) (ls : List Line) (kept : Kept) (yes : Bool) → w.lines ≡ those mine ls → mine n ≡ yes → (yes ≡ true → kept ≡ kept_closed w.clock n (find_line n w.lines) w.kept) → (yes ≡ false → kept ≡ w.kept)
    → record w { kept = kept; lines = those mine (those (other_than n) ls) } ≡ stepped yes (Closes n) w
view-closed w n mine ls kept true f e own other =
    ap (λ k. record w { kept = k; lines = those mine (those (other_than n) ls) }) (own refl)
    ∙ ap (λ x. record w { kept = kept_closed w.clock n (find_line n w.lines) w.kept; lines = x }) (those-those mine (other_than n) ls ∙ ap (those (other_than n)) (sym f))
view-closed w n mine ls kept false f e own other =
    ap (λ k. record w { kept = k; lines = those mine (those (other_than n) ls) }) (other refl) ∙ ap (with_lines w) (those-without mine n ls e ∙ sym f)

closed-grows : (b : BrokerState) (n : ℕ) → Grows b (closed b n)
closed-grows b n = record {
  setup = refl;
  names = names-closed b.clock n (find_line n b.lines) b.tenants;
  own = λ t. let e = refusals-closed b.clock n (find_line n b.lines) b.tenants t in omega (arith, e);
  unbound = omega arith;
}

pub sound-closed : (b : BrokerState) (n : ℕ) → IsSound b → IsSound (closed b n)
sound-closed b n s =
    let many = length-names b (closed b n) (closed-grows b n) in
    record {
      rising = rising-those 0 b.last (other_than n) b.lines s.rising;
      in_range = subst (λ k. AllByRecursion (λ (l : Line). InRange k l.session.stage) (those (other_than n) b.lines)) (sym many) (all-those _ (other_than n) b.lines s.in_range);
      users = subst (λ k. AllByRecursion (λ (u : User). u.tenant < k) b.setup.users) (sym many) s.users;
      clock = s.clock;
    }

pub settled-closed : (b : BrokerState) (n : ℕ) → first_able b.lines ≡ None → first_able (closed b n).lines ≡ None
settled-closed b n settled = none-those (other_than n) b.lines settled

pub unready-closed : (b : BrokerState) (n : ℕ) → AreUnready AnyWait b → AreUnready AnyWait (closed b n)
unready-closed b n unready =
    let c = closed b n in
    all-those (λ l. IsUnready AnyWait c l.number l.session.stage) (other_than n) b.lines
    (all-map (λ l. IsUnready AnyWait b l.number l.session.stage) (λ l. IsUnready AnyWait c l.number l.session.stage)
    (λ l. unready-quiet AnyWait b c refl (λ t k w silent. ready-closed b.clock n (find_line n b.lines) b.tenants t b.clock k w ∙ silent) l.number l.session.stage) b.lines unready)

pub step-closed : (b : BrokerState) (n : ℕ) → IsStep (Closes n) b (closed b n)
step-closed b n = record {
  last = omega arith;
  grows = closed-grows b n;
  counted = record { own = λ t. refusals-closed b.clock n (find_line n b.lines) b.tenants t; unbound = refl };
  mine = λ t mine es m q. record { now = closes-others b.setup t n mine es b.lines m.now; later = m.later };
  view = λ t mine es m q.
      view-closed (view_of t mine b) n mine b.lines (hosted.kept_of (closed b n).tenants t) (mine n) refl refl
      (λ yes. kept-closed b.setup t n b.clock mine (Closes n ∷ es) b.tenants b.lines m.now yes)
      (λ no. kept-unclosed b.setup t n b.clock mine (Closes n ∷ es) b.tenants b.lines m.now no);
}

-- 3. A moment

-- the clock has moved, and the moment has left the tenants this
abbrev pub begun : BrokerState → ℕ → List TenantState → BrokerState
begun b now ts = record (moved b now) { tenants = ts }

pub begun-grows : (b : BrokerState) (now clock : ℕ) (H : Type 0) (ts : List TenantState) → HavePassed clock H b.tenants ts → Grows b (begun b now ts)
begun-grows b now clock H ts r = record { setup = refl; names = r.names; own = r.grows; unbound = omega arith }

pub sound-begun : (b : BrokerState) (now clock : ℕ) (H : Type 0) (ts : List TenantState) → IsSound b → HavePassed clock H b.tenants ts → max b.clock now ≤ 2 ^ 62 → IsSound (begun b now ts)
sound-begun b now clock H ts s r le =
    let many = length-names b (begun b now ts) (begun-grows b now clock H ts r) in
    record {
      rising = s.rising;
      in_range = subst (λ n. AllByRecursion (λ (l : Line). InRange n l.session.stage) b.lines) (sym many) s.in_range;
      users = subst (λ n. AllByRecursion (λ (u : User). u.tenant < n) b.setup.users) (sym many) s.users;
      clock = le;
    }

-- a request that was not ready is not before its deadline, as long as its tenant keeps the same
later : (kept : Kept) (clock now n : ℕ) (w : Wait) → ready kept clock n w ≡ Silent → is_overdue now w.awaited ≡ false → ready kept now n w ≡ Silent
unfolding ready
later kept clock now n w e early = by w.awaited e early
  where
    by : (x : Awaited) → ready_for kept clock n x ≡ Silent → is_overdue now x ≡ false → ready_for kept now n x ≡ Silent
    by (Records version body deadline limit) h early =
        let before : now < deadline = grind (arith, nat_tests, early) in
        still-silent kept.world clock now deadline version limit body (λ still. before) h
    by Group h early = h

-- so where nothing happened to the tenants only those can be ready after the clock moved whose deadline has come
pub due-unready : (b : BrokerState) (now : ℕ) (ts : List TenantState) → ((t : ℕ) → hosted.kept_of ts t ≡ kept_of_tenant b t) → AreUnready AnyWait b → AreUnready (IsPassedOver whoms.Due (max b.clock now)) (begun b now ts)
due-unready b now ts same r = all-map (λ l. IsUnready AnyWait b l.number l.session.stage) (λ l. IsUnready (IsPassedOver whoms.Due (max b.clock now)) (begun b now ts) l.number l.session.stage) (λ l. one l.number l.session.stage) b.lines r
  where
    one : (n : ℕ) (st : Stage) → IsUnready AnyWait b n st → IsUnready (IsPassedOver whoms.Due (max b.clock now)) (begun b now ts) n st
    one n (Greets h) u = tt
    one n (BoundTo t None) u = tt
    one n (BoundTo t (Some w)) u = λ early. subst (λ k. ready k (max b.clock now) n w ≡ Silent) (sym (same t)) (later (kept_of_tenant b t) b.clock (max b.clock now) n w (u tt) early)

-- where all are looked at none is passed over
pub all-unready : (b : BrokerState) (clock : ℕ) → AreUnready (IsPassedOver whoms.All clock) b
all-unready b clock = each b.lines
  where
    one : (n : ℕ) (st : Stage) → IsUnready (IsPassedOver whoms.All clock) b n st
    one n (Greets h) = tt
    one n (BoundTo t None) = tt
    one n (BoundTo t (Some w)) = λ over. absurd (cc)

    each : (ls : List Line) → AllByRecursion (λ (l : Line). IsUnready (IsPassedOver whoms.All clock) b l.number l.session.stage) ls
    each [] = tt
    each (l ∷ ls) = (one l.number l.session.stage, each ls)

-- then waiting requests are looked at, and then there are turns until none is left
pub step-moment : (now : ℕ) (whom : Whom) (a b c : BrokerState) (ts : List TenantState) (H : Type 0) → H → HavePassed (max a.clock now) H a.tenants ts → Waked whom (begun a now ts) b → AreUnready AnyWait b → Turned Everybody b c → first_able c.lines ≡ None → IsStep (Moment now) a c
step-moment now whom a b c ts H honest r q unready t none =
    let start = begun a now ts in
    let f = begun-grows a now (max a.clock now) H ts r in
    let g = q.going.grows in
    let h = t.going.grows in
    let w = going-then start b c q.going t.going in
    let all = grows-then a start c f w.grows in
    record {
      last = let e = w.last in omega (arith, e);
      grows = all;
      counted = t.counted ∙ q.unbound;
      mine = λ u mine es m calm. t.mine u mine es (q.mine u mine es (record { now = m.now; later = m.later })) (calm-right a.unbound_refusals b.unbound_refusals c.unbound_refusals g.unbound h.unbound calm);
      view = λ u mine es m calm.
          let before = calm-first u a start c f w.grows calm in
          let after = calm-then u a start c f w.grows calm in
          let first = calm-first u start b c g h after in
          let then = calm-then u start b c g h after in
          let at : Mine u mine es start = record { now = m.now; later = m.later } in
          let mb = q.mine u mine es at in
          let v = view_of u mine start in
          sym (settled-turns u mine c none)
          ∙ (t.view u mine es mb then
          ∙ (ap turns (sym (unready-view AnyWait b u mine es unready (λ w. tt) mb) ∙ q.view u mine es at first.own)
          ∙ ap (λ k. turns (all_woken (record v { kept = k }))) (r.kept honest u before.own)));
    }
