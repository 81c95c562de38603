-- The turns of connections.
use Rattle.std.proofs.Common.{◌≡◌, ◌≢◌, ◌≤◌, ◌++◌, ℕ, ℤ, List, length, set, eqb, Bool, true, false, Option, Some, None, Result, Ok, Err, refl, sym, ◌∙◌, ap, subst, arith, inl, inr}
use Rattle.std.specs.Prelude.{cond, nat_lt, codes}
use Rattle.std.specs.Str.{bytes_eq}
use Rattle.kb_api_group.specs.Frames.{Front, Whole, Partial, TooSmall, TooLarge}
use Rattle.kb_tenant.specs.Replies.{framed, reply_size}
use Rattle.kb_isolation_spec.specs.declared.shut.Shut.TheVariants as causes
use Rattle.kb_isolation_spec.specs.declared.head.Head.{Head}
use Rattle.kb_isolation_spec.specs.declared.login.Known.{Known}
use Rattle.kb_isolation_spec.specs.Requests.{Asked, Versions, OtherVersions, Handshake, Authenticate, Another, Malformed, request}
use Rattle.std.proofs.lemmas.Bool.Decides.{nat_tests}
use Rattle.kb_tenant_state.specs.Counts.{IsCalm}
use Rattle.kb_tenant_api.specs.Hosted as hosted
use Rattle.kb_tenant_api.specs.Hosted.{TenantState}
use Rattle.kb_tenant_api.specs.Turns.{IsTurn}
use Rattle.kb_tenant.specs.Replies.{Silent}
use Rattle.kb_isolation_spec.specs.Tenant.{Wait, ready}
use Rattle.kb_isolation_spec.specs.Session.{Greeting, Unshaken, Shaken, Bare, Stage, Session, Greets, BoundTo, shut_down, replied, throttled, without_wait, is_free, can, unanswerable, in_front}
use Rattle.kb_isolation_spec.specs.Greeting.{Setup, for_tenant, login, logged_in, bare_login, bound, greeting_after, shaken, greeted_by, greeted_frame, greeted_at, greeted}
use Rattle.kb_isolation_spec.specs.Machine.{Happening, Line, after_turn, kept_by_turn, each_line, on, those, first_able, all_woken, turns, find_line}
use Rattle.kb_isolation_spec.specs.Owners.{OwnsLines, whose}
use Rattle.kb_isolation_spec.specs.Broker.{BrokerState, IsSound, IsUnready, AreUnready, AnyWait, Grows, InRange, Mine, view_of, kept_of_tenant, refusals_of, bound_to, bound_as}
use Rattle.kb_isolation_spec.specs.Turned.{Scope, Of, Everybody, HasTenant, InScope, IsStill, AreStill, IsCountedIn, IsGoing, is_resting, AreUntouched, Turned, Served}
use Rattle.kb_isolation_spec.proofs.Owners.{IsBound, IsMine, SameFate, fate-same, fate-greeted, fate-bound, mine-bound, bound-same, owns-fates, those-on_other, view-greeting, view-served}
use Rattle.kb_isolation_spec.proofs.Ranges.{range-greeted, range-same, range-without}
use Rattle.kb_isolation_spec.proofs.Sets.{IsAt, all-at, all-map, all-set, pairwise-set, rising-set, numbers-set, set-on, set-at, find-at, find-set_other}
use Rattle.kb_isolation_spec.specs.Stranded.{NoneStranded}
use Rattle.kb_isolation_spec.proofs.Stranded.{stranded-greeted}
use Rattle.kb_isolation_spec.proofs.Parts.{count, turn-length, turn-grows, eqb_same, calm-left, calm-right, grows-same, grows-then, calm-first, calm-then}

-- 1. From one moment within an event to a later one

pub going-same : (b : BrokerState) → IsSound b → IsGoing b b
going-same b s = record { sound = s; grows = grows-same b; clock = refl; last = refl; numbers = refl; bound = λ k t e. e }

pub going-then : (a b c : BrokerState) → IsGoing a b → IsGoing b c → IsGoing a c
going-then a b c p q = record {
  sound = q.sound;
  grows = grows-then a b c p.grows q.grows;
  clock = q.clock ∙ p.clock;
  last = q.last ∙ p.last;
  numbers = q.numbers ∙ p.numbers;
  bound = λ k t e. q.bound k t (p.bound k t e);
}

pub counted-same : (scope : Scope) (a b : BrokerState) → ((t : ℕ) → refusals_of b t ≡ refusals_of a t) → b.unbound_refusals ≡ a.unbound_refusals → IsCountedIn scope a b
counted-same (Of n) a b own unbound = (λ t ne. own t, λ t e. unbound)
counted-same Everybody a b own unbound = unbound

pub counted-then : (scope : Scope) (a b c : BrokerState) → IsGoing a b → IsGoing b c → IsCountedIn scope a b → IsCountedIn scope b c → IsCountedIn scope a c
counted-then (Of n) a b c g h p q = (λ t ne. q.0 t ne ∙ p.0 t (λ e. ne (h.bound n t e)), λ t e. q.1 t (g.bound n t e) ∙ p.1 t e)
counted-then Everybody a b c g h p q = q ∙ p

pub untouched-then : (a b c : BrokerState) → AreUntouched a b → AreUntouched b c → AreUntouched a c
untouched-then a b c p q = λ k e. let same = p k e in q k (ap is_resting same ∙ e) ∙ same

pub turned-same : (scope : Scope) (b : BrokerState) → IsSound b → AreStill scope b → Turned scope b b
turned-same scope b s h = record {
  going = going-same b s;
  still = h;
  counted = counted-same scope b b (λ t. refl) refl;
  untouched = λ k e. refl;
  unready = λ u. u;
  held = λ h. h;
  mine = λ t mine es m q. m;
  view = λ t mine es m q. refl;
}

pub turned-then : (scope : Scope) (a b c : BrokerState) → Turned scope a b → Turned scope b c → Turned scope a c
turned-then scope a b c p q =
    let g = p.going.grows in
    let h = q.going.grows in
    record {
      going = going-then a b c p.going q.going;
      still = q.still;
      counted = counted-then scope a b c p.going q.going p.counted q.counted;
      untouched = untouched-then a b c p.untouched q.untouched;
      unready = λ u. q.unready (p.unready u);
      held = λ h. q.held (p.held h);
      mine = λ t mine es m calm. q.mine t mine es
          (p.mine t mine es m (calm-left a.unbound_refusals b.unbound_refusals c.unbound_refusals g.unbound h.unbound calm))
          (calm-right a.unbound_refusals b.unbound_refusals c.unbound_refusals g.unbound h.unbound calm);
      view = λ t mine es m calm.
          let left = calm-first t a b c g h calm in
          q.view t mine es (p.mine t mine es m left.unbound) (calm-then t a b c g h calm) ∙ p.view t mine es m left;
    }

-- 2. Waits that are not ready

pub free-unready : (P : ℕ → Wait → Type 0) (b : BrokerState) (n : ℕ) (st : Stage) → is_free st ≡ true → IsUnready P b n st
free-unready P b n (Greets h) e = tt
free-unready P b n (BoundTo t None) e = tt
free-unready P b n (BoundTo t (Some w)) e = let no : false ≡ true = e in absurd (cc)

pub free-without : (st : Stage) → is_free (without_wait st) ≡ true
free-without (Greets h) = refl
free-without (BoundTo t w) = refl

pub shut-unready : (P : ℕ → Wait → Type 0) (b : BrokerState) (n : ℕ) (s : Session) → IsUnready P b n (without_wait s.stage)
shut-unready P b n s = free-unready P b n (without_wait s.stage) (free-without s.stage)

pub free-replied : (head : Head) (body : List ℕ) (s : Session) → is_free s.stage ≡ true → is_free (replied head body s).stage ≡ true
unfolding replied
free-replied head body s free = by (nat_lt 2147483647 (reply_size (throttled head body)))
  where
    by : (b : Bool) → is_free (let x : Session = cond b (shut_down (unanswerable head) s) (record s { output = s.output ++ framed head.correlation_id (throttled head body) }) in x).stage ≡ true
    by true = free-without s.stage
    by false = free

free-logged_in : (o : Result Known (List ℕ)) (head : Head) (s : Session) → is_free s.stage ≡ true → is_free (logged_in o head s).stage ≡ true
free-logged_in (Ok known) head s free = free-replied head _ (bound known s) refl
free-logged_in (Err name) head s free = free-without _

free-greeted_by : (setup : Setup) (h : Bool) (head : Head) (a : Asked) (s : Session) → is_free s.stage ≡ true → is_free (greeted_by setup h head a s).stage ≡ true
unfolding greeted_by
free-greeted_by setup h head Versions s free = free-replied head _ s free
free-greeted_by setup h head OtherVersions s free = free-replied head _ s free
free-greeted_by setup h head (Handshake version mechanism) s free = by (bytes_eq mechanism (codes "PLAIN"))
  where
    by : (b : Bool) → is_free (shaken b head version s).stage ≡ true
    by true = free-replied head _ (record s { stage = Greets (greeting_after version) }) refl
    by false = free-replied head _ s free
free-greeted_by setup true head (Authenticate message) s free = free-logged_in (login setup.users message) head s free
free-greeted_by setup false head (Authenticate message) s free = free-replied head _ s free
free-greeted_by setup h head (Another key version body) s free = free-without s.stage
free-greeted_by setup h head Malformed s free = free-without s.stage

free-bare_login : (o : Result Known (List ℕ)) (s : Session) → is_free s.stage ≡ true → is_free (bare_login o s).stage ≡ true
free-bare_login (Ok known) s free = refl
free-bare_login (Err name) s free = free-without s.stage

free-greeted_frame : (setup : Setup) (h : Greeting) (frame : List ℕ) (s : Session) → is_free s.stage ≡ true → is_free (greeted_frame setup h frame s).stage ≡ true
free-greeted_frame setup Unshaken frame s free = let r = request setup.versions frame in free-greeted_by setup false r.head r.asked s free
free-greeted_frame setup Shaken frame s free = let r = request setup.versions frame in free-greeted_by setup true r.head r.asked s free
free-greeted_frame setup Bare frame s free = free-bare_login (login setup.users frame) s free

pub free-greeted : (setup : Setup) (h : Greeting) (s : Session) → is_free s.stage ≡ true → is_free (greeted setup h s).stage ≡ true
unfolding greeted
free-greeted setup h s free = by (in_front s)
  where
    by : (f : Front) → is_free (greeted_at setup h s f).stage ≡ true
    by (Whole frame rest) = free-greeted_frame setup h frame (record s { unread = rest }) free
    by TooSmall = free-without s.stage
    by TooLarge = free-without s.stage
    by Partial = free

-- a state in which the tenants keep the same at the same time
pub unready-same : (P : ℕ → Wait → Type 0) (a b : BrokerState) (n : ℕ) (st : Stage) → b.clock ≡ a.clock → ((t : ℕ) → kept_of_tenant b t ≡ kept_of_tenant a t) → IsUnready P a n st → IsUnready P b n st
unready-same P a b n (Greets h) e kept u = tt
unready-same P a b n (BoundTo t None) e kept u = tt
unready-same P a b n (BoundTo t (Some w)) e kept u = λ p. ap (λ k. ready k b.clock n w) (kept t) ∙ (ap (λ c. ready (kept_of_tenant a t) c n w) e ∙ u p)

-- a state in which what was not ready is not ready, at the same time
pub unready-quiet : (P : ℕ → Wait → Type 0) (a b : BrokerState) → b.clock ≡ a.clock → ((t n : ℕ) (w : Wait) → ready (kept_of_tenant a t) a.clock n w ≡ Silent → ready (kept_of_tenant b t) a.clock n w ≡ Silent) → (n : ℕ) (st : Stage) → IsUnready P a n st → IsUnready P b n st
unready-quiet P a b e quiet n (Greets h) u = tt
unready-quiet P a b e quiet n (BoundTo t None) u = tt
unready-quiet P a b e quiet n (BoundTo t (Some w)) u = λ p. ap (λ c. ready (kept_of_tenant b t) c n w) e ∙ quiet t n w (u p)

-- fewer waits pass
pub weaken : (P Q : ℕ → Wait → Type 0) (b : BrokerState) → ((t : ℕ) (w : Wait) → Q t w → P t w) → (n : ℕ) (st : Stage) → IsUnready P b n st → IsUnready Q b n st
weaken P Q b less n (Greets h) u = tt
weaken P Q b less n (BoundTo t None) u = tt
weaken P Q b less n (BoundTo t (Some w)) u = λ q. u (less t w q)

pub unready-weaken : (P Q : ℕ → Wait → Type 0) (b : BrokerState) → ((t : ℕ) (w : Wait) → Q t w → P t w) → AreUnready P b → AreUnready Q b
unready-weaken P Q b less u = all-map (λ l. IsUnready P b l.number l.session.stage) (λ l. IsUnready Q b l.number l.session.stage) (λ l. weaken P Q b less l.number l.session.stage) b.lines u

-- another connection at a place, while what was not ready is not ready
pub changed-quiet : (P : ℕ → Wait → Type 0) (b : BrokerState) (i : ℕ) (m : Line) (ps : List TenantState) (x : ℕ) → ((t n : ℕ) (w : Wait) → ready (kept_of_tenant b t) b.clock n w ≡ Silent → ready (hosted.kept_of ps t) b.clock n w ≡ Silent) → AreUnready P b → IsUnready P b m.number m.session.stage → AreUnready P (record b { lines = set b.lines i m; tenants = ps; unbound_refusals = x })
changed-quiet P b i m ps x quiet u here =
    let new = record b { lines = set b.lines i m; tenants = ps; unbound_refusals = x } in
    all-map (λ l. IsUnready P b l.number l.session.stage) (λ l. IsUnready P new l.number l.session.stage) (λ l. unready-quiet P b new refl quiet l.number l.session.stage) (set b.lines i m) (all-set (λ l. IsUnready P b l.number l.session.stage) b.lines i m u here)

-- or while the tenants keep the same
pub changed-unready : (P : ℕ → Wait → Type 0) (b : BrokerState) (i : ℕ) (m : Line) (ps : List TenantState) (x : ℕ) → ((t : ℕ) → hosted.kept_of ps t ≡ kept_of_tenant b t) → AreUnready P b → IsUnready P b m.number m.session.stage → AreUnready P (record b { lines = set b.lines i m; tenants = ps; unbound_refusals = x })
changed-unready P b i m ps x stays u here = changed-quiet P b i m ps x (λ t n w silent. ap (λ k. ready k b.clock n w) (stays t) ∙ silent) u here

-- 3. Another connection at a place

-- the broker with another connection at a place, other counts and other tenants
abbrev pub changed : BrokerState → ℕ → Line → List TenantState → ℕ → BrokerState
changed b i m ps x = record b { lines = set b.lines i m; tenants = ps; unbound_refusals = x }

-- the connection at a place, by its number
found-at : (b : BrokerState) (i : ℕ) (l : Line) → IsSound b → IsAt b.lines i l → find_line l.number b.lines ≡ Some l.session
found-at b i l s at = find-at 0 b.last b.lines i l s.rising at

found-set : (b : BrokerState) (i : ℕ) (l m : Line) → IsSound b → IsAt b.lines i l → m.number ≡ l.number → find_line l.number (set b.lines i m) ≡ Some m.session
found-set b i l m s at n = ap (λ k. find_line k (set b.lines i m)) (sym n) ∙ find-at 0 b.last (set b.lines i m) i m (rising-set 0 b.last b.lines i l m s.rising at n) (set-at b.lines i l m at)

bound-set_by : (b : BrokerState) (i : ℕ) (l m : Line) (yes : Bool) (k t : ℕ) → eqb k l.number ≡ yes → IsSound b → IsAt b.lines i l → m.number ≡ l.number → ((t : ℕ) → whose l.session.stage ≡ Some t → whose m.session.stage ≡ Some t)
    → bound_to k b ≡ Some t → bound_as (find_line k (set b.lines i m)) ≡ Some t
bound-set_by b i l m true k t f s at n stays e =
    let is : k ≡ l.number = eqb_same k l.number f in
    let before : whose l.session.stage ≡ Some t = sym (ap bound_as (found-at b i l s at)) ∙ (ap (λ j. bound_to j b) (sym is) ∙ e) in
    ap (λ j. bound_as (find_line j (set b.lines i m))) is ∙ (ap bound_as (found-set b i l m s at n) ∙ stays t before)
bound-set_by b i l m false k t f s at n stays e =
    let ne : k ≢ l.number = λ g. (let h : eqb k l.number ≡ true = grind (arith, nat_tests) in cc) in
    ap bound_as (find-set_other k b.lines i l m at n ne) ∙ e

-- what does not depend on what happened to the connection
pub changed-going : (b : BrokerState) (i : ℕ) (l m : Line) (ps : List TenantState) (x : ℕ) → IsSound b → IsAt b.lines i l → m.number ≡ l.number → length ps ≡ length b.tenants → InRange (length b.tenants) m.session.stage → Grows b (changed b i m ps x) →
    ((t : ℕ) → whose l.session.stage ≡ Some t → whose m.session.stage ≡ Some t) → IsGoing b (changed b i m ps x)
changed-going b i l m ps x s at n len r g stays = record {
  sound = record { rising = rising-set 0 b.last b.lines i l m s.rising at n; in_range = rw len (all-set _ b.lines i m s.in_range r); users = rw len s.users; clock = s.clock };
  grows = g;
  clock = refl;
  last = refl;
  numbers = numbers-set b.lines i l m at n;
  bound = λ k t e. bound-set_by b i l m (eqb k l.number) k t refl s at n stays e;
}

-- a connection that did not rest
changed-untouched_by : (b : BrokerState) (i : ℕ) (l m : Line) (yes : Bool) (k : ℕ) → eqb k l.number ≡ yes → IsSound b → IsAt b.lines i l → m.number ≡ l.number → is_resting (Some l.session) ≡ false
    → is_resting (find_line k b.lines) ≡ true → find_line k (set b.lines i m) ≡ find_line k b.lines
changed-untouched_by b i l m true k f s at n busy e =
    let is : k ≡ l.number = eqb_same k l.number f in
    let rests : is_resting (Some l.session) ≡ true = ap is_resting (sym (found-at b i l s at)) ∙ (ap (λ j. is_resting (find_line j b.lines)) (sym is) ∙ e) in
    let no : false ≡ true = sym busy ∙ rests in
    absurd (cc)
changed-untouched_by b i l m false k f s at n busy e = find-set_other k b.lines i l m at n (λ g. (let h : eqb k l.number ≡ true = grind (arith, nat_tests) in cc))

pub changed-untouched : (b : BrokerState) (i : ℕ) (l m : Line) (ps : List TenantState) (x : ℕ) → IsSound b → IsAt b.lines i l → m.number ≡ l.number → is_resting (Some l.session) ≡ false → AreUntouched b (changed b i m ps x)
changed-untouched b i l m ps x s at n busy = λ k e. changed-untouched_by b i l m (eqb k l.number) k refl s at n busy e

pub able-busy : (s : Session) → can s ≡ true → is_resting (Some s) ≡ false
able-busy s e = grind (arith, e)

-- 4. Whose connections may take turns

pub scope-later : (scope : Scope) (a b : BrokerState) (l : Line) → IsGoing a b → InScope scope a l → InScope scope b l
scope-later (Of n) a b l g (inl e) = inl e
scope-later (Of n) a b l g (inr h) = inr (h.0, g.bound n h.0 h.1, h.2)
scope-later Everybody a b l g (inl e) = absurd e
scope-later Everybody a b l g (inr h) = inr h

scope-moved : (scope : Scope) (b : BrokerState) (l m : Line) → m.number ≡ l.number → ((t : ℕ) → whose l.session.stage ≡ Some t → whose m.session.stage ≡ Some t) → InScope scope b l → InScope scope b m
scope-moved (Of n) b l m e stays (inl h) = inl (e ∙ h)
scope-moved (Of n) b l m e stays (inr h) = inr (h.0, h.1, stays h.0 h.2)
scope-moved Everybody b l m e stays (inl h) = absurd h
scope-moved Everybody b l m e stays (inr h) = inr (h.0, h.1, stays h.0 h.2)

-- the others as before, and the changed one where it may
pub changed-still : (scope : Scope) (b : BrokerState) (i : ℕ) (m : Line) (ps : List TenantState) (x : ℕ) → IsGoing b (changed b i m ps x) → AreStill scope b → IsStill scope (changed b i m ps x) m → AreStill scope (changed b i m ps x)
changed-still scope b i m ps x g still here =
    let new = changed b i m ps x in
    all-set (IsStill scope new) b.lines i m (all-map (IsStill scope b) (IsStill scope new) (λ l h c. scope-later scope b new l g (h c)) b.lines still) here

turned-still : (scope : Scope) (b : BrokerState) (i : ℕ) (l m : Line) (ps : List TenantState) (x : ℕ) → IsGoing b (changed b i m ps x) → AreStill scope b → InScope scope b l → m.number ≡ l.number →
    ((t : ℕ) → whose l.session.stage ≡ Some t → whose m.session.stage ≡ Some t) → AreStill scope (changed b i m ps x)
turned-still scope b i l m ps x g still inside n stays = changed-still scope b i m ps x g still (λ c. scope-later scope b (changed b i m ps x) m g (scope-moved scope b l m n stays inside))

-- an able connection's tenant is the scope's
pub scope-tenant : (scope : Scope) (b : BrokerState) (i u : ℕ) (l : Line) → IsSound b → IsAt b.lines i l → InScope scope b l → whose l.session.stage ≡ Some u → HasTenant scope b u
scope-tenant (Of n) b i u l s at (inl e) is = ap (λ k. bound_to k b) (sym e) ∙ (ap bound_as (found-at b i l s at) ∙ is)
scope-tenant (Of n) b i u l s at (inr h) is = h.1 ∙ (sym h.2 ∙ is)
scope-tenant Everybody b i u l s at inside is = tt

pub tenant-later : (scope : Scope) (a b : BrokerState) (u : ℕ) → IsGoing a b → HasTenant scope a u → HasTenant scope b u
tenant-later (Of n) a b u g h = g.bound n u h
tenant-later Everybody a b u g h = tt

-- a count of the scope's tenant
pub counted-tenant : (scope : Scope) (a b : BrokerState) (u : ℕ) → HasTenant scope b u → ((t : ℕ) → t ≢ u → refusals_of b t ≡ refusals_of a t) → b.unbound_refusals ≡ a.unbound_refusals → IsCountedIn scope a b
counted-tenant (Of n) a b u h own unbound = (λ t ne. own t (λ e. ne (h ∙ ap Some (sym e))), λ t e. unbound)
counted-tenant Everybody a b u h own unbound = unbound

-- a count for no tenant, where the connection has none
pub counted-unbound : (scope : Scope) (b : BrokerState) (i : ℕ) (l m : Line) (x : ℕ) → IsSound b → IsAt b.lines i l → InScope scope b l → whose l.session.stage ≡ None → IsCountedIn scope b (changed b i m b.tenants x)
counted-unbound (Of n) b i l m x s at (inl e) none = (λ t ne. refl, λ t is. (let no : Some t ≡ None = sym is ∙ (ap (λ k. bound_to k b) (sym e) ∙ (ap bound_as (found-at b i l s at) ∙ none)) in absurd (cc)))
counted-unbound (Of n) b i l m x s at (inr h) none = let no : Some h.0 ≡ None = sym h.2 ∙ none in absurd (cc)
counted-unbound Everybody b i l m x s at (inl e) none = absurd e
counted-unbound Everybody b i l m x s at (inr h) none = let no : Some h.0 ≡ None = sym h.2 ∙ none in absurd (cc)

-- 5. One turn

greeting-stays : (l m : Line) (h : Greeting) → l.session.stage ≡ Greets h → (t : ℕ) → whose l.session.stage ≡ Some t → whose m.session.stage ≡ Some t
greeting-stays l m h g t f = let none : None ≡ Some t = sym (ap whose g) ∙ f in absurd (cc)

-- a greeting connection takes a turn
pub greeting-going : (b : BrokerState) (i : ℕ) (l m : Line) (h : Greeting) → IsSound b → IsAt b.lines i l → l.session.stage ≡ Greets h → m.number ≡ l.number → m.session ≡ greeted b.setup h l.session → IsGoing b (changed b i m b.tenants b.unbound_refusals)
greeting-going b i l m h s at g n e =
    let in_range = subst (λ x. InRange (length b.tenants) x.stage) (sym e) (range-greeted (length b.tenants) b.setup h l.session s.users (all-at _ b.lines i l at s.in_range)) in
    changed-going b i l m b.tenants b.unbound_refusals s at n refl in_range (record { setup = refl; names = refl; own = λ t. omega arith; unbound = omega arith }) (greeting-stays l m h g)

-- and is shut, with a count, where its turn was refused
pub refused-going : (b : BrokerState) (i : ℕ) (l m : Line) (h : Greeting) (x : ℕ) → IsSound b → IsAt b.lines i l → l.session.stage ≡ Greets h → m.number ≡ l.number → m.session ≡ shut_down causes.Memory l.session → b.unbound_refusals ≤ x → IsGoing b (changed b i m b.tenants x)
refused-going b i l m h x s at g n e up =
    let in_range = subst (λ y. InRange (length b.tenants) y.stage) (sym e) (range-without (length b.tenants) l.session.stage (all-at _ b.lines i l at s.in_range)) in
    changed-going b i l m b.tenants x s at n refl in_range (record { setup = refl; names = refl; own = λ t. omega arith; unbound = up }) (greeting-stays l m h g)

-- the turn of a greeting connection
pub turned-greeting : (scope : Scope) (b : BrokerState) (i : ℕ) (l m : Line) (h : Greeting) → IsSound b → AreStill scope b → IsAt b.lines i l → first_able b.lines ≡ Some l → can l.session ≡ true →
    l.session.stage ≡ Greets h → m.number ≡ l.number → m.session ≡ greeted b.setup h l.session → Turned scope b (changed b i m b.tenants b.unbound_refusals)
turned-greeting scope b i l m h s still at able c g n e =
    let none : whose l.session.stage ≡ None = ap whose g in
    let lines : set b.lines i m ≡ each_line (on l.number (greeted b.setup h)) b.lines = set-on 0 b.last (greeted b.setup h) b.lines i l m s.rising at n e in
    let stays = greeting-stays l m h g in
    let going = greeting-going b i l m h s at g n e in
    record {
      going = going;
      still = turned-still scope b i l m b.tenants b.unbound_refusals going still (all-at (IsStill scope b) b.lines i l at still c) n stays;
      counted = counted-same scope b (changed b i m b.tenants b.unbound_refusals) (λ t. refl) refl;
      untouched = changed-untouched b i l m b.tenants b.unbound_refusals s at n (able-busy l.session c);
      unready = λ u. changed-unready AnyWait b i m b.tenants b.unbound_refusals (λ t. refl) u (free-unready AnyWait b m.number m.session.stage (ap (λ (x : Session). is_free x.stage) e ∙ free-greeted b.setup h l.session (ap is_free g)));
      held = λ k. stranded-greeted b i l m b.unbound_refusals s at n (ap is_free g) k;
      mine = λ t mine es k calm. owns-fates b.setup t mine b.last es b.lines (set b.lines i m) (pairwise-set (SameFate b.setup) (fate-same b.setup) b.lines i l m at (fate-greeted b.setup h l m g n e)) k;
      view = λ t mine es k calm.
          let w = view_of t mine b in
          ap (λ x. turns (record w { lines = those mine x })) lines ∙ view-greeting mine w b.lines l h (mine l.number) refl able g refl;
    }

-- a greeting connection whose reply or request could not be kept is shut, with a count
pub refused-greeting : (scope : Scope) (b : BrokerState) (i : ℕ) (l m : Line) (h : Greeting) (x : ℕ) → IsSound b → AreStill scope b → IsAt b.lines i l → can l.session ≡ true →
    l.session.stage ≡ Greets h → m.number ≡ l.number → m.session ≡ shut_down causes.Memory l.session → b.unbound_refusals ≤ x → (IsCalm b.unbound_refusals x → ⊥) → Turned scope b (changed b i m b.tenants x)
refused-greeting scope b i l m h x s still at c g n e up rises =
    let none : whose l.session.stage ≡ None = ap whose g in
    let stays = greeting-stays l m h g in
    let going = refused-going b i l m h x s at g n e up in
    let inside = all-at (IsStill scope b) b.lines i l at still c in
    record {
      going = going;
      still = turned-still scope b i l m b.tenants x going still inside n stays;
      counted = counted-unbound scope b i l m x s at inside none;
      untouched = changed-untouched b i l m b.tenants x s at n (able-busy l.session c);
      unready = λ u. changed-unready AnyWait b i m b.tenants x (λ t. refl) u (subst (λ (y : Session). IsUnready AnyWait b m.number y.stage) (sym e) (shut-unready AnyWait b m.number l.session));
      held = λ k. stranded-greeted b i l m x s at n (ap is_free g) k;
      mine = λ t mine es k calm. absurd (rises calm);
      view = λ t mine es k calm. absurd (rises calm.unbound);
    }

-- two bound lines of one tenant have the same fate
pub fate-two : (b : BrokerState) (u : ℕ) (l m : Line) → IsBound u l.session → IsBound u m.session → m.number ≡ l.number → SameFate b.setup l m
fate-two b u l m p q n = record { number = n; fate = λ es. fate-bound b.setup l.number m.session es u q ∙ sym (fate-bound b.setup l.number l.session es u p) }

pub bound-mine : (b : BrokerState) (i u : ℕ) (l m : Line) → IsAt b.lines i l → IsBound u l.session → IsBound u m.session → m.number ≡ l.number →
    (t : ℕ) (mine : ℕ → Bool) (es : List Happening) → Mine t mine es b → OwnsLines b.setup t mine b.last es (set b.lines i m)
bound-mine b i u l m at p q n t mine es k = owns-fates b.setup t mine b.last es b.lines (set b.lines i m) (pairwise-set (SameFate b.setup) (fate-same b.setup) b.lines i l m at (fate-two b u l m p q n)) k

-- to another tenant, what happens to a bound connection is nothing
pub hidden : (b : BrokerState) (i u : ℕ) (l m : Line) → IsSound b → IsAt b.lines i l → IsBound u l.session → m.number ≡ l.number →
    (t : ℕ) (mine : ℕ → Bool) (es : List Happening) → Mine t mine es b → t ≢ u → those mine (set b.lines i m) ≡ those mine b.lines
hidden b i u l m s at p n t mine es k ne =
    let is : mine l.number ≡ eqb u t = mine-bound b.setup t mine es l u p (all-at (IsMine b.setup t mine es) b.lines i l at k.now) in
    let no : mine l.number ≡ false = is ∙ grind (arith, nat_tests) in
    ap (those mine) (set-on 0 b.last (λ x. m.session) b.lines i l m s.rising at n refl) ∙ those-on_other mine l.number (λ x. m.session) b.lines no

-- it is in the tenant's own view
pub shown : (b : BrokerState) (i u : ℕ) (l : Line) → IsAt b.lines i l → IsBound u l.session → (mine : ℕ → Bool) (es : List Happening) → Mine u mine es b → mine l.number ≡ true
shown b i u l at p mine es k = mine-bound b.setup u mine es l u p (all-at (IsMine b.setup u mine es) b.lines i l at k.now) ∙ grind (arith, nat_tests)

pub bound-stays : (u : ℕ) (l m : Line) → IsBound u l.session → IsBound u m.session → (t : ℕ) → whose l.session.stage ≡ Some t → whose m.session.stage ≡ Some t
bound-stays u l m p q t e = ap whose q.is ∙ (sym (ap whose p.is) ∙ e)

-- a call for a bound connection's tenant, and another connection in its place
pub called-going : (b : BrokerState) (i u : ℕ) (l m : Line) (H : Type 0) (ts : List TenantState) → IsSound b → IsAt b.lines i l → IsBound u l.session → m.number ≡ l.number → without_wait m.session.stage ≡ without_wait l.session.stage →
    IsTurn u H b.tenants ts → IsGoing b (changed b i m ts b.unbound_refusals)
called-going b i u l m H ts s at p n same turn =
    let q : IsBound u m.session = bound-same u l.session m.session p same in
    let in_range = range-same (length b.tenants) l.session.stage m.session.stage same (all-at _ b.lines i l at s.in_range) in
    changed-going b i l m ts b.unbound_refusals s at n (turn-length u H b.tenants ts turn) in_range (turn-grows b u H ts turn (set b.lines i m)) (bound-stays u l m p q)

-- what another tenant sees of it
pub called-others : (b : BrokerState) (i u : ℕ) (l m : Line) (H : Type 0) (ts : List TenantState) → IsSound b → IsAt b.lines i l → IsBound u l.session → m.number ≡ l.number → IsTurn u H b.tenants ts → H →
    (t : ℕ) (mine : ℕ → Bool) (es : List Happening) → Mine t mine es b → t ≢ u → view_of t mine (changed b i m ts b.unbound_refusals) ≡ view_of t mine b
called-others b i u l m H ts s at p n turn honest t mine es k ne =
    ap (λ z. record (view_of t mine b) { kept = hosted.kept_of ts t; lines = z }) (hidden b i u l m s at p n t mine es k ne)
    ∙ ap (λ z. record (view_of t mine b) { kept = z }) (turn.others honest t ne)

-- of the other tenants no wait becomes ready
served-unready : (b : BrokerState) (i u : ℕ) (m : Line) (H : Type 0) (ts : List TenantState) → IsTurn u H b.tenants ts → H → IsBound u m.session → AreUnready AnyWait b → AreUnready (λ t w. t ≢ u) (changed b i m ts b.unbound_refusals)
served-unready b i u m H ts turn honest q k =
    let new = changed b i m ts b.unbound_refusals in
    all-set (λ l. IsUnready (λ t w. t ≢ u) new l.number l.session.stage) b.lines i m (all-map (λ l. IsUnready AnyWait b l.number l.session.stage) (λ l. IsUnready (λ t w. t ≢ u) new l.number l.session.stage) (λ l. other b u new (λ t ne. turn.others honest t ne) l.number l.session.stage) b.lines k)
    (subst (IsUnready (λ t w. t ≢ u) new m.number) (sym q.is) (own u new m.number q.wait))
  where
    other : (b : BrokerState) (u : ℕ) (new : BrokerState) → ((t : ℕ) → t ≢ u → hosted.kept_of ts t ≡ kept_of_tenant b t) → (n : ℕ) (st : Stage) → IsUnready AnyWait b n st → IsUnready (λ t w. t ≢ u) (changed b i m ts b.unbound_refusals) n st
    other b u new kept n (Greets h) k = tt
    other b u new kept n (BoundTo t None) k = tt
    other b u new kept n (BoundTo t (Some w)) k = λ ne. ap (λ x. ready x b.clock n w) (kept t ne) ∙ k tt

    own : (u : ℕ) (new : BrokerState) (n : ℕ) (w : Option Wait) → IsUnready (λ t w. t ≢ u) new n (BoundTo u w)
    own u new n None = tt
    own u new n (Some w) = λ ne. absurd (ne refl)

-- the turn of a bound connection, which is a call for its tenant: where nothing was refused to the tenant, it is the machine's
pub served-bound : (scope : Scope) (b : BrokerState) (i u : ℕ) (l m : Line) (w : Option Wait) (H : Type 0) (ts : List TenantState) → IsSound b → AreStill scope b → IsAt b.lines i l → first_able b.lines ≡ Some l → can l.session ≡ true →
    l.session.stage ≡ BoundTo u w → m.number ≡ l.number → without_wait m.session.stage ≡ without_wait l.session.stage → IsTurn u H b.tenants ts → H →
    (IsCalm (count b.tenants u) (count ts u) → (m.session ≡ after_turn (for_tenant b.setup u) (kept_of_tenant b u) b.clock l.number l.session) × (hosted.kept_of ts u ≡ kept_by_turn (for_tenant b.setup u) (kept_of_tenant b u) b.clock l.number (in_front l.session))) →
    (NoneStranded b → NoneStranded (changed b i m ts b.unbound_refusals)) → Served u scope b (changed b i m ts b.unbound_refusals)
served-bound scope b i u l m w H ts s still at able c g n same turn honest meets held =
    let p : IsBound u l.session = record { wait = w; is = g } in
    let q : IsBound u m.session = bound-same u l.session m.session p same in
    let new = changed b i m ts b.unbound_refusals in
    let going = called-going b i u l m H ts s at p n same turn in
    let inside = all-at (IsStill scope b) b.lines i l at still c in
    let tenant = tenant-later scope b new u going (scope-tenant scope b i u l s at inside (ap whose g)) in
    record {
      going = going;
      still = turned-still scope b i l m ts b.unbound_refusals going still inside n (bound-stays u l m p q);
      counted = counted-tenant scope b new u tenant (λ t ne. turn.counts t ne) refl;
      untouched = changed-untouched b i l m ts b.unbound_refusals s at n (able-busy l.session c);
      tenants = tenant;
      unready = λ k. served-unready b i u m H ts turn honest q k;
      held = held;
      mine = λ t mine es k. bound-mine b i u l m at p q n t mine es k;
      others = λ t mine es k ne. called-others b i u l m H ts s at p n turn honest t mine es k ne;
      view = λ mine es k calm.
          let done = meets calm in
          let x = view_of u mine b in
          let lines : set b.lines i m ≡ each_line (on l.number (after_turn (for_tenant b.setup u) (kept_of_tenant b u) b.clock l.number)) b.lines = set-on 0 b.last (after_turn (for_tenant b.setup u) (kept_of_tenant b u) b.clock l.number) b.lines i l m s.rising at n done.0 in
          ap (λ z. turns (all_woken (record x { kept = hosted.kept_of ts u; lines = those mine z }))) lines
          ∙ (ap (λ z. turns (all_woken (record x { kept = z; lines = those mine (each_line (on l.number (after_turn (for_tenant x.setup u) x.kept x.clock l.number)) b.lines) }))) done.1
          ∙ view-served mine x b.lines l u w able g refl (shown b i u l at p mine es k));
    }
