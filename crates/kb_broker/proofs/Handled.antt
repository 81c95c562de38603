-- What the broker's steps leave of it.
use Rattle.std.proofs.Common.{◌≡◌, ◌≢◌, ◌++◌, ◌+◌, ◌<◌, ℕ, List, [], ◌∷◌, length, get_or, set, eqb, Some, None, Result, Ok, Err, OnOk, OnErr, Bool, true, false, suc, inl, inr, refl, sym, ◌∙◌, ap, subst, arith}
use Rattle.std.specs.Prelude.{max, pos, Contains, ◌^◌, ◌≤◌, ◌⊎◌, None, not, cond, nat_lt, Option}
use Rattle.std.specs.List.{position, position_or_len}
use Rattle.std.specs.declared.alloc.Global.{Global}
use Rattle.std.specs.declared.vec.Vec.{Vec}
use Rattle.kb_tenants.specs.Tenants.{IsQuietBut}
use Rattle.kb_tenant.specs.Serve.{looked}
use Rattle.std.proofs.lemmas.List.Quantifiers.{position-Some}
use Rattle.std.specs.Result.{is_err}
use Rattle.std.specs.List.{AllByRecursion}
use Rattle.std.proofs.lemmas.Bool.Decides.{nat_tests}
use Rattle.std.proofs.lemmas.List.{get_or_default, length-map}
use Rattle.kb_tenant_state.specs.Counts.{IsCalm, counted_once}
use Rattle.kb_tenant_api.specs.Hosted.{Kept, TenantState, names_of, refusals_of}
use Rattle.kb_tenant_api.specs.Turns.{IsTurn, HavePassed}
use Rattle.kb_isolation_spec.specs.declared.shut.Shut.TheVariants as causes
use Rattle.kb_isolation_spec.specs.Session.{Stage, Greets, BoundTo, Session, new_session, shut_down, without_wait, is_free, fed, overruns, room, can}
use Rattle.kb_tenant_api.specs.Hosted as hosted
use Rattle.kb_tenant.specs.Replies.{Silent}
use Rattle.kb_isolation_spec.specs.Tenant.{Awaited, Records, Group, Wait, ready, ready_for}
use Rattle.kb_isolation_spec.specs.Greeting.{User}
use Rattle.kb_isolation_spec.specs.Versions.{no_head}
use Rattle.kb_isolation_spec.specs.Machine.{Happening, Comes, Moment, Line, find_line, first_able, stepped, turns, work}
use Rattle.kb_isolation_spec.specs.Owners.{whose}
use Rattle.kb_isolation_spec.specs.Calls.{left_by}
use Rattle.kb_isolation_spec.specs.Broker.{BrokerState, AreUnready, AnyWait, InRange, IsCalmFor, IsReady, IsSound, IsStep, IsUnready, IsUntaken, Mine, is_deaf, view_of}
use Rattle.kb_isolation_spec.specs.declared.whom.Whom.TheVariants as whoms
use Rattle.kb_isolation_spec.specs.Turned.{Scope, Of, Everybody, IsStill, AreStill, IsGoing, is_resting, IsFed, SameOthers, Turned, Served, Waked, IsPassedOver}
use Rattle.kb_isolation_spec.proofs.Sets.{IsAt, all-at, all-map, all-still, find-set_other, work-set, first-still, still-none}
use Rattle.kb_isolation_spec.proofs.Parts.{count, each-tenant, turn-then, calm-right, eqb_same}
use Rattle.kb_isolation_spec.proofs.Owned.{found as found-all}
use Rattle.kb_isolation_spec.proofs.Steps.{begun, sound-begun, due-unready, step-moment}
use Rattle.kb_isolation_spec.proofs.Leaving.{left_fed, kept-unfed, left-names, left-other, left-own, left-refusals, names-fed, own-whose, ready-fed, ready-left, refusals-fed}
use Rattle.kb_isolation_spec.proofs.Owners.{IsMine}
use Rattle.kb_tenants.proofs.Passed.{length_named}
use Rattle.kb_isolation_spec.proofs.Turns.{going-then, unready-quiet, untouched-then, turned-greeting, called-going, greeting-going, refused-going, served-bound, refused-greeting}
use Rattle.kb_isolation_spec.proofs.Feeds.{still-settled, fed-kept, fed-refused, fed-loud, step-comes, step-nothing, step-shut}
use Rattle.kb_connection.specs.View.{with_session}
use Rattle.kb_isolation_spec.specs.Stranded.{NoneStranded}
use Rattle.kb_isolation_spec.proofs.Stranded.{left-nobody, spared-left, spared-served, stranded-begun, stranded-left, stranded-over, stranded-served}
use Rattle.kb_broker.specs.Places.{numbers, number_at, waits_in, LeavesQuietBut, IsSpent, IsTakenAt, IsMemberTurnAt, IsWaitTurnAt, IsTurnAt, AreIdle, IsNext, IsScoped, IsCountedAt, IsCountedFor, IsServedAt}
use Rattle.kb_broker.specs.Parked.{deadline_at, IsReadyAmong, IsServedFor, IsWhose, IsAllOf}
use Rattle.kb_broker.specs.declared.serving.Concerned.{Concerned}
use Rattle.kb_broker.specs.declared.serving.Concerned.TheVariants as concerned
use Rattle.kb_broker.proofs.Once.{once-grows, once-loud}
use Rattle.kb_broker.proofs.Parked.{among}
use Rattle.kb_broker.proofs.Placed.{IsFound, at-read, get-at, find-found, number_at-is}

-- 1. A connection at a place changes

-- the connection at a place is another
abbrev pub put_at : BrokerState → ℕ → Line → BrokerState
put_at b i m = record b { lines = set b.lines i m }

pub from_err : {A E : Type 0} (r : Result A E) (b : Bool) (P : Type 0) → b ≡ is_err r → b ≡ true → OnErr r P → P
from_err (Ok x) b P e t h = let no : false ≡ true = sym e ∙ t in absurd (cc)
from_err (Err x) b P e t h = h

pub from_ok : {A E : Type 0} (r : Result A E) (b : Bool) (P : Type 0) → b ≡ is_err r → b ≡ false → OnOk r P → P
from_ok (Ok x) b P e t h = h
from_ok (Err x) b P e t h = let no : true ≡ false = sym e ∙ t in absurd (cc)

-- fewer unread bytes there are fewer unread bytes of all
pub work-put : (b : BrokerState) (i : ℕ) (l m : Line) (ls : List Line) → IsAt b.lines i l → ls ≡ set b.lines i m → length m.session.unread < length l.session.unread → work ls < work b.lines
work-put b i l m ls at e lt = let h = work-set b.lines i l m at in let f = ap work e in omega (arith, h, f)

-- The piece was taken, where a is what is left of b once a member of a group that waited on a connection that it overruns waits no
-- longer.
pub record IsLeftFed (piece : List ℕ) (a b : BrokerState) (i : ℕ) (l : Line) : Type 0 where
  pub at : IsAt b.lines i l
  pub is : a ≡ record b { tenants = left_fed piece b.clock l.number l.session b.tenants }

pub left-over : (d a b : BrokerState) (i : ℕ) (l : Line) (piece : List ℕ) → d ≡ a → IsAt b.lines i l → overruns piece l.session ≡ true → ((x : Line) → let k = get_or b.lines i x in a ≡ record b { tenants = left_by b.clock k.number k.session.stage b.tenants }) → IsLeftFed piece d b i l
left-over d a b i l piece e at over left = record {
  at = at;
  is = e ∙ (left l
      ∙ (ap (λ (x : Line). record b { tenants = left_by b.clock x.number x.session.stage b.tenants }) (sym at.here)
      ∙ ap (λ (x : Bool). record b { tenants = cond x (left_by b.clock l.number l.session.stage b.tenants) b.tenants }) (sym over)));
}

pub left-under : (d b : BrokerState) (i : ℕ) (l : Line) (piece : List ℕ) → d ≡ b → IsAt b.lines i l → overruns piece l.session ≡ false → IsLeftFed piece d b i l
left-under d b i l piece e at under = record { at = at; is = e ∙ ap (λ (x : Bool). record b { tenants = cond x (left_by b.clock l.number l.session.stage b.tenants) b.tenants }) (sym under) }

-- the connection that then stands at the place, where c is what the broker's own fields are, is that one
pub left-there : (c a b : BrokerState) (i : ℕ) (k l : Line) (piece : List ℕ) → c ≡ a → IsLeftFed piece a b i k → l ≡ get_or c.lines i l → IsLeftFed piece a b i l
left-there c a b i k l piece e h read =
    let here : l ≡ get_or b.lines i l = read ∙ ap (λ (x : BrokerState). get_or x.lines i l) (e ∙ h.is) in
    let same : k ≡ l = h.at.here ∙ (get_or_default b.lines i k l h.at.within ∙ sym here) in
    subst (IsLeftFed piece a b i) same h

pub fed-put : (a b : BrokerState) (i : ℕ) (l m : Line) (piece : List ℕ) → IsLeftFed piece a b i l → IsSound b → first_able b.lines ≡ None → m ≡ with_session l (fed piece l.session) → IsFed (number_at i b) piece b (put_at a i m)
fed-put a b i l m piece left sound settled is =
    let ts = left_fed piece b.clock l.number l.session b.tenants in
    let f = fed-kept b i l m piece ts sound settled left.at (ap (λ (x : Line). x.number) is) (ap (λ (x : Line). x.session) is) refl in
    let g : IsFed (number_at i b) piece b (put_at (record b { tenants = ts }) i m) = subst (λ n. IsFed n piece b (put_at (record b { tenants = ts }) i m)) (sym (number_at-is b i l left.at)) f in
    subst (λ (x : BrokerState). IsFed (number_at i b) piece b (put_at x i m)) (sym left.is) g

-- 2. A turn was taken

-- the connection at a place is another, and so are the tenants
abbrev pub put_with : BrokerState → ℕ → Line → List TenantState → BrokerState
put_with b i m us = record b { lines = set b.lines i m; tenants = us }

-- of the connection at a place and of the tenants, what its turn left in any case
pub record IsTaken (H : Type 0) (b : BrokerState) (i : ℕ) (l m : Line) (us : List TenantState) : Type 0 where
  pub next : IsNext i b
  pub at : IsAt b.lines i l
  pub able : can l.session ≡ true
  pub number : m.number ≡ l.number
  pub spent : IsSpent l.session m.session
  pub turn : IsTurnAt H l.session.stage b.tenants us
  pub waits : IsWaitTurnAt l.number l.session.stage b.tenants us

first-can : (ls : List Line) (l : Line) → first_able ls ≡ Some l → can l.session ≡ true
first-can [] l e = absurd (cc)
first-can (k ∷ ls) l e = by (can k.session) refl (first-can ls l) e
  where
    by : (b : Bool) → can k.session ≡ b → (first_able ls ≡ Some l → can l.session ≡ true) → cond b (Some k) (first_able ls) ≡ Some l → can l.session ≡ true
    by true c rest f = let same : k ≡ l = cc in ap (λ (x : Line). can x.session) (sym same) ∙ c
    by false c rest f = rest f

first-at : (b : BrokerState) (i : ℕ) (l : Line) → IsNext i b → IsAt b.lines i l → first_able b.lines ≡ Some l
first-at b i l next at = next.first l ∙ ap Some (sym at.here)

pub next-can : (b : BrokerState) (i : ℕ) (l : Line) → IsNext i b → IsAt b.lines i l → can l.session ≡ true
next-can b i l next at = first-can b.lines l (first-at b i l next at)

-- the same, where a is what the broker's own fields are
pub taken-at : (H : Type 0) (a b : BrokerState) (i : ℕ) (l m : Line) (us : List TenantState) → a ≡ b → IsNext i b → l ≡ get_or a.lines i l → m.number ≡ l.number → IsSpent l.session m.session → IsTurnAt H l.session.stage a.tenants us → IsWaitTurnAt l.number l.session.stage a.tenants us → IsTaken H b i l m us
taken-at H a b i l m us e next read n spent turn waits =
    let at = at-read a b i l e next.within read in
    record {
      next = next;
      at = at;
      able = next-can b i l next at;
      number = n;
      spent = spent;
      turn = subst (λ (x : BrokerState). IsTurnAt H l.session.stage x.tenants us) e turn;
      waits = subst (λ (x : BrokerState). IsWaitTurnAt l.number l.session.stage x.tenants us) e waits;
    }

-- one that can take a turn does not wait
free-stage : (st : Stage) → is_free st ≡ true → without_wait st ≡ st
free-stage (Greets h) e = refl
free-stage (BoundTo t None) e = refl
free-stage (BoundTo t (Some w)) e = let no : false ≡ true = e in absurd (cc)

able-free : (s : Session) → can s ≡ true → is_free s.stage ≡ true
unfolding can
able-free s e = grind (arith, e)

pub able-stage : (s : Session) → can s ≡ true → without_wait s.stage ≡ s.stage
able-stage s e = free-stage s.stage (able-free s e)

-- the connection and the tenants, whatever the store says
pub taken-going : (H : Type 0) (b : BrokerState) (i : ℕ) (l m : Line) (us : List TenantState) (st : Stage) → IsTaken H b i l m us → l.session.stage ≡ st → IsTurnAt H st b.tenants us → IsTakenAt H b.setup b.clock l.number st b.tenants us l.session m.session → IsGoing b (put_with b i m us)
taken-going H b i l m us (Greets h) k s turn is = subst (λ ts. IsGoing b (put_with b i m ts)) (sym turn) (greeting-going b i l m h k.next.sound k.at s k.number is)
taken-going H b i l m us (BoundTo t w) k s turn is = called-going b i t l m H us k.next.sound k.at (record { wait = w; is = s }) k.number (k.spent.stage t w s) turn

-- nothing was refused to the connection
pub served-taken : (H : Type 0) → H → (scope : Scope) (b : BrokerState) (i : ℕ) (l m : Line) (us : List TenantState) (st : Stage) → AreStill scope b → IsTaken H b i l m us → l.session.stage ≡ st → IsTurnAt H st b.tenants us → IsTakenAt H b.setup b.clock l.number st b.tenants us l.session m.session → IsMemberTurnAt l.number l.session.stage b.tenants us m.session.stage →
    IsServedAt st scope b (put_with b i m us)
served-taken H honest scope b i l m us (Greets h) still k s turn is member = subst (λ ts. Turned scope b (put_with b i m ts)) (sym turn) (turned-greeting scope b i l m h k.next.sound still k.at (first-at b i l k.next k.at) k.able s k.number is)
served-taken H honest scope b i l m us (BoundTo t w) still k s turn is member = served-bound scope b i t l m w H us k.next.sound still k.at (first-at b i l k.next k.at) k.able s k.number (k.spent.stage t w s) turn honest (is honest)
    (λ held. stranded-served b i t l m us b.unbound_refusals k.next.sound k.at k.number (able-free l.session k.able) (λ u ne. turn.others honest u ne)
    (spared-served b i t l (hosted.kept_of us t).groups k.next.sound k.at (able-free l.session k.able) held (subst (λ st. IsWaitTurnAt l.number st b.tenants us) s k.waits))
    (subst (λ st. IsMemberTurnAt l.number st b.tenants us m.session.stage) s member) held)

-- whose waiting requests are then looked at
pub served-for : (c : Concerned) (st : Stage) (scope : Scope) (b d : BrokerState) → (c ≡ concerned.Nobody → ⊥) → IsWhose c st → IsServedAt st scope b d → IsServedFor c scope b d
served-for concerned.Nobody st scope b d some who s = absurd (some refl)
served-for (concerned.These t ns) (Greets h) scope b d some who s = absurd (cc)
served-for (concerned.These t ns) (BoundTo u w) scope b d some who s = let is : u ≡ t = cc in subst (λ v. Served v scope b d) is s
served-for (concerned.All t) (Greets h) scope b d some who s = absurd (cc)
served-for (concerned.All t) (BoundTo u w) scope b d some who s = let is : u ≡ t = cc in subst (λ v. Served v scope b d) is s

pub refused-for : (c : Concerned) (st : Stage) (scope : Scope) (b d : BrokerState) → IsAllOf c st → IsServedAt st scope b d → IsServedFor c scope b d
refused-for concerned.Nobody (Greets h) scope b d all s = s
refused-for concerned.Nobody (BoundTo u w) scope b d all s = absurd (cc)
refused-for (concerned.These t ns) st scope b d all s = absurd all
refused-for (concerned.All t) (Greets h) scope b d all s = absurd (cc)
refused-for (concerned.All t) (BoundTo u w) scope b d all s = let is : u ≡ t = cc in subst (λ v. Served v scope b d) is s

-- no other connection has changed
pub others-put : (b : BrokerState) (i : ℕ) (l m : Line) (ls : List Line) → IsAt b.lines i l → m.number ≡ l.number → ls ≡ set b.lines i m → (k : ℕ) → k ≢ number_at i b → find_line k ls ≡ find_line k b.lines
others-put b i l m ls at n is k ne = ap (find_line k) is ∙ find-set_other k b.lines i l m at n (λ e. ne (e ∙ sym (number_at-is b i l at)))

pub work-taken : (H : Type 0) (b : BrokerState) (i : ℕ) (l m : Line) (us : List TenantState) → IsTaken H b i l m us → work (put_with b i m us).lines < work b.lines
work-taken H b i l m us h = work-put b i l m (set b.lines i m) h.at refl h.spent.less

-- 3. A connection was shut at a place, with a count

pub record IsShut (b c : BrokerState) (i : ℕ) (l m : Line) : Type 0 where
  pub at : IsAt b.lines i l
  pub is : m ≡ with_session l (shut_down causes.Memory l.session)
  pub counted : IsCountedAt l.number l.session.stage (put_at b i m) c

-- waiting or not, it is counted for the same
counted-stage : (n : ℕ) (st : Stage) (b c : BrokerState) → IsCountedAt n (without_wait st) b c → IsCountedAt n st b c
counted-stage n (Greets h) b c r = r
counted-stage n (BoundTo t w) b c r = r

pub shut-at : (a b c : BrokerState) (i n : ℕ) (k l m : Line) (st : Stage) → a ≡ b → i < length b.lines → k ≡ get_or a.lines i k → l ≡ get_or a.lines i l → n ≡ l.number → st ≡ without_wait k.session.stage → m ≡ with_session l (shut_down causes.Memory l.session) → IsCountedAt n st (put_at a i m) c → IsShut b c i l m
shut-at a b c i n k l m st e lt read at number s is counted =
    let here = at-read a b i l e lt at in
    let there = at-read a b i k e lt read in
    let same : k ≡ l = there.here ∙ (get_or_default b.lines i k l lt ∙ sym here.here) in
    let stage : st ≡ without_wait l.session.stage = s ∙ ap (λ (x : Line). without_wait x.session.stage) same in
    record { at = here; is = is; counted = counted-stage l.number l.session.stage (put_at b i m) c (subst (λ x. IsCountedAt l.number x (put_at b i m) c) stage (subst (λ (x : BrokerState). IsCountedAt l.number st (put_at x i m) c) e (subst (λ k. IsCountedAt k st (put_at a i m) c) number counted))) }

pub lines-counted : (n : ℕ) (st : Stage) (b c : BrokerState) → IsCountedAt n st b c → c.lines ≡ b.lines
lines-counted n (Greets h) b c r = ap (λ (x : BrokerState). x.lines) r.is
lines-counted n (BoundTo t w) b c r = ap (λ (x : BrokerState). x.lines) r.is

pub names-counted : (n : ℕ) (st : Stage) (b c : BrokerState) → IsCountedAt n st b c → names_of c.tenants ≡ names_of b.tenants
names-counted n (Greets h) b c r = ap (λ (x : BrokerState). names_of x.tenants) r.is
names-counted n (BoundTo t w) b c r = r.turn.names

pub counts-counted : (n : ℕ) (st : Stage) (b c : BrokerState) → IsCountedAt n st b c → (u : ℕ) → refusals_of b.tenants u ≤ refusals_of c.tenants u
counts-counted n (Greets h) b c r u = let same = ap (λ (x : BrokerState). refusals_of x.tenants u) r.is in omega (arith, same)
counts-counted n (BoundTo t w) b c r u = r.turn.grows u

-- something was refused to the tenant
loud-counted : (t n : ℕ) (b c : BrokerState) → IsCountedFor t n b c → IsCalm (refusals_of b.tenants t) (refusals_of c.tenants t) → ⊥
loud-counted t n b c r = once-loud (refusals_of b.tenants t) (refusals_of c.tenants t) r.once

-- what waits is as ready as before
ready-counted : (t n : ℕ) (b c : BrokerState) → IsCountedFor t n b c → (u at k : ℕ) (w : Wait) → ready (hosted.kept_of b.tenants u) at k w ≡ Silent → ready (hosted.kept_of c.tenants u) at k w ≡ Silent
ready-counted t n b c r u at k w = each-tenant (λ v. ready (hosted.kept_of b.tenants v) at k w ≡ Silent → ready (hosted.kept_of c.tenants v) at k w ≡ Silent) t u (eqb t u) refl
    (λ silent. ap (λ x. ready x at k w) r.left ∙ (ready-left b.clock n (hosted.kept_of b.tenants t) at k w ∙ silent))
    (λ ne silent. ap (λ x. ready x at k w) (r.turn.others tt u ne) ∙ silent)

fed-counted : (b c : BrokerState) (i : ℕ) (l m : Line) (piece : List ℕ) (st : Stage) → IsSound b → first_able b.lines ≡ None → IsAt b.lines i l → l.session.stage ≡ st → m.number ≡ l.number → m.session ≡ shut_down causes.Memory l.session → IsCountedAt l.number st (put_at b i m) c → IsFed l.number piece b c
fed-counted b c i l m piece (Greets h) sound settled at s n e r =
    subst (λ x. IsFed l.number piece b x) (sym r.is) (fed-refused b i l m piece h c.unbound_refusals sound settled at s n e
    (once-grows b.unbound_refusals c.unbound_refusals r.once) (once-loud b.unbound_refusals c.unbound_refusals r.once))
fed-counted b c i l m piece (BoundTo t w) sound settled at s n e r =
    subst (λ x. IsFed l.number piece b x) (sym r.is) (fed-loud b i t l m piece w (Unit {0}) c.tenants sound settled at s n e r.turn tt (λ u k x. ready-counted t l.number (put_at b i m) c r u b.clock k x) (once-loud (refusals_of b.tenants t) (refusals_of c.tenants t) r.once)
    (λ held. stranded-left b i t l m w c.tenants b.unbound_refusals b.clock sound at n s (λ u ne. r.turn.others tt u ne) r.left held))

-- names stay, and each tenant is still one of the broker's
length-fed : (piece : List ℕ) (clock n : ℕ) (s : Session) (ts : List TenantState) → length (left_fed piece clock n s ts) ≡ length ts
length-fed piece clock n s ts = length_named ts (left_fed piece clock n s ts) (names-fed piece clock n s ts)

sound-fed : (b : BrokerState) (piece : List ℕ) (l : Line) → IsSound b → IsSound (record b { tenants = left_fed piece b.clock l.number l.session b.tenants })
sound-fed b piece l s =
    let many = length-fed piece b.clock l.number l.session b.tenants in
    record {
      rising = s.rising;
      in_range = subst (λ k. AllByRecursion (λ (x : Line). InRange k x.session.stage) b.lines) (sym many) s.in_range;
      users = subst (λ k. AllByRecursion (λ (u : User). u.tenant < k) b.setup.users) (sym many) s.users;
      clock = s.clock;
    }

without-range : (n : ℕ) (st : Stage) → InRange n st → InRange n (without_wait st)
without-range n (Greets h) r = tt
without-range n (BoundTo t w) r = r

pub range-fed : (a b : BrokerState) (i : ℕ) (l : Line) (piece : List ℕ) (st : Stage) → IsSound b → IsLeftFed piece a b i l → st ≡ without_wait l.session.stage → InRange (length a.tenants) st
range-fed a b i l piece st sound left e =
    let d = record b { tenants = left_fed piece b.clock l.number l.session b.tenants } in
    let here = all-at (λ (x : Line). InRange (length d.tenants) x.session.stage) b.lines i l left.at (sound-fed b piece l sound).in_range in
    subst (λ (x : BrokerState). InRange (length x.tenants) st) (sym left.is) (subst (InRange (length d.tenants)) (sym e) (without-range (length d.tenants) l.session.stage here))

-- what the piece leaves then, where it is counted for the connection's tenant, is left of the state before
fed-since : (b c : BrokerState) (i u : ℕ) (l : Line) (w : Option Wait) (piece : List ℕ) → let d = record b { tenants = left_fed piece b.clock l.number l.session b.tenants } in
    IsSound b → IsAt b.lines i l → l.session.stage ≡ BoundTo u w → (IsCalm (refusals_of d.tenants u) (refusals_of c.tenants u) → ⊥) → IsFed l.number piece d c → IsFed l.number piece b c
fed-since b c i u l w piece sound at bound loud f = record {
  going = record {
    sound = g.sound;
    grows = record { setup = g.grows.setup; names = g.grows.names ∙ names-fed piece b.clock l.number l.session b.tenants; own = λ t. (let up = g.grows.own t in let same = counts t in omega (arith, up, same)); unbound = g.grows.unbound };
    clock = g.clock;
    last = g.last;
    numbers = g.numbers;
    bound = g.bound;
  };
  still = f.still;
  counted = (λ t other. f.counted.0 t other ∙ counts t, f.counted.1);
  others = f.others;
  unready = λ unready. f.unready
      (all-map (λ (k : Line). IsUnready AnyWait b k.number k.session.stage) (λ (k : Line). IsUnready AnyWait d k.number k.session.stage)
      (λ k. unready-quiet AnyWait b d refl (λ t n x silent. ready-fed piece b.clock l.number l.session b.tenants t b.clock n x ∙ silent) k.number k.session.stage) b.lines unready);
  held = λ held. f.held (stranded-over b i l piece sound at held);
  mine = f.mine;
  view = λ t mine es k calm. seen t mine es k (record { own = subst (λ n. IsCalm n (refusals_of c.tenants t)) (sym (counts t)) calm.own; unbound = calm.unbound });
}
  where
    d : BrokerState
    d = record b { tenants = left_fed piece b.clock l.number l.session b.tenants }

    g : IsGoing d c
    g = f.going

    counts : (t : ℕ) → refusals_of d.tenants t ≡ refusals_of b.tenants t
    counts t = refusals-fed piece b.clock l.number l.session b.tenants t

    seen : (t : ℕ) (mine : ℕ → Bool) (es : List Happening) → Mine t mine (Comes l.number piece ∷ es) b → IsCalmFor t d c → turns (view_of t mine c) ≡ stepped (mine l.number) (Comes l.number piece) (view_of t mine b)
    seen t mine es k calm = by (mine l.number) refl
      where
        own : IsMine b.setup t mine (Comes l.number piece ∷ es) l
        own = all-at (IsMine b.setup t mine (Comes l.number piece ∷ es)) b.lines i l at k.now

        by : (y : Bool) → mine l.number ≡ y → turns (view_of t mine c) ≡ stepped (mine l.number) (Comes l.number piece) (view_of t mine b)
        by true same =
            let is : u ≡ t = own-whose b.setup t mine (Comes l.number piece ∷ es) l own same u (ap whose bound) in
            absurd (loud (subst (λ v. IsCalm (refusals_of d.tenants v) (refusals_of c.tenants v)) (sym is) calm.own))
        by false other =
            let kept = kept-unfed b.setup t b.clock mine (Comes l.number piece ∷ es) b.tenants piece l own other in
            f.view t mine es k calm
            ∙ (ap (λ (y : Bool). stepped y (Comes l.number piece) (view_of t mine d)) other
            ∙ (ap (λ x. record (view_of t mine b) { kept = x }) kept
            ∙ sym (ap (λ (y : Bool). stepped y (Comes l.number piece) (view_of t mine b)) other)))

-- a greeting one has no tenant, so nothing changes first
fed-from : (b c : BrokerState) (i : ℕ) (l m : Line) (piece : List ℕ) (st : Stage) → let d = record b { tenants = left_fed piece b.clock l.number l.session b.tenants } in
    IsSound b → IsAt b.lines i l → l.session.stage ≡ st → IsCountedAt l.number st (put_at d i m) c → IsFed l.number piece d c → IsFed l.number piece b c
fed-from b c i l m piece (Greets h) sound at s counted f =
    let same : (x : Bool) → cond x (left_by b.clock l.number (Greets h) b.tenants) b.tenants ≡ b.tenants = λ x. either x b.tenants in
    subst (λ ts. IsFed l.number piece (record b { tenants = ts }) c) (ap (λ st. cond (overruns piece l.session) (left_by b.clock l.number st b.tenants) b.tenants) s ∙ same (overruns piece l.session)) f
  where
    either : (x : Bool) (ts : List TenantState) → cond x ts ts ≡ ts
    either true ts = refl
    either false ts = refl
fed-from b c i l m piece (BoundTo u w) sound at s counted f = fed-since b c i u l w piece sound at s
    (loud-counted u l.number (put_at (record b { tenants = left_fed piece b.clock l.number l.session b.tenants }) i m) c counted) f

pub fed-shut : (b c : BrokerState) (i : ℕ) (l m : Line) (piece : List ℕ) → IsSound b → first_able b.lines ≡ None → IsShut (record b { tenants = left_fed piece b.clock l.number l.session b.tenants }) c i l m → IsFed (number_at i b) piece b c
fed-shut b c i l m piece sound settled h =
    let d = record b { tenants = left_fed piece b.clock l.number l.session b.tenants } in
    let first = fed-counted d c i l m piece l.session.stage (sound-fed b piece l sound) settled h.at refl (ap (λ (x : Line). x.number) h.is) (ap (λ (x : Line). x.session) h.is) h.counted in
    subst (λ n. IsFed n piece b c) (sym (number_at-is b i l h.at)) (fed-from b c i l m piece l.session.stage sound h.at refl h.counted first)

-- a piece leaves a wait as it is, or ends it
pub fed-stage : (piece : List ℕ) (s : Session) → ((fed piece s).stage ≡ s.stage) ⊎ (deadline_at (fed piece s).stage ≡ None)
unfolding fed
fed-stage piece s = by s.shut (nat_lt (room s) (length piece))
  where
    ended : (st : Stage) → deadline_at (without_wait st) ≡ None
    ended (Greets h) = refl
    ended (BoundTo t w) = refl

    by : (a b : Bool) → let x : Session = cond a s (cond b (shut_down causes.Overrun s) (record s { unread = s.unread ++ piece })) in (x.stage ≡ s.stage) ⊎ (deadline_at x.stage ≡ None)
    by true b = inl refl
    by false true = inr (ended s.stage)
    by false false = inl refl

-- the connection is at its place among the broker's own
pub at-inside : (a b : BrokerState) (i : ℕ) (l : Line) → a ≡ b → IsAt b.lines i l → IsAt a.lines i l
at-inside a b i l e at = subst (λ (x : BrokerState). IsAt x.lines i l) (sym e) at

-- a call that asks nothing of the store
pub turn-sure : (H : Type 0) (t : ℕ) (ts us : List TenantState) → IsTurn t (Unit {0}) ts us → IsTurn t H ts us
turn-sure H t ts us turn = record { names = turn.names; grows = turn.grows; counts = turn.counts; others = λ honest. turn.others tt }

-- a turn that was refused to the connection, and counted
turn-refused : (H : Type 0) (t n : ℕ) (b c : BrokerState) (i : ℕ) (m : Line) (us : List TenantState) → IsTurn t H b.tenants us → IsCountedFor t n (put_with b i m us) c → IsTurn t H b.tenants c.tenants
turn-refused H t n b c i m us turn r = turn-then t H H b.tenants us c.tenants (λ u. u) turn (turn-sure H t us c.tenants r.turn)

pub refused-taken : (H : Type 0) (b c : BrokerState) (i : ℕ) (l m : Line) (us : List TenantState) (st : Stage) → IsTaken H b i l m us → l.session.stage ≡ st → m.session ≡ shut_down causes.Memory l.session → IsTurnAt H st b.tenants us → IsCountedAt l.number st (put_with b i m us) c → IsGoing b c
refused-taken H b c i l m us (Greets h) k s e turn r =
    let g = subst (λ ts. IsGoing b (record (put_with b i m ts) { unbound_refusals = c.unbound_refusals })) (sym turn)
    (refused-going b i l m h c.unbound_refusals k.next.sound k.at s k.number e
    (once-grows b.unbound_refusals c.unbound_refusals r.once)) in
    subst (λ x. IsGoing b x) (sym r.is) g
refused-taken H b c i l m us (BoundTo t w) k s e turn r =
    subst (λ x. IsGoing b x) (sym r.is) (called-going b i t l m H c.tenants k.next.sound k.at (record { wait = w; is = s }) k.number (k.spent.stage t w s) (turn-refused H t l.number b c i m us turn r))

pub served-refused : (H : Type 0) → H → (scope : Scope) (b c : BrokerState) (i : ℕ) (l m : Line) (us : List TenantState) (st : Stage) → AreStill scope b → IsTaken H b i l m us → l.session.stage ≡ st → m.session ≡ shut_down causes.Memory l.session → IsTurnAt H st b.tenants us → IsCountedAt l.number st (put_with b i m us) c → IsServedAt st scope b c
served-refused H honest scope b c i l m us (Greets h) still k s e turn r =
    let f = refused-greeting scope b i l m h c.unbound_refusals k.next.sound still k.at k.able s k.number e
    (once-grows b.unbound_refusals c.unbound_refusals r.once) (once-loud b.unbound_refusals c.unbound_refusals r.once) in
    let g = subst (λ ts. Turned scope b (record (put_with b i m ts) { unbound_refusals = c.unbound_refusals })) (sym turn) f in
    subst (λ x. Turned scope b x) (sym r.is) g
served-refused H honest scope b c i l m us (BoundTo t w) still k s e turn r =
    let f = served-bound scope b i t l m w H c.tenants k.next.sound still k.at (first-at b i l k.next k.at) k.able s k.number (k.spent.stage t w s) (turn-refused H t l.number b c i m us turn r) honest
    (λ calm. absurd (loud-counted t l.number (put_with b i m us) c r
    (calm-right (count b.tenants t) (count us t) (count c.tenants t) (turn.grows t) (r.turn.grows t) calm)))
    (λ held. let nobody = left-nobody b.clock l.number (hosted.kept_of us t) (hosted.kept_of c.tenants t) r.left in
    stranded-served b i t l m c.tenants b.unbound_refusals k.next.sound k.at k.number (able-free l.session k.able) (λ u ne. (turn-refused H t l.number b c i m us turn r).others honest u ne)
    (spared-left b t l.number b.clock (hosted.kept_of us t) (hosted.kept_of c.tenants t)
    (spared-served b i t l (hosted.kept_of us t).groups k.next.sound k.at (able-free l.session k.able) held (subst (λ st. IsWaitTurnAt l.number st b.tenants us) s k.waits)) r.left)
    (inr (omega (arith, nobody))) held) in
    subst (λ x. Served t scope b x) (sym r.is) f

pub work-refused : (H : Type 0) (b c : BrokerState) (i : ℕ) (l m : Line) (us : List TenantState) (st : Stage) → IsTaken H b i l m us → IsCountedAt l.number st (put_with b i m us) c → work c.lines < work b.lines
work-refused H b c i l m us st h r = work-put b i l m c.lines h.at (lines-counted l.number st (put_with b i m us) c r) h.spent.less

-- a connection of a tenant on which a member waits
abbrev pub member_at : ℕ → Stage
member_at t = BoundTo t (Some (record { head = no_head; awaited = Group }))

-- a member waits no longer on a connection of a tenant, as a call for the tenant
left-turn : (clock n t : ℕ) (ts : List TenantState) → IsTurn t (Unit {0}) ts (left_by clock n (member_at t) ts)
left-turn clock n t ts = record {
  names = left-names clock n (member_at t) ts;
  grows = λ u. (let same = left-refusals clock n (member_at t) ts u in omega (arith, same));
  counts = λ u ne. left-refusals clock n (member_at t) ts u;
  others = λ sure u ne. left-other clock n u (member_at t) ts (λ v e. (let is : t ≡ v = cc in λ same. ne (same ∙ sym is)));
}

-- and then a refusal is counted for the tenant
pub counted-for : (b : BrokerState) (t n : ℕ) (us vs : List TenantState) → us ≡ left_by b.clock n (member_at t) b.tenants → IsTurn t (Unit {0}) us vs → ((u : ℕ) → hosted.kept_of vs u ≡ hosted.kept_of us u)
    → refusals_of vs t ≡ counted_once (refusals_of us t) → IsCountedFor t n b (record b { tenants = vs })
counted-for b t n us vs is turn stays once =
    let first : IsTurn t (Unit {0}) b.tenants us = subst (IsTurn t (Unit {0}) b.tenants) (sym is) (left-turn b.clock n t b.tenants) in
    record {
      is = refl;
      turn = turn-then t (Unit {0}) (Unit {0}) b.tenants us vs (λ u. u) first turn;
      left = stays t ∙ (ap (λ ts. hosted.kept_of ts t) is ∙ left-own b.clock n t (member_at t) b.tenants (λ u e. (let same : t ≡ u = cc in sym same)));
      once = once ∙ ap counted_once (ap (λ ts. refusals_of ts t) is ∙ left-refusals b.clock n (member_at t) b.tenants t);
    }

-- the same, where a is what the broker's own fields are
pub counted-inside : (a b : BrokerState) (t n : ℕ) (us vs : List TenantState) → a ≡ b → us ≡ left_by a.clock n (member_at t) a.tenants → IsTurn t (Unit {0}) us vs → ((u : ℕ) → hosted.kept_of vs u ≡ hosted.kept_of us u)
    → refusals_of vs t ≡ counted_once (refusals_of us t) → IsCountedFor t n b (record a { tenants = vs })
counted-inside a b t n us vs e is turn stays once = subst (λ (x : BrokerState). IsCountedFor t n x (record a { tenants = vs })) e (counted-for a t n us vs is turn stays once)

-- 4. Turns until none is left

-- of the connection of a number holds what holds of each
find-all : (P : ℕ → Session → Type 0) (n : ℕ) (s : Session) (ls : List Line) → AllByRecursion (λ (l : Line). P l.number l.session) ls → find_line n ls ≡ Some s → P n s
find-all P n s [] h e = absurd (cc)
find-all P n s (l ∷ ls) h e = by (eqb l.number n) refl (find-all P n s ls h.1) e
  where
    by : (b : Bool) → eqb l.number n ≡ b → (find_line n ls ≡ Some s → P n s) → cond b (Some l.session) (find_line n ls) ≡ Some s → P n s
    by true f rest g = let same : l.number ≡ n = eqb_same l.number n f in let is : l.session ≡ s = cc in subst (λ k. P k s) same (subst (P l.number) is h.0)
    by false f rest g = rest g

rests : (s : Session) → is_free s.stage ≡ true → can s ≡ false → is_resting (Some s) ≡ true
rests s free still = grind (arith, free, still)

-- where no other connection has changed, no other can take a turn
pub idle-others : (n : ℕ) (a b : BrokerState) → IsSound b → SameOthers n a b → AreIdle n a → AreIdle n b
idle-others n a b sound same idle =
    all-map (λ l. find_line l.number b.lines ≡ Some l.session) (λ l. l.number ≢ n → can l.session ≡ false)
    (λ l f ne. find-all (λ j (x : Session). j ≢ n → can x ≡ false) l.number l.session a.lines idle (sym (same l.number ne) ∙ f) ne)
    b.lines (found-all 0 b.last b.lines sound.rising)

pub idle-still : (n : ℕ) (b : BrokerState) → AreIdle n b → AreStill (Of n) b
idle-still n b idle = all-map (λ (l : Line). l.number ≢ n → can l.session ≡ false) (IsStill (Of n) b) (λ l h c. inl (by l.number l.session h c (eqb l.number n) refl)) b.lines idle
  where
    by : (k : ℕ) (s : Session) → (k ≢ n → can s ≡ false) → can s ≡ true → (b : Bool) → eqb k n ≡ b → k ≡ n
    by k s h c true e = eqb_same k n e
    by k s h c false e = let no : false ≡ true = sym (h (λ g. (let f : eqb k n ≡ true = grind (arith, nat_tests) in cc))) ∙ c in absurd (cc)

pub idle-scoped : (n : ℕ) (b : BrokerState) → AreIdle n b → IsScoped b
idle-scoped n b idle = (Of n, idle-still n b idle)

-- after turns of some event only its connections can take one
pub scoped-turned : (a b : BrokerState) → IsScoped a → ((scope : Scope) → AreStill scope a → Turned scope a b) → IsScoped b
scoped-turned a b still turned = (still.0, (turned still.0 still.1).still)

-- the connection that alone can take a turn is the next
pub next-idle : (b : BrokerState) (i : ℕ) (l : Line) → IsSound b → IsAt b.lines i l → AreIdle (number_at i b) b → can l.session ≡ true → IsNext i b
next-idle b i l sound at idle able =
    let mine = subst (λ n. AreIdle n b) (number_at-is b i l at) idle in
    record { sound = sound; within = at.within; first = λ d. first-still 0 b.last b.lines i l sound.rising at mine able ∙ ap Some (at.here ∙ get_or_default b.lines i l d at.within) }

pub idle-settled : (b : BrokerState) (i : ℕ) (l : Line) → IsSound b → IsAt b.lines i l → AreIdle (number_at i b) b → can l.session ≡ false → first_able b.lines ≡ None
idle-settled b i l sound at idle stuck = still-none 0 b.last b.lines i l sound.rising at (subst (λ n. AreIdle n b) (number_at-is b i l at) idle) stuck

-- after a piece came, the connection that it came on alone can take a turn
pub idle-fed : (n : ℕ) (piece : List ℕ) (a b : BrokerState) → first_able a.lines ≡ None → IsFed n piece a b → AreIdle n b
idle-fed n piece a b settled given = idle-others n a b given.going.sound given.others (all-map (λ (l : Line). can l.session ≡ false) (λ (l : Line). l.number ≢ n → can l.session ≡ false) (λ l still ne. still) a.lines (all-still a.lines settled))

pub length-numbers : (a b : BrokerState) → numbers b ≡ numbers a → length b.lines ≡ length a.lines
length-numbers a b e = sym (length-map b.lines (λ (x : Line). x.number)) ∙ (ap length e ∙ length-map a.lines (λ (x : Line). x.number))

pub within-going : (a b : BrokerState) (i : ℕ) → IsGoing a b → i < length a.lines → i < length b.lines
within-going a b i g lt = let h = length-numbers a b g.numbers in omega arith

pub number-going : (a b : BrokerState) (i : ℕ) → IsGoing a b → number_at i b ≡ number_at i a
number-going a b i g = ap (λ ns. get_or ns i 0) g.numbers

-- the first that can take a turn, by its place
first-place : (ls : List Line) (d : Line) → first_able ls ≡ cond (nat_lt (position_or_len (λ (l : Line). can l.session) ls) (length ls)) (Some (get_or ls (position_or_len (λ (l : Line). can l.session) ls) d)) None
first-place [] d = refl
first-place (l ∷ ls) d = by (can l.session) (first-place ls d)
  where
    by : (b : Bool) → first_able ls ≡ cond (nat_lt (position_or_len (λ (l : Line). can l.session) ls) (length ls)) (Some (get_or ls (position_or_len (λ (l : Line). can l.session) ls) d)) None →
        cond b (Some l) (first_able ls) ≡ cond (nat_lt (cond (not b) (1 + position_or_len (λ (l : Line). can l.session) ls) 0) (suc (length ls))) (Some (get_or (l ∷ ls) (cond (not b) (1 + position_or_len (λ (l : Line). can l.session) ls) 0) d)) None
    by true rest = let some : nat_lt 0 (suc (length ls)) ≡ true = grind (arith, nat_tests) in ap (λ (b : Bool). cond b (Some l) None) (sym some)
    by false rest =
        let n = position_or_len (λ (l : Line). can l.session) ls in
        let at : ℕ → Option Line = λ k. cond (nat_lt k (suc (length ls))) (Some (get_or (l ∷ ls) k d)) None in
        let same : nat_lt n (length ls) ≡ nat_lt (suc n) (suc (length ls)) = grind (arith, nat_tests) in
        let one : suc n ≡ 1 + n = omega arith in
        rest ∙ (ap (λ (b : Bool). cond b (Some (get_or ls n d)) None) same ∙ ap at one)

pub nowhere-able : (ls : List Line) (o : Option ℕ) → o ≡ position (λ (l : Line). can l.session) ls → ((i : ℕ) → o ≡ Some i → ⊥) → first_able ls ≡ None
nowhere-able ls o e none =
    let d : Line = record { number = 0; session = new_session 0 } in
    let n = position_or_len (λ (l : Line). can l.session) ls in
    first-place ls d ∙ by (nat_lt n (length ls)) n (get_or ls n d) (λ i h. none i (e ∙ h))
  where
    by : (b : Bool) (i : ℕ) (l : Line) → ((k : ℕ) → cond b (Some i) None ≡ Some k → ⊥) → cond b (Some l) None ≡ None
    by true i l h = absurd (h i refl)
    by false i l h = refl

pub next-able : (b : BrokerState) (o : Option ℕ) (i : ℕ) → IsSound b → o ≡ position (λ (l : Line). can l.session) b.lines → o ≡ Some i → IsNext i b
next-able b o i sound e some = record {
  sound = sound;
  within = (position-Some (λ (l : Line). can l.session) b.lines i (record { number = 0; session = new_session 0 }) (sym e ∙ some)).0;
  first = λ d. first-place b.lines d ∙ by (nat_lt (position_or_len (λ (l : Line). can l.session) b.lines) (length b.lines)) d (position_or_len (λ (l : Line). can l.session) b.lines) (sym e ∙ some);
}
  where
    by : (c : Bool) (d : Line) (j : ℕ) → cond c (Some j) None ≡ Some i → cond c (Some (get_or b.lines j d)) None ≡ Some (get_or b.lines i d)
    by true d j h = let same : j ≡ i = cc in ap (λ k. Some (get_or b.lines k d)) same
    by false d j h = absurd (cc)

-- 5. A piece that came

pub empty-is : (xs : List ℕ) (r : Bool) → r ≡ eqb (length xs) 0 → r ≡ true → xs ≡ []
empty-is [] r e t = refl
empty-is (x ∷ xs) r e t = absurd (grind (arith, nat_tests))

pub full-is : (xs : List ℕ) (r : Bool) → r ≡ eqb (length xs) 0 → r ≡ false → xs ≡ [] → ⊥
full-is [] r e t h = grind (arith, nat_tests)
full-is (x ∷ xs) r e t h = cc

-- a piece of no bytes is nothing
pub step-empty : (b : BrokerState) (i n : ℕ) (piece : List ℕ) → IsReady b → i < length b.lines → ((d : Line) → (get_or b.lines i d).number ≡ n) → piece ≡ [] → IsStep (Comes n piece) b b
step-empty b i n piece ready lt some e =
    let d : Line = record { number = 0; session = new_session 0 } in
    let h = step-nothing b i (get_or b.lines i d) ready (get-at b.lines i d lt) in
    let k : IsStep (Comes n []) b b = subst (λ m. IsStep (Comes m []) b b) (some d) h in
    subst (λ p. IsStep (Comes n p) b b) (sym e) k

-- and so is a piece on a connection that is shut
pub step-deaf : (b : BrokerState) (i n : ℕ) (l : Line) (piece : List ℕ) → IsReady b → IsFound b i n l → l.session.shut ≡ true → IsStep (Comes n piece) b b
step-deaf b i n l piece ready f e = subst (λ m. IsStep (Comes m piece) b b) f.number (step-shut b i l piece ready f.at e)

-- a piece that somebody takes, and then turns until none is left
pub step-taken : (a b c : BrokerState) (i n : ℕ) (l : Line) (piece : List ℕ) → IsReady a → IsFound a i n l → IsFed (number_at i a) piece a b → ((scope : Scope) → AreStill scope b → Turned scope b c) → first_able c.lines ≡ None → (piece ≡ [] → ⊥) → l.session.shut ≡ false → IsStep (Comes n piece) a c
step-taken a b c i n l piece ready f fed turned settled full heard =
    let number : number_at i a ≡ n = number_at-is a i l f.at ∙ f.number in
    let first : IsFed n piece a b = subst (λ m. IsFed m piece a b) number fed in
    step-comes n piece a b c first (turned (Of n) first.still) settled (untaken (find-found a i n l ready.sound.rising f))
  where
    untaken : find_line n a.lines ≡ Some l.session → IsUntaken n piece a → ⊥
    untaken found (inl e) = full e
    untaken found (inr e) = let deaf : true ≡ false = sym e ∙ (ap is_deaf found ∙ heard) in absurd (cc)

-- a connection that did not wait, and on which nothing came, was not touched
free-by : (k : ℕ) (old : Option Session) (a b : BrokerState) → IsReady a → find_line k a.lines ≡ old → waits_in old ≡ false → is_resting old ≡ true
free-by k None a b ready e free = refl
free-by k (Some s) a b ready e free =
    let c : can s ≡ false = find-all (λ j (x : Session). can x ≡ false) k s a.lines (all-still a.lines ready.settled) e in
    let f : is_free s.stage ≡ true = grind (arith, free) in
    rests s f c

pub resting-free : (k : ℕ) (a b : BrokerState) → IsReady a → waits_in (find_line k a.lines) ≡ false → is_resting (find_line k a.lines) ≡ true
resting-free k a b ready free = free-by k (find_line k a.lines) a b ready refl free

pub others-taken : (a b c : BrokerState) (i n : ℕ) (l : Line) (piece : List ℕ) → IsReady a → IsFound a i n l → IsFed (number_at i a) piece a b → ((scope : Scope) → AreStill scope b → Turned scope b c) →
    (k : ℕ) → k ≢ n → waits_in (find_line k a.lines) ≡ false → find_line k c.lines ≡ find_line k a.lines
others-taken a b c i n l piece ready f fed turned k ne free =
    let number : number_at i a ≡ n = number_at-is a i l f.at ∙ f.number in
    let first : IsFed n piece a b = subst (λ m. IsFed m piece a b) number fed in
    let same = first.others k ne in
    (turned (Of n) first.still).untouched k (ap is_resting same ∙ resting-free k a b ready free) ∙ same

-- 6. A moment

-- the clock moved, and then the tenants' own parts left this
pub record HasBegun (H : Type 0) (now : ℕ) (answered : Option (Vec ℕ Global)) (a s : BrokerState) : Type 0 where
  pub is : s ≡ begun a now s.tenants
  pub passed : HavePassed (max a.clock now) H a.tenants s.tenants
  pub leaves : H → LeavesQuietBut answered a.tenants s.tenants

pub has-begun : (H : Type 0) (now clock : ℕ) (answered : Option (Vec ℕ Global)) (a b s : BrokerState) → a ≡ b → clock ≡ max a.clock now → HavePassed clock H a.tenants s.tenants → s ≡ record a { clock = clock; tenants = s.tenants } → (H → LeavesQuietBut answered a.tenants s.tenants) → HasBegun H now answered b s
has-begun H now clock answered a b s e is passed rest leaves =
    subst (λ (x : BrokerState). HasBegun H now answered x s) e
    (record {
      is = rest ∙ ap (λ n. record a { clock = n; tenants = s.tenants }) is;
      passed = subst (λ n. HavePassed n H a.tenants s.tenants) is passed;
      leaves = leaves;
    })

pub in-time : (b : BrokerState) (now : ℕ) → IsSound b → now ≤ 2 ^ 62 → max b.clock now ≤ 2 ^ 62
in-time b now sound le = let h = sound.clock in grind (arith, h, le)

pub sound-after : (H : Type 0) (now : ℕ) (answered : Option (Vec ℕ Global)) (a s : BrokerState) → IsSound a → now ≤ 2 ^ 62 → HasBegun H now answered a s → IsSound s
sound-after H now answered a s sound le h = subst IsSound (sym h.is) (sound-begun a now (max a.clock now) H s.tenants sound h.passed (in-time a now sound le))

-- what a moment did not answer is as little ready as before
quiet-ready : (ns : List ℕ) (k l : Kept) (clock n : ℕ) (w : Wait) → IsQuietBut ns k l → (Contains ns n → ⊥) → ready k clock n w ≡ Silent → ready l clock n w ≡ Silent
unfolding ready
quiet-ready ns k l clock n w q apart silent = by w.awaited silent
  where
    by : (x : Awaited) → ready_for k clock n x ≡ Silent → ready_for l clock n x ≡ Silent
    by (Records version body deadline limit) h = ap (λ x. looked x clock deadline version limit body) q.world ∙ h
    by Group h = q.told n apart h

-- only what is due or was answered can be ready then
begun-unready : (answered : Option (Vec ℕ Global)) (a : BrokerState) (now : ℕ) (ts : List TenantState) → AreUnready AnyWait a → LeavesQuietBut answered a.tenants ts → IsReadyAmong answered (begun a now ts)
begun-unready None a now ts u quiet = tt
begun-unready (Some ns) a now ts u quiet =
    all-map (λ (l : Line). IsUnready (IsPassedOver whoms.Due clock) (begun a now a.tenants) l.number l.session.stage) (λ (l : Line). Contains ns.items l.number ⊎ IsUnready (IsPassedOver whoms.Due clock) (begun a now ts) l.number l.session.stage)
    (λ l. either l.number l.session.stage (among l.number ns.items)) a.lines (due-unready a now a.tenants (λ t. refl) u)
  where
    clock : ℕ
    clock = max a.clock now

    one : (n : ℕ) (st : Stage) → (Contains ns.items n → ⊥) → IsUnready (IsPassedOver whoms.Due clock) (begun a now a.tenants) n st → IsUnready (IsPassedOver whoms.Due clock) (begun a now ts) n st
    one n (Greets h) apart u = tt
    one n (BoundTo t None) apart u = tt
    one n (BoundTo t (Some w)) apart u = λ early. quiet-ready ns.items (hosted.kept_of a.tenants t) (hosted.kept_of ts t) clock n w (quiet t) apart (u early)

    either : (n : ℕ) (st : Stage) → Contains ns.items n ⊎ (Contains ns.items n → ⊥) → IsUnready (IsPassedOver whoms.Due clock) (begun a now a.tenants) n st → Contains ns.items n ⊎ IsUnready (IsPassedOver whoms.Due clock) (begun a now ts) n st
    either n st (inl c) u = inl c
    either n st (inr apart) u = inr (one n st apart u)

pub unready-over : (H : Type 0) → H → (now : ℕ) (answered : Option (Vec ℕ Global)) (a s : BrokerState) → IsReady a → HasBegun H now answered a s → IsReadyAmong answered s
unready-over H honest now answered a s ready h = subst (IsReadyAmong answered) (sym h.is) (begun-unready answered a now s.tenants ready.unready (h.leaves honest))

pub idle-none : (H : Type 0) (now : ℕ) (answered : Option (Vec ℕ Global)) (a s b : BrokerState) → first_able a.lines ≡ None → HasBegun H now answered a s → b ≡ s → first_able b.lines ≡ None
idle-none H now answered a s b settled h same = ap (λ (x : BrokerState). first_able x.lines) (same ∙ h.is) ∙ settled

-- then waiting requests were looked at, and then there were turns until none was left; an honest store is spoken of
pub record IsMoved (H : Type 0) (now : ℕ) (answered : Option (Vec ℕ Global)) (a s b c : BrokerState) : Type 0 where
  pub ready : IsReady a
  pub begun : HasBegun H now answered a s
  pub waked : Waked whoms.All s b
  pub rest : IsReadyAmong answered s → AreUnready AnyWait b
  pub turned : (scope : Scope) → AreStill scope b → Turned scope b c
  pub none : first_able c.lines ≡ None

module _ (H : Type 0) (now : ℕ) (answered : Option (Vec ℕ Global)) (a s b : BrokerState) (settled : first_able a.lines ≡ None) (h : HasBegun H now answered a s) where
  waked-begun : Waked whoms.All s b → Waked whoms.All (begun a now s.tenants) b
  waked-begun waked = subst (λ x. Waked whoms.All x b) h.is waked

  pub waked-still : Waked whoms.All s b → AreStill Everybody b
  waked-still waked = (waked-begun waked).still Everybody (λ t h. tt) (still-settled Everybody (begun a now s.tenants) settled)

  -- whatever the store says
  pub moved-going : (c : BrokerState) → IsGoing s b → IsGoing b c → IsGoing (begun a now s.tenants) c
  moved-going c first then = going-then (begun a now s.tenants) b c (subst (λ x. IsGoing x b) h.is first) then

module _ (H : Type 0) (honest : H) (now : ℕ) (answered : Option (Vec ℕ Global)) (a s b c : BrokerState) (m : IsMoved H now answered a s b c) where
  waked : Waked whoms.All (begun a now s.tenants) b
  waked = waked-begun H now answered a s b m.ready.settled m.begun m.waked

  turned : Turned Everybody b c
  turned = m.turned Everybody (waked-still H now answered a s b m.ready.settled m.begun m.waked)

  unready : AreUnready AnyWait b
  unready = m.rest (unready-over H honest now answered a s m.ready m.begun)

  pub moved-step : IsStep (Moment now) a c
  moved-step = step-moment now whoms.All a b c s.tenants H honest m.begun.passed waked unready turned m.none

  pub moved-held : NoneStranded a → NoneStranded c
  moved-held held = turned.held (waked.held (stranded-begun a now (max a.clock now) H s.tenants honest m.begun.passed held))

  pub moved-unready : AreUnready AnyWait c
  moved-unready = turned.unready unready

  pub moved-others : (k : ℕ) → waits_in (find_line k a.lines) ≡ false → find_line k c.lines ≡ find_line k a.lines
  moved-others k free = untouched-then (begun a now s.tenants) b c waked.untouched turned.untouched k (resting-free k a a m.ready free)
