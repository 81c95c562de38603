-- All through a run a bound connection has logged in as a user of its tenant.
use Rattle.std.proofs.Common.{◌≡◌, ◌<◌, ◌+◌, ℕ, ℤ, zero, suc, max, List, [], ◌∷◌, ◌++◌, length, get_or, Bool, true, false, not, eqb, cond, Option, Some, None, Result, Ok, Err}
use Rattle.std.proofs.Common.{refl, sym, ap, ◌∙◌, subst, arith, codes, nat_lt}
use Rattle.std.specs.Prelude.{◌&&◌, ⊤}
use Rattle.std.specs.List.{AllByRecursion, slice_get}
use Rattle.std.specs.Option.{option_map}
use Rattle.std.specs.Str.{bytes_eq}
use Rattle.kb_api_group.specs.Plain.{plain}
use Rattle.kb_api_group.specs.declared.plain.PlainLogin.{PlainLogin}
use Rattle.kb_api_group.specs.Frames.{Front, Whole, Partial, TooSmall, TooLarge}
use Rattle.kb_tenant.specs.Replies as tenant
use Rattle.kb_tenant.specs.Replies.{Replies, Waits, Silent, Shuts}
use Rattle.kb_tenant_api.specs.Hosted.{Kept, passed}
use Rattle.kb_tenant_api.specs.Replies.{Reaction, Plain, Rebalances}
use Rattle.kb_isolation_spec.specs.declared.head.Head.{Head}
use Rattle.kb_isolation_spec.specs.declared.login.Known.{Known}
use Rattle.kb_isolation_spec.specs.declared.login.Login.{Login}
use Rattle.kb_isolation_spec.specs.declared.shut.Shut.{Shut}
use Rattle.kb_isolation_spec.specs.declared.shut.Shut.TheVariants as causes
use Rattle.kb_isolation_spec.specs.Requests.{Asked, Versions, OtherVersions, Handshake, Authenticate, Another, Malformed, request, unserved}
use Rattle.kb_isolation_spec.specs.Tenant.{Wait, reaction_to, ready}
use Rattle.kb_isolation_spec.specs.Session.{Greeting, Unshaken, Shaken, Bare, Stage, Greets, BoundTo, Session, can, new_session, fed, replied, room, shut_down, unanswerable, without_wait, in_front}
use Rattle.kb_isolation_spec.specs.Greeting.{Setup, User, for_tenant, known_from, known_or, login, login_by, bound, failed, failed_reply, logged_in, bare_login, greeting_after, shaken, authenticated, greeted_by, greeted_frame, greeted_at, greeted}
use Rattle.kb_isolation_spec.specs.Machine.{Happening, Opens, Comes, Closes, Moment, Line, View, plainly, after_reaction, served_by, served_at, after_turn, kept_by_turn, told, woken, woken_by, each_line, on, those, find_line, first_able, all_woken, turn_at, turn_of, turn, again, work, turns, kept_closed, kept_fed, step}
use Rattle.kb_isolation_spec.specs.Broker.{Rising, IsEventRun}
use Rattle.kb_isolation_spec.specs.Left.{last_world}
use Rattle.kb_isolation_spec.specs.Logins.{tenant_of, HasLoggedIn, HaveLoggedIn}
use Rattle.kb_isolation_spec.proofs.Laws.{login-replied}
use Rattle.kb_isolation_spec.proofs.Owners.{stage-fed, stage-replied, stage-served, stage-shut}
use Rattle.kb_isolation_spec.proofs.Sets.{IsAt, all-at, all-push, all-set, all-those, set-on}
use Rattle.kb_isolation_spec.proofs.Steps.{rising-push, rising-those}

-- 1. The user that a login names

-- it stands at its place, with its tenant
abbrev IsUser : List User → Result Known (List ℕ) → Type 0
IsUser users (Ok known) = tenant_of users known.user ≡ Some known.tenant
IsUser users (Err name) = ⊤

-- the users from a place on, among all
abbrev StandFrom : List User → ℕ → List User → Type 0
StandFrom all place users = (i : ℕ) → slice_get all (place + i) ≡ slice_get users i

user-of : (all : List User) (place : ℕ) (us : List User) (name password : List ℕ) → StandFrom all place us → IsUser all (known_or name (known_from place us name password))
user-of all place [] name password stand = tt
user-of all place (u ∷ us) name password stand =
    let here : slice_get all place ≡ Some u = ap (slice_get all) (let e : place ≡ place + 0 = omega arith in e) ∙ stand 0 in
    let next : StandFrom all (suc place) us = λ i. ap (slice_get all) (let e : suc place + i ≡ place + suc i = omega arith in e) ∙ stand (suc i) in
    by (bytes_eq u.name name && bytes_eq u.password password) here (user-of all (suc place) us name password next)
  where
    by : (b : Bool) → slice_get all place ≡ Some u → IsUser all (known_or name (known_from (suc place) us name password)) → IsUser all (known_or name (cond b (Some (record { user = place; tenant = u.tenant })) (known_from (suc place) us name password)))
    by true here rest = ap (option_map (λ (x : User). x.tenant)) here
    by false here rest = rest

user-by : (us : List User) (o : Option PlainLogin) → IsUser us (login_by us o)
user-by us None = tt
user-by us (Some p) = user-of us zero us p.authcid p.passwd (λ i. ap (slice_get us) (let e : zero + i ≡ i = omega arith in e))

user-login : (us : List User) (message : List ℕ) → IsUser us (login us message)
unfolding login
user-login us message = user-by us (plain message)

-- 2. One connection

abbrev pub Has : List User → Session → Type 0
Has users s = HasLoggedIn users s.stage s.login

pub has-same : (users : List User) (a b : Session) → without_wait b.stage ≡ without_wait a.stage → b.login ≡ a.login → Has users a → Has users b
has-same users a b same login h = by a.stage b.stage same h
  where
    by : (st new : Stage) → without_wait new ≡ without_wait st → HasLoggedIn users st a.login → HasLoggedIn users new b.login
    by (Greets g) (Greets h) e p = tt
    by (Greets g) (BoundTo u w) e p = absurd (cc)
    by (BoundTo t v) (Greets h) e p = tt
    by (BoundTo t v) (BoundTo u w) e p = let f : t ≡ u = cc in (p.0, login ∙ p.1, p.2 ∙ ap Some f)

-- one that greets is not bound
has-greeting : (users : List User) (g : Greeting) (s : Session) → s.stage ≡ Greets g → Has users s
has-greeting users g s e = subst (λ st. HasLoggedIn users st s.login) (sym e) tt

pub has-shut : (users : List User) (cause : Shut) (s : Session) → Has users s → Has users (shut_down cause s)
has-shut users cause s h = has-same users s (shut_down cause s) (stage-shut s) refl h

has-replied : (users : List User) (head : Head) (body : List ℕ) (s : Session) → Has users s → Has users (replied head body s)
has-replied users head body s h = has-same users s (replied head body s) (stage-replied head body s) (login-replied head body s) h

has-logged_in : (users : List User) (o : Result Known (List ℕ)) (g : Greeting) (head : Head) (s : Session) → IsUser users o → s.stage ≡ Greets g → Has users (logged_in o head s)
has-logged_in users (Ok known) g head s is e = has-replied users head _ (bound known s) (known.user, refl, is)
has-logged_in users (Err name) g head s is e = has-shut users causes.Denied (replied head failed_reply (failed name s)) (has-replied users head failed_reply (failed name s) (has-greeting users g (failed name s) e))

has-greeted_by : (setup : Setup) (h : Bool) (head : Head) (a : Asked) (g : Greeting) (s : Session) → s.stage ≡ Greets g → Has setup.users (greeted_by setup h head a s)
unfolding greeted_by
has-greeted_by setup h head Versions g s e = has-replied setup.users head _ s (has-greeting setup.users g s e)
has-greeted_by setup h head OtherVersions g s e = has-replied setup.users head _ s (has-greeting setup.users g s e)
has-greeted_by setup h head (Handshake version mechanism) g s e = by (bytes_eq mechanism (codes "PLAIN"))
  where
    by : (b : Bool) → Has setup.users (shaken b head version s)
    by true = has-replied setup.users head _ (record s { stage = Greets (greeting_after version) }) tt
    by false = has-replied setup.users head _ s (has-greeting setup.users g s e)
has-greeted_by setup true head (Authenticate message) g s e = has-logged_in setup.users (login setup.users message) g head s (user-login setup.users message) e
has-greeted_by setup false head (Authenticate message) g s e = has-replied setup.users head _ s (has-greeting setup.users g s e)
has-greeted_by setup h head (Another key version body) g s e = has-shut setup.users (causes.NotLoggedIn head.api_key head.api_version) s (has-greeting setup.users g s e)
has-greeted_by setup h head Malformed g s e = has-shut setup.users (unserved setup.versions head) s (has-greeting setup.users g s e)

has-bare : (users : List User) (o : Result Known (List ℕ)) (g : Greeting) (s : Session) → IsUser users o → s.stage ≡ Greets g → Has users (bare_login o s)
has-bare users (Ok known) g s is e = (known.user, refl, is)
has-bare users (Err name) g s is e = has-shut users causes.Denied (failed name s) (has-greeting users g (failed name s) e)

has-frame : (setup : Setup) (h g : Greeting) (frame : List ℕ) (s : Session) → s.stage ≡ Greets g → Has setup.users (greeted_frame setup h frame s)
has-frame setup Unshaken g frame s e = let r = request setup.versions frame in has-greeted_by setup false r.head r.asked g s e
has-frame setup Shaken g frame s e = let r = request setup.versions frame in has-greeted_by setup true r.head r.asked g s e
has-frame setup Bare g frame s e = has-bare setup.users (login setup.users frame) g s (user-login setup.users frame) e

-- the turn of one that greets
pub has-greeted : (setup : Setup) (h : Greeting) (s : Session) → s.stage ≡ Greets h → Has setup.users (greeted setup h s)
unfolding greeted
has-greeted setup h s e = by (in_front s)
  where
    by : (f : Front) → Has setup.users (greeted_at setup h s f)
    by (Whole frame rest) = has-frame setup h h frame (record s { unread = rest }) e
    by TooSmall = has-shut setup.users causes.TooShort s (has-greeting setup.users h s e)
    by TooLarge = has-shut setup.users causes.TooLong s (has-greeting setup.users h s e)
    by Partial = has-greeting setup.users h s e

login-plainly : (r : tenant.Reaction) (head : Head) (version : ℤ) (body : List ℕ) (s : Session) → (plainly r head s).login ≡ s.login
login-plainly (Replies reply) head version body s = login-replied head reply s
login-plainly (Waits deadline limit places) head version body s = refl
login-plainly Silent head version body s = refl
login-plainly Shuts head version body s = refl

pub login-answered : (r : Reaction) (head : Head) (version : ℤ) (body : List ℕ) (s : Session) → (after_reaction r head s).login ≡ s.login
login-answered (Plain r) head version body s = login-plainly r head version body s
login-answered Rebalances head version body s = refl

login-served_by : (setup : Setup) (kept : Kept) (clock n : ℕ) (head : Head) (a : Asked) (s : Session) → (served_by setup kept clock n head a s).login ≡ s.login
unfolding served_by
login-served_by setup kept clock n head Versions s = login-replied head _ s
login-served_by setup kept clock n head OtherVersions s = login-replied head _ s
login-served_by setup kept clock n head (Handshake version mechanism) s = login-replied head _ s
login-served_by setup kept clock n head (Authenticate message) s = login-replied head _ s
login-served_by setup kept clock n head (Another key version body) s = login-answered (reaction_to setup.node kept clock n key version body) head version body s
login-served_by setup kept clock n head Malformed s = refl

-- the turn of one that is bound
pub login-served : (setup : Setup) (kept : Kept) (clock n : ℕ) (s : Session) → (after_turn setup kept clock n s).login ≡ s.login
unfolding after_turn
login-served setup kept clock n s = by (in_front s)
  where
    by : (f : Front) → (served_at setup kept clock n s f).login ≡ s.login
    by (Whole frame rest) = login-served_by setup kept clock n (request setup.versions frame).head (request setup.versions frame).asked (record s { unread = rest })
    by TooSmall = refl
    by TooLarge = refl
    by Partial = refl

has-served : (users : List User) (setup : Setup) (kept : Kept) (clock n : ℕ) (s : Session) → Has users s → Has users (after_turn setup kept clock n s)
has-served users setup kept clock n s h = has-same users s (after_turn setup kept clock n s) (stage-served setup kept clock n s) (login-served setup kept clock n s) h

has-told : (users : List User) (r : tenant.Reaction) (head : Head) (s : Session) → Has users s → Has users (told r head s)
has-told users (Replies reply) head s h =
    let free : Session = record s { stage = without_wait s.stage } in
    has-replied users head reply free (has-same users s free (stage-shut s) refl h)
has-told users (Waits deadline limit places) head s h = h
has-told users Silent head s h = h
has-told users Shuts head s h = has-shut users (unanswerable head) s h

has-woken : (users : List User) (kept : Kept) (clock n : ℕ) (s : Session) → Has users s → Has users (woken kept clock n s)
unfolding woken_by
has-woken users kept clock n s h = by s.stage
  where
    by : (st : Stage) → Has users (woken_by kept clock n s st)
    by (Greets g) = h
    by (BoundTo t None) = h
    by (BoundTo t (Some wait)) = has-told users (ready kept clock n wait) wait.head s h

pub login-fed : (piece : List ℕ) (s : Session) → (fed piece s).login ≡ s.login
unfolding fed
login-fed piece s = by s.shut (nat_lt (room s) (length piece)) (s.unread ++ piece)
  where
    by : (a b : Bool) (bytes : List ℕ) → (let x : Session = cond a s (cond b (shut_down causes.Overrun s) (record s { unread = bytes })) in x).login ≡ s.login
    by true b bytes = refl
    by false true bytes = refl
    by false false bytes = refl

has-fed : (users : List User) (piece : List ℕ) (s : Session) → Has users s → Has users (fed piece s)
has-fed users piece s h = has-same users s (fed piece s) (stage-fed piece s) (login-fed piece s) h

-- 3. Lists of connections

rising-each : (low last : ℕ) (g : ℕ → Session → Session) (ls : List Line) → Rising low last ls → Rising low last (each_line g ls)
rising-each low last g [] r = r
rising-each low last g (l ∷ ls) r = (r.0, rising-each l.number last g ls r.1)

all-each : (users : List User) (g : ℕ → Session → Session) → ((n : ℕ) (s : Session) → Has users s → Has users (g n s)) → (ls : List Line) → HaveLoggedIn users ls → HaveLoggedIn users (each_line g ls)
all-each users g f [] h = tt
all-each users g f (l ∷ ls) h = (f l.number l.session h.0, all-each users g f ls h.1)

all-on : (users : List User) (n : ℕ) (f : Session → Session) → ((s : Session) → Has users s → Has users (f s)) → (ls : List Line) → HaveLoggedIn users ls → HaveLoggedIn users (each_line (on n f) ls)
all-on users n f keeps ls h = all-each users (on n f) (λ k s has. by k s has (eqb k n)) ls h
  where
    by : (k : ℕ) (s : Session) → Has users s → (b : Bool) → Has users (cond b (f s) s)
    by k s has true = keeps s has
    by k s has false = has

-- the first that can take a turn has a place
first-at : (ls : List Line) (l : Line) → first_able ls ≡ Some l → (i : ℕ) × IsAt ls i l
first-at [] l e = absurd (cc)
first-at (k ∷ ls) l e = by (can k.session) e (first-at ls l)
  where
    by : (b : Bool) → cond b (Some k) (first_able ls) ≡ Some l → (first_able ls ≡ Some l → (i : ℕ) × IsAt ls i l) → (i : ℕ) × IsAt (k ∷ ls) i l
    by true e rest = let same : l ≡ k = cc in (0, record { within = omega arith; here = same })
    by false e rest = let at = rest e in (suc at.0, record { within = omega (arith, at.1.within); here = at.1.here })

-- where numbers rise, a change of it changes no other
all-first : (users : List User) (last : ℕ) (f : Session → Session) (ls : List Line) (l : Line) → Rising 0 last ls → first_able ls ≡ Some l → Has users (f l.session) → HaveLoggedIn users ls → HaveLoggedIn users (each_line (on l.number f) ls)
all-first users last f ls l r e has h =
    let at = first-at ls l e in
    let m : Line = record { number = l.number; session = f l.session } in
    subst (HaveLoggedIn users) (set-on 0 last f ls at.0 l m r at.1 refl refl) (all-set (λ (x : Line). Has users x.session) ls at.0 m h has)

-- 4. A machine's run

record IsGood (last : ℕ) (w : View) : Type 0 where
  rising : Rising 0 last w.lines
  have : HaveLoggedIn w.setup.users w.lines

good-woken : (last : ℕ) (w : View) → IsGood last w → IsGood last (all_woken w)
good-woken last w g = record {
  rising = rising-each 0 last (λ k s. woken w.kept w.clock k s) w.lines g.rising;
  have = all-each w.setup.users (λ k s. woken w.kept w.clock k s) (λ n s h. has-woken w.setup.users w.kept w.clock n s h) w.lines g.have;
}

good-turn_at : (last : ℕ) (w : View) (l : Line) → first_able w.lines ≡ Some l → IsGood last w → (st : Stage) → l.session.stage ≡ st → IsGood last (turn_at w l.number (in_front l.session) st)
good-turn_at last w l e g (Greets h) is = record {
  rising = rising-each 0 last (on l.number (greeted w.setup h)) w.lines g.rising;
  have = all-first w.setup.users last (greeted w.setup h) w.lines l g.rising e (has-greeted w.setup h l.session is) g.have;
}
good-turn_at last w l e g (BoundTo t wait) is =
    let setup = for_tenant w.setup t in
    let f : Session → Session = after_turn setup w.kept w.clock l.number in
    good-woken last (record w { kept = kept_by_turn setup w.kept w.clock l.number (in_front l.session); lines = each_line (on l.number f) w.lines }) (record {
      rising = rising-each 0 last (on l.number f) w.lines g.rising;
      have = all-on w.setup.users l.number f (λ s h. has-served w.setup.users setup w.kept w.clock l.number s h) w.lines g.have;
    })

good-turn : (last : ℕ) (w : View) → IsGood last w → IsGood last (turn w)
unfolding turn
good-turn last w g = by (first_able w.lines) refl
  where
    by : (o : Option Line) → first_able w.lines ≡ o → IsGood last (turn_of w o)
    by None e = g
    by (Some l) e = good-turn_at last w l e g l.session.stage refl

good-again : (n last : ℕ) (w : View) → IsGood last w → IsGood last (again turn n w)
good-again zero last w g = g
good-again (suc n) last w g = good-again n last (turn w) (good-turn last w g)

good-turns : (last : ℕ) (w : View) → IsGood last w → IsGood last (turns w)
unfolding turns
good-turns last w g = good-again (work w.lines) last w g

setup-turn_of : (w : View) (o : Option Line) → (turn_of w o).setup ≡ w.setup
setup-turn_of w None = refl
setup-turn_of w (Some l) = by l.session.stage
  where
    by : (st : Stage) → (turn_at w l.number (in_front l.session) st).setup ≡ w.setup
    by (Greets h) = refl
    by (BoundTo t wait) = refl

setup-turn : (w : View) → (turn w).setup ≡ w.setup
unfolding turn
setup-turn w = setup-turn_of w (first_able w.lines)

setup-again : (n : ℕ) (w : View) → (again turn n w).setup ≡ w.setup
setup-again zero w = refl
setup-again (suc n) w = setup-again n (turn w) ∙ setup-turn w

setup-turns : (w : View) → (turns w).setup ≡ w.setup
unfolding turns
setup-turns w = setup-again (work w.lines) w

pub setup-step : (e : Happening) (w : View) → (step e w).setup ≡ w.setup
setup-step (Opens n) w = refl
setup-step (Comes n piece) w = setup-turns (record w { kept = kept_fed piece w.clock n (find_line n w.lines) w.kept; lines = each_line (on n (fed piece)) w.lines })
setup-step (Closes n) w = refl
setup-step (Moment now) w = let clock = max w.clock now in setup-turns (all_woken (record w { kept = passed clock w.kept; clock = clock }))

-- the machine's last world, and what is fixed in it
pub have-last : (last : ℕ) (es : List Happening) (w : View) → Rising 0 last w.lines → IsEventRun last es → HaveLoggedIn w.setup.users w.lines → HaveLoggedIn w.setup.users (last_world es w).lines
have-last last es w r run h = by last es w run (record { rising = r; have = h })
  where
    next : (es : List Happening) (w v : View) → v.setup ≡ w.setup → HaveLoggedIn v.setup.users (last_world es v).lines → HaveLoggedIn w.setup.users (last_world es v).lines
    next es w v same h = subst (λ (setup : Setup). HaveLoggedIn setup.users (last_world es v).lines) same h

    by : (last : ℕ) (es : List Happening) (w : View) → IsEventRun last es → IsGood last w → HaveLoggedIn w.setup.users (last_world es w).lines
    by last [] w run g = g.have
    by last (Opens n ∷ es) w run g =
        let l : Line = record { number = n; session = new_session w.setup.request_bytes } in
        by n es (step (Opens n) w) run.1 (record {
          rising = rising-push 0 last n w.lines l g.rising run.0 refl;
          have = all-push _ w.lines l g.have tt;
        })
    by last (Comes n piece ∷ es) w run g =
        let v : View = record w { kept = kept_fed piece w.clock n (find_line n w.lines) w.kept; lines = each_line (on n (fed piece)) w.lines } in
        let good : IsGood last v = record {
          rising = rising-each 0 last (on n (fed piece)) w.lines g.rising;
          have = all-on w.setup.users n (fed piece) (λ s h. has-fed w.setup.users piece s h) w.lines g.have;
        } in
        next es w (turns v) (setup-step (Comes n piece) w) (by last es (turns v) run (good-turns last v good))
    by last (Closes n ∷ es) w run g =
        let open_still : ℕ → Bool = λ k. not (eqb k n) in
        by last es (step (Closes n) w) run (record {
          rising = rising-those 0 last open_still w.lines g.rising;
          have = all-those _ open_still w.lines g.have;
        })
    by last (Moment now ∷ es) w run g =
        let clock = max w.clock now in
        let v : View = record w { kept = passed clock w.kept; clock = clock } in
        next es w (turns (all_woken v)) (setup-step (Moment now) w) (by last es (turns (all_woken v)) run.1 (good-turns last (all_woken v) (good-woken last v (record { rising = g.rising; have = g.have }))))
