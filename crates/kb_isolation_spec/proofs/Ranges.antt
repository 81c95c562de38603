-- A connection is bound to a tenant of the broker.
use Rattle.std.proofs.Common.{◌≡◌, ◌<◌, ℕ, zero, suc, List, [], ◌∷◌, ◌++◌, length, Bool, true, false, Option, Some, None, Result, Ok, Err, refl, sym, subst}
use Rattle.std.specs.Prelude.{cond, nat_lt, ⊤, ◌&&◌}
use Rattle.std.specs.List.{AllByRecursion}
use Rattle.std.specs.Str.{bytes_eq}
use Rattle.kb_api_group.specs.Plain.{plain}
use Rattle.kb_api_group.specs.declared.plain.PlainLogin.{PlainLogin}
use Rattle.kb_api_group.specs.Frames.{Front, Whole, Partial, TooSmall, TooLarge}
use Rattle.kb_tenant.specs.Replies.{framed, reply_size}
use Rattle.kb_isolation_spec.specs.declared.head.Head.{Head}
use Rattle.kb_isolation_spec.specs.declared.login.Known.{Known}
use Rattle.kb_isolation_spec.specs.Requests.{Asked, Versions, OtherVersions, Handshake, Authenticate, Another, Malformed, request}
use Rattle.kb_isolation_spec.specs.Session.{Greeting, Unshaken, Shaken, Bare, Stage, Greets, BoundTo, Session, shut_down, replied, throttled, without_wait, fed, unanswerable, in_front}
use Rattle.kb_isolation_spec.specs.Greeting.{Setup, User, greeted_by, greeted_frame, greeted_at, greeted, greeting_after, shaken, authenticated, logged_in, bare_login, bound, failed, login, login_by, known_from, known_or}
use Rattle.kb_isolation_spec.specs.Owners.{greet_turn, greet_turn_at, greeted_so_far}
use Rattle.kb_isolation_spec.specs.Machine.{again}
use Rattle.kb_isolation_spec.specs.Broker.{InRange}
use Rattle.kb_isolation_spec.proofs.Owners.{stage-fed}

abbrev pub IsBelow : ℕ → Option ℕ → Type 0
IsBelow tenants None = ⊤
IsBelow tenants (Some t) = t < tenants

abbrev NamesBelow : ℕ → Result Known (List ℕ) → Type 0
NamesBelow tenants (Ok known) = known.tenant < tenants
NamesBelow tenants (Err name) = ⊤

abbrev pub AreUsers : ℕ → List User → Type 0
AreUsers tenants users = AllByRecursion (λ (u : User). u.tenant < tenants) users

pub range-without : (n : ℕ) (st : Stage) → InRange n st → InRange n (without_wait st)
range-without n (Greets h) r = tt
range-without n (BoundTo u w) r = r

pub range-same : (n : ℕ) (a b : Stage) → without_wait b ≡ without_wait a → InRange n a → InRange n b
range-same n (Greets g) (Greets h) e r = tt
range-same n (Greets g) (BoundTo v w) e r = absurd (cc)
range-same n (BoundTo v w) (Greets h) e r = tt
range-same n (BoundTo v w) (BoundTo x y) e r = let g : x ≡ v = cc in rw g r

range-replied : (n : ℕ) (head : Head) (body : List ℕ) (s : Session) → InRange n s.stage → InRange n (replied head body s).stage
unfolding replied
range-replied n head body s r = by (nat_lt 2147483647 (reply_size (throttled head body))) (s.output ++ framed head.correlation_id (throttled head body))
  where
    by : (a : Bool) (bytes : List ℕ) → InRange n (let x : Session = cond a (shut_down (unanswerable head) s) (record s { output = bytes }) in x).stage
    by true bytes = range-without n s.stage r
    by false bytes = r

below-of : (n place : ℕ) (us : List User) (name password : List ℕ) → AreUsers n us → NamesBelow n (known_or name (known_from place us name password))
below-of n place [] name password h = tt
below-of n place (u ∷ us) name password h = by (bytes_eq u.name name && bytes_eq u.password password) (below-of n (suc place) us name password h.1)
  where
    by : (b : Bool) → NamesBelow n (known_or name (known_from (suc place) us name password)) → NamesBelow n (known_or name (cond b (Some (record { user = place; tenant = u.tenant })) (known_from (suc place) us name password)))
    by true rest = h.0
    by false rest = rest

below-at : (n : ℕ) (us : List User) (o : Option PlainLogin) → AreUsers n us → NamesBelow n (login_by us o)
below-at n us None h = tt
below-at n us (Some p) h = below-of n zero us p.authcid p.passwd h

below-login : (n : ℕ) (us : List User) (message : List ℕ) → AreUsers n us → NamesBelow n (login us message)
unfolding login
below-login n us message h = below-at n us (plain message) h

range-by : (n : ℕ) (setup : Setup) (h : Bool) (head : Head) (a : Asked) (s : Session) → AreUsers n setup.users → InRange n s.stage → InRange n (greeted_by setup h head a s).stage
unfolding greeted_by
range-by n setup h head Versions s us r = range-replied n head _ s r
range-by n setup h head OtherVersions s us r = range-replied n head _ s r
range-by n setup h head (Handshake v m) s us r = by (bytes_eq m _)
  where
    by : (b : Bool) → InRange n (shaken b head v s).stage
    by true = range-replied n head _ (record s { stage = Greets (greeting_after v) }) tt
    by false = range-replied n head _ s r
range-by n setup h head (Authenticate m) s us r = by h
  where
    logs : (o : Result Known (List ℕ)) → NamesBelow n o → InRange n (logged_in o head s).stage
    logs (Ok known) b = range-replied n head _ (bound known s) b
    logs (Err name) b = range-without n (replied head _ (failed name s)).stage (range-replied n head _ (failed name s) r)

    by : (b : Bool) → InRange n (authenticated setup b head m s).stage
    by true = logs (login setup.users m) (below-login n setup.users m us)
    by false = range-replied n head _ s r
range-by n setup h head (Another k v b) s us r = range-without n s.stage r
range-by n setup h head Malformed s us r = range-without n s.stage r

range-bare : (n : ℕ) (o : Result Known (List ℕ)) (s : Session) → NamesBelow n o → InRange n s.stage → InRange n (bare_login o s).stage
range-bare n (Ok known) s b r = b
range-bare n (Err name) s b r = range-without n s.stage r

range-frame : (n : ℕ) (setup : Setup) (h : Greeting) (frame : List ℕ) (s : Session) → AreUsers n setup.users → InRange n s.stage → InRange n (greeted_frame setup h frame s).stage
range-frame n setup Unshaken frame s us r = let q = request setup.versions frame in range-by n setup false q.head q.asked s us r
range-frame n setup Shaken frame s us r = let q = request setup.versions frame in range-by n setup true q.head q.asked s us r
range-frame n setup Bare frame s us r = range-bare n (login setup.users frame) s (below-login n setup.users frame us) r

-- the greeting binds to a tenant of the broker
pub range-greeted : (n : ℕ) (setup : Setup) (h : Greeting) (s : Session) → AreUsers n setup.users → InRange n s.stage → InRange n (greeted setup h s).stage
unfolding greeted
range-greeted n setup h s us r = by (in_front s)
  where
    by : (f : Front) → InRange n (greeted_at setup h s f).stage
    by (Whole frame rest) = range-frame n setup h frame (record s { unread = rest }) us r
    by TooSmall = range-without n s.stage r
    by TooLarge = range-without n s.stage r
    by Partial = r

range-turn : (n : ℕ) (setup : Setup) (s : Session) (st : Stage) → s.stage ≡ st → AreUsers n setup.users → InRange n s.stage → InRange n (greet_turn setup s).stage
unfolding greet_turn
range-turn n setup s (Greets h) e us r = subst (λ x. InRange n (greet_turn_at setup s x).stage) (sym e) (range-greeted n setup h s us r)
range-turn n setup s (BoundTo u w) e us r = subst (λ x. InRange n (greet_turn_at setup s x).stage) (sym e) r

range-again : (n : ℕ) (setup : Setup) (k : ℕ) (s : Session) → AreUsers n setup.users → InRange n s.stage → InRange n (again (greet_turn setup) k s).stage
range-again n setup zero s us r = r
range-again n setup (suc k) s us r = range-again n setup k (greet_turn setup s) us (range-turn n setup s s.stage refl us r)

pub range-heard : (n : ℕ) (setup : Setup) (s : Session) → AreUsers n setup.users → InRange n s.stage → InRange n (greeted_so_far setup s).stage
unfolding greeted_so_far
range-heard n setup s us r = range-again n setup (length s.unread) s us r

pub range-fed : (n : ℕ) (piece : List ℕ) (s : Session) → InRange n s.stage → InRange n (fed piece s).stage
range-fed n piece s r = range-same n s.stage (fed piece s).stage (stage-fed piece s) r
