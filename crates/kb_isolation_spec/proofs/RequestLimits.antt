-- All through a run the limit of a request is that of the setup.
use Rattle.std.proofs.Common.{◌≡◌, ℕ, ℤ, zero, suc, max, List, [], ◌∷◌, ◌++◌, length, Bool, true, false, not, eqb, cond, Option, Some, None, Result, Ok, Err}
use Rattle.std.proofs.Common.{refl, sym, ap, ◌∙◌, subst, codes, nat_lt}
use Rattle.std.specs.Str.{bytes_eq}
use Rattle.kb_api_group.specs.Frames.{Front, Whole, Partial, TooSmall, TooLarge}
use Rattle.kb_tenant.specs.Replies as tenant
use Rattle.kb_tenant.specs.Replies.{Replies, Waits, Silent, Shuts, framed, reply_size}
use Rattle.kb_tenant_api.specs.Hosted.{Kept, passed}
use Rattle.kb_tenant_api.specs.Replies.{Reaction, Plain, Rebalances}
use Rattle.kb_isolation_spec.specs.declared.head.Head.{Head}
use Rattle.kb_isolation_spec.specs.declared.login.Known.{Known}
use Rattle.kb_isolation_spec.specs.declared.shut.Shut.TheVariants as causes
use Rattle.kb_isolation_spec.specs.Requests.{Asked, Versions, OtherVersions, Handshake, Authenticate, Another, Malformed, request}
use Rattle.kb_isolation_spec.specs.Tenant.{reaction_to, ready}
use Rattle.kb_isolation_spec.specs.Session.{Greeting, Unshaken, Shaken, Bare, Stage, Greets, BoundTo, Session, new_session, fed, in_front, replied, room, shut_down, throttled, unanswerable, without_wait}
use Rattle.kb_isolation_spec.specs.Greeting.{Setup, for_tenant, login, bound, failed, failed_reply, logged_in, bare_login, greeting_after, shaken, greeted_by, greeted_frame, greeted_at, greeted}
use Rattle.kb_isolation_spec.specs.Machine.{Happening, Opens, Comes, Closes, Moment, Line, View, Sent, plainly, after_reaction, served_by, served_at, after_turn, kept_by_turn, told, woken, woken_by, each_line, on, those, find_line, first_able, all_woken, turn_at, turn_of, turn, again, work, turns, kept_fed, step}
use Rattle.kb_isolation_spec.specs.Owners.{purge}
use Rattle.kb_isolation_spec.specs.Broker.{BrokerState, IsCalmFor, Mine, view_of}
use Rattle.kb_isolation_spec.specs.Told.{quieted_lines}
use Rattle.kb_isolation_spec.specs.Left.{IsLeft, LeavesWorlds, last_world}
use Rattle.kb_isolation_spec.specs.RequestLimits.{HaveLimit}
use Rattle.kb_isolation_spec.proofs.Logins.{setup-step}
use Rattle.kb_isolation_spec.proofs.Sets.{all-push, all-those}

-- 1. One connection

pub limit-replied : (head : Head) (body : List ℕ) (s : Session) → (replied head body s).limit ≡ s.limit
unfolding replied
limit-replied head body s = by (nat_lt 2147483647 (reply_size (throttled head body))) (s.output ++ framed head.correlation_id (throttled head body))
  where
    by : (a : Bool) (bytes : List ℕ) → (let x : Session = cond a (shut_down (unanswerable head) s) (record s { output = bytes }) in x).limit ≡ s.limit
    by true bytes = refl
    by false bytes = refl

limit-logged_in : (o : Result Known (List ℕ)) (head : Head) (s : Session) → (logged_in o head s).limit ≡ s.limit
limit-logged_in (Ok known) head s = limit-replied head _ (bound known s)
limit-logged_in (Err name) head s = limit-replied head failed_reply (failed name s)

limit-greeted_by : (setup : Setup) (h : Bool) (head : Head) (a : Asked) (s : Session) → (greeted_by setup h head a s).limit ≡ s.limit
unfolding greeted_by
limit-greeted_by setup h head Versions s = limit-replied head _ s
limit-greeted_by setup h head OtherVersions s = limit-replied head _ s
limit-greeted_by setup h head (Handshake version mechanism) s = by (bytes_eq mechanism (codes "PLAIN"))
  where
    by : (b : Bool) → (shaken b head version s).limit ≡ s.limit
    by true = limit-replied head _ (record s { stage = Greets (greeting_after version) })
    by false = limit-replied head _ s
limit-greeted_by setup true head (Authenticate message) s = limit-logged_in (login setup.users message) head s
limit-greeted_by setup false head (Authenticate message) s = limit-replied head _ s
limit-greeted_by setup h head (Another key version body) s = refl
limit-greeted_by setup h head Malformed s = refl

limit-bare : (o : Result Known (List ℕ)) (s : Session) → (bare_login o s).limit ≡ s.limit
limit-bare (Ok known) s = refl
limit-bare (Err name) s = refl

limit-frame : (setup : Setup) (h : Greeting) (frame : List ℕ) (s : Session) → (greeted_frame setup h frame s).limit ≡ s.limit
limit-frame setup Unshaken frame s = let r = request setup.versions frame in limit-greeted_by setup false r.head r.asked s
limit-frame setup Shaken frame s = let r = request setup.versions frame in limit-greeted_by setup true r.head r.asked s
limit-frame setup Bare frame s = limit-bare (login setup.users frame) s

pub limit-greeted : (setup : Setup) (h : Greeting) (s : Session) → (greeted setup h s).limit ≡ s.limit
unfolding greeted
limit-greeted setup h s = by (in_front s)
  where
    by : (f : Front) → (greeted_at setup h s f).limit ≡ s.limit
    by (Whole frame rest) = limit-frame setup h frame (record s { unread = rest })
    by TooSmall = refl
    by TooLarge = refl
    by Partial = refl

limit-plainly : (r : tenant.Reaction) (head : Head) (version : ℤ) (body : List ℕ) (s : Session) → (plainly r head s).limit ≡ s.limit
limit-plainly (Replies reply) head version body s = limit-replied head reply s
limit-plainly (Waits deadline limit places) head version body s = refl
limit-plainly Silent head version body s = refl
limit-plainly Shuts head version body s = refl

limit-answered : (r : Reaction) (head : Head) (version : ℤ) (body : List ℕ) (s : Session) → (after_reaction r head s).limit ≡ s.limit
limit-answered (Plain r) head version body s = limit-plainly r head version body s
limit-answered Rebalances head version body s = refl

limit-served_by : (setup : Setup) (kept : Kept) (clock n : ℕ) (head : Head) (a : Asked) (s : Session) → (served_by setup kept clock n head a s).limit ≡ s.limit
unfolding served_by
limit-served_by setup kept clock n head Versions s = limit-replied head _ s
limit-served_by setup kept clock n head OtherVersions s = limit-replied head _ s
limit-served_by setup kept clock n head (Handshake version mechanism) s = limit-replied head _ s
limit-served_by setup kept clock n head (Authenticate message) s = limit-replied head _ s
limit-served_by setup kept clock n head (Another key version body) s = limit-answered (reaction_to setup.node kept clock n key version body) head version body s
limit-served_by setup kept clock n head Malformed s = refl

pub limit-served : (setup : Setup) (kept : Kept) (clock n : ℕ) (s : Session) → (after_turn setup kept clock n s).limit ≡ s.limit
unfolding after_turn
limit-served setup kept clock n s = by (in_front s)
  where
    by : (f : Front) → (served_at setup kept clock n s f).limit ≡ s.limit
    by (Whole frame rest) = limit-served_by setup kept clock n (request setup.versions frame).head (request setup.versions frame).asked (record s { unread = rest })
    by TooSmall = refl
    by TooLarge = refl
    by Partial = refl

limit-told : (r : tenant.Reaction) (head : Head) (s : Session) → (told r head s).limit ≡ s.limit
limit-told (Replies reply) head s = limit-replied head reply (record s { stage = without_wait s.stage })
limit-told (Waits deadline limit places) head s = refl
limit-told Silent head s = refl
limit-told Shuts head s = refl

limit-woken : (kept : Kept) (clock n : ℕ) (s : Session) → (woken kept clock n s).limit ≡ s.limit
unfolding woken_by
limit-woken kept clock n s = by s.stage
  where
    by : (st : Stage) → (woken_by kept clock n s st).limit ≡ s.limit
    by (Greets g) = refl
    by (BoundTo t None) = refl
    by (BoundTo t (Some wait)) = limit-told (ready kept clock n wait) wait.head s

pub limit-fed : (piece : List ℕ) (s : Session) → (fed piece s).limit ≡ s.limit
unfolding fed
limit-fed piece s = by s.shut (nat_lt (room s) (length piece)) (s.unread ++ piece)
  where
    by : (a b : Bool) (bytes : List ℕ) → (let x : Session = cond a s (cond b (shut_down causes.Overrun s) (record s { unread = bytes })) in x).limit ≡ s.limit
    by true b bytes = refl
    by false true bytes = refl
    by false false bytes = refl

-- 2. Lists of connections

have-each : (limit : ℕ) (g : ℕ → Session → Session) → ((n : ℕ) (s : Session) → (g n s).limit ≡ s.limit) → (ls : List Line) → HaveLimit limit ls → HaveLimit limit (each_line g ls)
have-each limit g keeps [] h = tt
have-each limit g keeps (l ∷ ls) h = (keeps l.number l.session ∙ h.0, have-each limit g keeps ls h.1)

have-on : (limit n : ℕ) (f : Session → Session) → ((s : Session) → (f s).limit ≡ s.limit) → (ls : List Line) → HaveLimit limit ls → HaveLimit limit (each_line (on n f) ls)
have-on limit n f keeps ls h = have-each limit (on n f) (λ k s. by s (eqb k n)) ls h
  where
    by : (s : Session) (b : Bool) → (let x : Session = cond b (f s) s in x).limit ≡ s.limit
    by s true = keeps s
    by s false = refl

-- 3. A machine's run

have-woken : (limit : ℕ) (w : View) → HaveLimit limit w.lines → HaveLimit limit (all_woken w).lines
have-woken limit w h = have-each limit (λ k s. woken w.kept w.clock k s) (λ n s. limit-woken w.kept w.clock n s) w.lines h

have-turn_at : (limit : ℕ) (w : View) (n : ℕ) (f : Front) (st : Stage) → HaveLimit limit w.lines → HaveLimit limit (turn_at w n f st).lines
have-turn_at limit w n f (Greets h) have = have-on limit n (greeted w.setup h) (limit-greeted w.setup h) w.lines have
have-turn_at limit w n f (BoundTo t wait) have =
    let setup = for_tenant w.setup t in
    let g : Session → Session = after_turn setup w.kept w.clock n in
    have-woken limit (record w { kept = kept_by_turn setup w.kept w.clock n f; lines = each_line (on n g) w.lines }) (have-on limit n g (limit-served setup w.kept w.clock n) w.lines have)

have-turn : (limit : ℕ) (w : View) → HaveLimit limit w.lines → HaveLimit limit (turn w).lines
unfolding turn
have-turn limit w h = by (first_able w.lines)
  where
    by : (o : Option Line) → HaveLimit limit (turn_of w o).lines
    by None = h
    by (Some l) = have-turn_at limit w l.number (in_front l.session) l.session.stage h

have-again : (limit n : ℕ) (w : View) → HaveLimit limit w.lines → HaveLimit limit (again turn n w).lines
have-again limit zero w h = h
have-again limit (suc n) w h = have-again limit n (turn w) (have-turn limit w h)

have-turns : (limit : ℕ) (w : View) → HaveLimit limit w.lines → HaveLimit limit (turns w).lines
unfolding turns
have-turns limit w h = have-again limit (work w.lines) w h

have-step : (e : Happening) (w : View) → HaveLimit w.setup.request_bytes w.lines → HaveLimit w.setup.request_bytes (step e w).lines
have-step (Opens n) w h = all-push (λ l. l.session.limit ≡ w.setup.request_bytes) w.lines (record { number = n; session = new_session w.setup.request_bytes }) h refl
have-step (Comes n piece) w h =
    have-turns w.setup.request_bytes (record w { kept = kept_fed piece w.clock n (find_line n w.lines) w.kept; lines = each_line (on n (fed piece)) w.lines })
    (have-on w.setup.request_bytes n (fed piece) (limit-fed piece) w.lines h)
have-step (Closes n) w h = all-those (λ l. l.session.limit ≡ w.setup.request_bytes) (λ k. not (eqb k n)) w.lines h
have-step (Moment now) w h =
    let clock = max w.clock now in
    let v : View = record w { kept = passed clock w.kept; clock = clock } in
    have-turns w.setup.request_bytes (all_woken v) (have-woken w.setup.request_bytes v h)

pub limit-last : (es : List Happening) (w : View) → HaveLimit w.setup.request_bytes w.lines → HaveLimit w.setup.request_bytes (last_world es w).lines
limit-last [] w h = h
limit-last (e ∷ es) w h =
    let next : View = step e w in
    let have : HaveLimit next.setup.request_bytes next.lines = subst (λ (setup : Setup). HaveLimit setup.request_bytes next.lines) (sym (setup-step e w)) (have-step e w h) in
    subst (λ (setup : Setup). HaveLimit setup.request_bytes (last_world es next).lines) (setup-step e w) (limit-last es next have)

-- 4. The broker of all tenants

-- who takes the output changes no limit
have-quieted : (limit : ℕ) (ls : List Line) → HaveLimit limit ls → HaveLimit limit (quieted_lines ls)
have-quieted limit [] h = tt
have-quieted limit (l ∷ ls) h = (h.0, have-quieted limit ls h.1)

pub limit-left : (t : ℕ) (mine : ℕ → Bool) (es later : List Happening) (a b : BrokerState) (got : List Sent) → a.lines ≡ [] → LeavesWorlds es a b got → Mine t mine (es ++ later) a → IsCalmFor t a b → HaveLimit a.setup.request_bytes (those mine b.lines)
limit-left t mine es later a b got none leaves owns calm =
    let left : IsLeft t mine es later a b got = leaves t mine later owns calm in
    let w : View = view_of t mine a in
    let limit : ℕ = a.setup.request_bytes in
    let nobody : those mine a.lines ≡ [] = ap (those mine) none in
    let have : HaveLimit limit (last_world (purge mine es) w).lines = limit-last (purge mine es) w (subst (HaveLimit limit) (sym nobody) tt) in
    subst (HaveLimit limit) (sym (ap (λ (v : View). v.lines) left.world)) (have-quieted limit (last_world (purge mine es) w).lines have)
