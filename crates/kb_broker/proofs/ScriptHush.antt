-- Output that is taken changes nothing of what a connection's bytes lead it to.
use Rattle.std.proofs.Common.{◌≡◌, ℕ, ℤ, zero, suc, Bool, true, false, cond, eqb, nat_lt, List, [], ◌∷◌, ◌++◌, length, refl, sym, ap, ◌∙◌, Option, Some, None, Ok, Err}
use Rattle.std.specs.Str.{bytes_eq}
use Rattle.std.specs.Prelude.{codes, Result}
use Rattle.kb_api_group.specs.Frames.{Front, Whole, Partial, TooSmall, TooLarge}
use Rattle.kb_tenant.specs.Replies.{reply_size}
use Rattle.kb_isolation_spec.specs.declared.shut.Shut.{Shut}
use Rattle.kb_isolation_spec.specs.declared.shut.Shut.TheVariants as causes
use Rattle.kb_isolation_spec.specs.declared.head.Head.{Head}
use Rattle.kb_isolation_spec.specs.declared.login.Known.{Known}
use Rattle.kb_isolation_spec.specs.Requests.{Asked, Versions, OtherVersions, Handshake, Authenticate, Another, Malformed, request, unserved}
use Rattle.kb_isolation_spec.specs.Session.{Greeting, Unshaken, Shaken, Bare, Stage, Greets, BoundTo, Session, shut_down, replied, throttled, fed, room, unanswerable, in_front}
use Rattle.kb_isolation_spec.specs.Greeting.{Setup, bound, failed, failed_reply, login, logged_in, bare_login, greeting_after, shaken, authenticated, greeted_by, greeted_frame, greeted_at, greeted}
use Rattle.kb_isolation_spec.specs.Machine.{Happening, Opens, Comes, Closes, Moment, Line, again}
use Rattle.kb_isolation_spec.specs.Owners.{greet_turn_at, greet_turn, greeted_so_far, whose, destiny, Pairwise}
use Rattle.kb_isolation_spec.specs.Broker.{BrokerState, Mine}
use Rattle.kb_isolation_spec.specs.Calls.{without_output}
use Rattle.kb_isolation_spec.specs.Told.{quieted_lines}
use Rattle.kb_isolation_spec.proofs.Owners.{SameFate, owns-fates}
use Rattle.kb_broker.specs.ScriptRun.{hushed}

-- but for their output, the same
abbrev Same : Session → Session → Type 0
Same s t = without_output s ≡ without_output t

same-shut : (cause : Shut) (s t : Session) → Same s t → Same (shut_down cause s) (shut_down cause t)
same-shut cause s t e = ap (shut_down cause) e

replied_by : (cause : Shut) (b : Bool) (x y s t : Session) → Same s t → Same x y → Same (cond b (shut_down cause s) x) (cond b (shut_down cause t) y)
replied_by cause true x y s t e f = same-shut cause s t e
replied_by cause false x y s t e f = f

same-replied : (head : Head) (body : List ℕ) (s t : Session) → Same s t → Same (replied head body s) (replied head body t)
unfolding replied
same-replied head body s t e = replied_by (unanswerable head) (nat_lt 2147483647 (reply_size (throttled head body))) _ _ s t e e

same-stage : (st : Stage) (s t : Session) → Same s t → Same (record s { stage = st }) (record t { stage = st })
same-stage st s t e = ap (λ (x : Session). record x { stage = st }) e

same-shaken : (b : Bool) (head : Head) (version : ℤ) (s t : Session) → Same s t → Same (shaken b head version s) (shaken b head version t)
same-shaken true head version s t e = same-replied head _ _ _ (same-stage (Greets (greeting_after version)) s t e)
same-shaken false head version s t e = same-replied head _ s t e

same-denied : (head : Head) (body : List ℕ) (s t : Session) → Same s t → Same (shut_down causes.Denied (replied head body s)) (shut_down causes.Denied (replied head body t))
same-denied head body s t e = same-shut causes.Denied (replied head body s) (replied head body t) (same-replied head body s t e)

same-bound : (known : Known) (s t : Session) → Same s t → Same (bound known s) (bound known t)
same-bound known s t e = ap (bound known) e

same-failed : (name : List ℕ) (s t : Session) → Same s t → Same (failed name s) (failed name t)
same-failed name s t e = ap (failed name) e

same-logged_in : (o : Result Known (List ℕ)) (head : Head) (s t : Session) → Same s t → Same (logged_in o head s) (logged_in o head t)
same-logged_in (Ok known) head s t e = same-replied head _ (bound known s) (bound known t) (same-bound known s t e)
same-logged_in (Err name) head s t e = same-denied head failed_reply (failed name s) (failed name t) (same-failed name s t e)

same-authenticated : (setup : Setup) (h : Bool) (head : Head) (message : List ℕ) (s t : Session) → Same s t → Same (authenticated setup h head message s) (authenticated setup h head message t)
same-authenticated setup true head message s t e = same-logged_in (login setup.users message) head s t e
same-authenticated setup false head message s t e = same-replied head _ s t e

same-greeted_by : (setup : Setup) (h : Bool) (head : Head) (a : Asked) (s t : Session) → Same s t → Same (greeted_by setup h head a s) (greeted_by setup h head a t)
unfolding greeted_by
same-greeted_by setup h head Versions s t e = same-replied head _ s t e
same-greeted_by setup h head OtherVersions s t e = same-replied head _ s t e
same-greeted_by setup h head (Handshake version mechanism) s t e = same-shaken (bytes_eq mechanism (codes "PLAIN")) head version s t e
same-greeted_by setup h head (Authenticate message) s t e = same-authenticated setup h head message s t e
same-greeted_by setup h head (Another key version body) s t e = same-shut (causes.NotLoggedIn head.api_key head.api_version) s t e
same-greeted_by setup h head Malformed s t e = same-shut (unserved setup.versions head) s t e

same-bare_login : (o : Result Known (List ℕ)) (s t : Session) → Same s t → Same (bare_login o s) (bare_login o t)
same-bare_login (Ok known) s t e = same-bound known s t e
same-bare_login (Err name) s t e = same-shut causes.Denied (failed name s) (failed name t) (same-failed name s t e)

same-greeted_frame : (setup : Setup) (h : Greeting) (frame : List ℕ) (s t : Session) → Same s t → Same (greeted_frame setup h frame s) (greeted_frame setup h frame t)
same-greeted_frame setup Unshaken frame s t e = let r = request setup.versions frame in same-greeted_by setup false r.head r.asked s t e
same-greeted_frame setup Shaken frame s t e = let r = request setup.versions frame in same-greeted_by setup true r.head r.asked s t e
same-greeted_frame setup Bare frame s t e = same-bare_login (login setup.users frame) s t e

same-greeted_at : (setup : Setup) (h : Greeting) (f : Front) (s t : Session) → Same s t → Same (greeted_at setup h s f) (greeted_at setup h t f)
same-greeted_at setup h (Whole frame rest) s t e = same-greeted_frame setup h frame _ _ (ap (λ (x : Session). record x { unread = rest }) e)
same-greeted_at setup h TooSmall s t e = same-shut causes.TooShort s t e
same-greeted_at setup h TooLarge s t e = same-shut causes.TooLong s t e
same-greeted_at setup h Partial s t e = e

same-greeted : (setup : Setup) (h : Greeting) (s t : Session) → Same s t → Same (greeted setup h s) (greeted setup h t)
unfolding greeted
same-greeted setup h s t e =
    let f : in_front s ≡ in_front t = ap (λ (x : Session). in_front x) e in
    same-greeted_at setup h (in_front s) s t e ∙ ap (λ f. without_output (greeted_at setup h t f)) f

same-turn_at : (setup : Setup) (st : Stage) (s t : Session) → Same s t → Same (greet_turn_at setup s st) (greet_turn_at setup t st)
same-turn_at setup (Greets h) s t e = same-greeted setup h s t e
same-turn_at setup (BoundTo u w) s t e = e

same-turn : (setup : Setup) (s t : Session) → Same s t → Same (greet_turn setup s) (greet_turn setup t)
unfolding greet_turn
same-turn setup s t e =
    let f : s.stage ≡ t.stage = ap (λ (x : Session). x.stage) e in
    same-turn_at setup s.stage s t e ∙ ap (λ st. without_output (greet_turn_at setup t st)) f

same-again : (setup : Setup) (n : ℕ) (s t : Session) → Same s t → Same (again (greet_turn setup) n s) (again (greet_turn setup) n t)
same-again setup zero s t e = e
same-again setup (suc n) s t e = same-again setup n (greet_turn setup s) (greet_turn setup t) (same-turn setup s t e)

same-heard : (setup : Setup) (s t : Session) → Same s t → Same (greeted_so_far setup s) (greeted_so_far setup t)
unfolding greeted_so_far
same-heard setup s t e =
    let f : length s.unread ≡ length t.unread = ap (λ (x : Session). length x.unread) e in
    same-again setup (length s.unread) s t e ∙ ap (λ n. without_output (again (greet_turn setup) n t)) f

fed-hushed : (piece : List ℕ) (s : Session) → without_output (fed piece s) ≡ fed piece (without_output s)
unfolding fed
fed-hushed piece s = by s.shut (nat_lt (room s) (length piece))
  where
    by : (a b : Bool) → without_output (cond a s (cond b (shut_down causes.Overrun s) (record s { unread = s.unread ++ piece })))
        ≡ cond a (without_output s) (cond b (shut_down causes.Overrun (without_output s)) (record (without_output s) { unread = s.unread ++ piece }))
    by true b = refl
    by false true = refl
    by false false = refl

same-fed : (piece : List ℕ) (s t : Session) → Same s t → Same (fed piece s) (fed piece t)
same-fed piece s t e = fed-hushed piece s ∙ ap (fed piece) e ∙ sym (fed-hushed piece t)

same-destiny : (setup : Setup) (n : ℕ) (s t : Session) (es : List Happening) → Same s t → destiny setup n s es ≡ destiny setup n t es
same-destiny setup n s t [] e = ap (λ (x : Session). whose x.stage) e
same-destiny setup n s t (Opens m ∷ es) e = same-destiny setup n s t es e
same-destiny setup n s t (Comes m piece ∷ es) e = by (eqb m n) (same-destiny setup n (greeted_so_far setup (fed piece s)) (greeted_so_far setup (fed piece t)) es (same-heard setup (fed piece s) (fed piece t) (same-fed piece s t e))) (same-destiny setup n s t es e)
  where
    by : (b : Bool) → destiny setup n (greeted_so_far setup (fed piece s)) es ≡ destiny setup n (greeted_so_far setup (fed piece t)) es → destiny setup n s es ≡ destiny setup n t es → cond b (destiny setup n (greeted_so_far setup (fed piece s)) es) (destiny setup n s es) ≡ cond b (destiny setup n (greeted_so_far setup (fed piece t)) es) (destiny setup n t es)
    by true here rest = here
    by false here rest = rest
same-destiny setup n s t (Closes m ∷ es) e = by (eqb m n) (same-destiny setup n s t es e)
  where
    by : (b : Bool) → destiny setup n s es ≡ destiny setup n t es → cond b (whose s.stage) (destiny setup n s es) ≡ cond b (whose t.stage) (destiny setup n t es)
    by true rest = ap (λ (x : Session). whose x.stage) e
    by false rest = rest
same-destiny setup n s t (Moment now ∷ es) e = same-destiny setup n s t es e

fate-hushed : (setup : Setup) (l : Line) → SameFate setup l (record { number = l.number; session = without_output l.session })
fate-hushed setup l = record { number = refl; fate = λ es. same-destiny setup l.number (greeted_so_far setup (without_output l.session)) (greeted_so_far setup l.session) es (same-heard setup (without_output l.session) l.session refl) }

fates-hushed : (setup : Setup) (ls : List Line) → Pairwise (SameFate setup) ls (quieted_lines ls)
fates-hushed setup [] = tt
fates-hushed setup (l ∷ ls) = (fate-hushed setup l, fates-hushed setup ls)

-- a tenant's connections are the same after output was taken
pub mine-hushed : (t : ℕ) (mine : ℕ → Bool) (es : List Happening) (b : BrokerState) → Mine t mine es b → Mine t mine es (hushed b)
mine-hushed t mine es b m =
    let owns = owns-fates b.setup t mine b.last es b.lines (quieted_lines b.lines) (fates-hushed b.setup b.lines) m in
    record { now = owns.now; later = owns.later }
