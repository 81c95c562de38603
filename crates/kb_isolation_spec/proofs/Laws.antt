-- Laws of the one-tenant machine.
use Rattle.std.proofs.Common.{◌≡◌, ℕ, ℤ, pos, negsuc, zero, suc, ◌<◌, ◌≤◌, List, [], ◌∷◌, ◌++◌, length, take, drop, Bool, true, false, Some, None, Option, Result, Ok, Err, refl, sym, ◌∙◌, ap, arith, length-drop}
use Rattle.std.specs.Prelude.{nat_lt, cond}
use Rattle.std.proofs.lemmas.Bool.Decides.{nat_tests}
use Rattle.std.specs.Int.{w32, cast_signed, from_be_bytes}
use Rattle.kb_wire.specs.Codec.{int}
use Rattle.kb_api_group.specs.Frames.{Front, Whole, Partial, TooSmall, TooLarge, front, front_by}
use Rattle.kb_isolation_spec.specs.declared.head.Head.{Head}
use Rattle.kb_isolation_spec.specs.declared.login.Known.{Known}
use Rattle.kb_isolation_spec.specs.Requests.{Asked, Versions, OtherVersions, Handshake, Authenticate, Another, Malformed, request}
use Rattle.kb_tenant_api.specs.Hosted.{Kept}
use Rattle.kb_tenant.specs.Replies as tenant
use Rattle.kb_tenant.specs.Replies.{Replies, Waits, Silent, Shuts, framed, reply_size}
use Rattle.kb_tenant_api.specs.Replies.{Reaction, Plain, Rebalances}
use Rattle.kb_isolation_spec.specs.Tenant.{reaction_to, ready}
use Rattle.kb_isolation_spec.specs.Session.{Greeting, Unshaken, Shaken, Bare, Stage, Greets, BoundTo, Session, shut_down, replied, throttled, unanswerable, is_turn, can, in_front}
use Rattle.kb_isolation_spec.specs.Greeting.{Setup, for_tenant, greeted_by, greeted_frame, greeted_at, greeted, greeting_after, shaken, authenticated, logged_in, bare_login, bound, login}
use Rattle.kb_isolation_spec.specs.Machine.{Line, View, plainly, after_reaction, served_by, served_at, after_turn, kept_by_turn, told, woken_by, woken, each_line, on, those, first_able, turn_at, turn_of, turn, again, work, turns}

-- 1. Lists of connections

-- a change of each connection, cut down to some
pub those-each : (mine : ℕ → Bool) (g : ℕ → Session → Session) (ls : List Line) → those mine (each_line g ls) ≡ each_line g (those mine ls)
those-each mine g [] = refl
those-each mine g (l ∷ ls) = grind (arith, nat_tests, those-each mine g ls)

pub first-those : (mine : ℕ → Bool) (ls : List Line) (l : Line) → first_able ls ≡ Some l → mine l.number ≡ true → first_able (those mine ls) ≡ Some l
first-those mine [] l h m = cc
first-those mine (k ∷ ls) l h m = grind (arith, nat_tests, first-those mine ls l)

pub none-those : (mine : ℕ → Bool) (ls : List Line) → first_able ls ≡ None → first_able (those mine ls) ≡ None
none-those mine [] h = refl
none-those mine (k ∷ ls) h = grind (arith, nat_tests, none-those mine ls)

-- the one that takes its turn can
pub first-can : (ls : List Line) (l : Line) → first_able ls ≡ Some l → can l.session ≡ true
first-can [] l h = cc
first-can (k ∷ ls) l h = grind (arith, nat_tests, first-can ls l)

-- 2. A turn takes unread bytes

last-rest : (n : ℕ) (behind frame rest : List ℕ) → Whole (take n behind) (drop n behind) ≡ Whole frame rest → length rest ≤ length behind
last-rest n behind frame rest e = let d : drop n behind ≡ rest = cc in omega (arith, ap length d, length-drop n behind)

by-rest : (limit : ℕ) (z : ℤ) (behind frame rest : List ℕ) → front_by limit z behind ≡ Whole frame rest → length rest ≤ length behind
by-rest limit (negsuc n) behind frame rest e = cc
by-rest limit (pos n) behind frame rest e = cases n behind frame rest (nat_lt n 8) (nat_lt limit n) (nat_lt (length behind) n) e
  where
    cases : (n : ℕ) (behind frame rest : List ℕ) (a b c : Bool) → cond a TooSmall (cond b TooLarge (cond c Partial (Whole (take n behind) (drop n behind)))) ≡ Whole frame rest → length rest ≤ length behind
    cases n behind frame rest true b c e = cc
    cases n behind frame rest false true c e = cc
    cases n behind frame rest false false true e = cc
    cases n behind frame rest false false false e = last-rest n behind frame rest e

front-rest_by : (limit : ℕ) (unread frame rest : List ℕ) (b : Bool) → nat_lt (length unread) 4 ≡ b → front limit unread ≡ Whole frame rest → length rest < length unread
unfolding front int
front-rest_by limit unread frame rest true h e = let f : Partial ≡ Whole frame rest = rw h at e in cc
front-rest_by limit unread frame rest false h e =
    let le : 4 ≤ length unread = grind (arith, nat_tests) in
    let size = cast_signed w32 (from_be_bytes w32 (take 4 unread)) in
    let f : front_by limit size (drop 4 unread) ≡ Whole frame rest = rw h at e in
    let g = by-rest limit size (drop 4 unread) frame rest f in
    omega (arith, g, length-drop 4 unread)

-- what stands behind a frame is shorter
pub front-rest : (limit : ℕ) (unread frame rest : List ℕ) → front limit unread ≡ Whole frame rest → length rest < length unread
front-rest limit unread frame rest e = front-rest_by limit unread frame rest (nat_lt (length unread) 4) refl e

pub some-left : (limit : ℕ) (unread : List ℕ) → is_turn (front limit unread) ≡ true → 0 < length unread
unfolding front int
some-left limit [] h = cc
some-left limit (b ∷ unread) h = omega arith

pub replied-le : (head : Head) (body : List ℕ) (s : Session) → length (replied head body s).unread ≤ length s.unread
unfolding replied
replied-le head body s = grind (arith, nat_tests)

-- a reply changes nothing of who logged in
pub login-replied : (head : Head) (body : List ℕ) (s : Session) → (replied head body s).login ≡ s.login
unfolding replied
login-replied head body s = by (nat_lt 2147483647 (reply_size (throttled head body))) (s.output ++ framed head.correlation_id (throttled head body))
  where
    by : (a : Bool) (bytes : List ℕ) → (let x : Session = cond a (shut_down (unanswerable head) s) (record s { output = bytes }) in x).login ≡ s.login
    by true bytes = refl
    by false bytes = refl

pub greeted_by-le : (setup : Setup) (h : Bool) (head : Head) (a : Asked) (s : Session) → length (greeted_by setup h head a s).unread ≤ length s.unread
unfolding greeted_by
greeted_by-le setup h head Versions s = replied-le head _ s
greeted_by-le setup h head OtherVersions s = replied-le head _ s
greeted_by-le setup h head (Handshake v m) s = shaken-le _ head v s
  where
    shaken-le : (b : Bool) (head : Head) (v : ℤ) (s : Session) → length (shaken b head v s).unread ≤ length s.unread
    shaken-le true head v s = replied-le head _ (record s { stage = Greets (greeting_after v) })
    shaken-le false head v s = replied-le head _ s
greeted_by-le setup h head (Authenticate m) s = authenticated-le setup h head m s
  where
    logged_in-le : (o : Result Known (List ℕ)) (head : Head) (s : Session) → length (logged_in o head s).unread ≤ length s.unread
    logged_in-le (Ok known) head s = replied-le head _ (bound known s)
    logged_in-le (Err name) head s = omega arith

    authenticated-le : (setup : Setup) (h : Bool) (head : Head) (m : List ℕ) (s : Session) → length (authenticated setup h head m s).unread ≤ length s.unread
    authenticated-le setup true head m s = logged_in-le (login setup.users m) head s
    authenticated-le setup false head m s = replied-le head _ s
greeted_by-le setup h head (Another k v b) s = omega arith
greeted_by-le setup h head Malformed s = omega arith

plainly-le : (r : tenant.Reaction) (head : Head) (version : ℤ) (body : List ℕ) (s : Session) → length (plainly r head s).unread ≤ length s.unread
plainly-le (Replies reply) head version body s = replied-le head reply s
plainly-le (Waits deadline limit places) head version body s = omega arith
plainly-le Silent head version body s = omega arith
plainly-le Shuts head version body s = omega arith

answered-le : (r : Reaction) (head : Head) (version : ℤ) (body : List ℕ) (s : Session) → length (after_reaction r head s).unread ≤ length s.unread
answered-le (Plain r) head version body s = plainly-le r head version body s
answered-le Rebalances head version body s = omega arith

pub served_by-le : (setup : Setup) (kept : Kept) (clock n : ℕ) (head : Head) (a : Asked) (s : Session) → length (served_by setup kept clock n head a s).unread ≤ length s.unread
unfolding served_by
served_by-le setup kept clock n head Versions s = replied-le head _ s
served_by-le setup kept clock n head OtherVersions s = replied-le head _ s
served_by-le setup kept clock n head (Handshake v m) s = replied-le head _ s
served_by-le setup kept clock n head (Authenticate m) s = replied-le head _ s
served_by-le setup kept clock n head (Another k v b) s = answered-le (reaction_to setup.node kept clock n k v b) head v b s
served_by-le setup kept clock n head Malformed s = omega arith

bare_login-le : (o : Result Known (List ℕ)) (s : Session) → length (bare_login o s).unread ≤ length s.unread
bare_login-le (Ok known) s = omega arith
bare_login-le (Err name) s = omega arith

greeted_frame-le : (setup : Setup) (h : Greeting) (frame : List ℕ) (s : Session) → length (greeted_frame setup h frame s).unread ≤ length s.unread
greeted_frame-le setup Unshaken frame s = let r = request setup.versions frame in greeted_by-le setup false r.head r.asked s
greeted_frame-le setup Shaken frame s = let r = request setup.versions frame in greeted_by-le setup true r.head r.asked s
greeted_frame-le setup Bare frame s = bare_login-le (login setup.users frame) s

greeted_at-less : (setup : Setup) (h : Greeting) (s : Session) (f : Front) → in_front s ≡ f → is_turn f ≡ true → length (greeted_at setup h s f).unread < length s.unread
greeted_at-less setup h s (Whole frame rest) e t =
    let le = greeted_frame-le setup h frame (record s { unread = rest }) in
    let lt = front-rest s.limit s.unread frame rest e in
    omega arith
greeted_at-less setup h s TooSmall e t = some-left s.limit s.unread (ap is_turn e)
greeted_at-less setup h s TooLarge e t = some-left s.limit s.unread (ap is_turn e)
greeted_at-less setup h s Partial e t = cc

-- a greeting connection's turn takes bytes
pub greeted-less : (setup : Setup) (h : Greeting) (s : Session) → is_turn (in_front s) ≡ true → length (greeted setup h s).unread < length s.unread
unfolding greeted
greeted-less setup h s t = greeted_at-less setup h s (in_front s) refl t

greeted_at-still : (setup : Setup) (h : Greeting) (s : Session) (f : Front) → is_turn f ≡ false → greeted_at setup h s f ≡ s
greeted_at-still setup h s (Whole frame rest) t = cc
greeted_at-still setup h s TooSmall t = cc
greeted_at-still setup h s TooLarge t = cc
greeted_at-still setup h s Partial t = refl

-- or changes nothing
pub greeted-still : (setup : Setup) (h : Greeting) (s : Session) → is_turn (in_front s) ≡ false → greeted setup h s ≡ s
unfolding greeted
greeted-still setup h s t = greeted_at-still setup h s (in_front s) t

served_at-less : (setup : Setup) (kept : Kept) (clock n : ℕ) (s : Session) (f : Front) → in_front s ≡ f → is_turn f ≡ true → length (served_at setup kept clock n s f).unread < length s.unread
served_at-less setup kept clock n s (Whole frame rest) e t =
    let r = request setup.versions frame in
    let le = served_by-le setup kept clock n r.head r.asked (record s { unread = rest }) in
    let lt = front-rest s.limit s.unread frame rest e in
    omega arith
served_at-less setup kept clock n s TooSmall e t = some-left s.limit s.unread (ap is_turn e)
served_at-less setup kept clock n s TooLarge e t = some-left s.limit s.unread (ap is_turn e)
served_at-less setup kept clock n s Partial e t = cc

-- a bound connection's turn takes bytes
pub served-less : (setup : Setup) (kept : Kept) (clock n : ℕ) (s : Session) → is_turn (in_front s) ≡ true → length (after_turn setup kept clock n s).unread < length s.unread
unfolding after_turn
served-less setup kept clock n s t = served_at-less setup kept clock n s (in_front s) refl t

served_at-still : (setup : Setup) (kept : Kept) (clock n : ℕ) (s : Session) (f : Front) → is_turn f ≡ false → served_at setup kept clock n s f ≡ s
served_at-still setup kept clock n s (Whole frame rest) t = cc
served_at-still setup kept clock n s TooSmall t = cc
served_at-still setup kept clock n s TooLarge t = cc
served_at-still setup kept clock n s Partial t = refl

served-still : (setup : Setup) (kept : Kept) (clock n : ℕ) (s : Session) → is_turn (in_front s) ≡ false → after_turn setup kept clock n s ≡ s
unfolding after_turn
served-still setup kept clock n s t = served_at-still setup kept clock n s (in_front s) t

pub can-turn : (s : Session) → can s ≡ true → is_turn (in_front s) ≡ true
unfolding can
can-turn s h = grind arith

-- a change that takes bytes from whoever can take a turn
pub record Takes (f : Session → Session) : Type 0 where
  pub le : (s : Session) → length (f s).unread ≤ length s.unread
  pub less : (s : Session) → can s ≡ true → length (f s).unread < length s.unread

le_by : (b : Bool) (x y : Session) → (b ≡ true → length x.unread < length y.unread) → (b ≡ false → x ≡ y) → length x.unread ≤ length y.unread
le_by true x y p q = let lt = p refl in omega arith
le_by false x y p q = let e = ap (λ (s : Session). length s.unread) (q refl) in omega arith

pub greeted-takes : (setup : Setup) (h : Greeting) → Takes (greeted setup h)
greeted-takes setup h = record {
  le = λ s. le_by (is_turn (in_front s)) (greeted setup h s) s (greeted-less setup h s) (greeted-still setup h s);
  less = λ s c. greeted-less setup h s (can-turn s c);
}

pub served-takes : (setup : Setup) (kept : Kept) (clock n : ℕ) → Takes (after_turn setup kept clock n)
served-takes setup kept clock n = record {
  le = λ s. le_by (is_turn (in_front s)) (after_turn setup kept clock n s) s (served-less setup kept clock n s) (served-still setup kept clock n s);
  less = λ s c. served-less setup kept clock n s (can-turn s c);
}

le-on : (n : ℕ) (f : Session → Session) (t : Takes f) (l : Line) → length (on n f l.number l.session).unread ≤ length l.session.unread
le-on n f t l = let h = t.le l.session in grind (arith, nat_tests, h)

pub work-on_le : (n : ℕ) (f : Session → Session) (t : Takes f) (ls : List Line) → work (each_line (on n f) ls) ≤ work ls
work-on_le n f t [] = omega arith
work-on_le n f t (l ∷ ls) = omega (arith, le-on n f t l, work-on_le n f t ls)

pub work-on : (n : ℕ) (f : Session → Session) (t : Takes f) (ls : List Line) (l : Line) → first_able ls ≡ Some l → l.number ≡ n → work (each_line (on n f) ls) < work ls
work-on n f t [] l h e = cc
work-on n f t (k ∷ ls) l h e =
    let rest = work-on n f t ls l in
    let here = t.less k.session in
    let le = le-on n f t k in
    let les = work-on_le n f t ls in
    grind (arith, nat_tests, rest, here, le, les)

told-le : (r : tenant.Reaction) (head : Head) (s : Session) → length (told r head s).unread ≤ length s.unread
told-le (Replies reply) head s = replied-le head reply _
told-le (Waits deadline limit places) head s = omega arith
told-le Silent head s = omega arith
told-le Shuts head s = omega arith

woken_by-le : (kept : Kept) (clock n : ℕ) (s : Session) (st : Stage) → length (woken_by kept clock n s st).unread ≤ length s.unread
unfolding woken_by
woken_by-le kept clock n s (Greets h) = omega arith
woken_by-le kept clock n s (BoundTo u None) = omega arith
woken_by-le kept clock n s (BoundTo u (Some w)) = told-le (ready kept clock n w) w.head s

pub work-woken : (kept : Kept) (clock : ℕ) (ls : List Line) → work (each_line (λ k s. woken kept clock k s) ls) ≤ work ls
work-woken kept clock [] = omega arith
work-woken kept clock (l ∷ ls) = let h = woken_by-le kept clock l.number l.session l.session.stage in omega (arith, h, work-woken kept clock ls)

work-turn_at : (w : View) (l : Line) (st : Stage) → first_able w.lines ≡ Some l → work (turn_at w l.number (in_front l.session) st).lines < work w.lines
work-turn_at w l (Greets h) f = work-on l.number (greeted w.setup h) (greeted-takes w.setup h) w.lines l f refl
work-turn_at w l (BoundTo u wait) f =
    let e = work-woken (kept_by_turn (for_tenant w.setup u) w.kept w.clock l.number (in_front l.session)) w.clock (each_line (on l.number (after_turn (for_tenant w.setup u) w.kept w.clock l.number)) w.lines) in
    let lt = work-on l.number (after_turn (for_tenant w.setup u) w.kept w.clock l.number) (served-takes (for_tenant w.setup u) w.kept w.clock l.number) w.lines l f refl in
    omega (arith, e, lt)

-- 3. The turn of a world

pub turn-none : (w : View) → first_able w.lines ≡ None → turn w ≡ w
unfolding turn
turn-none w h = ap (turn_of w) h

pub turn-some : (w : View) (l : Line) → first_able w.lines ≡ Some l → turn w ≡ turn_at w l.number (in_front l.session) l.session.stage
unfolding turn
turn-some w l h = ap (turn_of w) h

pub work-turn : (w : View) (l : Line) → first_able w.lines ≡ Some l → work (turn w).lines < work w.lines
work-turn w l h = rw (turn-some w l h) (work-turn_at w l l.session.stage h)

-- where no connection can take a turn, turns change nothing
pub again-none : (n : ℕ) (w : View) → first_able w.lines ≡ None → again turn n w ≡ w
again-none zero w h = refl
again-none (suc n) w h = ap (again turn n) (turn-none w h) ∙ again-none n w h

-- more turns than unread bytes are as good
enough_by : (n m : ℕ) (w : View) (o : Option Line) → first_able w.lines ≡ o → work w.lines ≤ n → work w.lines ≤ m → again turn n w ≡ again turn m w
enough_by n m w None h p q = again-none n w h ∙ sym (again-none m w h)
enough_by zero m w (Some l) h p q = absurd (omega (arith, work-turn w l h))
enough_by (suc n) zero w (Some l) h p q = absurd (omega (arith, work-turn w l h))
enough_by (suc n) (suc m) w (Some l) h p q =
    let lt = work-turn w l h in
    enough_by n m (turn w) (first_able (turn w).lines) refl (omega (arith, lt)) (omega (arith, lt))

pub turns-none : (w : View) → first_able w.lines ≡ None → turns w ≡ w
unfolding turns
turns-none w h = again-none (work w.lines) w h

-- a turn is the first of the turns
turns-turn_by : (w : View) (o : Option Line) → first_able w.lines ≡ o → turns (turn w) ≡ turns w
unfolding turns
turns-turn_by w None h = ap turns (turn-none w h)
turns-turn_by w (Some l) h =
    let lt = work-turn w l h in
    enough_by (work (turn w).lines) (work w.lines) (turn w) (first_able (turn w).lines) refl (omega arith) (omega (arith, lt))
    ∙ enough_by (suc (work w.lines)) (work w.lines) w (Some l) h (omega arith) (omega arith)

pub turns-turn : (w : View) → turns (turn w) ≡ turns w
turns-turn w = turns-turn_by w (first_able w.lines) refl
