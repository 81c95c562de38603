-- A machine takes no notice of the output that was taken of its connections: where it is put back in front, the machine goes the same way.
use Rattle.std.proofs.Common.{◌≡◌, ℕ, ℤ, zero, suc, Bool, true, false, cond, eqb, nat_lt, not, ◌+◌, List, [], ◌∷◌, ◌++◌, length, map, refl, sym, ap, ◌∙◌, Option, Some, None, Result, Ok, Err, arith, append_assoc}
use Rattle.std.specs.Prelude.{codes, max, option_map}
use Rattle.std.specs.Str.{bytes_eq}
use Rattle.std.proofs.lemmas.Bool.Decides.{nat_tests}
use Rattle.std.proofs.lemmas.List.{map-append}
use Rattle.kb_api_group.specs.Frames.{Front, Whole, Partial, TooSmall, TooLarge}
use Rattle.kb_tenant.specs.Replies as tenant
use Rattle.kb_tenant.specs.Replies.{Replies, Waits, Silent, Shuts, framed, reply_size}
use Rattle.kb_tenant_api.specs.Hosted.{Kept, passed}
use Rattle.kb_tenant_api.specs.Replies.{Reaction, Plain, Rebalances}
use Rattle.kb_isolation_spec.specs.declared.shut.Shut.TheVariants as causes
use Rattle.kb_isolation_spec.specs.declared.head.Head.{Head}
use Rattle.kb_isolation_spec.specs.declared.login.Known.{Known}
use Rattle.kb_isolation_spec.specs.Tenant.{Wait, Awaited, reaction_to, ready}
use Rattle.kb_isolation_spec.specs.Requests.{Asked, Versions, OtherVersions, Handshake, Authenticate, Another, Malformed, request}
use Rattle.kb_isolation_spec.specs.Session.{Greeting, Unshaken, Shaken, Bare, Stage, Greets, BoundTo, Session, can, fed, new_session, in_front, replied, room, shut_down, throttled, unanswerable, waiting, without_wait}
use Rattle.kb_isolation_spec.specs.Greeting.{Setup, authenticated, bare_login, bound, empty_frame, failed, failed_reply, for_tenant, greeted, greeted_at, greeted_by, greeted_frame, greeting_after, logged_in, login, shaken}
use Rattle.kb_isolation_spec.specs.Machine.{Happening, Opens, Comes, Closes, Moment, Line, View, after_reaction, after_turn, again, all_woken, each_line, find_line, first_able, kept_closed, kept_fed, on, plainly, kept_by_turn, served_at, served_by, step, stepped, those, told, turn, turn_at, turn_of, turns, woken, woken_by, work}
use Rattle.kb_isolation_spec.specs.Owners.{destiny, greet_turn, greet_turn_at, greeted_so_far, whose}
use Rattle.kb_isolation_spec.proofs.Laws.{those-each}

-- 1. A connection

-- with that in front of its output
abbrev pub put_back : List ℕ → Session → Session
put_back p s = record s { output = p ++ s.output }

-- what is said goes behind it
behind : (p more : List ℕ) (s : Session) → record (put_back p s) { output = (p ++ s.output) ++ more } ≡ put_back p (record s { output = s.output ++ more })
behind p more s = ap (λ x. let t : Session = record s { output = x } in t) (append_assoc p s.output more)

back-replied : (p : List ℕ) (head : Head) (body : List ℕ) (s : Session) → replied head body (put_back p s) ≡ put_back p (replied head body s)
unfolding replied
back-replied p head body s = by (nat_lt 2147483647 (reply_size (throttled head body)))
  where
    by : (b : Bool) → cond b (shut_down (unanswerable head) (put_back p s)) (record (put_back p s) { output = (p ++ s.output) ++ framed head.correlation_id (throttled head body) })
        ≡ put_back p (cond b (shut_down (unanswerable head) s) (record s { output = s.output ++ framed head.correlation_id (throttled head body) }))
    by true = refl
    by false = behind p (framed head.correlation_id (throttled head body)) s

back-fed : (p piece : List ℕ) (s : Session) → fed piece (put_back p s) ≡ put_back p (fed piece s)
unfolding fed
back-fed p piece s = by s.shut (nat_lt (room s) (length piece))
  where
    by : (a b : Bool) → cond a (put_back p s) (cond b (shut_down causes.Overrun (put_back p s)) (record (put_back p s) { unread = s.unread ++ piece }))
        ≡ put_back p (cond a s (cond b (shut_down causes.Overrun s) (record s { unread = s.unread ++ piece })))
    by true b = refl
    by false true = refl
    by false false = refl

back-can : (p : List ℕ) (s : Session) → can (put_back p s) ≡ can s
unfolding can
back-can p s = refl

-- 2. The greeting

back-logged_in : (p : List ℕ) (o : Result Known (List ℕ)) (head : Head) (s : Session) → logged_in o head (put_back p s) ≡ put_back p (logged_in o head s)
back-logged_in p (Ok known) head s = back-replied p head _ (bound known s)
back-logged_in p (Err name) head s = ap (shut_down causes.Denied) (back-replied p head failed_reply (failed name s))

back-shaken : (p : List ℕ) (b : Bool) (head : Head) (version : ℤ) (s : Session) → shaken b head version (put_back p s) ≡ put_back p (shaken b head version s)
back-shaken p true head version s = back-replied p head _ (record s { stage = Greets (greeting_after version) })
back-shaken p false head version s = back-replied p head _ s

back-authenticated : (p : List ℕ) (setup : Setup) (h : Bool) (head : Head) (message : List ℕ) (s : Session)
    → authenticated setup h head message (put_back p s) ≡ put_back p (authenticated setup h head message s)
back-authenticated p setup true head message s = back-logged_in p (login setup.users message) head s
back-authenticated p setup false head message s = back-replied p head _ s

back-greeted_by : (p : List ℕ) (setup : Setup) (h : Bool) (head : Head) (a : Asked) (s : Session)
    → greeted_by setup h head a (put_back p s) ≡ put_back p (greeted_by setup h head a s)
unfolding greeted_by
back-greeted_by p setup h head Versions s = back-replied p head _ s
back-greeted_by p setup h head OtherVersions s = back-replied p head _ s
back-greeted_by p setup h head (Handshake version mechanism) s = back-shaken p (bytes_eq mechanism (codes "PLAIN")) head version s
back-greeted_by p setup h head (Authenticate message) s = back-authenticated p setup h head message s
back-greeted_by p setup h head (Another key version body) s = refl
back-greeted_by p setup h head Malformed s = refl

back-bare_login : (p : List ℕ) (o : Result Known (List ℕ)) (s : Session) → bare_login o (put_back p s) ≡ put_back p (bare_login o s)
back-bare_login p (Ok known) s = ap (bound known) (behind p empty_frame s)
back-bare_login p (Err name) s = refl

back-greeted_frame : (p : List ℕ) (setup : Setup) (h : Greeting) (frame : List ℕ) (s : Session)
    → greeted_frame setup h frame (put_back p s) ≡ put_back p (greeted_frame setup h frame s)
back-greeted_frame p setup Unshaken frame s = let r = request setup.versions frame in back-greeted_by p setup false r.head r.asked s
back-greeted_frame p setup Shaken frame s = let r = request setup.versions frame in back-greeted_by p setup true r.head r.asked s
back-greeted_frame p setup Bare frame s = back-bare_login p (login setup.users frame) s

back-greeted_at : (p : List ℕ) (setup : Setup) (h : Greeting) (f : Front) (s : Session) → greeted_at setup h (put_back p s) f ≡ put_back p (greeted_at setup h s f)
back-greeted_at p setup h (Whole frame rest) s = back-greeted_frame p setup h frame (record s { unread = rest })
back-greeted_at p setup h TooSmall s = refl
back-greeted_at p setup h TooLarge s = refl
back-greeted_at p setup h Partial s = refl

back-greeted : (p : List ℕ) (setup : Setup) (h : Greeting) (s : Session) → greeted setup h (put_back p s) ≡ put_back p (greeted setup h s)
unfolding greeted
back-greeted p setup h s = back-greeted_at p setup h (in_front s) s

-- what its bytes lead it to
back-greet_turn_at : (p : List ℕ) (setup : Setup) (st : Stage) (s : Session) → greet_turn_at setup (put_back p s) st ≡ put_back p (greet_turn_at setup s st)
back-greet_turn_at p setup (Greets h) s = back-greeted p setup h s
back-greet_turn_at p setup (BoundTo u w) s = refl

back-greet_turn : (p : List ℕ) (setup : Setup) (s : Session) → greet_turn setup (put_back p s) ≡ put_back p (greet_turn setup s)
unfolding greet_turn
back-greet_turn p setup s = back-greet_turn_at p setup s.stage s

back-again : (p : List ℕ) (setup : Setup) (n : ℕ) (s : Session) → again (greet_turn setup) n (put_back p s) ≡ put_back p (again (greet_turn setup) n s)
back-again p setup zero s = refl
back-again p setup (suc n) s = ap (again (greet_turn setup) n) (back-greet_turn p setup s) ∙ back-again p setup n (greet_turn setup s)

pub back-heard : (p : List ℕ) (setup : Setup) (s : Session) → greeted_so_far setup (put_back p s) ≡ put_back p (greeted_so_far setup s)
unfolding greeted_so_far
back-heard p setup s = back-again p setup (length s.unread) s

pub back-destiny : (p : List ℕ) (setup : Setup) (n : ℕ) (s : Session) (es : List Happening) → destiny setup n (put_back p s) es ≡ destiny setup n s es
back-destiny p setup n s [] = refl
back-destiny p setup n s (Opens m ∷ es) = back-destiny p setup n s es
back-destiny p setup n s (Comes m piece ∷ es) = by (eqb m n)
    (ap (λ x. destiny setup n x es) (ap (greeted_so_far setup) (back-fed p piece s) ∙ back-heard p setup (fed piece s)) ∙ back-destiny p setup n (greeted_so_far setup (fed piece s)) es)
    (back-destiny p setup n s es)
  where
    by : (b : Bool) → destiny setup n (greeted_so_far setup (fed piece (put_back p s))) es ≡ destiny setup n (greeted_so_far setup (fed piece s)) es
        → destiny setup n (put_back p s) es ≡ destiny setup n s es
        → cond b (destiny setup n (greeted_so_far setup (fed piece (put_back p s))) es) (destiny setup n (put_back p s) es)
        ≡ cond b (destiny setup n (greeted_so_far setup (fed piece s)) es) (destiny setup n s es)
    by true here rest = here
    by false here rest = rest
back-destiny p setup n s (Closes m ∷ es) = by (eqb m n) (back-destiny p setup n s es)
  where
    by : (b : Bool) → destiny setup n (put_back p s) es ≡ destiny setup n s es
        → cond b (whose s.stage) (destiny setup n (put_back p s) es) ≡ cond b (whose s.stage) (destiny setup n s es)
    by true rest = refl
    by false rest = rest
back-destiny p setup n s (Moment now ∷ es) = back-destiny p setup n s es

-- 3. A turn

back-plainly : (p : List ℕ) (r : tenant.Reaction) (head : Head) (version : ℤ) (body : List ℕ) (s : Session)
    → plainly r head (put_back p s) ≡ put_back p (plainly r head s)
back-plainly p (Replies reply) head version body s = back-replied p head reply s
back-plainly p (Waits deadline limit places) head version body s = refl
back-plainly p Silent head version body s = refl
back-plainly p Shuts head version body s = refl

back-reaction : (p : List ℕ) (r : Reaction) (head : Head) (version : ℤ) (body : List ℕ) (s : Session)
    → after_reaction r head (put_back p s) ≡ put_back p (after_reaction r head s)
back-reaction p (Plain r) head version body s = back-plainly p r head version body s
back-reaction p Rebalances head version body s = refl

back-served_by : (p : List ℕ) (setup : Setup) (kept : Kept) (clock n : ℕ) (head : Head) (a : Asked) (s : Session)
    → served_by setup kept clock n head a (put_back p s) ≡ put_back p (served_by setup kept clock n head a s)
unfolding served_by
back-served_by p setup kept clock n head Versions s = back-replied p head _ s
back-served_by p setup kept clock n head OtherVersions s = back-replied p head _ s
back-served_by p setup kept clock n head (Handshake version mechanism) s = back-replied p head _ s
back-served_by p setup kept clock n head (Authenticate message) s = back-replied p head _ s
back-served_by p setup kept clock n head (Another key version body) s = back-reaction p (reaction_to setup.node kept clock n key version body) head version body s
back-served_by p setup kept clock n head Malformed s = refl

back-served_at : (p : List ℕ) (setup : Setup) (kept : Kept) (clock n : ℕ) (s : Session) (f : Front)
    → served_at setup kept clock n (put_back p s) f ≡ put_back p (served_at setup kept clock n s f)
back-served_at p setup kept clock n s (Whole frame rest) =
    let r = request setup.versions frame in back-served_by p setup kept clock n r.head r.asked (record s { unread = rest })
back-served_at p setup kept clock n s TooSmall = refl
back-served_at p setup kept clock n s TooLarge = refl
back-served_at p setup kept clock n s Partial = refl

back-after_turn : (p : List ℕ) (setup : Setup) (kept : Kept) (clock n : ℕ) (s : Session) → after_turn setup kept clock n (put_back p s) ≡ put_back p (after_turn setup kept clock n s)
unfolding after_turn
back-after_turn p setup kept clock n s = back-served_at p setup kept clock n s (in_front s)

back-told : (p : List ℕ) (r : tenant.Reaction) (head : Head) (s : Session) → told r head (put_back p s) ≡ put_back p (told r head s)
back-told p (Replies reply) head s = back-replied p head reply (record s { stage = without_wait s.stage })
back-told p (Waits deadline limit places) head s = refl
back-told p Silent head s = refl
back-told p Shuts head s = refl

back-woken_by : (p : List ℕ) (kept : Kept) (clock n : ℕ) (s : Session) (st : Stage) → woken_by kept clock n (put_back p s) st ≡ put_back p (woken_by kept clock n s st)
unfolding woken_by
back-woken_by p kept clock n s (Greets greeting) = refl
back-woken_by p kept clock n s (BoundTo tenant None) = refl
back-woken_by p kept clock n s (BoundTo tenant (Some wait)) = back-told p (ready kept clock n wait) wait.head s

-- 4. Lists of connections

-- what was taken of each is put back
abbrev pub all_back : (ℕ → List ℕ) → List Line → List Line
all_back before ls = each_line (λ n s. put_back (before n) s) ls

abbrev pub view_back : (ℕ → List ℕ) → View → View
view_back before w = record w { lines = all_back before w.lines }

abbrev line_back : (ℕ → List ℕ) → Line → Line
line_back before l = record { number = l.number; session = put_back (before l.number) l.session }

back-each : (before : ℕ → List ℕ) (g : ℕ → Session → Session) → ((n : ℕ) (s : Session) → g n (put_back (before n) s) ≡ put_back (before n) (g n s))
    → (ls : List Line) → each_line g (all_back before ls) ≡ all_back before (each_line g ls)
back-each before g same [] = refl
back-each before g same (l ∷ ls) =
    ap (λ s. let m : Line = record { number = l.number; session = s } in m ∷ each_line g (all_back before ls)) (same l.number l.session)
    ∙ ap (λ ms. let m : Line = record { number = l.number; session = put_back (before l.number) (g l.number l.session) } in m ∷ ms) (back-each before g same ls)

back-on : (before : ℕ → List ℕ) (n : ℕ) (f : Session → Session) → ((p : List ℕ) (s : Session) → f (put_back p s) ≡ put_back p (f s))
    → (k : ℕ) (s : Session) → on n f k (put_back (before k) s) ≡ put_back (before k) (on n f k s)
back-on before n f same k s = by (eqb k n)
  where
    by : (b : Bool) → cond b (f (put_back (before k) s)) (put_back (before k) s) ≡ put_back (before k) (cond b (f s) s)
    by true = same (before k) s
    by false = refl

back-first : (before : ℕ → List ℕ) (ls : List Line) → first_able (all_back before ls) ≡ option_map (line_back before) (first_able ls)
back-first before [] = refl
back-first before (l ∷ ls) = ap (λ b. cond b (Some (line_back before l)) (first_able (all_back before ls))) (back-can (before l.number) l.session)
    ∙ by (can l.session) (back-first before ls)
  where
    by : (b : Bool) → first_able (all_back before ls) ≡ option_map (line_back before) (first_able ls)
        → cond b (Some (line_back before l)) (first_able (all_back before ls)) ≡ option_map (line_back before) (cond b (Some l) (first_able ls))
    by true rest = refl
    by false rest = rest

back-work : (before : ℕ → List ℕ) (ls : List Line) → work (all_back before ls) ≡ work ls
back-work before [] = refl
back-work before (l ∷ ls) = ap (λ n. length l.session.unread + n) (back-work before ls)

abbrev session_back : (ℕ → List ℕ) → ℕ → Option Session → Option Session
session_back before n o = option_map (put_back (before n)) o

pub back-find : (before : ℕ → List ℕ) (n : ℕ) (ls : List Line) → find_line n (all_back before ls) ≡ session_back before n (find_line n ls)
back-find before n [] = refl
back-find before n (l ∷ ls) = by (eqb l.number n) refl (back-find before n ls)
  where
    by : (b : Bool) → eqb l.number n ≡ b → find_line n (all_back before ls) ≡ session_back before n (find_line n ls)
        → find_line n (all_back before (l ∷ ls)) ≡ session_back before n (find_line n (l ∷ ls))
    by true e rest = let same : l.number ≡ n = grind (arith, nat_tests) in
        rw e (ap (λ k. Some (put_back (before k) l.session)) same)
    by false e rest = rw e rest

-- 5. Turns

module _ (before : ℕ → List ℕ) where
  back-woken : (w : View) → all_woken (view_back before w) ≡ view_back before (all_woken w)
  back-woken w = ap (λ ls. let v : View = record w { lines = ls } in v)
      (back-each before (λ k s. woken w.kept w.clock k s) (λ n s. back-woken_by (before n) w.kept w.clock n s s.stage) w.lines)

  back-turn_at : (w : View) (n : ℕ) (f : Front) (st : Stage) → turn_at (view_back before w) n f st ≡ view_back before (turn_at w n f st)
  back-turn_at w n f (Greets greeting) = ap (λ ls. let v : View = record w { lines = ls } in v)
      (back-each before (on n (greeted w.setup greeting)) (back-on before n (greeted w.setup greeting) (λ p s. back-greeted p w.setup greeting s)) w.lines)
  back-turn_at w n f (BoundTo tenant wait) =
      let setup = for_tenant w.setup tenant in
      let kept = kept_by_turn setup w.kept w.clock n f in
      ap (λ ls. all_woken (let v : View = record w { kept = kept; lines = ls } in v))
      (back-each before (on n (after_turn setup w.kept w.clock n)) (back-on before n (after_turn setup w.kept w.clock n) (λ p s. back-after_turn p setup w.kept w.clock n s)) w.lines)
      ∙ back-woken (record w { kept = kept; lines = each_line (on n (after_turn setup w.kept w.clock n)) w.lines })

  back-turn_of : (w : View) (o : Option Line) → turn_of (view_back before w) (option_map (line_back before) o) ≡ view_back before (turn_of w o)
  back-turn_of w None = refl
  back-turn_of w (Some l) = back-turn_at w l.number (in_front l.session) l.session.stage

  back-turn : (w : View) → turn (view_back before w) ≡ view_back before (turn w)
  unfolding turn
  back-turn w = ap (turn_of (view_back before w)) (back-first before w.lines) ∙ back-turn_of w (first_able w.lines)

  back-turns_by : (n : ℕ) (w : View) → again turn n (view_back before w) ≡ view_back before (again turn n w)
  back-turns_by zero w = refl
  back-turns_by (suc n) w = ap (again turn n) (back-turn w) ∙ back-turns_by n (turn w)

  back-turns : (w : View) → turns (view_back before w) ≡ view_back before (turns w)
  unfolding turns
  back-turns w = ap (λ n. again turn n (view_back before w)) (back-work before w.lines) ∙ back-turns_by (work w.lines) w

  -- 6. Events

  back-kept_fed : (piece : List ℕ) (clock n k : ℕ) (o : Option Session) (kept : Kept) → kept_fed piece clock n (session_back before k o) kept ≡ kept_fed piece clock n o kept
  back-kept_fed piece clock n k None kept = refl
  back-kept_fed piece clock n k (Some s) kept = refl

  back-kept_closed : (clock n k : ℕ) (o : Option Session) (kept : Kept) → kept_closed clock n (session_back before k o) kept ≡ kept_closed clock n o kept
  back-kept_closed clock n k None kept = refl
  back-kept_closed clock n k (Some s) kept = refl

  -- nothing was taken yet of a connection that opens
  abbrev pub IsNew : Happening → Type 0
  IsNew (Opens n) = before n ≡ []
  IsNew (Comes n piece) = Unit {0}
  IsNew (Closes n) = Unit {0}
  IsNew (Moment now) = Unit {0}

  pub back-step : (e : Happening) (w : View) → IsNew e → step e (view_back before w) ≡ view_back before (step e w)
  back-step (Opens n) w new = ap (λ ls. let v : View = record w { lines = ls } in v)
      (ap (λ p. let l : Line = record { number = n; session = put_back p (new_session w.setup.request_bytes) } in all_back before w.lines ++ l ∷ []) (sym new)
      ∙ sym (map-append (line_back before) w.lines (record { number = n; session = new_session w.setup.request_bytes } ∷ [])))
  back-step (Comes n piece) w new =
      let lines = each_line (on n (fed piece)) w.lines in
      let kept = kept_fed piece w.clock n (find_line n w.lines) w.kept in
      ap (λ k. turns (let v : View = record w { kept = k; lines = each_line (on n (fed piece)) (all_back before w.lines) } in v))
      (ap (λ o. kept_fed piece w.clock n o w.kept) (back-find before n w.lines) ∙ back-kept_fed piece w.clock n n (find_line n w.lines) w.kept)
      ∙ ap (λ ls. turns (let v : View = record w { kept = kept; lines = ls } in v))
      (back-each before (on n (fed piece)) (back-on before n (fed piece) (λ p s. back-fed p piece s)) w.lines)
      ∙ back-turns (record w { kept = kept; lines = lines })
  back-step (Closes n) w new =
      ap (λ k. let v : View = record w { kept = k; lines = those (λ k. not (eqb k n)) (all_back before w.lines) } in v)
      (ap (λ o. kept_closed w.clock n o w.kept) (back-find before n w.lines) ∙ back-kept_closed w.clock n n (find_line n w.lines) w.kept)
      ∙ ap (λ ls. let v : View = record w { kept = kept_closed w.clock n (find_line n w.lines) w.kept; lines = ls } in v)
      (those-each (λ k. not (eqb k n)) (λ k s. put_back (before k) s) w.lines)
  back-step (Moment now) w new =
      let clock = max w.clock now in
      let moved : View = record w { kept = passed clock w.kept; clock = clock } in
      ap turns (back-woken moved) ∙ back-turns (all_woken moved)

  pub back-stepped : (b : Bool) (e : Happening) (w : View) → IsNew e → stepped b e (view_back before w) ≡ view_back before (stepped b e w)
  back-stepped true e w new = back-step e w new
  back-stepped false e w new = refl
