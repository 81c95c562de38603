-- The machine of a connection that is never bound is its greeting.
use Rattle.std.proofs.Common.{◌≡◌, ℕ, zero, suc, ◌+◌, ◌<◌, ◌≤◌, List, [], ◌∷◌, ◌++◌, length, eqb, Bool, true, false, not, cond, Option, Some, None, refl, sym, ◌∙◌, ap, subst, arith, max}
use Rattle.std.specs.Prelude.{map}
use Rattle.std.proofs.lemmas.Bool.Decides.{nat_tests}
use Rattle.kb_wire.specs.Codec.{int}
use Rattle.kb_api_group.specs.Frames.{front}
use Rattle.kb_tenant_api.specs.Hosted.{Kept, passed}
use Rattle.kb_isolation_spec.specs.Session.{Greeting, Stage, Greets, BoundTo, Session, new_session, overruns, fed, can, is_turn, in_front}
use Rattle.kb_isolation_spec.specs.Greeting.{Setup, greeted}
use Rattle.kb_isolation_spec.specs.Machine.{Happening, Opens, Comes, Closes, Moment, Line, View, Sent, woken_by, those, each_line, on, first_able, turn_at, turn, turns, again, kept_without, kept_closed, kept_fed, step, run, sent, by_number, find_line}
use Rattle.kb_isolation_spec.specs.Owners.{greet_turn, greet_turn_at, greeted_so_far, whose, destiny, unborn, fate_from, purge}
use Rattle.kb_isolation_spec.specs.Broker.{BrokerState, Rising, IsEventRun, IsReady, IsUnowned, view_of, only, alone_unowned}
use Rattle.kb_isolation_spec.specs.Greetings.{pieces_of, greeting, once_opened, greeted_from, sent_by, greeted_alone}
use Rattle.kb_isolation_spec.proofs.Laws.{turn-none, turn-some, turns-none, greeted-still}
use Rattle.kb_isolation_spec.proofs.Owners.{destiny-bound, heard-still}
use Rattle.kb_isolation_spec.proofs.Pinned.{turns-settled}
use Rattle.kb_isolation_spec.proofs.Sets.{rising-last}

-- 1. A world of one connection that is never bound

abbrev lone : View → ℕ → Session → View
lone w n s = record w { lines = record { number = n; session = s } ∷ [] }

abbrev empty : View → View
empty w = record w { lines = [] }

eqb-self : (n : ℕ) → eqb n n ≡ true
eqb-self n = grind (arith, nat_tests)

each-lone : (n : ℕ) (f : Session → Session) (s : Session) → each_line (on n f) (record { number = n; session = s } ∷ []) ≡ record { number = n; session = f s } ∷ []
each-lone n f s = ap (λ b. (let l : Line = record { number = n; session = cond b (f s) s } in l) ∷ []) (eqb-self n)

able-lone : (n : ℕ) (s : Session) (b : Bool) → can s ≡ b → first_able (record { number = n; session = s } ∷ []) ≡ cond b (Some (record { number = n; session = s })) None
able-lone n s b e = ap (λ c. cond c (Some (record { number = n; session = s })) None) e

unbound : {P : Type 0} (t : ℕ) (s : Session) (w : Option _) → s.stage ≡ BoundTo t w → whose s.stage ≡ None → P
unbound t s w e h = let k : Some t ≡ None = sym (ap whose e) ∙ h in absurd (cc)

-- its turn is that of the greeting
turn-lone_by : (w : View) (n : ℕ) (s : Session) (h : Greeting) (b : Bool) → s.stage ≡ Greets h → can s ≡ b → turn (lone w n s) ≡ lone w n (greet_turn w.setup s)
unfolding greet_turn can
turn-lone_by w n s h true e c =
    turn-some (lone w n s) (record { number = n; session = s }) (able-lone n s true c)
    ∙ (ap (turn_at (lone w n s) n (in_front s)) e
    ∙ (ap (λ ls. record w { lines = ls }) (each-lone n (greeted w.setup h) s)
    ∙ ap (lone w n) (sym (ap (greet_turn_at w.setup s) e))))
turn-lone_by w n s h false e c =
    let f : is_turn (in_front s) ≡ false = grind (arith, e, c) in
    turn-none (lone w n s) (able-lone n s false c) ∙ ap (lone w n) (sym (ap (greet_turn_at w.setup s) e ∙ greeted-still w.setup h s f))

turn-lone : (w : View) (n : ℕ) (s : Session) (st : Stage) → s.stage ≡ st → whose st ≡ None → turn (lone w n s) ≡ lone w n (greet_turn w.setup s)
turn-lone w n s (Greets h) e u = turn-lone_by w n s h (can s) e refl
turn-lone w n s (BoundTo t x) e u = absurd (cc)

-- who is not bound in the end was never
again-bound : (setup : Setup) (k : ℕ) (s : Session) (t : ℕ) (w : Option _) → s.stage ≡ BoundTo t w → again (greet_turn setup) k s ≡ s
unfolding greet_turn
again-bound setup zero s t w e = refl
again-bound setup (suc k) s t w e = ap (again (greet_turn setup) k) (ap (greet_turn_at setup s) e) ∙ again-bound setup k s t w e

before-unbound : (setup : Setup) (k : ℕ) (s : Session) (st : Stage) → s.stage ≡ st → whose (again (greet_turn setup) k s).stage ≡ None → whose st ≡ None
before-unbound setup k s (Greets h) e u = refl
before-unbound setup k s (BoundTo t w) e u = unbound t s w e (sym (ap (λ (x : Session). whose x.stage) (again-bound setup k s t w e)) ∙ u)

again-lone : (w : View) (n k : ℕ) (s : Session) → whose (again (greet_turn w.setup) k s).stage ≡ None → again turn k (lone w n s) ≡ lone w n (again (greet_turn w.setup) k s)
again-lone w n zero s u = refl
again-lone w n (suc k) s u =
    ap (again turn k) (turn-lone w n s s.stage refl (before-unbound w.setup (suc k) s s.stage refl u)) ∙ again-lone w n k (greet_turn w.setup s) u

turns-lone : (w : View) (n : ℕ) (s : Session) → whose (greeted_so_far w.setup s).stage ≡ None → turns (lone w n s) ≡ lone w n (greeted_so_far w.setup s)
unfolding turns greeted_so_far
turns-lone w n s u =
    let all : length s.unread + 0 ≡ length s.unread = omega arith in
    ap (λ k. again turn k (lone w n s)) all ∙ again-lone w n (length s.unread) s u

-- a moment changes nothing of it
woken-lone : (kept : Kept) (clock n : ℕ) (s : Session) (st : Stage) → whose st ≡ None → woken_by kept clock n s st ≡ s
unfolding woken_by
woken-lone kept clock n s (Greets h) u = refl
woken-lone kept clock n s (BoundTo t w) u = absurd (cc)

moment-lone : (w : View) (n : ℕ) (s : Session) (now : ℕ) → whose s.stage ≡ None → can s ≡ false
    → step (Moment now) (lone w n s) ≡ lone (record w { kept = passed (max w.clock now) w.kept; clock = max w.clock now }) n s
moment-lone w n s now u c =
    let clock = max w.clock now in
    let kept = passed clock w.kept in
    let v : View = record w { kept = kept; clock = clock } in
    ap (λ x. turns (lone v n x)) (woken-lone kept clock n s s.stage u) ∙ turns-none (lone v n s) (able-lone n s false c)

-- nor does a piece that is longer than its room
kept-lone : (piece : List ℕ) (clock m : ℕ) (s : Session) (st : Stage) (kept : Kept) (b : Bool) → s.stage ≡ st → whose st ≡ None → kept_fed piece clock m (cond b (Some s) None) kept ≡ kept
kept-lone piece clock m s st kept false e u = refl
kept-lone piece clock m s (BoundTo t w) kept true e u = absurd (cc)
kept-lone piece clock m s (Greets h) kept true e u = ap (λ x. cond (overruns piece s) (kept_without clock m x kept) kept) e ∙ by (overruns piece s)
  where
    by : (b : Bool) → cond b kept kept ≡ kept
    by true = refl
    by false = refl

-- 2. A world of no connection, where none of that number opens any more

moment-empty : (w : View) (now : ℕ) → step (Moment now) (empty w) ≡ empty (record w { kept = passed (max w.clock now) w.kept; clock = max w.clock now })
moment-empty w now = let clock = max w.clock now in turns-none (empty (record w { kept = passed clock w.kept; clock = clock })) refl

comes-empty : (w : View) (n : ℕ) (piece : List ℕ) → step (Comes n piece) (empty w) ≡ empty w
comes-empty w n piece = turns-none (empty w) refl

other-number : (n m last : ℕ) → n ≤ last → last < m → eqb m n ≡ false
other-number n m last le lt = grind (arith, nat_tests)

run-gone : (n last : ℕ) (es : List Happening) (w : View) → n ≤ last → IsEventRun last es → run (purge (only n) es) (empty w) ≡ []
run-gone n last [] w le r = refl
run-gone n last (Opens m ∷ es) w le r =
    ap (λ b. run (cond b (Opens m ∷ purge (only n) es) (purge (only n) es)) (empty w)) (other-number n m last le r.0) ∙ run-gone n m es w (let lt = r.0 in omega arith) r.1
run-gone n last (Comes m piece ∷ es) w le r = by (eqb m n) (run-gone n last es w le r)
  where
    by : (b : Bool) → run (purge (only n) es) (empty w) ≡ [] → run (cond b (Comes m piece ∷ purge (only n) es) (purge (only n) es)) (empty w) ≡ []
    by true rest = ap (run (purge (only n) es)) (comes-empty w m piece) ∙ rest
    by false rest = rest
run-gone n last (Closes m ∷ es) w le r = by (eqb m n) (run-gone n last es w le r)
  where
    by : (b : Bool) → run (purge (only n) es) (empty w) ≡ [] → run (cond b (Closes m ∷ purge (only n) es) (purge (only n) es)) (empty w) ≡ []
    by true rest = rest
    by false rest = rest
run-gone n last (Moment now ∷ es) w le r =
    ap (run (purge (only n) es)) (moment-empty w now) ∙ run-gone n last es (record w { kept = passed (max w.clock now) w.kept; clock = max w.clock now }) le r.1

-- 3. Runs of one connection

-- whoever has no tenant in the end has none now
now-unbound : (setup : Setup) (n : ℕ) (s : Session) (es : List Happening) (st : Stage) → s.stage ≡ st → destiny setup n s es ≡ None → whose s.stage ≡ None
now-unbound setup n s es (Greets h) e d = ap whose e
now-unbound setup n s es (BoundTo t w) e d = (let k : Some t ≡ None = sym (destiny-bound setup n s es t (record { wait = w; is = e })) ∙ d in absurd (cc))

cond-none : (b : Bool) (x y : Option ℕ) → cond b x y ≡ None → (b ≡ true → x ≡ None) × (b ≡ false → y ≡ None)
cond-none true x y e = (λ h. e, λ h. absurd (cc))
cond-none false x y e = (λ h. absurd (cc), λ h. e)

-- heard, it can take no turn
settled-heard : (w : View) (n : ℕ) (s : Session) → whose (greeted_so_far w.setup s).stage ≡ None → can (greeted_so_far w.setup s) ≡ false
settled-heard w n s u = by (can (greeted_so_far w.setup s)) refl
  where
    by : (b : Bool) → can (greeted_so_far w.setup s) ≡ b → b ≡ false
    by false e = refl
    by true e =
        let none : first_able (lone w n (greeted_so_far w.setup s)).lines ≡ None = sym (ap (λ (v : View). first_able v.lines) (turns-lone w n s u)) ∙ turns-settled (lone w n s) in
        let some : first_able (lone w n (greeted_so_far w.setup s)).lines ≡ Some (record { number = n; session = greeted_so_far w.setup s }) = able-lone n (greeted_so_far w.setup s) true e in
        absurd (cc)

run-lone : (n last : ℕ) (es : List Happening) (w : View) (s : Session) → n ≤ last → IsEventRun last es → can s ≡ false → destiny w.setup n s es ≡ None
    → run (purge (only n) es) (lone w n s) ≡ sent_by n (Some (greeting w.setup s (pieces_of n es)))
run-lone n last [] w s le r c d = refl
run-lone n last (Opens m ∷ es) w s le r c d =
    ap (λ b. run (cond b (Opens m ∷ purge (only n) es) (purge (only n) es)) (lone w n s)) (other-number n m last le r.0) ∙ run-lone n m es w s (let lt = r.0 in omega arith) r.1 c d
run-lone n last (Comes m piece ∷ es) w s le r c d = by (eqb m n) refl (λ x. run-lone n last es w x le r)
  where
    by : (b : Bool) → eqb m n ≡ b → ((x : Session) → can x ≡ false → destiny w.setup n x es ≡ None → run (purge (only n) es) (lone w n x) ≡ sent_by n (Some (greeting w.setup x (pieces_of n es)))) → run (cond b (Comes m piece ∷ purge (only n) es) (purge (only n) es)) (lone w n s) ≡ sent_by n (Some (greeting w.setup s (cond b (piece ∷ pieces_of n es) (pieces_of n es))))
    by true e rest =
        let f = fed piece s in
        let later : destiny w.setup n (greeted_so_far w.setup f) es ≡ None = (cond-none (eqb m n) (destiny w.setup n (greeted_so_far w.setup f) es) (destiny w.setup n s es) d).0 e in
        let u : whose (greeted_so_far w.setup f).stage ≡ None = now-unbound w.setup n (greeted_so_far w.setup f) es (greeted_so_far w.setup f).stage refl later in
        let here : each_line (on m (fed piece)) (record { number = n; session = s } ∷ []) ≡ record { number = n; session = f } ∷ [] = let is : m ≡ n = grind (arith, nat_tests) in ap (λ k. each_line (on k (fed piece)) (record { number = n; session = s } ∷ [])) is ∙ each-lone n (fed piece) s in
        let bare = now-unbound w.setup n s (Comes m piece ∷ es) s.stage refl d in
        let kept : kept_fed piece w.clock m (find_line m (record { number = n; session = s } ∷ [])) w.kept ≡ w.kept = kept-lone piece w.clock m s s.stage w.kept (eqb n m) refl bare in
        ap (λ k. run (purge (only n) es) (turns (record w { kept = k; lines = each_line (on m (fed piece)) (record { number = n; session = s } ∷ []) }))) kept
        ∙ ap (run (purge (only n) es)) (ap (λ ls. turns (record w { lines = ls })) here ∙ turns-lone w n f u)
        ∙ rest (greeted_so_far w.setup f) (settled-heard w n f u) later
    by false e rest = rest s c ((cond-none (eqb m n) (destiny w.setup n (greeted_so_far w.setup (fed piece s)) es) (destiny w.setup n s es) d).1 e)
run-lone n last (Closes m ∷ es) w s le r c d = by (eqb m n) refl (run-lone n last es w s le r c)
  where
    by : (b : Bool) → eqb m n ≡ b → (destiny w.setup n s es ≡ None → run (purge (only n) es) (lone w n s) ≡ sent_by n (Some (greeting w.setup s (pieces_of n es)))) → run (cond b (Closes m ∷ purge (only n) es) (purge (only n) es)) (lone w n s) ≡ sent_by n (Some (greeting w.setup s (cond b [] (pieces_of n es))))
    by true e rest =
        let same : eqb n m ≡ true = grind (arith, nat_tests) in
        let kept = kept_closed w.clock m (find_line m (record { number = n; session = s } ∷ [])) w.kept in
        ap (λ x. map sent (cond x (record { number = n; session = s } ∷ []) []) ++ run (purge (only n) es) (record w { kept = kept; lines = cond (not x) (record { number = n; session = s } ∷ []) [] })) same
        ∙ ap (λ ss. (let x : Sent = record { number = n; bytes = s.output; shut = s.shut; why = s.why } in x) ∷ ss) (run-gone n last es (record w { kept = kept }) le r)
    by false e rest = rest ((cond-none (eqb m n) (whose s.stage) (destiny w.setup n s es) d).1 e)
run-lone n last (Moment now ∷ es) w s le r c d =
    ap (run (purge (only n) es)) (moment-lone w n s now (now-unbound w.setup n s es s.stage refl d) c)
    ∙ run-lone n last es (record w { kept = passed (max w.clock now) w.kept; clock = max w.clock now }) s le r.1 c d

fresh-still : (limit : ℕ) → can (new_session limit) ≡ false
unfolding can front int
fresh-still limit = refl

run-unborn : (n last : ℕ) (es : List Happening) (w : View) → IsEventRun last es → unborn w.setup n es ≡ None → run (purge (only n) es) (empty w) ≡ sent_by n (once_opened w.setup n es)
run-unborn n last [] w r d = refl
run-unborn n last (Opens m ∷ es) w r d = by (eqb m n) refl (run-unborn n m es w r.1)
  where
    by : (b : Bool) → eqb m n ≡ b → (unborn w.setup n es ≡ None → run (purge (only n) es) (empty w) ≡ sent_by n (once_opened w.setup n es)) → run (cond b (Opens m ∷ purge (only n) es) (purge (only n) es)) (empty w) ≡ sent_by n (cond b (Some (greeting w.setup (new_session w.setup.request_bytes) (pieces_of n es))) (once_opened w.setup n es))
    by true e rest =
        let is : m ≡ n = grind (arith, nat_tests) in
        ap (λ k. run (purge (only n) es) (lone w k (new_session w.setup.request_bytes))) is
        ∙ run-lone n m es w (new_session w.setup.request_bytes) (omega arith) r.1 (fresh-still w.setup.request_bytes) ((cond-none (eqb m n) (destiny w.setup n (new_session w.setup.request_bytes) es) (unborn w.setup n es) d).0 e)
    by false e rest = rest ((cond-none (eqb m n) (destiny w.setup n (new_session w.setup.request_bytes) es) (unborn w.setup n es) d).1 e)
run-unborn n last (Comes m piece ∷ es) w r d = by (eqb m n) (run-unborn n last es w r d)
  where
    by : (b : Bool) → run (purge (only n) es) (empty w) ≡ sent_by n (once_opened w.setup n es) → run (cond b (Comes m piece ∷ purge (only n) es) (purge (only n) es)) (empty w) ≡ sent_by n (once_opened w.setup n es)
    by true rest = ap (run (purge (only n) es)) (comes-empty w m piece) ∙ rest
    by false rest = rest
run-unborn n last (Closes m ∷ es) w r d = by (eqb m n) (run-unborn n last es w r d)
  where
    by : (b : Bool) → run (purge (only n) es) (empty w) ≡ sent_by n (once_opened w.setup n es) → run (cond b (Closes m ∷ purge (only n) es) (purge (only n) es)) (empty w) ≡ sent_by n (once_opened w.setup n es)
    by true rest = rest
    by false rest = rest
run-unborn n last (Moment now ∷ es) w r d =
    ap (run (purge (only n) es)) (moment-empty w now) ∙ run-unborn n last es (record w { kept = passed (max w.clock now) w.kept; clock = max w.clock now }) r.1 d

-- 4. In a broker

abbrev lines_of : ℕ → Option Session → List Line
lines_of n None = []
lines_of n (Some s) = record { number = n; session = s } ∷ []

none-above : (low last n : ℕ) (ls : List Line) → Rising low last ls → n ≤ low → those (only n) ls ≡ []
none-above low last n [] r h = refl
none-above low last n (l ∷ ls) r h =
    let lt = r.0 in
    let rest = none-above l.number last n ls r.1 (omega arith) in
    let no : eqb l.number n ≡ false = grind (arith, nat_tests) in
    rw no rest

-- the lines of that number are that of the connection found there
only-found : (low last n : ℕ) (ls : List Line) → Rising low last ls → those (only n) ls ≡ lines_of n (find_line n ls)
only-found low last n [] r = refl
only-found low last n (l ∷ ls) r = by (eqb l.number n) refl (only-found l.number last n ls r.1)
  where
    by : (b : Bool) → eqb l.number n ≡ b → those (only n) ls ≡ lines_of n (find_line n ls) → cond b (l ∷ those (only n) ls) (those (only n) ls) ≡ lines_of n (cond b (Some l.session) (find_line n ls))
    by true e rest =
        let is : l.number ≡ n = grind (arith, nat_tests) in
        ap (λ ks. l ∷ ks) (none-above l.number last n ls r.1 (omega arith)) ∙ ap (λ k. (let x : Line = record { number = k; session = l.session } in x) ∷ []) is
    by false e rest = rest

-- an open connection can take no turn, and its number is at most the last
pub record IsIdleAt (n last : ℕ) (o : Option Session) : Type 0 where
  pub still : (s : Session) → o ≡ Some s → can s ≡ false
  pub below : (s : Session) → o ≡ Some s → n ≤ last

idle-at : (low last n : ℕ) (ls : List Line) → Rising low last ls → first_able ls ≡ None → IsIdleAt n last (find_line n ls)
idle-at low last n [] r f = record { still = λ s e. absurd (cc); below = λ s e. absurd (cc) }
idle-at low last n (l ∷ ls) r f = by (eqb l.number n) refl (can l.session) refl (idle-at l.number last n ls r.1)
  where
    by : (b : Bool) → eqb l.number n ≡ b → (d : Bool) → can l.session ≡ d → (first_able ls ≡ None → IsIdleAt n last (find_line n ls)) → IsIdleAt n last (cond b (Some l.session) (find_line n ls))
    by b e true h rest = (let k : cond true (Some l) (first_able ls) ≡ None = subst (λ x. cond x (Some l) (first_able ls) ≡ None) h f in absurd (cc))
    by true e false h rest = record {
      still = λ s g. (let k : l.session ≡ s = cc in ap can (sym k) ∙ h);
      below = λ s g. (let k = rising-last l.number last ls r.1 in let is : l.number ≡ n = grind (arith, nat_tests) in omega (arith, k, is));
    }
    by false e false h rest = rest (subst (λ x. cond x (Some l) (first_able ls) ≡ None) h f)

run-found : (n last : ℕ) (es : List Happening) (w : View) (o : Option Session) → IsEventRun last es → IsIdleAt n last o → fate_from w.setup n o es ≡ None
    → run (purge (only n) es) (record w { lines = lines_of n o }) ≡ sent_by n (greeted_from w.setup n o es)
run-found n last es w None r i d = run-unborn n last es w r d
run-found n last es w (Some s) r i d =
    run-lone n last es w s (i.below s refl) r (i.still s refl) (ap (λ x. destiny w.setup n x es) (sym (heard-still w.setup s (i.still s refl))) ∙ d)

-- the machine of a connection without owner is the greeting of its pieces
pub unowned-greets : (n : ℕ) (es : List Happening) (b : BrokerState) → IsReady b → IsEventRun b.last es → IsUnowned n es b → by_number (alone_unowned n es b) ≡ greeted_alone n es b
unowned-greets n es b ready r h =
    let w = view_of (length b.tenants) (only n) b in
    ap (λ ls. by_number (run (purge (only n) es) (record w { lines = ls }))) (only-found 0 b.last n b.lines ready.sound.rising)
    ∙ (ap by_number (run-found n b.last es w (find_line n b.lines) r (idle-at 0 b.last n b.lines ready.sound.rising ready.settled) h)
    ∙ alone-sorted n (greeted_from b.setup n (find_line n b.lines) es))
  where
    alone-sorted : (n : ℕ) (o : Option Session) → by_number (sent_by n o) ≡ sent_by n o
    alone-sorted n None = refl
    alone-sorted n (Some s) = refl
