-- A step of the whole broker, cut down to a tenant, is a turn of its machine or nothing.
use Rattle.std.proofs.Common.{◌≡◌, ℕ, ℤ, zero, suc, ◌<◌, ◌≤◌, List, [], ◌∷◌, ◌++◌, length, eqb, Bool, true, false, Some, None, Option, refl, sym, ◌∙◌, ap, subst, arith, inl, inr}
use Rattle.std.specs.Prelude.{◌⊎◌, cond, nat_lt}
use Rattle.std.specs.List.{AllByRecursion}
use Rattle.std.proofs.lemmas.Bool.Decides.{nat_tests}
use Rattle.kb_api_group.specs.Frames.{Front, Whole, Partial, TooSmall, TooLarge}
use Rattle.kb_isolation_spec.specs.declared.shut.Shut.TheVariants as causes
use Rattle.kb_isolation_spec.specs.declared.head.Head.{Head}
use Rattle.kb_isolation_spec.specs.Requests.{Asked, Versions, OtherVersions, Handshake, Authenticate, Another, Malformed, request}
use Rattle.kb_tenant_api.specs.Hosted.{Kept}
use Rattle.kb_tenant.specs.Replies as tenant
use Rattle.kb_tenant.specs.Replies.{Replies, Waits, Silent, Shuts, framed, reply_size}
use Rattle.kb_tenant_api.specs.Replies.{Reaction, Plain, Rebalances}
use Rattle.kb_isolation_spec.specs.Tenant.{Wait, Records, Group, reaction_to}
use Rattle.kb_isolation_spec.specs.Session.{Greeting, Stage, Greets, BoundTo, Session, fed, shut_down, without_wait, waiting, can, is_turn, room, replied, throttled, unanswerable, in_front}
use Rattle.kb_isolation_spec.specs.Greeting.{Setup, for_tenant, greeted}
use Rattle.kb_isolation_spec.specs.Machine.{Happening, Opens, Comes, Closes, Moment, Line, View, plainly, after_reaction, served_by, served_at, after_turn, kept_by_turn, each_line, on, those, first_able, all_woken, turn_at, turn, turns, again}
use Rattle.kb_isolation_spec.specs.Owners.{greet_turn, greet_turn_at, greeted_so_far, destiny, whose, Fits, OwnsLines, Pairwise}
use Rattle.kb_isolation_spec.proofs.Laws.{those-each, first-those, turn-some, turns-turn, greeted-less, greeted-still}

-- 1. The greeting, as far as the bytes go

-- a greeting turn takes bytes, or changes nothing
step_at : (setup : Setup) (s : Session) (h : Greeting) (b : Bool) → s.stage ≡ Greets h → is_turn (in_front s) ≡ b → (greet_turn setup s ≡ s) ⊎ (length (greet_turn setup s).unread < length s.unread)
unfolding greet_turn
step_at setup s h true e f =
    let lt = greeted-less setup h s f in
    let same : greet_turn setup s ≡ greeted setup h s = ap (greet_turn_at setup s) e in
    inr (rw same lt)
step_at setup s h false e f = inl (ap (greet_turn_at setup s) e ∙ greeted-still setup h s f)

step_by : (setup : Setup) (s : Session) (st : Stage) → s.stage ≡ st → (greet_turn setup s ≡ s) ⊎ (length (greet_turn setup s).unread < length s.unread)
unfolding greet_turn
step_by setup s (BoundTo u w) e = inl (ap (greet_turn_at setup s) e)
step_by setup s (Greets h) e = step_at setup s h (is_turn (in_front s)) e refl

still : (setup : Setup) (n : ℕ) (s : Session) → greet_turn setup s ≡ s → again (greet_turn setup) n s ≡ s
still setup zero s h = refl
still setup (suc n) s h = ap (again (greet_turn setup) n) h ∙ still setup n s h

enough : (setup : Setup) (n m : ℕ) (s : Session) → (greet_turn setup s ≡ s) ⊎ (length (greet_turn setup s).unread < length s.unread) → length s.unread ≤ n → length s.unread ≤ m → again (greet_turn setup) n s ≡ again (greet_turn setup) m s
enough setup n m s (inl h) p q = still setup n s h ∙ sym (still setup m s h)
enough setup zero m s (inr h) p q = absurd (omega arith)
enough setup (suc n) zero s (inr h) p q = absurd (omega arith)
enough setup (suc n) (suc m) s (inr h) p q =
    let t = greet_turn setup s in
    enough setup n m t (step_by setup t t.stage refl) (omega arith) (omega arith)

pub heard-turn : (setup : Setup) (s : Session) → greeted_so_far setup (greet_turn setup s) ≡ greeted_so_far setup s
unfolding greeted_so_far
heard-turn setup s =
    elim (step_by setup s s.stage refl) [
      | inl h ↦ ap (greeted_so_far setup) h
      | inr h ↦
          let t = greet_turn setup s in
          enough setup (length t.unread) (length s.unread) t (step_by setup t t.stage refl) (omega arith) (omega arith)
          ∙ enough setup (suc (length s.unread)) (length s.unread) s (inr h) (omega arith) (omega arith)
    ]

pub heard-bound : (setup : Setup) (s : Session) (u : ℕ) (w : Option Wait) → s.stage ≡ BoundTo u w → greeted_so_far setup s ≡ s
unfolding greeted_so_far greet_turn
heard-bound setup s u w e = still setup (length s.unread) s (ap (greet_turn_at setup s) e)

pub greeted-turn : (setup : Setup) (h : Greeting) (s : Session) → s.stage ≡ Greets h → greeted setup h s ≡ greet_turn setup s
unfolding greet_turn
greeted-turn setup h s e = sym (ap (greet_turn_at setup s) e)

-- a connection that cannot take a turn has been heard
heard-still_by : (setup : Setup) (s : Session) (st : Stage) → s.stage ≡ st → can s ≡ false → greeted_so_far setup s ≡ s
unfolding greeted_so_far greet_turn can
heard-still_by setup s (BoundTo u w) e c = heard-bound setup s u w e
heard-still_by setup s (Greets h) e c =
    let f : is_turn (in_front s) ≡ false = grind (arith, e, c) in
    still setup (length s.unread) s (ap (greet_turn_at setup s) e ∙ greeted-still setup h s f)

pub heard-still : (setup : Setup) (s : Session) → can s ≡ false → greeted_so_far setup s ≡ s
heard-still setup s c = heard-still_by setup s s.stage refl c

-- 2. A bound connection stays bound

-- bound to that tenant, waiting or not
pub record IsBound (u : ℕ) (s : Session) : Type 0 where
  pub wait : Option Wait
  pub is : s.stage ≡ BoundTo u wait

bound_by : (u : ℕ) (a : Stage) (b : Session) (w : Option Wait) → a ≡ BoundTo u w → without_wait b.stage ≡ without_wait a → (st : Stage) → b.stage ≡ st → IsBound u b
bound_by u a b w e h (Greets g) f = let k : Greets g ≡ BoundTo u None = sym (ap without_wait f) ∙ (h ∙ ap without_wait e) in absurd (cc)
bound_by u a b w e h (BoundTo v x) f = let k : BoundTo v None ≡ BoundTo u None = sym (ap without_wait f) ∙ (h ∙ ap without_wait e) in let g : v ≡ u = cc in record { wait = x; is = f ∙ ap (λ n. BoundTo n x) g }

pub bound-same : (u : ℕ) (a b : Session) → IsBound u a → without_wait b.stage ≡ without_wait a.stage → IsBound u b
bound-same u a b h e = bound_by u a.stage b h.wait h.is e b.stage refl

without-twice : (st : Stage) → without_wait (without_wait st) ≡ without_wait st
without-twice (Greets h) = refl
without-twice (BoundTo u w) = refl

pub stage-shut : (s : Session) → without_wait (without_wait s.stage) ≡ without_wait s.stage
stage-shut s = without-twice s.stage

pub stage-fed : (piece : List ℕ) (s : Session) → without_wait (fed piece s).stage ≡ without_wait s.stage
unfolding fed
stage-fed piece s = by s.shut (nat_lt (room s) (length piece)) (s.unread ++ piece)
  where
    by : (a b : Bool) (bytes : List ℕ) → without_wait (let x : Session = cond a s (cond b (shut_down causes.Overrun s) (record s { unread = bytes })) in x).stage ≡ without_wait s.stage
    by true b bytes = refl
    by false true bytes = stage-shut s
    by false false bytes = refl

pub bound-fed : (u : ℕ) (piece : List ℕ) (s : Session) → IsBound u s → IsBound u (fed piece s)
bound-fed u piece s h = bound-same u s (fed piece s) h (stage-fed piece s)

pub stage-replied : (head : Head) (body : List ℕ) (s : Session) → without_wait (replied head body s).stage ≡ without_wait s.stage
unfolding replied
stage-replied head body s = by (nat_lt 2147483647 (reply_size (throttled head body))) (s.output ++ framed head.correlation_id (throttled head body))
  where
    by : (a : Bool) (bytes : List ℕ) → without_wait (let x : Session = cond a (shut_down (unanswerable head) s) (record s { output = bytes }) in x).stage ≡ without_wait s.stage
    by true bytes = stage-shut s
    by false bytes = refl

stage-waiting : (wait : Wait) (st : Stage) → without_wait (waiting wait st) ≡ without_wait st
stage-waiting wait (Greets h) = refl
stage-waiting wait (BoundTo u w) = refl

stage-plainly : (r : tenant.Reaction) (head : Head) (version : ℤ) (body : List ℕ) (s : Session) → without_wait (plainly r head s).stage ≡ without_wait s.stage
stage-plainly (Replies reply) head version body s = stage-replied head reply s
stage-plainly (Waits deadline fetch places) head version body s = stage-waiting (record { head = head; awaited = Records fetch.version fetch.body deadline fetch.limit }) s.stage
stage-plainly Silent head version body s = refl
stage-plainly Shuts head version body s = stage-shut s

pub stage-answered : (r : Reaction) (head : Head) (version : ℤ) (body : List ℕ) (s : Session) → without_wait (after_reaction r head s).stage ≡ without_wait s.stage
stage-answered (Plain r) head version body s = stage-plainly r head version body s
stage-answered Rebalances head version body s = stage-waiting (record { head = head; awaited = Group }) s.stage

stage-served_by : (setup : Setup) (kept : Kept) (clock n : ℕ) (head : Head) (a : Asked) (s : Session) → without_wait (served_by setup kept clock n head a s).stage ≡ without_wait s.stage
unfolding served_by
stage-served_by setup kept clock n head Versions s = stage-replied head _ s
stage-served_by setup kept clock n head OtherVersions s = stage-replied head _ s
stage-served_by setup kept clock n head (Handshake v m) s = stage-replied head _ s
stage-served_by setup kept clock n head (Authenticate m) s = stage-replied head _ s
stage-served_by setup kept clock n head (Another k v b) s = stage-answered (reaction_to setup.node kept clock n k v b) head v b s
stage-served_by setup kept clock n head Malformed s = stage-shut s

-- a bound connection's turn leaves it bound
pub stage-served : (setup : Setup) (kept : Kept) (clock n : ℕ) (s : Session) → without_wait (after_turn setup kept clock n s).stage ≡ without_wait s.stage
unfolding after_turn
stage-served setup kept clock n s = by (in_front s)
  where
    by : (f : Front) → without_wait (served_at setup kept clock n s f).stage ≡ without_wait s.stage
    by (Whole frame rest) = stage-served_by setup kept clock n (request setup.versions frame).head (request setup.versions frame).asked (record s { unread = rest })
    by TooSmall = stage-shut s
    by TooLarge = stage-shut s
    by Partial = refl

pub destiny-bound : (setup : Setup) (n : ℕ) (s : Session) (es : List Happening) (u : ℕ) → IsBound u s → destiny setup n s es ≡ Some u
destiny-bound setup n s [] u b = ap whose b.is
destiny-bound setup n s (Opens m ∷ es) u b = destiny-bound setup n s es u b
destiny-bound setup n s (Moment m ∷ es) u b = destiny-bound setup n s es u b
destiny-bound setup n s (Closes m ∷ es) u b = let h = destiny-bound setup n s es u b in let k : whose s.stage ≡ Some u = ap whose b.is in grind (arith, h, k)
destiny-bound setup n s (Comes m piece ∷ es) u b =
    let h = destiny-bound setup n s es u b in
    let f = fed piece s in
    let g : IsBound u f = bound-fed u piece s b in
    let k : destiny setup n (greeted_so_far setup f) es ≡ Some u = ap (λ x. destiny setup n x es) (heard-bound setup f u g.wait g.is) ∙ destiny-bound setup n f es u g in
    grind (arith, h, k)

pub fate-bound : (setup : Setup) (n : ℕ) (s : Session) (es : List Happening) (u : ℕ) → IsBound u s → destiny setup n (greeted_so_far setup s) es ≡ Some u
fate-bound setup n s es u b = ap (λ x. destiny setup n x es) (heard-bound setup s u b.wait b.is) ∙ destiny-bound setup n s es u b

-- 3. Pairs of lists

pub pairwise-same : (R : Line → Line → Type 0) → ((l : Line) → R l l) → (ls : List Line) → Pairwise R ls ls
pairwise-same R r [] = tt
pairwise-same R r (l ∷ ls) = (r l, pairwise-same R r ls)

-- 4. Ownership is kept

-- what is still to come leads the connection to the same tenant
pub record SameFate (setup : Setup) (l m : Line) : Type 0 where
  pub number : m.number ≡ l.number
  pub fate : (es : List Happening) → destiny setup l.number (greeted_so_far setup m.session) es ≡ destiny setup l.number (greeted_so_far setup l.session) es

pub fate-same : (setup : Setup) (l : Line) → SameFate setup l l
fate-same setup l = record { number = refl; fate = λ es. refl }

pub fate-greeted : (setup : Setup) (h : Greeting) (l m : Line) → l.session.stage ≡ Greets h → m.number ≡ l.number → m.session ≡ greeted setup h l.session → SameFate setup l m
fate-greeted setup h l m e n g = record { number = n; fate = λ es. ap (λ x. destiny setup l.number x es) (ap (greeted_so_far setup) (g ∙ greeted-turn setup h l.session e) ∙ heard-turn setup l.session) }

-- whether a connection is one of those, if these events are to come
abbrev pub IsMine : Setup → ℕ → (ℕ → Bool) → List Happening → Line → Type 0
IsMine setup t mine es l = Fits t (mine l.number) (destiny setup l.number (greeted_so_far setup l.session) es)

owns-now : (setup : Setup) (t : ℕ) (mine : ℕ → Bool) (es : List Happening) (ls ms : List Line) → Pairwise (SameFate setup) ls ms → AllByRecursion (IsMine setup t mine es) ls → AllByRecursion (IsMine setup t mine es) ms
owns-now setup t mine es [] [] p h = tt
owns-now setup t mine es [] (m ∷ ms) p h = absurd p
owns-now setup t mine es (l ∷ ls) [] p h = absurd p
owns-now setup t mine es (l ∷ ls) (m ∷ ms) p h =
    (subst (λ n. Fits t (mine n) (destiny setup n (greeted_so_far setup m.session) es)) (sym p.0.number) (subst (Fits t (mine l.number)) (sym (p.0.fate es)) h.0), owns-now setup t mine es ls ms p.1 h.1)

pub owns-fates : (setup : Setup) (t : ℕ) (mine : ℕ → Bool) (last : ℕ) (es : List Happening) (ls ms : List Line) → Pairwise (SameFate setup) ls ms → OwnsLines setup t mine last es ls → OwnsLines setup t mine last es ms
owns-fates setup t mine last es ls ms p h = record { now = owns-now setup t mine es ls ms p h.now; later = h.later }

-- 5. What is not the tenant's is out of its view

-- a bound connection is the tenant's exactly if it is bound to it
pub mine-bound : (setup : Setup) (t : ℕ) (mine : ℕ → Bool) (es : List Happening) (l : Line) (u : ℕ) → IsBound u l.session → IsMine setup t mine es l → mine l.number ≡ eqb u t
mine-bound setup t mine es l u b h = subst (Fits t (mine l.number)) (fate-bound setup l.number l.session es u b) h

pub same_line : (l m : Line) → m.number ≡ l.number → m.session ≡ l.session → m ≡ l
same_line l m a b = ap (λ n. let x : Line = record { number = n; session = m.session } in x) a ∙ ap (λ s. let x : Line = record { number = l.number; session = s } in x) b

pub those-on_other : (mine : ℕ → Bool) (n : ℕ) (f : Session → Session) (ls : List Line) → mine n ≡ false → those mine (each_line (on n f) ls) ≡ those mine ls
those-on_other mine n f [] h = refl
those-on_other mine n f (l ∷ ls) h = let rest = those-on_other mine n f ls h in grind (arith, nat_tests, rest)

-- 6. The steps of the whole broker, cut down to a tenant

-- a greeting turn is the machine's turn, or nothing
pub view-greeting : (mine : ℕ → Bool) (w : View) (all : List Line) (l : Line) (h : Greeting) (b : Bool) → mine l.number ≡ b → first_able all ≡ Some l → l.session.stage ≡ Greets h → w.lines ≡ those mine all →
    turns (record w { lines = those mine (each_line (on l.number (greeted w.setup h)) all) }) ≡ turns w
view-greeting mine w all l h false m f g e = ap (λ ls. turns (record w { lines = ls })) (those-on_other mine l.number (greeted w.setup h) all m ∙ sym e)
view-greeting mine w all l h true m f g e =
    let able : first_able w.lines ≡ Some l = ap first_able e ∙ first-those mine all l f m in
    let lines : those mine (each_line (on l.number (greeted w.setup h)) all) ≡ each_line (on l.number (greeted w.setup h)) w.lines = those-each mine (on l.number (greeted w.setup h)) all ∙ ap (each_line (on l.number (greeted w.setup h))) (sym e) in
    let taken : turn w ≡ turn_at w l.number (in_front l.session) (Greets h) = turn-some w l able ∙ ap (turn_at w l.number (in_front l.session)) g in
    ap (λ ls. turns (record w { lines = ls })) lines ∙ (ap turns (sym taken) ∙ turns-turn w)

-- a turn for the tenant itself is the machine's turn
pub view-served : (mine : ℕ → Bool) (w : View) (all : List Line) (l : Line) (t : ℕ) (wait : Option Wait) → first_able all ≡ Some l → l.session.stage ≡ BoundTo t wait → w.lines ≡ those mine all → mine l.number ≡ true →
    turns (all_woken (record w { kept = kept_by_turn (for_tenant w.setup t) w.kept w.clock l.number (in_front l.session); lines = those mine (each_line (on l.number (after_turn (for_tenant w.setup t) w.kept w.clock l.number)) all) })) ≡ turns w
view-served mine w all l t wait f g e m =
    let able : first_able w.lines ≡ Some l = ap first_able e ∙ first-those mine all l f m in
    let lines : those mine (each_line (on l.number (after_turn (for_tenant w.setup t) w.kept w.clock l.number)) all) ≡ each_line (on l.number (after_turn (for_tenant w.setup t) w.kept w.clock l.number)) w.lines = those-each mine (on l.number (after_turn (for_tenant w.setup t) w.kept w.clock l.number)) all ∙ ap (each_line (on l.number (after_turn (for_tenant w.setup t) w.kept w.clock l.number))) (sym e) in
    let taken : turn w ≡ turn_at w l.number (in_front l.session) (BoundTo t wait) = turn-some w l able ∙ ap (turn_at w l.number (in_front l.session)) g in
    ap (λ ls. turns (all_woken (record w { kept = kept_by_turn (for_tenant w.setup t) w.kept w.clock l.number (in_front l.session); lines = ls }))) lines ∙ (ap turns (sym taken) ∙ turns-turn w)
