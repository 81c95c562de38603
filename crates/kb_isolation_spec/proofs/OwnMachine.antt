-- The machine of a tenant has that tenant's connections alone, throughout a run.
use Rattle.std.proofs.Common.{◌≡◌, ◌∙◌, ◌<◌, ℕ, zero, suc, eqb, max, List, [], ◌∷◌, Bool, true, false, cond, Option, Some, None, refl, sym, ap, subst, arith}
use Rattle.std.specs.List.{AllByRecursion}
use Rattle.std.proofs.lemmas.Bool.Decides.{nat_tests}
use Rattle.kb_tenant.specs.Replies as tenant
use Rattle.kb_tenant.specs.Replies.{Replies, Waits, Silent, Shuts}
use Rattle.kb_tenant_api.specs.Hosted.{Kept, passed}
use Rattle.kb_isolation_spec.specs.declared.head.Head.{Head}
use Rattle.kb_isolation_spec.specs.Tenant.{Wait, ready}
use Rattle.kb_api_group.specs.Frames.{Front}
use Rattle.kb_isolation_spec.specs.Session.{Greeting, Stage, Greets, BoundTo, Session, can, fed, new_session, without_wait, in_front}
use Rattle.kb_isolation_spec.specs.Greeting.{Setup, for_tenant, greeted}
use Rattle.kb_isolation_spec.specs.Machine.{Happening, Opens, Comes, Closes, Moment, Line, View, after_turn, again, all_woken, each_line, find_line, first_able, kept_fed, on, kept_by_turn, step, those, told, turn, turn_at, turns, woken, woken_by, work}
use Rattle.kb_isolation_spec.specs.Calls.{other_than}
use Rattle.kb_isolation_spec.specs.Owners.{Fits, destiny, greeted_so_far, purge, unborn}
use Rattle.kb_isolation_spec.specs.Broker.{BrokerState, IsEventRun, Mine, Rising, last_after, view_of}
use Rattle.kb_isolation_spec.specs.LimitsKept.{IsMachineOf}
use Rattle.kb_isolation_spec.proofs.Alone.{destiny-purge, run-purge, unborn-other, unborn-purge}
use Rattle.kb_isolation_spec.proofs.Feeds.{comes-fed}
use Rattle.kb_isolation_spec.proofs.Laws.{none-those, turn-none, turn-some}
use Rattle.kb_isolation_spec.proofs.Owned.{found}
use Rattle.kb_isolation_spec.proofs.Owners.{IsBound, IsMine, bound-same, fate-bound, greeted-turn, heard-turn, mine-bound, stage-replied, stage-served, stage-shut}
use Rattle.kb_isolation_spec.proofs.Parts.{eqb_same}
use Rattle.kb_isolation_spec.proofs.Pinned.{turns-settled}
use Rattle.kb_isolation_spec.proofs.Sets.{all-map, all-still}
use Rattle.kb_isolation_spec.proofs.Steps.{can-fresh, closes-others, first-push, owns-opens, rising-push, rising-those}

-- each connection is among the tenant's
abbrev every : ℕ → Bool
every n = true

-- ---- lists of connections

pub rising-each : (g : ℕ → Session → Session) (low last : ℕ) (ls : List Line) → Rising low last ls → Rising low last (each_line g ls)
rising-each g low last [] r = r
rising-each g low last (l ∷ ls) r = (r.0, rising-each g l.number last ls r.1)

-- what holds of each holds of the one that takes a turn
pub all-first : (P : Line → Type 0) (ls : List Line) (l : Line) → first_able ls ≡ Some l → AllByRecursion P ls → P l
all-first P [] l e h = absurd cc
all-first P (x ∷ xs) l e h = by (can x.session) e (λ f. all-first P xs l f h.1)
  where
    by : (b : Bool) → cond b (Some x) (first_able xs) ≡ Some l → (first_able xs ≡ Some l → P l) → P l
    by true f rest = let same : x ≡ l = cc in subst P same h.0
    by false f rest = rest f

-- no other connection has its number
alone-there : (low last : ℕ) (ls : List Line) (l : Line) → Rising low last ls → first_able ls ≡ Some l → AllByRecursion (λ (x : Line). eqb x.number l.number ≡ true → x.session ≡ l.session) ls
alone-there low last ls l r able =
    let all = found low last ls r in
    let here : find_line l.number ls ≡ Some l.session = all-first (λ (x : Line). find_line x.number ls ≡ Some x.session) ls l able all in
    all-map (λ (x : Line). find_line x.number ls ≡ Some x.session) (λ (x : Line). eqb x.number l.number ≡ true → x.session ≡ l.session)
    (λ x f e.
    let both : Some x.session ≡ Some l.session = sym f ∙ ap (λ n. find_line n ls) (eqb_same x.number l.number e) ∙ here in
    let same : x.session ≡ l.session = cc in
    same) ls all

-- ---- what leads a connection to its tenant

-- what is still to come leads both to the same tenant
abbrev SameEnd : Setup → Session → Session → Type 0
SameEnd setup s u = (n : ℕ) (es : List Happening) → destiny setup n (greeted_so_far setup u) es ≡ destiny setup n (greeted_so_far setup s) es

end-bound : (setup : Setup) (t : ℕ) (s u : Session) → IsBound t s → without_wait u.stage ≡ without_wait s.stage → SameEnd setup s u
end-bound setup t s u b same = λ n es. fate-bound setup n u es t (bound-same t s u b same) ∙ sym (fate-bound setup n s es t b)

end-greeted : (setup : Setup) (h : Greeting) (s : Session) → s.stage ≡ Greets h → SameEnd setup s (greeted setup h s)
end-greeted setup h s e = λ n es. ap (λ x. destiny setup n x es) (ap (greeted_so_far setup) (greeted-turn setup h s e) ∙ heard-turn setup s)

stage-told : (r : tenant.Reaction) (head : Head) (s : Session) → without_wait s.stage ≡ without_wait (without_wait s.stage) → without_wait (told r head s).stage ≡ without_wait s.stage
stage-told (Replies reply) head s twice = stage-replied head reply (record s { stage = without_wait s.stage }) ∙ sym twice
stage-told (Waits deadline limit places) head s twice = refl
stage-told Silent head s twice = refl
stage-told Shuts head s twice = sym twice

end-woken : (setup : Setup) (kept : Kept) (clock n : ℕ) (s : Session) (st : Stage) → s.stage ≡ st → SameEnd setup s (woken_by kept clock n s st)
unfolding woken_by
end-woken setup kept clock n s (Greets h) e = λ k es. refl
end-woken setup kept clock n s (BoundTo t None) e = λ k es. refl
end-woken setup kept clock n s (BoundTo t (Some wait)) e =
    end-bound setup t s (told (ready kept clock n wait) wait.head s) (record { wait = Some wait; is = e }) (stage-told (ready kept clock n wait) wait.head s (sym (stage-shut s)))

module _ (setup : Setup) (t : ℕ) (es : List Happening) where
  abbrev Own : List Line → Type 0
  Own ls = AllByRecursion (IsMine setup t every es) ls

  own-each : (g : ℕ → Session → Session) (ls : List Line) → AllByRecursion (λ (l : Line). SameEnd setup l.session (g l.number l.session)) ls → Own ls → Own (each_line g ls)
  own-each g [] f h = tt
  own-each g (l ∷ ls) f h = (subst (Fits t true) (sym (f.0 l.number es)) h.0, own-each g ls f.1 h.1)

  own-woken : (kept : Kept) (clock : ℕ) (ls : List Line) → Own ls → Own (each_line (λ k s. woken kept clock k s) ls)
  own-woken kept clock ls h = own-each (λ k s. woken kept clock k s) ls (ends ls) h
    where
      ends : (ls : List Line) → AllByRecursion (λ (l : Line). SameEnd setup l.session (woken kept clock l.number l.session)) ls
      ends [] = tt
      ends (l ∷ ls) = (end-woken setup kept clock l.number l.session l.session.stage refl, ends ls)

  -- a change of the connection that takes a turn
  own-on : (last : ℕ) (f : Session → Session) (ls : List Line) (l : Line) → Rising 0 last ls → first_able ls ≡ Some l → SameEnd setup l.session (f l.session) → Own ls → Own (each_line (on l.number f) ls)
  own-on last f ls l r able ends h =
      own-each (on l.number f) ls (all-map (λ (x : Line). eqb x.number l.number ≡ true → x.session ≡ l.session) (λ (x : Line). SameEnd setup x.session (on l.number f x.number x.session))
      (λ x only. by x (eqb x.number l.number) only) ls (alone-there 0 last ls l r able)) h
    where
      by : (x : Line) (b : Bool) → (b ≡ true → x.session ≡ l.session) → SameEnd setup x.session (cond b (f x.session) x.session)
      by x true only = subst (λ s. SameEnd setup s (f s)) (sym (only refl)) ends
      by x false only = λ n es. refl

-- ---- turns

-- the numbers rise, and all connections are the tenant's
pub record IsTurning (t last : ℕ) (es : List Happening) (w : View) : Type 0 where
  pub rising : Rising 0 last w.lines
  pub own : AllByRecursion (IsMine w.setup t every es) w.lines

module _ (t last : ℕ) (es : List Happening) where
  pub woken-turning : (w : View) → IsTurning t last es w → IsTurning t last es (all_woken w)
  woken-turning w h = record {
    rising = rising-each (λ k s. woken w.kept w.clock k s) 0 last w.lines h.rising;
    own = own-woken w.setup t es w.kept w.clock w.lines h.own;
  }

  turning_at : (w : View) (l : Line) → IsTurning t last es w → first_able w.lines ≡ Some l → (st : Stage) → l.session.stage ≡ st → IsTurning t last es (turn_at w l.number (in_front l.session) st)
  turning_at w l h able (Greets greeting) e = record {
    rising = rising-each (on l.number (greeted w.setup greeting)) 0 last w.lines h.rising;
    own = own-on w.setup t es last (greeted w.setup greeting) w.lines l h.rising able (end-greeted w.setup greeting l.session e) h.own;
  }
  turning_at w l h able (BoundTo u wait) e =
      let setup = for_tenant w.setup u in
      let f : Session → Session = after_turn setup w.kept w.clock l.number in
      let v : View = record w { kept = kept_by_turn setup w.kept w.clock l.number (in_front l.session); lines = each_line (on l.number f) w.lines } in
      woken-turning v (record {
        rising = rising-each (on l.number f) 0 last w.lines h.rising;
        own = own-on w.setup t es last f w.lines l h.rising able
            (end-bound w.setup u l.session (f l.session) (record { wait = wait; is = e }) (stage-served setup w.kept w.clock l.number l.session)) h.own;
      })

  pub turn-turning : (w : View) → IsTurning t last es w → IsTurning t last es (turn w)
  turn-turning w h = by (first_able w.lines) refl
    where
      by : (o : Option Line) → first_able w.lines ≡ o → IsTurning t last es (turn w)
      by None e = subst (IsTurning t last es) (sym (turn-none w e)) h
      by (Some l) e = subst (IsTurning t last es) (sym (turn-some w l e)) (turning_at w l h e l.session.stage refl)

  again-turning : (n : ℕ) (w : View) → IsTurning t last es w → IsTurning t last es (again turn n w)
  again-turning zero w h = h
  again-turning (suc n) w h = again-turning n (turn w) (turn-turning w h)

  pub turns-turning : (w : View) → IsTurning t last es w → IsTurning t last es (turns w)
  unfolding turns
  turns-turning w h = again-turning (work w.lines) w h

  -- the connection that takes a turn is bound to no other tenant
  pub turn-own : (w : View) (l : Line) (u : ℕ) (wait : Option Wait) → IsTurning t last es w → first_able w.lines ≡ Some l → l.session.stage ≡ BoundTo u wait → u ≡ t
  turn-own w l u wait h able e =
      let mine = all-first (IsMine w.setup t every es) w.lines l able h.own in
      eqb_same u t (sym (mine-bound w.setup t every es l u (record { wait = wait; is = e }) mine))

-- ---- what is fixed stays

setup-turn : (w : View) → (turn w).setup ≡ w.setup
setup-turn w = by (first_able w.lines) refl
  where
    at : (n : ℕ) (f : Front) (st : Stage) → (turn_at w n f st).setup ≡ w.setup
    at n f (Greets h) = refl
    at n f (BoundTo u wait) = refl

    by : (o : Option Line) → first_able w.lines ≡ o → (turn w).setup ≡ w.setup
    by None e = ap (λ (v : View). v.setup) (turn-none w e)
    by (Some l) e = ap (λ (v : View). v.setup) (turn-some w l e) ∙ at l.number (in_front l.session) l.session.stage

pub turn-setup : (w : View) → (turn w).setup ≡ w.setup
turn-setup w = setup-turn w

again-setup : (n : ℕ) (w : View) → (again turn n w).setup ≡ w.setup
again-setup zero w = refl
again-setup (suc n) w = again-setup n (turn w) ∙ setup-turn w

pub turns-setup : (w : View) → (turns w).setup ≡ w.setup
unfolding turns
turns-setup w = again-setup (work w.lines) w

pub step-setup : (e : Happening) (w : View) → (step e w).setup ≡ w.setup
step-setup (Opens n) w = refl
step-setup (Comes n piece) w = turns-setup (record w { kept = kept_fed piece w.clock n (find_line n w.lines) w.kept; lines = each_line (on n (fed piece)) w.lines })
step-setup (Closes n) w = refl
step-setup (Moment now) w = let clock = max w.clock now in turns-setup (all_woken (record w { kept = passed clock w.kept; clock = clock }))

-- ---- events

own-fed : (setup : Setup) (t n : ℕ) (piece : List ℕ) (es : List Happening) (ls : List Line) → AllByRecursion (λ (l : Line). can l.session ≡ false) ls → AllByRecursion (IsMine setup t every (Comes n piece ∷ es)) ls
    → AllByRecursion (IsMine setup t every es) (each_line (on n (fed piece)) ls)
own-fed setup t n piece es [] still h = tt
own-fed setup t n piece es (l ∷ ls) still h = (by (eqb l.number n) refl, own-fed setup t n piece es ls still.1 h.1)
  where
    by : (b : Bool) → eqb l.number n ≡ b → IsMine setup t every es (record { number = l.number; session = cond b (fed piece l.session) l.session })
    by true e =
        let here : IsMine setup t every (Comes l.number piece ∷ es) l = subst (λ k. IsMine setup t every (Comes k piece ∷ es) l) (sym (eqb_same l.number n e)) h.0 in
        comes-fed setup t every piece es l (record { number = l.number; session = fed piece l.session }) still.0 refl refl here
    by false e =
        let ne : eqb n l.number ≡ false = grind (arith, nat_tests, e) in
        subst (Fits t true) (ap (λ (b : Bool). cond b (destiny setup l.number (greeted_so_far setup (fed piece (greeted_so_far setup l.session))) es) (destiny setup l.number (greeted_so_far setup l.session) es)) ne) h.0

-- the machine before the turns of a piece
pub fed-turning : (t last n : ℕ) (piece : List ℕ) (es : List Happening) (w : View) → IsMachineOf t last (Comes n piece ∷ es) w
    → IsTurning t last es (record w { kept = kept_fed piece w.clock n (find_line n w.lines) w.kept; lines = each_line (on n (fed piece)) w.lines })
fed-turning t last n piece es w h = record {
  rising = rising-each (on n (fed piece)) 0 last w.lines h.rising;
  own = own-fed w.setup t n piece es w.lines (all-still w.lines h.settled) h.own.now;
}

-- and before those of a moment
pub moment-turning : (t last now : ℕ) (es : List Happening) (w : View) → IsMachineOf t last (Moment now ∷ es) w
    → let clock = max w.clock now in IsTurning t last es (all_woken (record w { kept = passed clock w.kept; clock = clock }))
moment-turning t last now es w h =
    let clock = max w.clock now in
    woken-turning t last es (record w { kept = passed clock w.kept; clock = clock }) (record { rising = h.rising; own = h.own.now })

-- turns come to an end, and then it is a machine again
after_turns : (t last : ℕ) (es : List Happening) (w : View) → IsTurning t last es w → IsEventRun last es → ((n : ℕ) → last < n → Fits t true (unborn w.setup n es)) → IsMachineOf t last es (turns w)
after_turns t last es w h run later =
    let all = turns-turning t last es w h in
    record {
      rising = all.rising;
      settled = turns-settled w;
      in_order = run;
      own = record { now = all.own; later = λ n lt. subst (λ s. Fits t true (unborn s n es)) (sym (turns-setup w)) (later n lt) };
    }

pub machine-step : (t last : ℕ) (e : Happening) (es : List Happening) (w : View) → IsMachineOf t last (e ∷ es) w → IsMachineOf t (last_after e last) es (step e w)
machine-step t last (Opens n) es w h = record {
  rising = rising-push 0 last n w.lines (record { number = n; session = new_session w.setup.request_bytes }) h.rising h.in_order.0 refl;
  settled = first-push w.lines (record { number = n; session = new_session w.setup.request_bytes }) h.settled (can-fresh w.setup.request_bytes);
  in_order = h.in_order.1;
  own = owns-opens w.setup t last n every es w.lines h.in_order.0 h.own;
}
machine-step t last (Comes n piece) es w h =
    after_turns t last es (record w { kept = kept_fed piece w.clock n (find_line n w.lines) w.kept; lines = each_line (on n (fed piece)) w.lines })
    (fed-turning t last n piece es w h) h.in_order h.own.later
machine-step t last (Closes n) es w h = record {
  rising = rising-those 0 last (other_than n) w.lines h.rising;
  settled = none-those (other_than n) w.lines h.settled;
  in_order = h.in_order;
  own = record { now = closes-others w.setup t n every es w.lines h.own.now; later = h.own.later };
}
machine-step t last (Moment now) es w h =
    let clock = max w.clock now in
    after_turns t last es (all_woken (record w { kept = passed clock w.kept; clock = clock })) (moment-turning t last now es w h) h.in_order.1 h.own.later

-- ---- the machine of a tenant of the broker

own-those : (setup : Setup) (t : ℕ) (mine : ℕ → Bool) (es : List Happening) (ls : List Line) → AllByRecursion (IsMine setup t mine es) ls → AllByRecursion (IsMine setup t every (purge mine es)) (those mine ls)
own-those setup t mine es [] h = tt
own-those setup t mine es (l ∷ ls) h = by (mine l.number) refl (own-those setup t mine es ls h.1)
  where
    by : (b : Bool) → mine l.number ≡ b → AllByRecursion (IsMine setup t every (purge mine es)) (those mine ls) → AllByRecursion (IsMine setup t every (purge mine es)) (cond {A = List Line} b (l ∷ those mine ls) (those mine ls))
    by true e rest = (subst (Fits t true) (sym (destiny-purge mine setup l.number (greeted_so_far setup l.session) es e)) (subst (λ b. Fits t b (destiny setup l.number (greeted_so_far setup l.session) es)) e h.0), rest)
    by false e rest = rest

pub own-machine : (t : ℕ) (mine : ℕ → Bool) (es : List Happening) (b : BrokerState) → Rising 0 b.last b.lines → first_able b.lines ≡ None → IsEventRun b.last es → Mine t mine es b → IsMachineOf t b.last (purge mine es) (view_of t mine b)
own-machine t mine es b rising settled run owns = record {
  rising = rising-those 0 b.last mine b.lines rising;
  settled = none-those mine b.lines settled;
  in_order = run-purge mine b.last es run;
  own = record { now = own-those b.setup t mine es b.lines owns.now; later = λ n lt. by n lt (mine n) refl };
}
  where
    by : (n : ℕ) → b.last < n → (c : Bool) → mine n ≡ c → Fits t true (unborn b.setup n (purge mine es))
    by n lt true e = subst (Fits t true) (sym (unborn-purge mine b.setup n es e)) (subst (λ c. Fits t c (unborn b.setup n es)) e (owns.later n lt))
    by n lt false e = subst (Fits t true) (sym (unborn-other mine b.setup n es e)) tt
