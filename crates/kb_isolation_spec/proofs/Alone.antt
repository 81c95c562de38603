-- A tenant's connections and events are the same where its own events and the moments are all that comes.
use Rattle.std.proofs.Common.{◌≡◌, ℕ, List, [], ◌∷◌, Bool, true, false, cond, Option, Some, None, refl, sym, ◌∙◌, ap, arith}
use Rattle.std.proofs.lemmas.Bool.Decides.{nat_tests}
use Rattle.kb_isolation_spec.specs.Session.{Stage, Greets, BoundTo, Session, new_session, fed}
use Rattle.kb_isolation_spec.specs.Greeting.{Setup}
use Rattle.kb_isolation_spec.specs.Machine.{Happening, Opens, Comes, Closes, Moment, Line, Sent, those, find_line}
use Rattle.kb_isolation_spec.specs.Owners.{greeted_so_far, whose, destiny, unborn, fate_from, owner, is_owner, owned, concerns, purge}
use Rattle.kb_isolation_spec.specs.Broker.{BrokerState, IsCalmFor, IsEventRun, owned_by}
use Rattle.kb_isolation_spec.specs.Isolation.{IsIsolated, StartsAlike, AreAlike, own_events, own_lines, own_sent}
use Rattle.kb_isolation_spec.specs.Alone.{HasToItself}
use Rattle.kb_isolation_spec.proofs.Owners.{destiny-bound}
use Rattle.kb_isolation_spec.proofs.Owned.{run-lower}
use Rattle.kb_isolation_spec.proofs.Isolation.{sent-alike}

-- 1. Lists that are cut down to some connections

those-same : (p q : ℕ → Bool) → ((n : ℕ) → p n ≡ q n) → (ls : List Line) → those p ls ≡ those q ls
those-same p q h [] = refl
those-same p q h (l ∷ ls) = let here = h l.number in let rest = those-same p q h ls in grind (arith, here, rest)

those-twice : (p : ℕ → Bool) (ls : List Line) → those p (those p ls) ≡ those p ls
those-twice p [] = refl
those-twice p (l ∷ ls) = let rest = those-twice p ls in grind (arith, rest)

find-those : (p : ℕ → Bool) (n : ℕ) (ls : List Line) → p n ≡ true → find_line n (those p ls) ≡ find_line n ls
find-those p n [] h = refl
find-those p n (l ∷ ls) h = let rest = find-those p n ls h in grind (arith, nat_tests, rest)

find-other : (p : ℕ → Bool) (n : ℕ) (ls : List Line) → p n ≡ false → find_line n (those p ls) ≡ None
find-other p n [] h = refl
find-other p n (l ∷ ls) h = let rest = find-other p n ls h in grind (arith, nat_tests, rest)

concerns-same : (p q : ℕ → Bool) → ((n : ℕ) → p n ≡ q n) → (e : Happening) → concerns p e ≡ concerns q e
concerns-same p q h (Opens n) = h n
concerns-same p q h (Comes n piece) = h n
concerns-same p q h (Closes n) = h n
concerns-same p q h (Moment now) = refl

purge-same : (p q : ℕ → Bool) → ((n : ℕ) → p n ≡ q n) → (es : List Happening) → purge p es ≡ purge q es
purge-same p q h [] = refl
purge-same p q h (e ∷ es) = let here = concerns-same p q h e in let rest = purge-same p q h es in grind (arith, here, rest)

purge-twice : (p : ℕ → Bool) (es : List Happening) → purge p (purge p es) ≡ purge p es
purge-twice p [] = refl
purge-twice p (e ∷ es) = let rest = purge-twice p es in grind (arith, rest)

-- 2. What a connection's own events lead it to

pub destiny-purge : (p : ℕ → Bool) (setup : Setup) (n : ℕ) (s : Session) (es : List Happening) → p n ≡ true → destiny setup n s (purge p es) ≡ destiny setup n s es
destiny-purge p setup n s [] h = refl
destiny-purge p setup n s (Opens m ∷ es) h = let rest = destiny-purge p setup n s es h in grind (arith, rest)
destiny-purge p setup n s (Comes m piece ∷ es) h =
    let rest = destiny-purge p setup n s es h in
    let fed = destiny-purge p setup n (greeted_so_far setup (fed piece s)) es h in
    grind (arith, nat_tests, rest, fed)
destiny-purge p setup n s (Closes m ∷ es) h = let rest = destiny-purge p setup n s es h in grind (arith, nat_tests, rest)
destiny-purge p setup n s (Moment now ∷ es) h = destiny-purge p setup n s es h

destiny-other : (p : ℕ → Bool) (setup : Setup) (n : ℕ) (s : Session) (es : List Happening) → p n ≡ false → destiny setup n s (purge p es) ≡ whose s.stage
destiny-other p setup n s [] h = refl
destiny-other p setup n s (Opens m ∷ es) h = let rest = destiny-other p setup n s es h in grind (arith, rest)
destiny-other p setup n s (Comes m piece ∷ es) h = let rest = destiny-other p setup n s es h in grind (arith, nat_tests, rest)
destiny-other p setup n s (Closes m ∷ es) h = let rest = destiny-other p setup n s es h in grind (arith, nat_tests, rest)
destiny-other p setup n s (Moment now ∷ es) h = destiny-other p setup n s es h

pub unborn-purge : (p : ℕ → Bool) (setup : Setup) (n : ℕ) (es : List Happening) → p n ≡ true → unborn setup n (purge p es) ≡ unborn setup n es
unborn-purge p setup n [] h = refl
unborn-purge p setup n (Opens m ∷ es) h =
    let rest = unborn-purge p setup n es h in
    let born = destiny-purge p setup n (new_session setup.request_bytes) es h in
    grind (arith, nat_tests, rest, born)
unborn-purge p setup n (Comes m piece ∷ es) h = let rest = unborn-purge p setup n es h in grind (arith, rest)
unborn-purge p setup n (Closes m ∷ es) h = let rest = unborn-purge p setup n es h in grind (arith, rest)
unborn-purge p setup n (Moment now ∷ es) h = unborn-purge p setup n es h

pub unborn-other : (p : ℕ → Bool) (setup : Setup) (n : ℕ) (es : List Happening) → p n ≡ false → unborn setup n (purge p es) ≡ None
unborn-other p setup n [] h = refl
unborn-other p setup n (Opens m ∷ es) h = let rest = unborn-other p setup n es h in grind (arith, nat_tests, rest)
unborn-other p setup n (Comes m piece ∷ es) h = let rest = unborn-other p setup n es h in grind (arith, rest)
unborn-other p setup n (Closes m ∷ es) h = let rest = unborn-other p setup n es h in grind (arith, rest)
unborn-other p setup n (Moment now ∷ es) h = unborn-other p setup n es h

-- 3. The owners are the same

fate-purge : (p : ℕ → Bool) (setup : Setup) (n : ℕ) (o : Option Session) (es : List Happening) → p n ≡ true → fate_from setup n o (purge p es) ≡ fate_from setup n o es
fate-purge p setup n None es h = unborn-purge p setup n es h
fate-purge p setup n (Some s) es h = destiny-purge p setup n (greeted_so_far setup s) es h

-- a connection of another tenant that says nothing more is bound to that tenant already, or to none
other-fate : (p : ℕ → Bool) (setup : Setup) (t n : ℕ) (o : Option Session) (es : List Happening) → p n ≡ false → is_owner t (fate_from setup n o es) ≡ false
    → is_owner t (fate_from setup n o (purge p es)) ≡ false
other-fate p setup t n None es h f = ap (is_owner t) (unborn-other p setup n es h)
other-fate p setup t n (Some s) es h f =
    let x = greeted_so_far setup s in
    ap (is_owner t) (destiny-other p setup n x es h) ∙ by x f x.stage refl
  where
    by : (x : Session) → is_owner t (destiny setup n x es) ≡ false → (st : Stage) → x.stage ≡ st → is_owner t (whose x.stage) ≡ false
    by x f (Greets g) e = ap (λ y. is_owner t (whose y)) e
    by x f (BoundTo u w) e =
        let bound : destiny setup n x es ≡ Some u = destiny-bound setup n x es u (record { wait = w; is = e }) in
        ap (λ y. is_owner t (whose y)) e ∙ (sym (ap (is_owner t) bound) ∙ f)

-- where all connections stay open
pub owned-again : (t n : ℕ) (es : List Happening) (b : BrokerState) → owned_by t (own_events t es b) b n ≡ owned_by t es b n
unfolding owned
owned-again t n es b = by (owned_by t es b n) refl
  where
    by : (c : Bool) → owned_by t es b n ≡ c → owned_by t (own_events t es b) b n ≡ owned_by t es b n
    by true h = ap (is_owner t) (fate-purge (owned_by t es b) b.setup n (find_line n b.lines) es h)
    by false h = other-fate (owned_by t es b) b.setup t n (find_line n b.lines) es h h ∙ sym h

-- where only the tenant's connections are open
owned-cut : (t : ℕ) (es : List Happening) (a b : BrokerState) (n : ℕ) → b.setup ≡ a.setup → b.lines ≡ own_lines t es a → owned_by t (own_events t es a) b n ≡ owned_by t es a n
unfolding owned
owned-cut t es a b n setup lines =
    ap (λ x. is_owner t (owner x b.lines (own_events t es a) n)) setup ∙ (ap (λ x. is_owner t (owner a.setup x (own_events t es a) n)) lines ∙ by (owned_by t es a n) refl)
  where
    by : (c : Bool) → owned_by t es a n ≡ c → is_owner t (owner a.setup (own_lines t es a) (own_events t es a) n) ≡ owned_by t es a n
    by true h =
        ap (λ o. is_owner t (fate_from a.setup n o (own_events t es a))) (find-those (owned_by t es a) n a.lines h)
        ∙ ap (is_owner t) (fate-purge (owned_by t es a) a.setup n (find_line n a.lines) es h)
    by false h =
        ap (λ o. is_owner t (fate_from a.setup n o (own_events t es a))) (find-other (owned_by t es a) n a.lines h)
        ∙ (ap (is_owner t) (unborn-other (owned_by t es a) a.setup n es h) ∙ sym h)

pub owners-alone : (t n : ℕ) (es : List Happening) (shared own : BrokerState) → HasToItself t es shared own → owned_by t (own_events t es shared) own n ≡ owned_by t es shared n
owners-alone t n es shared own h = owned-cut t es shared own n h.setup h.lines

pub events-again : (t : ℕ) (es : List Happening) (b : BrokerState) → own_events t (own_events t es b) b ≡ own_events t es b
events-again t es b =
    purge-same (owned_by t (own_events t es b) b) (owned_by t es b) (λ n. owned-again t n es b) (own_events t es b) ∙ purge-twice (owned_by t es b) es

events-alone : (t : ℕ) (es : List Happening) (shared own : BrokerState) → HasToItself t es shared own → own_events t (own_events t es shared) own ≡ own_events t es shared
events-alone t es shared own h =
    purge-same (owned_by t (own_events t es shared) own) (owned_by t es shared) (λ n. owners-alone t n es shared own h) (own_events t es shared)
    ∙ purge-twice (owned_by t es shared) es

-- 4. Both runs

-- some events of a run are a run
pub run-purge : (p : ℕ → Bool) (last : ℕ) (es : List Happening) → IsEventRun last es → IsEventRun last (purge p es)
run-purge p last [] r = tt
run-purge p last (Opens n ∷ es) r = by (p n) (run-purge p n es r.1)
  where
    by : (b : Bool) → IsEventRun n (purge p es) → IsEventRun last (cond b (Opens n ∷ purge p es) (purge p es))
    by true rest = (r.0, rest)
    by false rest = run-lower last n (purge p es) (let lt = r.0 in omega arith) rest
run-purge p last (Comes n piece ∷ es) r = by (p n) (run-purge p last es r)
  where
    by : (b : Bool) → IsEventRun last (purge p es) → IsEventRun last (cond b (Comes n piece ∷ purge p es) (purge p es))
    by true rest = rest
    by false rest = rest
run-purge p last (Closes n ∷ es) r = by (p n) (run-purge p last es r)
  where
    by : (b : Bool) → IsEventRun last (purge p es) → IsEventRun last (cond b (Closes n ∷ purge p es) (purge p es))
    by true rest = rest
    by false rest = rest
run-purge p last (Moment now ∷ es) r = (r.0, run-purge p last es r.1)

pub run-own : (t last : ℕ) (es : List Happening) (b : BrokerState) → IsEventRun last es → IsEventRun last (own_events t es b)
run-own t last es b r = run-purge (owned_by t es b) last es r

starts-alone : (t : ℕ) (es : List Happening) (shared own : BrokerState) → HasToItself t es shared own → StartsAlike t es (own_events t es shared) shared own
starts-alone t es shared own h = record {
  setup = h.setup;
  kept = h.kept;
  clock = h.clock;
  lines =
      ap (those (owned_by t (own_events t es shared) own)) h.lines
      ∙ (those-same (owned_by t (own_events t es shared) own) (owned_by t es shared) (λ n. owners-alone t n es shared own h) (own_lines t es shared)
      ∙ those-twice (owned_by t es shared) shared.lines);
}

pub alike-alone : (t : ℕ) (es : List Happening) (shared after own own_after : BrokerState) → HasToItself t es shared own → IsCalmFor t shared after → IsCalmFor t own own_after
    → AreAlike t es (own_events t es shared) shared after own own_after
alike-alone t es shared after own own_after h first second = record {
  start = starts-alone t es shared own h;
  events = events-alone t es shared own h;
  first = first;
  second = second;
}

pub sent-alone : (t : ℕ) (es : List Happening) (shared after own own_after : BrokerState) (got own_got : List Sent) → IsIsolated es shared after got → IsIsolated (own_events t es shared) own own_after own_got
    → HasToItself t es shared own → IsCalmFor t shared after → IsCalmFor t own own_after → own_sent t (own_events t es shared) own own_got ≡ own_sent t es shared got
sent-alone t es shared after own own_after got own_got p q h first second =
    sent-alike t es (own_events t es shared) shared after own own_after got own_got p q (alike-alone t es shared after own own_after h first second)

-- where nobody is connected, the shared broker will do
pub unused-alone : (t : ℕ) (es : List Happening) (b : BrokerState) → b.lines ≡ [] → HasToItself t es b b
unused-alone t es b e = record { setup = refl; kept = refl; clock = refl; lines = e ∙ sym (ap (those (owned_by t es b)) e) }
