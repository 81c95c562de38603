-- What a broker says at an event, and to whom.
use Rattle.std.proofs.Common.{◌≡◌, ◌≢◌, ℕ, ◌≤◌, ◌==◌, ◌&&◌, ◌||◌, Bool, true, false, not, cond, eqb, List, [], ◌∷◌, ◌++◌, length, map, refl, sym, ap, subst, ◌∙◌, arith, Option, Some, None, append-nil}
use Rattle.std.proofs.lemmas.Bool.Decides.{nat_tests}
use Rattle.std.specs.List.{AllByRecursion}
use Rattle.kb_isolation_spec.specs.Session.{Session, new_session, can}
use Rattle.kb_isolation_spec.specs.Machine.{Line, each_line, on, those}
use Rattle.kb_isolation_spec.specs.Machine.{find_line}
use Rattle.kb_isolation_spec.specs.Broker.{IsUnready, AnyWait, BrokerState, Rising, InRange, IsReady}
use Rattle.kb_isolation_spec.specs.Calls.{opened, closed, output_taken, without_output, other_than, open_in, output_in, shut_in, is_open, is_shut, output_of}
use Rattle.kb_isolation_spec.specs.Told.{said, quieted_lines}
use Rattle.kb_isolation_spec.specs.Turned.{SameOthers}
use Rattle.kb_isolation_spec.proofs.Sets.{all-map, all-those, all-push, none-able, all-still as all-settled}
use Rattle.kb_isolation_spec.proofs.Owned.{found}
use Rattle.kb_broker.specs.Places.{numbers, waits_in}
use Rattle.kb_broker.specs.Script.{Place, sent_text, step_text}
use Rattle.kb_broker.specs.ScriptRun.{IsQuiet, IsPlaceIn, hushed, words}

-- 1. Nothing is said

-- a connection with no output, which was not shut in this step
record Still (old : List Line) (l : Line) : Type 0 where
  output : l.session.output ≡ []
  shut : (l.session.shut && not (shut_in (find_line l.number old))) ≡ false

silent : (old ls : List Line) → AllByRecursion (Still old) ls → step_text (said old ls) ≡ []
silent old [] h = refl
silent old (l ∷ ls) h = let o = h.0.output in let s = h.0.shut in rw (o, s) (silent old ls h.1)

and_not : (b : Bool) → (b && not b) ≡ false
and_not true = refl
and_not false = refl

still : (old : List Line) (l : Line) → l.session.output ≡ [] → find_line l.number old ≡ Some l.session → Still old l
still old l quiet same = record { output = quiet; shut = ap (λ o. l.session.shut && not (shut_in o)) same ∙ and_not l.session.shut }

all-still : (old ls : List Line) → AllByRecursion (λ (l : Line). l.session.output ≡ []) ls → AllByRecursion (λ l. find_line l.number old ≡ Some l.session) ls → AllByRecursion (Still old) ls
all-still old [] q f = tt
all-still old (l ∷ ls) q f = (still old l q.0 f.0, all-still old ls q.1 f.1)

still-old : (b : BrokerState) → Rising 0 b.last b.lines → IsQuiet b → AllByRecursion (Still b.lines) b.lines
still-old b rising quiet = all-still b.lines b.lines quiet (found 0 b.last b.lines rising)

pub silent-opened : (b : BrokerState) (n : ℕ) → Rising 0 b.last b.lines → IsQuiet b → words b (opened b n) ≡ []
silent-opened b n rising quiet = silent b.lines (b.lines ++ record { number = n; session = new_session b.setup.request_bytes } ∷ []) (all-push (Still b.lines) b.lines (record { number = n; session = new_session b.setup.request_bytes }) (still-old b rising quiet) (record { output = refl; shut = refl }))

pub silent-closed : (b : BrokerState) (n : ℕ) → Rising 0 b.last b.lines → IsQuiet b → words b (closed b n) ≡ []
silent-closed b n rising quiet = silent b.lines (those (other_than n) b.lines) (all-those (Still b.lines) (other_than n) b.lines (still-old b rising quiet))

pub quiet-opened : (b : BrokerState) (n : ℕ) → IsQuiet b → IsQuiet (opened b n)
quiet-opened b n quiet = all-push (λ (l : Line). l.session.output ≡ []) b.lines (record { number = n; session = new_session b.setup.request_bytes }) quiet refl

pub quiet-closed : (b : BrokerState) (n : ℕ) → IsQuiet b → IsQuiet (closed b n)
quiet-closed b n quiet = all-those (λ (l : Line). l.session.output ≡ []) (other_than n) b.lines quiet

-- 2. Where no connection waits, at most one is told anything

-- of no number is there one that waits
pub none-waits : (k : ℕ) (ls : List Line) → AllByRecursion (λ (l : Line). waits_in (Some l.session) ≡ false) ls → waits_in (find_line k ls) ≡ false
none-waits k [] h = refl
none-waits k (l ∷ ls) h = by (eqb l.number k) (none-waits k ls h.1)
  where
    by : (b : Bool) → waits_in (find_line k ls) ≡ false → waits_in (cond b (Some l.session) (find_line k ls)) ≡ false
    by true rest = h.0
    by false rest = rest

quiet-found : (k : ℕ) (s : Session) (ls : List Line) → AllByRecursion (λ (l : Line). l.session.output ≡ []) ls → find_line k ls ≡ Some s → s.output ≡ []
quiet-found k s [] q e = cc
quiet-found k s (l ∷ ls) q e = by (eqb l.number k) (quiet-found k s ls q.1) e
  where
    by : (b : Bool) → (find_line k ls ≡ Some s → s.output ≡ []) → cond b (Some l.session) (find_line k ls) ≡ Some s → s.output ≡ []
    by true rest f = subst (λ (o : Option Session). output_in o ≡ []) f q.0
    by false rest f = rest f

-- no connection has changed
same-still : (old new : BrokerState) → Rising 0 new.last new.lines → IsQuiet old → ((k : ℕ) → find_line k new.lines ≡ find_line k old.lines) → AllByRecursion (Still old.lines) new.lines
same-still old new rising quiet same =
    all-map (λ l. find_line l.number new.lines ≡ Some l.session) (Still old.lines)
    (λ l f. let was : find_line l.number old.lines ≡ Some l.session = sym (same l.number) ∙ f in still old.lines l (quiet-found l.number l.session old.lines quiet was) was)
    new.lines (found 0 new.last new.lines rising)

pub silent-same : (old new : BrokerState) → Rising 0 new.last new.lines → IsQuiet old → ((k : ℕ) → find_line k new.lines ≡ find_line k old.lines) → words old new ≡ []
silent-same old new rising quiet same = silent old.lines new.lines (same-still old new rising quiet same)

pub quiet-same : (old new : BrokerState) → Rising 0 new.last new.lines → IsQuiet old → ((k : ℕ) → find_line k new.lines ≡ find_line k old.lines) → IsQuiet new
quiet-same old new rising quiet same = all-map (Still old.lines) (λ (l : Line). l.session.output ≡ []) (λ l s. s.output) new.lines (same-still old new rising quiet same)

-- no other connection has changed
others-still : (n : ℕ) (old new : BrokerState) → Rising 0 new.last new.lines → IsQuiet old → SameOthers n old new → AllByRecursion (λ l. l.number ≢ n → Still old.lines l) new.lines
others-still n old new rising quiet others =
    all-map (λ l. find_line l.number new.lines ≡ Some l.session) (λ l. l.number ≢ n → Still old.lines l)
    (λ l f ne. let was : find_line l.number old.lines ≡ Some l.session = sym (others l.number ne) ∙ f in still old.lines l (quiet-found l.number l.session old.lines quiet was) was)
    new.lines (found 0 new.last new.lines rising)

above-still : (n low last : ℕ) (old ls : List Line) → Rising low last ls → n ≤ low → AllByRecursion (λ l. l.number ≢ n → Still old l) ls → AllByRecursion (Still old) ls
above-still n low last old [] r le h = tt
above-still n low last old (l ∷ ls) r le h = let lt = r.0 in (h.0 (omega arith), above-still n l.number last old ls r.1 (omega arith) h.1)

one : (n low last : ℕ) (old ls : List Line) → Rising low last ls → AllByRecursion (λ l. l.number ≢ n → Still old l) ls
    → step_text (said old ls) ≡ sent_text n (output_in (find_line n ls)) (shut_in (find_line n ls) && not (shut_in (find_line n old)))
one n low last old [] r h = refl
one n low last old (l ∷ ls) r h = by (eqb l.number n) refl (one n l.number last old ls r.1 h.1)
  where
    by : (b : Bool) → eqb l.number n ≡ b → step_text (said old ls) ≡ sent_text n (output_in (find_line n ls)) (shut_in (find_line n ls) && not (shut_in (find_line n old))) → step_text (said old (l ∷ ls)) ≡ sent_text n (output_in (cond b (Some l.session) (find_line n ls))) (shut_in (cond b (Some l.session) (find_line n ls)) && not (shut_in (find_line n old)))
    by true e others =
        let is : l.number ≡ n = grind (arith, nat_tests) in
        let rest : step_text (said old ls) ≡ [] = silent old ls (above-still n l.number last old ls r.1 (omega arith) h.1) in
        rw (rest, is) (append-nil (sent_text n l.session.output (l.session.shut && not (shut_in (find_line n old)))))
    by false e others =
        let ne : l.number ≢ n = grind (arith, nat_tests) in
        let o = (h.0 ne).output in let s = (h.0 ne).shut in
        rw (o, s) others

pub said-one : (n : ℕ) (old new : BrokerState) → Rising 0 new.last new.lines → IsQuiet old → SameOthers n old new → words old new ≡ sent_text n (output_of n new) (is_shut n new && not (is_shut n old))
said-one n old new rising quiet others = one n 0 new.last old.lines new.lines rising (others-still n old new rising quiet others)

-- 3. Output that is taken

same_session : (s : Session) → s.output ≡ [] → s ≡ without_output s
same_session s e = ap (λ x. record s { output = x }) e

each-hushed : (n : ℕ) (ls : List Line) → AllByRecursion (λ (l : Line). l.number ≢ n → l.session.output ≡ []) ls → each_line (on n without_output) ls ≡ quieted_lines ls
each-hushed n [] h = refl
each-hushed n (l ∷ ls) h = by (eqb l.number n) refl (each-hushed n ls h.1)
  where
    by : (b : Bool) → eqb l.number n ≡ b → each_line (on n without_output) ls ≡ quieted_lines ls → record { number = l.number; session = cond b (without_output l.session) l.session } ∷ each_line (on n without_output) ls ≡ record { number = l.number; session = without_output l.session } ∷ quieted_lines ls
    by true e rest = ap (λ x. record { number = l.number; session = without_output l.session } ∷ x) rest
    by false e rest =
        let ne : l.number ≢ n = grind (arith, nat_tests) in
        ap (λ s. record { number = l.number; session = s } ∷ each_line (on n without_output) ls) (same_session l.session (h.0 ne)) ∙ ap (λ x. record { number = l.number; session = without_output l.session } ∷ x) rest

pub taken-hushed : (n : ℕ) (old new : BrokerState) → Rising 0 new.last new.lines → IsQuiet old → SameOthers n old new → output_taken new n ≡ hushed new
taken-hushed n old new rising quiet others =
    ap (λ ls. record new { lines = ls })
    (each-hushed n new.lines (all-map (λ l. l.number ≢ n → Still old.lines l) (λ (l : Line). l.number ≢ n → l.session.output ≡ []) (λ l f ne. (f ne).output) new.lines (others-still n old new rising quiet others)))

quiet-lines : (ls : List Line) → AllByRecursion (λ (l : Line). l.session.output ≡ []) (quieted_lines ls)
quiet-lines [] = tt
quiet-lines (l ∷ ls) = (refl, quiet-lines ls)

pub quiet-hushed : (b : BrokerState) → IsQuiet (hushed b)
quiet-hushed b = quiet-lines b.lines

hushed-lines : (ls : List Line) → AllByRecursion (λ (l : Line). l.session.output ≡ []) ls → ls ≡ quieted_lines ls
hushed-lines [] h = refl
hushed-lines (l ∷ ls) h = ap (λ s. record { number = l.number; session = s } ∷ ls) (same_session l.session h.0) ∙ ap (λ x. record { number = l.number; session = without_output l.session } ∷ x) (hushed-lines ls h.1)

pub hushed-quiet : (b : BrokerState) → IsQuiet b → b ≡ hushed b
hushed-quiet b quiet = ap (λ ls. record b { lines = ls }) (hushed-lines b.lines quiet)

-- 4. Which connections are open

open-lines : (k : ℕ) (ls : List Line) → open_in (find_line k (quieted_lines ls)) ≡ open_in (find_line k ls)
open-lines k [] = refl
open-lines k (l ∷ ls) = by (eqb l.number k) (open-lines k ls)
  where
    by : (b : Bool) → open_in (find_line k (quieted_lines ls)) ≡ open_in (find_line k ls) → open_in (cond b (Some (without_output l.session)) (find_line k (quieted_lines ls))) ≡ open_in (cond b (Some l.session) (find_line k ls))
    by true rest = refl
    by false rest = rest

pub at-hushed : (p : Place) (b : BrokerState) → IsPlaceIn p b → IsPlaceIn p (hushed b)
at-hushed p b a = record { open_now = λ k. a.open_now k ∙ sym (open-lines k b.lines); last = a.last }

open-push : (limit k n : ℕ) (ls : List Line) → (k == n || open_in (find_line k ls)) ≡ open_in (find_line k (ls ++ record { number = n; session = new_session limit } ∷ []))
open-push limit k n [] = by (eqb n k) refl (eqb k n) refl
  where
    by : (b : Bool) → eqb n k ≡ b → (d : Bool) → eqb k n ≡ d → (d || false) ≡ open_in (cond b (Some (new_session limit)) None)
    by true e true f = refl
    by false e false f = refl
    by true e false f = grind (arith, nat_tests)
    by false e true f = grind (arith, nat_tests)
open-push limit k n (l ∷ ls) = by (eqb l.number k) (open-push limit k n ls)
  where
    or_true : (b : Bool) → (b || true) ≡ true
    or_true true = refl
    or_true false = refl

    by : (b : Bool) → (k == n || open_in (find_line k ls)) ≡ open_in (find_line k (ls ++ record { number = n; session = new_session limit } ∷ [])) → (k == n || open_in (cond b (Some l.session) (find_line k ls))) ≡ open_in (cond b (Some l.session) (find_line k (ls ++ record { number = n; session = new_session limit } ∷ [])))
    by true rest = or_true (eqb k n)
    by false rest = rest

pub open-opened : (b : BrokerState) (n k : ℕ) → (k == n || is_open k b) ≡ is_open k (opened b n)
open-opened b n k = open-push b.setup.request_bytes k n b.lines

open-without : (k n : ℕ) (ls : List Line) → (not (k == n) && open_in (find_line k ls)) ≡ open_in (find_line k (those (other_than n) ls))
open-without k n [] = by (eqb k n)
  where
    by : (b : Bool) → (not b && false) ≡ false
    by true = refl
    by false = refl
open-without k n (l ∷ ls) = by (eqb l.number n) refl (eqb l.number k) refl (eqb k n) refl (open-without k n ls)
  where
    by : (a : Bool) → eqb l.number n ≡ a → (b : Bool) → eqb l.number k ≡ b → (d : Bool) → eqb k n ≡ d → (not (k == n) && open_in (find_line k ls)) ≡ open_in (find_line k (those (other_than n) ls))
        → (not d && open_in (cond b (Some l.session) (find_line k ls))) ≡ open_in (find_line k (cond (not a) (l ∷ those (other_than n) ls) (those (other_than n) ls)))
    by true e true f true g rest = rw g at rest
    by true e false f true g rest = rw g at rest
    by true e false f false g rest = rw g at rest
    by true e true f false g rest = absurd (grind (arith, nat_tests))
    by false e true f true g rest = absurd (grind (arith, nat_tests))
    by false e true f false g rest = rw f refl
    by false e false f true g rest = rw f (rw g at rest)
    by false e false f false g rest = rw f (rw g at rest)

pub open-closed : (b : BrokerState) (n k : ℕ) → (not (k == n) && is_open k b) ≡ is_open k (closed b n)
open-closed b n k = open-without k n b.lines

open-same : (k : ℕ) (old new : List Line) → map (λ (l : Line). l.number) new ≡ map (λ (l : Line). l.number) old → open_in (find_line k old) ≡ open_in (find_line k new)
open-same k [] [] e = refl
open-same k [] (m ∷ ms) e = cc
open-same k (l ∷ ls) [] e = cc
open-same k (l ∷ ls) (m ∷ ms) e =
    let first : m.number ≡ l.number = cc in
    let behind : map (λ (l : Line). l.number) ms ≡ map (λ (l : Line). l.number) ls = cc in
    rw first (by (eqb l.number k) (open-same k ls ms behind))
  where
    by : (b : Bool) → open_in (find_line k ls) ≡ open_in (find_line k ms) → open_in (cond b (Some l.session) (find_line k ls)) ≡ open_in (cond b (Some m.session) (find_line k ms))
    by true rest = refl
    by false rest = rest

-- where the numbers stay, the same connections are open
pub open-stays : (k : ℕ) (old new : BrokerState) → numbers new ≡ numbers old → is_open k old ≡ is_open k new
open-stays k old new e = open-same k old.lines new.lines e

-- 5. Taken output leaves a broker ready

ready-lines : (low last tenants : ℕ) (ls : List Line) → Rising low last ls → AllByRecursion (λ l. InRange tenants l.session.stage) ls → AllByRecursion (λ l. can l.session ≡ false) ls
    → Rising low last (quieted_lines ls) × AllByRecursion (λ l. InRange tenants l.session.stage) (quieted_lines ls) × AllByRecursion (λ l. can l.session ≡ false) (quieted_lines ls)
unfolding can
ready-lines low last tenants [] r i h = (r, tt, tt)
ready-lines low last tenants (l ∷ ls) r i h = let rest = ready-lines l.number last tenants ls r.1 i.1 h.1 in ((r.0, rest.0), (i.0, rest.1), (h.0, rest.2))

unready-hushed : (b : BrokerState) (ls : List Line) → AllByRecursion (λ l. IsUnready AnyWait b l.number l.session.stage) ls → AllByRecursion (λ l. IsUnready AnyWait b l.number l.session.stage) (quieted_lines ls)
unready-hushed b [] h = tt
unready-hushed b (l ∷ ls) h = (h.0, unready-hushed b ls h.1)

pub ready-hushed : (b : BrokerState) → IsReady b → IsReady (hushed b)
ready-hushed b r =
    let lines = ready-lines 0 b.last (length b.tenants) b.lines r.sound.rising r.sound.in_range (all-settled b.lines r.settled) in record {
      sound = record { rising = lines.0; in_range = lines.1; users = r.sound.users; clock = r.sound.clock };
      settled = none-able (quieted_lines b.lines) lines.2;
      unready = unready-hushed b b.lines r.unready;
    }
