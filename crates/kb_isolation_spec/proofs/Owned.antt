-- The owners of a run.
use Rattle.std.proofs.Common.{◌≡◌, ◌<◌, ◌≤◌, ◌∷◌, [], ℕ, List, length, eqb, Bool, true, false, Option, Some, None, refl, sym, ◌∙◌, ap, subst, arith, lit<}
use Rattle.std.specs.Prelude.{cond}
use Rattle.std.specs.List.{AllByRecursion}
use Rattle.std.proofs.lemmas.Bool.Decides.{nat_tests}
use Rattle.kb_isolation_spec.specs.Session.{Stage, Greets, BoundTo, Session, new_session, fed}
use Rattle.kb_isolation_spec.specs.Greeting.{Setup}
use Rattle.kb_isolation_spec.specs.Machine.{Happening, Opens, Comes, Closes, Moment, Line, find_line}
use Rattle.kb_isolation_spec.specs.Owners.{destiny, greeted_so_far, unborn, fate_from, owner, owned, is_owner, whose, Fits}
use Rattle.kb_isolation_spec.specs.Broker.{BrokerState, IsSound, Rising, IsEventRun, last_after, Mine, owned_by, InRange, only, IsUnowned, IsCalmFor, Grows}
use Rattle.kb_tenant_state.specs.Counts.{IsCalm}
use Rattle.kb_isolation_spec.proofs.Ranges.{AreUsers, IsBelow, range-heard, range-fed}
use Rattle.kb_isolation_spec.proofs.Sets.{all-map, rising-last}
use Rattle.kb_isolation_spec.proofs.Parts.{count-past, length-names}

-- 1. Each connection is found under its number

found-behind : (low last : ℕ) (k : Line) (all ls : List Line) → Rising low last ls → k.number ≤ low → AllByRecursion (λ l. find_line l.number all ≡ Some l.session) ls → AllByRecursion (λ l. find_line l.number (k ∷ all) ≡ Some l.session) ls
found-behind low last k all [] r h f = tt
found-behind low last k all (l ∷ ls) r h f =
    let lt = r.0 in
    let ne : eqb k.number l.number ≡ false = grind (arith, nat_tests) in
    let here = f.0 in
    (grind (arith, ne, here), found-behind l.number last k all ls r.1 (omega arith) f.1)

pub found : (low last : ℕ) (ls : List Line) → Rising low last ls → AllByRecursion (λ l. find_line l.number ls ≡ Some l.session) ls
found low last [] r = tt
found low last (l ∷ ls) r =
    let same : eqb l.number l.number ≡ true = grind (arith, nat_tests) in
    (grind (arith, same), found-behind l.number last l ls ls r.1 (omega arith) (found l.number last ls r.1))

pub not-found : (low last n : ℕ) (ls : List Line) → Rising low last ls → last < n → find_line n ls ≡ None
not-found low last n [] r h = refl
not-found low last n (l ∷ ls) r h =
    let rest = not-found l.number last n ls r.1 h in
    let le = rising-last l.number last ls r.1 in
    let ne : eqb l.number n ≡ false = grind (arith, nat_tests) in
    grind (arith, ne, rest)

pub owned-mine : (t : ℕ) (es : List Happening) (b : BrokerState) → Rising 0 b.last b.lines → Mine t (owned_by t es b) es b
unfolding owned
owned-mine t es b r = record {
  now = all-map (λ l. find_line l.number b.lines ≡ Some l.session) (λ l. Fits t (owned_by t es b l.number) (destiny b.setup l.number (greeted_so_far b.setup l.session) es))
      (λ l f. subst (Fits t (owned_by t es b l.number)) (ap (λ o. fate_from b.setup l.number o es) f) (own t (owner b.setup b.lines es l.number))) b.lines (found 0 b.last b.lines r);
  later = λ n h. subst (Fits t (owned_by t es b n)) (ap (λ o. fate_from b.setup n o es) (not-found 0 b.last n b.lines r h)) (own t (owner b.setup b.lines es n));
}
  where
    own : (t : ℕ) (o : Option ℕ) → Fits t (is_owner t o) o
    own t None = tt
    own t (Some u) = refl

pub run-lower : (low last : ℕ) (es : List Happening) → low ≤ last → IsEventRun last es → IsEventRun low es
run-lower low last [] h r = tt
run-lower low last (Opens n ∷ es) h r = (let lt = r.0 in omega arith, r.1)
run-lower low last (Comes n piece ∷ es) h r = run-lower low last es h r
run-lower low last (Closes n ∷ es) h r = run-lower low last es h r
run-lower low last (Moment now ∷ es) h r = (r.0, run-lower low last es h r.1)

pub run-after : (low last : ℕ) (e : Happening) (es : List Happening) → low ≤ last_after e last → IsEventRun last (e ∷ es) → IsEventRun low es
run-after low last (Opens n) es h r = run-lower low n es h r.1
run-after low last (Comes n piece) es h r = run-lower low last es h r
run-after low last (Closes n) es h r = run-lower low last es h r
run-after low last (Moment now) es h r = run-lower low last es h r.1

pub run-first : (last : ℕ) (e : Happening) (es : List Happening) → IsEventRun last (e ∷ es) → IsEventRun last (e ∷ [])
run-first last (Opens n) es r = (r.0, tt)
run-first last (Comes n piece) es r = tt
run-first last (Closes n) es r = tt
run-first last (Moment now) es r = (r.0, tt)

-- 2. A connection without owner is alone in a world of nobody

below-whose : (n : ℕ) (st : Stage) → InRange n st → IsBelow n (whose st)
below-whose n (Greets h) r = tt
below-whose n (BoundTo u w) r = r

below-if : (n : ℕ) (x y : Option ℕ) (b : Bool) → IsBelow n x → IsBelow n y → IsBelow n (cond b x y)
below-if n x y true p q = p
below-if n x y false p q = q

below-destiny : (k : ℕ) (setup : Setup) (n : ℕ) (s : Session) (es : List Happening) → AreUsers k setup.users → InRange k s.stage → IsBelow k (destiny setup n s es)
below-destiny k setup n s [] us r = below-whose k s.stage r
below-destiny k setup n s (Opens m ∷ es) us r = below-destiny k setup n s es us r
below-destiny k setup n s (Moment m ∷ es) us r = below-destiny k setup n s es us r
below-destiny k setup n s (Closes m ∷ es) us r = below-if k (whose s.stage) (destiny setup n s es) (eqb m n) (below-whose k s.stage r) (below-destiny k setup n s es us r)
below-destiny k setup n s (Comes m piece ∷ es) us r =
    let f = fed piece s in
    below-if k (destiny setup n (greeted_so_far setup f) es) (destiny setup n s es) (eqb m n) (below-destiny k setup n (greeted_so_far setup f) es us (range-heard k setup f us (range-fed k piece s r))) (below-destiny k setup n s es us r)

below-unborn : (k : ℕ) (setup : Setup) (n : ℕ) (es : List Happening) → AreUsers k setup.users → IsBelow k (unborn setup n es)
below-unborn k setup n [] us = tt
below-unborn k setup n (Opens m ∷ es) us = below-if k (destiny setup n (new_session setup.request_bytes) es) (unborn setup n es) (eqb m n) (below-destiny k setup n (new_session setup.request_bytes) es us tt) (below-unborn k setup n es us)
below-unborn k setup n (Moment m ∷ es) us = below-unborn k setup n es us
below-unborn k setup n (Closes m ∷ es) us = below-unborn k setup n es us
below-unborn k setup n (Comes m piece ∷ es) us = below-unborn k setup n es us

-- nobody's connections: the one
nobody : (users n k : ℕ) (o p : Option ℕ) → IsBelow users o → p ≡ None → (k ≡ n → o ≡ p) → Fits users (only n k) o
nobody users n k None p b e f = tt
nobody users n k (Some u) p b e f = nobody_by users n k u p b e f (eqb k n) refl
  where
    nobody_by : (users n k u : ℕ) (p : Option ℕ) → u < users → p ≡ None → (k ≡ n → Some u ≡ p) → (y : Bool) → eqb k n ≡ y → only n k ≡ eqb u users
    nobody_by users n k u p b e f true h = (let g : k ≡ n = grind (arith, nat_tests) in let c : Some u ≡ None = f g ∙ e in cc)
    nobody_by users n k u p b e f false h = grind (arith, nat_tests)

-- the fate of each open connection is found, and in range
fates : (users : ℕ) (setup : Setup) (n : ℕ) (es : List Happening) (all ls : List Line) → AreUsers users setup.users → fate_from setup n (find_line n all) es ≡ None → AllByRecursion (λ l. find_line l.number all ≡ Some l.session) ls → AllByRecursion (λ l. InRange users l.session.stage) ls →
    AllByRecursion (λ l. Fits users (only n l.number) (destiny setup l.number (greeted_so_far setup l.session) es)) ls
fates users setup n es all [] us h f r = tt
fates users setup n es all (l ∷ ls) us h f r = (
  nobody users n l.number (destiny setup l.number (greeted_so_far setup l.session) es) (fate_from setup n (find_line n all) es) (below-destiny users setup l.number (greeted_so_far setup l.session) es us (range-heard users setup l.session us r.0)) h
      (λ e. sym (ap (λ o. fate_from setup l.number o es) f.0) ∙ ap (λ k. fate_from setup k (find_line k all) es) e),
  fates users setup n es all ls us h f.1 r.1,
)

pub unowned-mine : (n : ℕ) (es : List Happening) (b : BrokerState) → IsSound b → IsUnowned n es b → Mine (length b.tenants) (only n) es b
unowned-mine n es b s h =
    let users = length b.tenants in
    record {
      now = fates users b.setup n es b.lines b.lines s.users h (found 0 b.last b.lines s.rising) s.in_range;
      later = λ k lt. nobody users n k (unborn b.setup k es) (owner b.setup b.lines es n) (below-unborn users b.setup k es s.users) h
          (λ e. sym (ap (λ o. fate_from b.setup k o es) (not-found 0 b.last k b.lines s.rising lt)) ∙ ap (λ m. fate_from b.setup m (find_line m b.lines) es) e);
    }

-- to nobody nothing is refused
pub calm-nobody : (a b : BrokerState) → Grows a b → IsCalm a.unbound_refusals b.unbound_refusals → IsCalmFor (length a.tenants) a b
calm-nobody a b g q =
    let e = length-names a b g in
    let x = count-past a.tenants (length a.tenants) (omega arith) in
    let y = count-past b.tenants (length a.tenants) (omega (arith, e)) in
    record { own = record { same = y ∙ sym x; below = rw x (lit< tt) }; unbound = q }
