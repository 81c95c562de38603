-- What one event leads to.
use Rattle.std.proofs.Common.{◌≡◌, ℕ, ◌≤◌, List, [], ◌∷◌, eqb, Bool, true, false, Option, Some, None, refl, sym, ◌∙◌, ap, arith}
use Rattle.std.specs.Prelude.{map, Result, Ok, Err, OnOk, OnErr}
use Rattle.std.specs.Result.{is_err}
use Rattle.std.proofs.lemmas.Bool.Decides.{nat_tests}
use Rattle.kb_isolation_spec.specs.Session.{Session}
use Rattle.kb_isolation_spec.specs.Machine.{Line, Sent, Closes, sent, those, leaving}
use Rattle.kb_isolation_spec.specs.Machine.{find_line}
use Rattle.kb_isolation_spec.specs.Broker.{BrokerState, IsSound, Rising}
use Rattle.kb_isolation_spec.specs.Calls.{is_open, is_shut, output_of, open_in, shut_in, output_in, why_in, why_of}
use Rattle.kb_broker.specs.Hosts.{OnStore}

-- 1. What a closing connection got

abbrev got_in : ℕ → Option Session → List Sent
got_in n None = []
got_in n (Some s) = record { number = n; bytes = s.output; shut = s.shut; why = s.why } ∷ []

above-none : (low last n : ℕ) (ls : List Line) → Rising low last ls → n ≤ low → those (λ k. eqb k n) ls ≡ []
above-none low last n [] r h = refl
above-none low last n (l ∷ ls) r h = let lt = r.0 in let rest = above-none l.number last n ls r.1 (omega arith) in grind (arith, nat_tests, rest)

closes-found : (low last n : ℕ) (ls : List Line) → Rising low last ls → map sent (those (λ k. eqb k n) ls) ≡ got_in n (find_line n ls)
closes-found low last n [] r = refl
closes-found low last n (l ∷ ls) r = by (eqb l.number n) refl (closes-found l.number last n ls r.1)
  where
    by : (b : Bool) → eqb l.number n ≡ b → map sent (those (λ k. eqb k n) ls) ≡ got_in n (find_line n ls) → map sent (those (λ k. eqb k n) (l ∷ ls)) ≡ got_in n (find_line n (l ∷ ls))
    by true e rest =
        let same : l.number ≡ n = grind (arith, nat_tests) in
        let none = above-none l.number last n ls r.1 (omega arith) in
        rw (e, none, ← same) refl
    by false e rest = rw e rest

pub same_sent : (v w : Sent) → v.number ≡ w.number → v.bytes ≡ w.bytes → v.shut ≡ w.shut → v.why ≡ w.why → v ≡ w
same_sent v w e f g h =
    let a : Sent = record { number = w.number; bytes = v.bytes; shut = v.shut; why = v.why } in
    let b : Sent = record { number = w.number; bytes = w.bytes; shut = v.shut; why = v.why } in
    let p : v ≡ a = ap (λ n. let x : Sent = record { number = n; bytes = v.bytes; shut = v.shut; why = v.why } in x) e in
    let q : a ≡ b = ap (λ n. let x : Sent = record { number = w.number; bytes = n; shut = v.shut; why = v.why } in x) f in
    let c : Sent = record { number = w.number; bytes = w.bytes; shut = w.shut; why = v.why } in
    let r : b ≡ c = ap (λ n. let x : Sent = record { number = w.number; bytes = w.bytes; shut = n; why = v.why } in x) g in
    p ∙ (q ∙ (r ∙ ap (λ n. let x : Sent = record { number = w.number; bytes = w.bytes; shut = w.shut; why = n } in x) h))

pub closes-open : (n : ℕ) (b : BrokerState) (w : Sent) → IsSound b → is_open n b ≡ true → w.number ≡ n → w.bytes ≡ output_of n b → w.shut ≡ is_shut n b → w.why ≡ why_of n b → w ∷ [] ≡ leaving (Closes n) b.lines
closes-open n b w r o e f g h = by (find_line n b.lines) o f g h ∙ sym (closes-found 0 b.last n b.lines r.rising)
  where
    by : (x : Option Session) → open_in x ≡ true → w.bytes ≡ output_in x → w.shut ≡ shut_in x → w.why ≡ why_in x → w ∷ [] ≡ got_in n x
    by None o f g h = absurd (cc)
    by (Some s) o f g h = ap (λ x. x ∷ []) (same_sent w (record { number = n; bytes = s.output; shut = s.shut; why = s.why }) e f g h)

pub closes-closed : (n : ℕ) (b : BrokerState) → IsSound b → is_open n b ≡ false → leaving (Closes n) b.lines ≡ []
closes-closed n b r o = closes-found 0 b.last n b.lines r.rising ∙ by (find_line n b.lines) o
  where
    by : (x : Option Session) → open_in x ≡ false → got_in n x ≡ []
    by None o = refl
    by (Some s) o = absurd (cc)

-- 2. A connection that was not kept

pub when_err : {A E : Type 0} (r : Result A E) (P : Type 0) → is_err r ≡ true → OnErr r P → P
when_err (Ok a) P e h = absurd (cc)
when_err (Err x) P e h = h

-- ... and one that was
pub when_ok : {A E : Type 0} (r : Result A E) (P : Type 0) → is_err r ≡ false → OnOk r P → P
when_ok (Ok a) P e h = h
when_ok (Err x) P e h = absurd (cc)

-- 3. A broker on its store whose state alone changes

pub then-state : {S : Type 0} (first old new : OnStore S) (b d e : BrokerState) → old ≡ record first { state = b } → new ≡ record old { state = e } → e ≡ d → new ≡ record first { state = d }
then-state {S = S} first old new b d e is next same = next ∙ (ap (λ (x : OnStore S). let y : OnStore S = record x { state = e } in y) is ∙ ap (λ (s : BrokerState). let y : OnStore S = record first { state = s } in y) same)
