-- Output that is taken.
use Rattle.std.proofs.Common.{◌≡◌, ℕ, List, [], ◌∷◌, length, eqb, Bool, true, false, None, refl, ◌∙◌}
use Rattle.std.specs.Prelude.{cond}
use Rattle.std.specs.List.{AllByRecursion}
use Rattle.kb_isolation_spec.specs.Session.{Session, can}
use Rattle.kb_isolation_spec.specs.Machine.{Line, each_line, on, first_able}
use Rattle.kb_isolation_spec.specs.Broker.{BrokerState, IsSound, IsUnready, AreUnready, AnyWait, InRange, Rising}
use Rattle.kb_isolation_spec.specs.Calls.{output_taken, without_output}
use Rattle.kb_isolation_spec.proofs.Sets.{all-still, none-able}

can-taken : (s : Session) → can (without_output s) ≡ can s
unfolding can
can-taken s = refl

first-taken : (n : ℕ) (ls : List Line) → AllByRecursion (λ l. can l.session ≡ false) ls → AllByRecursion (λ l. can l.session ≡ false) (each_line (on n without_output) ls)
first-taken n [] h = tt
first-taken n (l ∷ ls) h = (by (eqb l.number n), first-taken n ls h.1)
  where
    by : (b : Bool) → can (cond b (without_output l.session) l.session) ≡ false
    by true = can-taken l.session ∙ h.0
    by false = h.0

rising-taken : (n low last : ℕ) (ls : List Line) → Rising low last ls → Rising low last (each_line (on n without_output) ls)
rising-taken n low last [] r = r
rising-taken n low last (l ∷ ls) r = (r.0, rising-taken n l.number last ls r.1)

range-taken : (n tenants : ℕ) (ls : List Line) → AllByRecursion (λ l. InRange tenants l.session.stage) ls → AllByRecursion (λ l. InRange tenants l.session.stage) (each_line (on n without_output) ls)
range-taken n tenants [] h = tt
range-taken n tenants (l ∷ ls) h = (by (eqb l.number n), range-taken n tenants ls h.1)
  where
    by : (b : Bool) → InRange tenants (cond b (without_output l.session) l.session).stage
    by true = h.0
    by false = h.0

each-unready : (n : ℕ) (b : BrokerState) (ls : List Line) → AllByRecursion (λ l. IsUnready AnyWait b l.number l.session.stage) ls → AllByRecursion (λ l. IsUnready AnyWait b l.number l.session.stage) (each_line (on n without_output) ls)
each-unready n b [] h = tt
each-unready n b (l ∷ ls) h = (by (eqb l.number n), each-unready n b ls h.1)
  where
    by : (c : Bool) → IsUnready AnyWait b l.number (cond c (without_output l.session) l.session).stage
    by true = h.0
    by false = h.0

pub sound-taken : (b : BrokerState) (n : ℕ) → IsSound b → IsSound (output_taken b n)
sound-taken b n s = record { rising = rising-taken n 0 b.last b.lines s.rising; in_range = range-taken n (length b.tenants) b.lines s.in_range; users = s.users; clock = s.clock }

pub settled-taken : (b : BrokerState) (n : ℕ) → first_able b.lines ≡ None → first_able (output_taken b n).lines ≡ None
settled-taken b n settled = none-able (each_line (on n without_output) b.lines) (first-taken n b.lines (all-still b.lines settled))

pub unready-taken : (b : BrokerState) (n : ℕ) → AreUnready AnyWait b → AreUnready AnyWait (output_taken b n)
unready-taken b n unready = each-unready n b b.lines unready
