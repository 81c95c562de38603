-- What taking a connection's output and closing it do to the open connections.
use Rattle.std.proofs.Common.{◌≡◌, ℕ, List, [], ◌∷◌, Bool, Some, true, false, cond, not, ◌&&◌, eqb, refl, sym, ap, ◌∙◌, arith}
use Rattle.std.proofs.lemmas.Simd.{map-map}
use Rattle.std.proofs.lemmas.Bool.Decides.{nat_tests}
use Rattle.kb_isolation_spec.specs.Machine.{Line, each_line, find_line, on}
use Rattle.kb_isolation_spec.specs.Broker.{BrokerState}
use Rattle.kb_isolation_spec.specs.Calls.{closed, output_taken, is_open, output_in, output_of, without_output}
use Rattle.kb_broker.specs.Places.{numbers}
use Rattle.kb_broker.proofs.ScriptWords.{open-closed}

pub numbers_taken : (b : BrokerState) (n : ℕ) → numbers (output_taken b n) ≡ numbers b
numbers_taken b n = map-map (λ (l : Line). l.number) (λ (l : Line). record { number = l.number; session = on n without_output l.number l.session }) b.lines

no_output : (n : ℕ) (ls : List Line) → output_in (find_line n (each_line (on n without_output) ls)) ≡ []
no_output n [] = refl
no_output n (l ∷ ls) = by (eqb l.number n) (no_output n ls)
  where
    by : (b : Bool) → output_in (find_line n (each_line (on n without_output) ls)) ≡ []
        → output_in (cond b (Some (cond b (without_output l.session) l.session)) (find_line n (each_line (on n without_output) ls))) ≡ []
    by true h = refl
    by false h = h

-- once it is taken nothing is left of it
pub none_left : (b : BrokerState) (n : ℕ) → output_of n (output_taken b n) ≡ []
none_left b n = no_output n b.lines

itself : (n : ℕ) → eqb n n ≡ true
itself n = grind (arith, nat_tests)

pub is_closed : (b : BrokerState) (n : ℕ) → is_open n (closed b n) ≡ false
is_closed b n = sym (open-closed b n n) ∙ ap (λ e. not e && is_open n b) (itself n)
