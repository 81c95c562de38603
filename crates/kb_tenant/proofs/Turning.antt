-- One more entry that is served in its turn, and whose answer is written at once.
use Rattle.std.proofs.Common.{◌≡◌, ◌∙◌, sym, ap, refl, ℕ, zero, suc, ◌+◌, ◌<◌, ◌≤◌, List, [], ◌∷◌, ◌++◌, length, drop, get_or, drop-cons, add-one, append_assoc, arith}
use Rattle.std.specs.List.{flat_map}
use Rattle.std.proofs.lemmas.List.{append-nil}
use Rattle.kb_tenant.specs.Turns.{in_turn, written_behind}

pub drop_past : {E : Type 0} (es : List E) (i : ℕ) → length es ≤ i → drop i es ≡ []
drop_past [] zero h = refl
drop_past [] (suc i) h = refl
drop_past (e ∷ es) zero h = absurd (omega arith)
drop_past (e ∷ es) (suc i) h = drop_past es i (omega (arith, h))

-- the entry at a place is served, and its answer is written: what is to come is what was to come
pub turn_next : {S E A : Type 0} (write : A → List ℕ) (f : S → E → S × A) (out : List ℕ) (s s' : S) (x : A) (es : List E) (i : ℕ) (e : E) → i < length es → e ≡ get_or es i e → (s', x) ≡ f s e
    → written_behind write (out ++ write x) (in_turn f s' (drop (i + 1) es)) ≡ written_behind write out (in_turn f s (drop i es))
turn_next {S} {E} {A} write f out s s' x es i e lt is step =
    let rest = drop (suc i) es in
    let there : drop i es ≡ e ∷ rest = drop-cons es i e lt ∙ ap (λ x. x ∷ rest) (sym is) in
    let one : written_behind write (out ++ write x) (in_turn f s' rest) ≡ written_behind write out (in_turn f s (e ∷ rest)) =
    ap (λ l. ((in_turn f s' rest).0, l)) (append_assoc out (write x) (flat_map write (in_turn f s' rest).1))
    ∙ ap (λ (r : S × A). written_behind write out ((in_turn f r.0 rest).0, r.1 ∷ (in_turn f r.0 rest).1)) step in
    ap (λ n. written_behind write (out ++ write x) (in_turn f s' (drop n es))) (add-one i) ∙ one ∙ ap (λ l. written_behind write out (in_turn f s l)) (sym there)

-- behind the last entry nothing is to come
pub turn_over : {S E A : Type 0} (write : A → List ℕ) (f : S → E → S × A) (out : List ℕ) (s : S) (es : List E) (i : ℕ) → length es ≤ i → written_behind write out (in_turn f s (drop i es)) ≡ (s, out)
turn_over write f out s es i le = ap (λ l. written_behind write out (in_turn f s l)) (drop_past es i le) ∙ ap (λ l. (s, l)) (append-nil out)

-- as many answers as entries
pub turn_length : {S E A : Type 0} (f : S → E → S × A) (s : S) (es : List E) → length (in_turn f s es).1 ≡ length es
turn_length f s [] = refl
turn_length f s (e ∷ es) = ap suc (turn_length f (f s e).0 es)
