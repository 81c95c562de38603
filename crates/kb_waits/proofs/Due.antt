-- A walk over the deadlines in their order.
use Rattle.std.proofs.Common.{◌≡◌, ℕ, ◌<◌, ◌≤◌, true, false, cond, leb, List, [], ◌∷◌, ◌++◌, refl, sym, ap, ◌∙◌, arith, append_assoc}
use Rattle.std.specs.Prelude.{map, filter}
use Rattle.std.specs.List.{AllByRecursion}
use Rattle.std.specs.List.Sorted.{IsStrictlySortedBy}
use Rattle.std.specs.declared.cmp.Ordering.{Ordering}
use Rattle.std.specs.declared.cmp.Ordering.TheVariants.{Less, Equal, Greater}
use Rattle.std.specs.Ordering.{nat_cmp, ordering_then, MatchOrdering}
use Rattle.std.specs.Cmp.{ranked}
use Rattle.std.proofs.lemmas.Bool.Decides.{nat_tests}
use Rattle.std.proofs.lemmas.List.{append-nil}
use Rattle.std.proofs.lemmas.Map.Keys.{sorted_head}
use Rattle.kb_waits.specs.Due.{by_deadline, due_of}

no_later : (r s : Ordering) (a b : ℕ) → MatchOrdering r (a < b) (a ≡ b) (b < a) → ordering_then r s ≡ Less → a ≤ b
no_later Less s a b m h = omega arith
no_later Equal s a b m h = omega arith
no_later Greater s a b m h = cc

late : (clock : ℕ) (p : ℕ × ℕ) (ps : List (ℕ × ℕ)) → clock < p.0 → AllByRecursion (λ y. by_deadline p y ≡ Less) ps → due_of clock ps ≡ []
late clock p [] l h = refl
late clock p (y ∷ ys) l h =
    let after : p.0 ≤ y.0 = no_later (nat_cmp p.0 y.0) _ p.0 y.0 (ranked p.0 y.0 _ refl) h.0 in
    let not_yet : leb y.0 clock ≡ false = grind (arith, nat_tests) in
    ap (λ b. map (λ (x : ℕ × ℕ). x.1) (cond b (y ∷ filter (λ (x : ℕ × ℕ). leb x.0 clock) ys) (filter (λ (x : ℕ × ℕ). leb x.0 clock) ys))) not_yet ∙ late clock p ys l h.1

none_due : (clock : ℕ) (p : ℕ × ℕ) (ps : List (ℕ × ℕ)) → IsStrictlySortedBy by_deadline (p ∷ ps) → clock < p.0 → due_of clock (p ∷ ps) ≡ []
none_due clock p ps s l =
    let not_yet : leb p.0 clock ≡ false = grind (arith, nat_tests) in
    ap (λ b. map (λ (x : ℕ × ℕ). x.1) (cond b (p ∷ filter (λ (x : ℕ × ℕ). leb x.0 clock) ps) (filter (λ (x : ℕ × ℕ). leb x.0 clock) ps))) not_yet ∙ late clock p ps l (sorted_head by_deadline p ps s)

-- a walk may end at the first deadline after the clock
pub due-stop : (clock : ℕ) (p : ℕ × ℕ) (ps it : List (ℕ × ℕ)) (out all : List ℕ) → it ≡ p ∷ ps → IsStrictlySortedBy by_deadline it → clock < p.0 → out ++ due_of clock it ≡ all → out ≡ all
due-stop clock p ps it out all is s l so =
    let none : due_of clock it ≡ [] = ap (due_of clock) is ∙ none_due clock p ps (rw (← is) s) l in
    sym (append-nil out) ∙ ap (λ xs. out ++ xs) (sym none) ∙ so

-- a step of the walk
pub due-more : (clock : ℕ) (p : ℕ × ℕ) (ps it : List (ℕ × ℕ)) (out all : List ℕ) → it ≡ p ∷ ps → p.0 ≤ clock → out ++ due_of clock it ≡ all → (out ++ p.1 ∷ []) ++ due_of clock ps ≡ all
due-more clock p ps it out all is l so =
    let come : leb p.0 clock ≡ true = grind (arith, nat_tests) in
    let front : due_of clock it ≡ p.1 ∷ due_of clock ps =
    ap (due_of clock) is ∙ ap (λ b. map (λ (x : ℕ × ℕ). x.1) (cond b (p ∷ filter (λ (x : ℕ × ℕ). leb x.0 clock) ps) (filter (λ (x : ℕ × ℕ). leb x.0 clock) ps))) come in
    append_assoc out (p.1 ∷ []) (due_of clock ps) ∙ ap (λ xs. out ++ xs) (sym front) ∙ so
