-- A whole run, cut down to a tenant, is the machine's run of that tenant's events.
use Rattle.std.proofs.Common.{◌≡◌, ℕ, List, [], ◌∷◌, ◌++◌, eqb, Bool, true, false, refl, sym, ◌∙◌, ap, arith, ◌<◌, ◌≤◌}
use Rattle.std.specs.Prelude.{map, cond, nat_lt, ⊤}
use Rattle.std.proofs.lemmas.Bool.Decides.{nat_tests}
use Rattle.kb_isolation_spec.specs.Machine.{Happening, Opens, Comes, Closes, Moment, Line, View, those, stepped, step, run, leaving, sent, Sent, those_sent, place, by_number}
use Rattle.kb_isolation_spec.specs.Owners.{concerns, purge}

pub those_sent-map : (mine : ℕ → Bool) (ls : List Line) → those_sent mine (map sent ls) ≡ map sent (those mine ls)
those_sent-map mine [] = refl
those_sent-map mine (l ∷ ls) = let rest = those_sent-map mine ls in grind (arith, rest)

pub those_sent-append : (mine : ℕ → Bool) (xs ys : List Sent) → those_sent mine (xs ++ ys) ≡ those_sent mine xs ++ those_sent mine ys
those_sent-append mine [] ys = refl
those_sent-append mine (x ∷ xs) ys = let rest = those_sent-append mine xs ys in grind (arith, rest)

those-swap : (p q : ℕ → Bool) (ls : List Line) → those p (those q ls) ≡ those q (those p ls)
those-swap p q [] = refl
those-swap p q (l ∷ ls) = let rest = those-swap p q ls in grind (arith, rest)

those-not : (mine : ℕ → Bool) (n : ℕ) (ls : List Line) → mine n ≡ false → those mine (those (λ k. eqb k n) ls) ≡ []
those-not mine n [] h = refl
those-not mine n (l ∷ ls) h = let rest = those-not mine n ls h in grind (arith, nat_tests, rest)

-- what the tenant is left by an event
pub leaving-those : (mine : ℕ → Bool) (e : Happening) (ls : List Line) → those_sent mine (leaving e ls) ≡ leaving e (those mine ls)
leaving-those mine (Opens n) ls = refl
leaving-those mine (Comes n piece) ls = refl
leaving-those mine (Closes n) ls = those_sent-map mine (those (λ k. eqb k n) ls) ∙ ap (map sent) (those-swap mine (λ k. eqb k n) ls)
leaving-those mine (Moment now) ls = refl

pub leaving-not : (mine : ℕ → Bool) (e : Happening) (ls : List Line) → concerns mine e ≡ false → those_sent mine (leaving e ls) ≡ []
leaving-not mine (Opens n) ls h = refl
leaving-not mine (Comes n piece) ls h = refl
leaving-not mine (Closes n) ls h = those_sent-map mine (those (λ k. eqb k n) ls) ∙ ap (map sent) (those-not mine n ls h)
leaving-not mine (Moment now) ls h = refl

run-step_by : (mine : ℕ → Bool) (e : Happening) (es : List Happening) (w : View) (ls : List Line) (b : Bool) → concerns mine e ≡ b → w.lines ≡ those mine ls → those_sent mine (leaving e ls) ++ run (purge mine es) (stepped b e w) ≡ run (purge mine (e ∷ es)) w
run-step_by mine e es w ls true h f =
    let left : those_sent mine (leaving e ls) ≡ leaving e w.lines = leaving-those mine e ls ∙ ap (leaving e) (sym f) in
    ap (λ x. x ++ run (purge mine es) (step e w)) left ∙ sym (ap (λ x. run x w) (ap (λ (c : Bool). cond c (e ∷ purge mine es) (purge mine es)) h))
run-step_by mine e es w ls false h f =
    ap (λ x. x ++ run (purge mine es) w) (leaving-not mine e ls h) ∙ sym (ap (λ x. run x w) (ap (λ (c : Bool). cond c (e ∷ purge mine es) (purge mine es)) h))

-- the first event of a run
pub run-step : (mine : ℕ → Bool) (e : Happening) (es : List Happening) (w next : View) (ls : List Line) → w.lines ≡ those mine ls → next ≡ stepped (concerns mine e) e w → those_sent mine (leaving e ls) ++ run (purge mine es) next ≡ run (purge mine (e ∷ es)) w
run-step mine e es w next ls f g = ap (λ x. those_sent mine (leaving e ls) ++ run (purge mine es) x) g ∙ run-step_by mine e es w ls (concerns mine e) refl f

-- 2. By rising number

abbrev pub AreFrom : ℕ → List Sent → Type 0
AreFrom low [] = ⊤
AreFrom low (x ∷ xs) = (low ≤ x.number) × AreFrom x.number xs

from-place : (low : ℕ) (s : Sent) (xs : List Sent) → low ≤ s.number → AreFrom low xs → AreFrom low (place s xs)
from-place low s [] h r = (h, tt)
from-place low s (x ∷ xs) h r = from-place_by low s x xs (nat_lt s.number x.number) refl h r (λ k. from-place x.number s xs k r.1)
  where
    from-place_by : (low : ℕ) (s x : Sent) (xs : List Sent) (b : Bool) → nat_lt s.number x.number ≡ b → low ≤ s.number → AreFrom low (x ∷ xs) → (x.number ≤ s.number → AreFrom x.number (place s xs)) → AreFrom low (cond b (s ∷ x ∷ xs) (x ∷ place s xs))
    from-place_by low s x xs true e h r rest = (h, (grind (arith, nat_tests), r.1))
    from-place_by low s x xs false e h r rest = (r.0, rest (grind (arith, nat_tests)))

from-by_number : (ss : List Sent) → AreFrom 0 (by_number ss)
from-by_number [] = tt
from-by_number (s ∷ ss) = from-place 0 s (by_number ss) (omega arith) (from-by_number ss)

-- what is below all stands first
first-place : (mine : ℕ → Bool) (s : Sent) (low : ℕ) (xs : List Sent) → s.number < low → AreFrom low xs → place s (those_sent mine xs) ≡ s ∷ those_sent mine xs
first-place mine s low [] h r = refl
first-place mine s low (x ∷ xs) h r =
    let rest = first-place mine s x.number xs (let le = r.0 in omega arith) r.1 in
    let lt : nat_lt s.number x.number ≡ true = (let le = r.0 in grind (arith, nat_tests)) in
    grind (arith, rest, lt)

those-place : (mine : ℕ → Bool) (s : Sent) (low : ℕ) (xs : List Sent) → AreFrom low xs → those_sent mine (place s xs) ≡ cond (mine s.number) (place s (those_sent mine xs)) (those_sent mine xs)
those-place mine s low [] r = refl
those-place mine s low (x ∷ xs) r =
    let rest = those-place mine s x.number xs r.1 in
    let first = λ (h : s.number < x.number). let k : place s (those_sent mine xs) ≡ s ∷ those_sent mine xs = first-place mine s x.number xs h r.1 in k in
    grind (arith, nat_tests, rest, first)

-- the order and the cut to a tenant may change places
pub those-by_number : (mine : ℕ → Bool) (ss : List Sent) → those_sent mine (by_number ss) ≡ by_number (those_sent mine ss)
those-by_number mine [] = refl
those-by_number mine (s ∷ ss) =
    let here = those-place mine s 0 (by_number ss) (from-by_number ss) in
    let rest = those-by_number mine ss in
    grind (arith, here, rest)
