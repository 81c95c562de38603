-- The first NUL of a message.
use Rattle.std.proofs.Common.{◌≡◌, ℕ, suc, ◌+◌, ◌-◌, Bool, true, false, cond, ltb, eqb, List, [], ◌∷◌, ◌++◌, length, take, drop, Option, Some, None, refl, sym, ap, subst, ◌∙◌, arith, add-one}
use Rattle.std.specs.Prelude.{option_map, not, ◌≢◌}
use Rattle.std.specs.List.{position, position_or_len, AllByRecursion}
use Rattle.std.proofs.lemmas.Bool.{eqb-true, eqb-false}
use Rattle.std.proofs.lemmas.Bool.Decides.{nat_tests}
use Rattle.std.proofs.lemmas.List.{take_all, length-drop}
use Rattle.std.proofs.lemmas.List.Elements.{All-from_recursion, recursion_from_All}
use Rattle.kb_api_group.specs.Plain.{at_nul, HasNoNul}

-- ---- by its place

abbrev Parts : Type 0
Parts = Option (List ℕ × List ℕ)

abbrev pair : List ℕ → List ℕ → Parts
pair a r = Some (a, r)

abbrev nowhere : Parts
nowhere = None

-- a byte before the parts
abbrev onto : ℕ → Parts → Parts
onto b o = option_map (λ p. (b ∷ p.0, p.1)) o

abbrev cut_if : Bool → ℕ → List ℕ → Parts
cut_if t i s = cond t (pair (take i s) (drop (i + 1) s)) None

ltb-suc : (a b : ℕ) → ltb (suc a) (suc b) ≡ ltb a b
ltb-suc a b = grind (arith, nat_tests)

ltb-zero-suc : (b : ℕ) → ltb 0 (suc b) ≡ true
ltb-zero-suc b = grind (arith, nat_tests)

further : (t : Bool) (b : ℕ) (s : List ℕ) (i : ℕ) → onto b (cut_if t i s) ≡ cut_if t (suc i) (b ∷ s)
further true b s i = rw (add-one i, add-one (suc i)) refl
further false b s i = refl

-- the byte in front is a NUL or not
at_nul_by : (t : Bool) (b n : ℕ) (s : List ℕ) → at_nul s ≡ cut_if (ltb n (length s)) n s → cond t (pair [] s) (onto b (at_nul s)) ≡ cut_if (ltb (cond (not t) (1 + n) 0) (suc (length s))) (cond (not t) (1 + n) 0) (b ∷ s)
at_nul_by true b n s e = rw (ltb-zero-suc (length s)) refl
at_nul_by false b n s e =
    let one : 1 + n ≡ suc n = omega arith in
    rw (one, e, ltb-suc n (length s)) (further (ltb n (length s)) b s n)

at_nul-cut : (s : List ℕ) → at_nul s ≡ cut_if (ltb (position_or_len (λ b. eqb b 0) s) (length s)) (position_or_len (λ b. eqb b 0) s) s
at_nul-cut [] = refl
at_nul-cut (b ∷ s) = at_nul_by (eqb b 0) b (position_or_len (λ b. eqb b 0) s) s (at_nul-cut s)

cut_at : (t : Bool) (n i : ℕ) (s : List ℕ) → Some i ≡ cond t (Some n) None → cut_if t n s ≡ pair (take i s) (take (length s - (i + 1)) (drop (i + 1) s))
cut_at true n i s e =
    let same : n ≡ i = cc in
    let all = take_all (length s - (i + 1)) (drop (i + 1) s) (omega (arith, length-drop (i + 1) s)) in
    rw (same, all) refl
cut_at false n i s e = absurd cc

uncut : (t : Bool) (n : ℕ) (s : List ℕ) → None ≡ cond t (Some n) None → cut_if t n s ≡ nowhere
uncut true n s e = absurd cc
uncut false n s e = refl

pub at_nul-found : (s : List ℕ) (i : ℕ) → Some i ≡ position (λ b. eqb b 0) s → at_nul s ≡ pair (take i s) (take (length s - (i + 1)) (drop (i + 1) s))
at_nul-found s i e = at_nul-cut s ∙ cut_at (ltb (position_or_len (λ b. eqb b 0) s) (length s)) (position_or_len (λ b. eqb b 0) s) i s e

pub at_nul-none : (s : List ℕ) → None ≡ position (λ b. eqb b 0) s → at_nul s ≡ nowhere
at_nul-none s e = at_nul-cut s ∙ uncut (ltb (position_or_len (λ b. eqb b 0) s) (length s)) (position_or_len (λ b. eqb b 0) s) s e

-- ---- by the bytes on either side

abbrev NoNul : List ℕ → Type 0
NoNul bytes = AllByRecursion (λ b. b ≢ 0) bytes

-- around the first NUL
record IsCut (s a r : List ℕ) : Type 0 where
  is : s ≡ a ++ 0 ∷ r
  none : NoNul a

some_is : (a b : List ℕ × List ℕ) → Some a ≡ Some b → a ≡ b
some_is a b e = cc

mapped : (b : ℕ) (o : Parts) (a r : List ℕ) → onto b o ≡ pair a r → (x : List ℕ) × (o ≡ pair x r) × (a ≡ b ∷ x)
mapped b None a r e = absurd cc
mapped b (Some p) a r e = let is = some_is (b ∷ p.0, p.1) (a, r) e in (p.0, ap (λ q. pair p.0 q.1) is, sym (ap (λ q. q.0) is))

cut_by : (t : Bool) (b : ℕ) (s a r : List ℕ) → eqb b 0 ≡ t → ((x : List ℕ) → at_nul s ≡ pair x r → IsCut s x r) → cond t (pair [] s) (onto b (at_nul s)) ≡ pair a r → IsCut (b ∷ s) a r
cut_by true b s a r t h e =
    let zero : b ≡ 0 = eqb-true b 0 t in
    let is = some_is ([], s) (a, r) e in
    let rest : s ≡ r = ap (λ q. q.1) is in
    subst (λ (x : List ℕ). IsCut (b ∷ s) x r) (ap (λ q. q.0) is) (record { is = rw (zero, rest) refl; none = tt })
cut_by false b s a r t h e =
    let m = mapped b (at_nul s) a r e in
    let c = h m.0 m.1 in
    subst (λ (x : List ℕ). IsCut (b ∷ s) x r) (sym m.2) (record { is = ap (λ x. b ∷ x) c.is; none = (eqb-false b 0 t, c.none) })

cut : (s a r : List ℕ) → at_nul s ≡ pair a r → IsCut s a r
cut [] a r e = absurd cc
cut (b ∷ s) a r e = cut_by (eqb b 0) b s a r refl (λ x. cut s x r) e

pub at_nul-around : (s a r : List ℕ) → at_nul s ≡ pair a r → (s ≡ a ++ 0 ∷ r) × HasNoNul a
at_nul-around s a r e = let c = cut s a r e in (c.is, All-from_recursion (λ b. b ≢ 0) a c.none)

unmapped : (b : ℕ) (o : Parts) → onto b o ≡ nowhere → o ≡ nowhere
unmapped b None e = refl
unmapped b (Some p) e = absurd cc

free_by : (t : Bool) (b : ℕ) (s : List ℕ) → eqb b 0 ≡ t → (at_nul s ≡ nowhere → NoNul s) → cond t (pair [] s) (onto b (at_nul s)) ≡ nowhere → NoNul (b ∷ s)
free_by true b s t h e = absurd cc
free_by false b s t h e = (eqb-false b 0 t, h (unmapped b (at_nul s) e))

free : (s : List ℕ) → at_nul s ≡ nowhere → NoNul s
free [] e = tt
free (b ∷ s) e = free_by (eqb b 0) b s refl (free s) e

pub at_nul-free : (s : List ℕ) → at_nul s ≡ nowhere → HasNoNul s
at_nul-free s e = All-from_recursion (λ b. b ≢ 0) s (free s e)

not_nul : (b : ℕ) → b ≢ 0 → eqb b 0 ≡ false
not_nul b h = grind (arith, nat_tests)

at : (a r : List ℕ) → NoNul a → at_nul (a ++ 0 ∷ r) ≡ pair a r
at [] r h = refl
at (b ∷ a) r h = rw (not_nul b h.0, at a r h.1) refl

pub at_nul-at : (a r : List ℕ) → HasNoNul a → at_nul (a ++ 0 ∷ r) ≡ pair a r
at_nul-at a r h = at a r (recursion_from_All (λ b. b ≢ 0) a h)

nowhere_in : (s : List ℕ) → NoNul s → at_nul s ≡ nowhere
nowhere_in [] h = refl
nowhere_in (b ∷ s) h = rw (not_nul b h.0, nowhere_in s h.1) refl

pub at_nul-nowhere : (s : List ℕ) → HasNoNul s → at_nul s ≡ nowhere
at_nul-nowhere s h = nowhere_in s (recursion_from_All (λ b. b ≢ 0) s h)
