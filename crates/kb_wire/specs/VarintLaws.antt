-- What numbers in groups keep.
use Rattle.std.proofs.Common.{◌≡◌, ℕ, zero, suc, ◌+◌, ◌*◌, ◌/◌, ◌%◌, ◌^◌, ◌<◌, ◌≤◌, Bool, true, false, cond, ltb, eqb, List, [], ◌∷◌, ◌++◌}
use Rattle.std.proofs.Common.{length, Result, Ok, Err, refl, sym, ap, ◌∙◌, arith, inl, inr, lit≤}
use Rattle.std.specs.Prelude.{ℤ, pos, negsuc, FitsSigned}
use Rattle.std.specs.Int.{Width, w32, w64}
use mir.Val.{bits, hbits}
use Rattle.std.proofs.lemmas.Bool.{lt-ltb, le-ltb, ltb-true, cases_lt, eqb-true, eqb-false, eq-eqb}
use Rattle.std.proofs.Math.Nat.{pow-suc}
use Rattle.kb_wire.specs.declared.fault.WireFault.{WireFault}
use Rattle.kb_wire.specs.declared.fault.WireFault.TheVariants.{Short, Bad}
use Rattle.kb_wire.specs.Codec.{◌>>=◌, refined}
use Rattle.kb_wire.specs.Laws.{IsLawful, bind_ok, ok_is, map_err, done, via_lawful, refined_lawful}
use Rattle.kb_wire.specs.Varint.{SpellsGroups, groups_at, written_groups, groups, zigzag, from_zigzag, to_zigzag, varint, varlong}

groups_found : (k : ℕ) (s : List ℕ) (n : ℕ) (rest : List ℕ) → groups_at k s ≡ Ok (n, rest) → (x : List ℕ) × (s ≡ x ++ rest)
    × SpellsGroups k x n
unfolding groups_at
groups_found zero s n rest e = absurd cc
groups_found (suc k) [] n rest e = absurd cc
groups_found (suc k) (b ∷ s) n rest e =
    elim (cases_lt b 128) [
      | inl lt ↦
          let test : ltb b 128 ≡ true = lt-ltb b 128 lt in
          let is = ok_is (b, s) (n, rest) (rw test at e) in
          (b ∷ [], ap (λ p. b ∷ p.1) is, inl (lt, refl, sym (ap (λ p. p.0) is)))
      | inr le ↦
          let test : ltb b 128 ≡ false = le-ltb b 128 le in
          let p = bind_ok (groups_at k s) (λ high. Ok (b % 128 + 128 * high.0, high.1)) (n, rest) (rw test at e) in
          let f = groups_found k s p.0.0 p.0.1 p.1 in
          let is = ok_is (b % 128 + 128 * p.0.0, p.0.1) (n, rest) p.2 in
          (b ∷ f.0, ap (λ t. b ∷ t) (f.1 ∙ ap (λ q. f.0 ++ q.1) is), inr (le, (p.0.0, sym (ap (λ q. q.0) is), f.2)))
    ]

groups_only : (k : ℕ) (x : List ℕ) (n : ℕ) (rest : List ℕ) → SpellsGroups k x n → groups_at k (x ++ rest) ≡ Ok (n, rest)
unfolding groups_at
groups_only zero x n rest h = absurd h
groups_only (suc k) [] n rest h = absurd h
groups_only (suc k) (b ∷ x) n rest (inl h) =
    let test : ltb b 128 ≡ true = lt-ltb b 128 h.0 in
    rw (test, h.1, h.2) refl
groups_only (suc k) (b ∷ x) n rest (inr h) =
    let test : ltb b 128 ≡ false = le-ltb b 128 h.0 in
    rw (test, groups_only k x h.1.0 rest h.1.2, h.1.1) refl

last_group : (n : ℕ) → n < 128 → SpellsGroups 1 (written_groups 1 n) n
unfolding written_groups
last_group n small =
    let test : ltb n 128 ≡ true = lt-ltb n 128 small in
    rw test (inl (small, refl, refl))

groups_again : (k n : ℕ) → n < 128 ^ suc k → SpellsGroups (suc k) (written_groups (suc k) n) n
unfolding written_groups
groups_again zero n lt = let top : 128 ^ 1 ≡ 128 = refl in last_group n (omega arith)
groups_again (suc k) n lt =
    elim (cases_lt n 128) [
      | inl small ↦
          let test : ltb n 128 ≡ true = lt-ltb n 128 small in
          rw test (inl (small, refl, refl))
      | inr le ↦
          let test : ltb n 128 ≡ false = le-ltb n 128 le in
          let power = pow-suc 128 (suc k) in
          let below : n / 128 < 128 ^ suc k = omega (arith, power) in
          rw test (inr (omega arith, (n / 128, omega arith, groups_again k (n / 128) below)))
    ]

-- no spelling is shorter than the one that is written
pub shortest : (k n : ℕ) (s : List ℕ) → SpellsGroups k s n → length (written_groups k n) ≤ length s
unfolding written_groups
shortest zero n s h = absurd h
shortest (suc k) n [] h = absurd h
shortest (suc k) n (b ∷ s) (inl h) =
    let test : ltb n 128 ≡ true = lt-ltb n 128 (omega arith) in
    rw test (omega arith)
shortest (suc k) n (b ∷ s) (inr h) =
    elim (cases_lt n 128) [
      | inl small ↦
          let test : ltb n 128 ≡ true = lt-ltb n 128 small in
          rw test (omega arith)
      | inr le ↦
          let test : ltb n 128 ≡ false = le-ltb n 128 le in
          let high : n / 128 ≡ h.1.0 = omega (arith, h.1.1) in
          let rest : length (written_groups k (n / 128)) ≤ length s = rw high (shortest k h.1.0 s h.1.2) in
          rw test (omega arith)
    ]

ok_not_err : (x : ℕ × List ℕ) (d : WireFault) → done x ≡ Err d → ⊥
ok_not_err x d e = cc

groups_go_on : (b : Bool) (x : ℕ × List ℕ) (r : Result (ℕ × List ℕ) WireFault) (f : ℕ × List ℕ → ℕ × List ℕ) → (r ≡ Err Short → ⊥)
    → cond b (done x) (r >>= λ high. Ok (f high)) ≡ Err Short → ⊥
groups_go_on true x r f n e = cc
groups_go_on false x r f n e = n (map_err r f Short e)

groups_bad : (k : ℕ) (s t : List ℕ) → groups_at k s ≡ Err Bad → groups_at k (s ++ t) ≡ Err Bad
unfolding groups_at
groups_bad zero s t e = refl
groups_bad (suc k) [] t e = absurd cc
groups_bad (suc k) (b ∷ s) t e =
    elim (cases_lt b 128) [
      | inl lt ↦
          let test : ltb b 128 ≡ true = lt-ltb b 128 lt in
          let same = rw test at e in
          absurd (ok_not_err (b, s) Bad same)
      | inr le ↦
          let test : ltb b 128 ≡ false = le-ltb b 128 le in
          let short = map_err (groups_at k s) (λ high. (b % 128 + 128 * high.0, high.1)) Bad (rw test at e) in
          rw (test, groups_bad k s t short) refl
    ]

groups_end : (k : ℕ) (s : List ℕ) → (t : List ℕ) × (groups_at k (s ++ t) ≡ Err Short → ⊥)
unfolding groups_at
groups_end zero s = ([], λ e. cc)
groups_end (suc k) [] = (0 ∷ [], λ e. cc)
groups_end (suc k) (b ∷ s) = let g = groups_end k s in
    (g.0, groups_go_on (ltb b 128) (b, s ++ g.0) (groups_at k (s ++ g.0)) (λ high. (b % 128 + 128 * high.0, high.1)) g.1)

pow_pos_128 : (k : ℕ) → 0 < 128 ^ k
pow_pos_128 zero = let one : 128 ^ 0 ≡ 1 = refl in omega arith
pow_pos_128 (suc k) = let power = pow-suc 128 k in let some : 0 < 128 ^ k = pow_pos_128 k in omega arith

groups_in_range : (k : ℕ) (s : List ℕ) (n : ℕ) → SpellsGroups k s n → n < 128 ^ k
groups_in_range zero s n h = absurd h
groups_in_range (suc k) [] n h = absurd h
groups_in_range (suc k) (b ∷ s) n (inl h) =
    let power = pow-suc 128 k in let some : 0 < 128 ^ k = pow_pos_128 k in omega (arith, power, h.0, h.2)
groups_in_range (suc k) (b ∷ s) n (inr h) =
    let power = pow-suc 128 k in let below : h.1.0 < 128 ^ k = groups_in_range k s h.1.0 h.1.2 in omega (arith, power, below, h.1.1)

groups_lawful : (k : ℕ) → IsLawful (groups (suc k))
unfolding groups
groups_lawful k = record {
  found = groups_found (suc k);
  only = groups_only (suc k);
  bad = groups_bad (suc k);
  ends = groups_end (suc k);
  again = λ n r f. groups_again k n r;
  fits = λ x n h. tt;
  in_range = groups_in_range (suc k);
}

there_back : (v : ℤ) → from_zigzag (to_zigzag v) ≡ v
unfolding from_zigzag to_zigzag
there_back (pos n) =
    let even : eqb (2 * n % 2) 0 ≡ true = eq-eqb _ _ (omega arith) in
    let half : 2 * n / 2 ≡ n = omega arith in
    rw (even, half) refl
there_back (negsuc n) =
    let one : (2 * n + 1) % 2 ≡ 1 = omega arith in
    let odd : eqb ((2 * n + 1) % 2) 0 ≡ false = ap (λ r. eqb r 0) one in
    let half : (2 * n + 1) / 2 ≡ n = omega arith in
    rw (odd, half) refl

by_parity : (n : ℕ) (even : Bool) → eqb (n % 2) 0 ≡ even → to_zigzag (cond even (pos (n / 2)) (negsuc (n / 2))) ≡ n
unfolding to_zigzag
by_parity n true e = let none : n % 2 ≡ 0 = eqb-true (n % 2) 0 e in omega arith
by_parity n false e = let one : n % 2 ≡ 0 → ⊥ = eqb-false (n % 2) 0 e in omega arith

back_there : (n : ℕ) → to_zigzag (from_zigzag n) ≡ n
unfolding from_zigzag
back_there n = by_parity n (eqb (n % 2) 0) refl

within : (k : ℕ) (w : Width) → 2 ^ hbits w + 2 ^ hbits w ≤ 2 ^ bits w → 2 ^ bits w ≤ 128 ^ k → (v : ℤ) → FitsSigned w v
    → (to_zigzag v < 128 ^ k) × (ltb (to_zigzag v) (2 ^ bits w) ≡ true)
unfolding to_zigzag
within k w half room (pos n) f = let small : n < 2 ^ hbits w = f.sfits in (omega arith, lt-ltb _ _ (omega arith))
within k w half room (negsuc n) f = let small : n < 2 ^ hbits w = f.sfits in (omega arith, lt-ltb _ _ (omega arith))

number_within : (w : Width) → 2 ^ bits w ≤ 2 ^ hbits w + 2 ^ hbits w → (v : ℤ) → to_zigzag v < 2 ^ bits w → FitsSigned w v
unfolding to_zigzag
number_within w half (pos n) lt = record { sfits = omega arith }
number_within w half (negsuc n) lt = record { sfits = omega arith }

zigzag_lawful : (k : ℕ) (w : Width) → 2 ^ bits w ≡ 2 ^ hbits w + 2 ^ hbits w → 2 ^ bits w ≤ 128 ^ suc k → IsLawful (zigzag (suc k) w)
unfolding zigzag refined groups
zigzag_lawful k w half room =
    let l = via_lawful from_zigzag to_zigzag
    (refined_lawful (λ n. ltb n (2 ^ bits w)) (groups (suc k)) (groups_lawful k)) there_back back_there in
    record {
      found = l.found;
      only = l.only;
      bad = l.bad;
      ends = l.ends;
      again = λ v r f. l.again v (within (suc k) w (omega arith) room v r) f;
      fits = l.fits;
      in_range = λ x v h. number_within w (omega arith) v (ltb-true _ _ h.1);
    }

pub varint_lawful : IsLawful varint
varint_lawful = zigzag_lawful 4 w32 refl (lit≤ tt)

pub varlong_lawful : IsLawful varlong
varlong_lawful = zigzag_lawful 9 w64 refl (lit≤ tt)
