-- The batches of a log, as a broker and as the other side of a consumer find them.
use Rattle.std.proofs.Common.{◌≡◌, ◌≤◌, ◌<◌, ◌+◌, ◌-◌, ◌^◌, ◌++◌, ◌&&◌, ◌∙◌, ℕ, suc, Bool, true, false, cond, List, [], ◌∷◌, length, take, refl, sym, ap, subst, arith, append-nil, length-append}
use Rattle.std.specs.Prelude.{ℤ, pos, ◌≤ℤ◌, ◌<ℤ◌, ◌+ℤ◌, int_lt, nat_le, nat_lt, if◌then◌else◌}
use Rattle.std.proofs.lemmas.Int.{ints}
use Rattle.std.proofs.lemmas.Bool.Decides.{nat_tests}
use Rattle.kb_batch.specs.Batch.{count_of, natural}
use Rattle.kb_batch.specs.BatchLaws.{batch_small}
use Rattle.kb_batch.specs.Header.{base_offset_of}
use Rattle.kb_log.specs.Log.{next_of, first_base, holds, starting, IsRun, StartsIn}
use Rattle.kb_log.specs.Log as log
use Rattle.kb_client.specs.Lines.{end_offset_of}
use Rattle.kb_client_spec.specs.Partition.{IsLog, end_of_log, batches_from, batch_bytes, batches_given}
use Rattle.kb_client_spec.specs.Fetching.{fitting, records_given}
use Rattle.kb_tenant_state.specs.Logs.{LogState}
use Rattle.kb_client_served.specs.Served.{IsWhole}

-- ---- one batch

end_is : (b : List ℕ) (at : ℕ) → base_offset_of b ≡ pos at → end_offset_of b ≡ pos (at + count_of b)
end_is b at e = ap (λ (z : ℤ). z +ℤ pos (count_of b)) e

next_is : (b : List ℕ) (at : ℕ) → base_offset_of b ≡ pos at → next_of b ≡ at + count_of b
next_is b at e = ap (λ (z : ℤ). natural z + count_of b) e

low_test : (at n : ℕ) → at ≤ n → nat_le at n ≡ true
low_test at n le = grind (arith, nat_tests, le)

held_is : (n at : ℕ) (b : List ℕ) → base_offset_of b ≡ pos at → at ≤ n → holds n b ≡ nat_lt n (at + count_of b)
held_is n at b e le =
    ap (λ (z : ℤ). nat_le (natural z) n && nat_lt n (natural z + count_of b)) e ∙ ap (λ t. t && nat_lt n (at + count_of b)) (low_test at n le)

ahead_is : (n at : ℕ) (b : List ℕ) → base_offset_of b ≡ pos at → int_lt (pos n) (end_offset_of b) ≡ nat_lt n (at + count_of b)
ahead_is n at b e = ap (λ (z : ℤ). int_lt (pos n) z) (end_is b at e)

behind : (n m : ℕ) → nat_lt n m ≡ false → m ≤ n
behind n m e = grind (arith, nat_tests, e)

not_ahead : (n m : ℕ) → m ≤ n → nat_lt n m ≡ false
not_ahead n m le = grind (arith, nat_tests, le)

-- ---- the batches from an offset on

choose : (t u v : Bool) (b : List ℕ) (bs xs ys : List (List ℕ)) → u ≡ t → v ≡ t → (t ≡ false → xs ≡ ys) → cond u (b ∷ bs) xs ≡ cond v (b ∷ bs) ys
choose true u v b bs xs ys p q rest = ap (λ c. cond c (b ∷ bs) xs) p ∙ sym (ap (λ c. cond c (b ∷ bs) ys) q)
choose false u v b bs xs ys p q rest = ap (λ c. cond c (b ∷ bs) xs) p ∙ rest refl ∙ sym (ap (λ c. cond c (b ∷ bs) ys) q)

pub same_held : (n at end : ℕ) (bs : List (List ℕ)) → at ≤ n → IsRun at bs end → batches_from (pos n) bs ≡ log.from_holding n bs
unfolding batches_from
same_held n at end [] le run = refl
same_held n at end (b ∷ bs) le run =
    choose (nat_lt n (at + count_of b)) (int_lt (pos n) (end_offset_of b)) (holds n b) b bs (batches_from (pos n) bs) (log.from_holding n bs)
    (ahead_is n at b run.1) (held_is n at b run.1 le)
    (λ later. same_held n (at + count_of b) end bs (behind n (at + count_of b) later) run.2)

passed_over : (n at : ℕ) (b : List ℕ) (bs : List (List ℕ)) → base_offset_of b ≡ pos at → at + count_of b ≤ n → batches_from (pos n) (b ∷ bs) ≡ batches_from (pos n) bs
unfolding batches_from
passed_over n at b bs e le = ap (λ t. cond t (b ∷ bs) (batches_from (pos n) bs)) (ahead_is n at b e ∙ not_ahead n (at + count_of b) le)

over : (start m : ℕ) → nat_le m start ≡ true → m ≤ start
over start m e = grind (arith, nat_tests, e)

-- without the batches that end at the start or below
pub trimmed : (at : ℕ) (bs : List (List ℕ)) (end start n : ℕ) → IsRun at bs end → start ≤ n → batches_from (pos n) (starting start bs) ≡ batches_from (pos n) bs
trimmed at [] end start n run le = refl
trimmed at (b ∷ bs) end start n run le = by (nat_le (next_of b) start) refl (trimmed (at + count_of b) bs end start n run.2 le)
  where
    by : (t : Bool) → nat_le (next_of b) start ≡ t → batches_from (pos n) (starting start bs) ≡ batches_from (pos n) bs → batches_from (pos n) (cond t (starting start bs) (b ∷ bs)) ≡ batches_from (pos n) (b ∷ bs)
    by true e rest =
        let low : next_of b ≤ start = over start (next_of b) e in
        let is : next_of b ≡ at + count_of b = next_is b at run.1 in
        rest ∙ sym (passed_over n at b bs run.1 (omega (arith, low, is, le)))
    by false e rest = refl

-- ---- a log of the other side

run_end : (at end : ℕ) (bs : List (List ℕ)) → IsRun at bs end → at ≤ end
run_end at end [] run = omega (arith, run)
run_end at end (b ∷ bs) run = let later = run_end (at + count_of b) end bs run.2 in omega (arith, later)

base_above : (b : List ℕ) (at : ℕ) → base_offset_of b ≡ pos at → pos at ≤ℤ base_offset_of b
base_above b at e = subst (λ (z : ℤ). pos at ≤ℤ z) (sym e) (omega (arith, ints))

end_below : (m end : ℕ) → m ≤ end → end < 2 ^ 63 → pos m <ℤ pos (2 ^ 63)
end_below m end le small = omega (arith, ints, le, small)

pub run_is_log : (at end : ℕ) (bs : List (List ℕ)) → end < 2 ^ 63 → IsRun at bs end → IsLog (pos at) bs
run_is_log at end [] small run = tt
run_is_log at end (b ∷ bs) small run =
    let is : end_offset_of b ≡ pos (at + count_of b) = end_is b at run.1 in (
      run.0,
      base_above b at run.1,
      subst (λ (z : ℤ). z <ℤ pos (2 ^ 63)) (sym is) (end_below (at + count_of b) end (run_end (at + count_of b) end bs run.2) small),
      subst (λ (z : ℤ). IsLog z bs) (sym is) (run_is_log (at + count_of b) end bs small run.2),
    )

pub run_ends : (at end : ℕ) (bs : List (List ℕ)) → IsRun at bs end → end_of_log (pos at) bs ≡ pos end
run_ends at end [] run = ap pos run
run_ends at end (b ∷ bs) run = ap (λ (z : ℤ). end_of_log z bs) (end_is b at run.1) ∙ run_ends (at + count_of b) end bs run.2

-- ---- what fits

record Fits (limit : ℕ) (bs : List (List ℕ)) : Type 0 where
  m : ℕ
  is : log.fitting limit false bs ≡ batch_bytes (take m bs)
  within : length (batch_bytes (take m bs)) ≤ limit

fits : (limit : ℕ) (bs : List (List ℕ)) → Fits limit bs
fits limit [] = record { m = 0; is = refl; within = omega arith }
fits limit (b ∷ bs) = by (nat_le (length b) limit) refl (fits (limit - length b) bs)
  where
    by : (t : Bool) → nat_le (length b) limit ≡ t → Fits (limit - length b) bs → Fits limit (b ∷ bs)
    by true e f = record {
      m = suc f.m;
      is = ap (λ t. if t then b ++ log.fitting (limit - length b) false bs else []) e ∙ ap (λ x. b ++ x) f.is;
      within = let le : length b ≤ limit = over limit (length b) e in omega (arith, le, f.within, length-append b (batch_bytes (take f.m bs)));
    }
    by false e f = record { m = 0; is = ap (λ t. if t then b ++ log.fitting (limit - length b) false bs else []) e; within = omega arith }

-- the first batch, whatever it is, and then what fits
record FitsFirst (limit : ℕ) (bs : List (List ℕ)) : Type 0 where
  n : ℕ
  is : log.fitting limit true bs ≡ batch_bytes (take (suc n) bs)
  within : length (batch_bytes (take (suc n) bs)) ≤ 1048588

abbrev IsFirstSmall : List (List ℕ) → Type 0
IsFirstSmall [] = Unit {0}
IsFirstSmall (b ∷ bs) = length b ≤ 1048588

fits_first : (limit : ℕ) (bs : List (List ℕ)) → limit ≤ 1048576 → IsFirstSmall bs → FitsFirst limit bs
fits_first limit [] low small = record { n = 0; is = refl; within = omega arith }
fits_first limit (b ∷ bs) low small = by (nat_le (length b) limit) refl (fits (limit - length b) bs)
  where
    by : (t : Bool) → nat_le (length b) limit ≡ t → Fits (limit - length b) bs → FitsFirst limit (b ∷ bs)
    by true e f = record {
      n = f.m;
      is = ap (λ t. if t then b ++ log.fitting (limit - length b) false bs else b) e ∙ ap (λ x. b ++ x) f.is;
      within = let le : length b ≤ limit = over limit (length b) e in omega (arith, le, low, f.within, length-append b (batch_bytes (take f.m bs)));
    }
    by false e f = record {
      n = 0;
      is = ap (λ t. if t then b ++ log.fitting (limit - length b) false bs else b) e ∙ sym (append-nil b);
      within = omega (arith, small, ap length (append-nil b));
    }

first_small : (n at end : ℕ) (bs : List (List ℕ)) → IsRun at bs end → IsFirstSmall (log.from_holding n bs)
first_small n at end [] run = tt
first_small n at end (b ∷ bs) run = by (holds n b) (first_small n (at + count_of b) end bs run.2)
  where
    by : (t : Bool) → IsFirstSmall (log.from_holding n bs) → IsFirstSmall (cond t (b ∷ bs) (log.from_holding n bs))
    by true rest = batch_small b run.0
    by false rest = rest

starts_low : (start end : ℕ) (bs : List (List ℕ)) → StartsIn start end bs → first_base end bs ≤ start
starts_low start end [] s = omega (arith, s)
starts_low start end (b ∷ bs) s = s.0

all_fit : (n : ℕ) (offset : ℤ) (bs : List (List ℕ)) → length (batch_bytes (batches_given n offset bs)) ≤ 1048588 → fitting n offset bs ≡ n
all_fit n offset bs le = ap (λ t. cond t 0 n) (not_ahead 1048588 (length (batch_bytes (batches_given n offset bs))) le)

-- what a broker gives of a log is what the other side gives, with some number of batches
pub given : (n limit : ℕ) (l : LogState) → IsWhole l → l.start ≤ n → limit ≤ 1048576 → (m : ℕ) × (log.fetched n limit true l.batches ≡ records_given m (pos n) l.batches)
given n limit l whole le low =
    let at : ℕ = first_base l.end l.batches in
    let from : at ≤ n = let below : at ≤ l.start = starts_low l.start l.end l.batches whole.starts in omega (arith, below, le) in
    let same : log.from_holding n l.batches ≡ batches_from (pos n) l.batches = sym (same_held n at l.end l.batches from whole.run) in
    let f = fits_first limit (log.from_holding n l.batches) low (first_small n at l.end l.batches whole.run) in
    let small : length (batch_bytes (batches_given f.n (pos n) l.batches)) ≤ 1048588 = subst (λ (bs : List (List ℕ)). length (batch_bytes (take (suc f.n) bs)) ≤ 1048588) same f.within in (
      f.n,
      f.is ∙ ap (λ (bs : List (List ℕ)). batch_bytes (take (suc f.n) bs)) same
          ∙ sym (ap (λ k. batch_bytes (batches_given k (pos n) l.batches)) (all_fit f.n (pos n) l.batches small)),
    )
