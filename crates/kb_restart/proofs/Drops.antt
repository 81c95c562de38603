-- Files side by side, by rising numbers.
use Rattle.std.proofs.Common.{◌≡◌, ◌∙◌, ◌≤◌, ◌<◌, ◌+◌, ◌==◌, ◌∷◌, [], ◌++◌, ℕ, Bool, true, false, cond, List, map, drop, get_or, length, Option, Some, None, T, refl, sym, ap, subst, arith, nat_le, append_assoc}
use Rattle.std.specs.Prelude.{◌&&◌}
use Rattle.std.specs.Ordering.{nat_cmp, is_lt}
use Rattle.std.specs.FinMap.{entries, entries_sorted}
use Rattle.std.specs.FinMap.Entries.{is_sorted, below_all}
use Rattle.std.specs.List.{AllByRecursion, cons_option}
use Rattle.std.proofs.lemmas.Bool.Decides.{nat_tests}
use Rattle.std.proofs.lemmas.List.{append-nil, drop_all, drop_more}
use Rattle.kb_store.specs.Disk.{Disk, len_of}
use Rattle.kb_restart.specs.declared.lengths.Dropped.{Dropped}
use Rattle.kb_restart.specs.declared.lengths.FileLength.{FileLength}
use Rattle.kb_restart.specs.Lengths.{AreRising, drop_of, drops, from_file, length_at, length_in, lengths_of}

-- ---- one file among some

-- none of the files behind is one that is not above
none_in : (n m : ℕ) (fs : List FileLength) → n ≤ m → AllByRecursion (λ (g : FileLength). m < g.file) fs → length_in n fs ≡ None
none_in n m [] le above = refl
none_in n m (f ∷ fs) le above =
    let other : (f.file == n) ≡ false = let up = above.0 in grind (arith, nat_tests, le, up) in
    ap (λ t. cond t (Some f.length) (length_in n fs)) other ∙ none_in n m fs le above.1

first_there : (n : ℕ) (f : FileLength) (fs : List FileLength) → n ≤ f.file → AllByRecursion (λ (g : FileLength). f.file < g.file) fs → length_in n (f ∷ fs) ≡ length_at n (f ∷ fs)
first_there n f fs le above = ap (λ o. cond (f.file == n) (Some f.length) o) (none_in n f.file fs le above)

below_first : (n : ℕ) (f : FileLength) (fs : List FileLength) → f.file < n → length_in n (f ∷ fs) ≡ length_in n fs
below_first n f fs low =
    let other : (f.file == n) ≡ false = grind (arith, nat_tests, low) in
    ap (λ t. cond t (Some f.length) (length_in n fs)) other

-- what begins at a number or above
module _ (n : ℕ) where
  found_by : (f : FileLength) (fs : List FileLength) (t : Bool) → nat_le n f.file ≡ t → AllByRecursion (λ (g : FileLength). f.file < g.file) fs → length_in n fs ≡ length_at n (from_file n fs)
      → length_in n (f ∷ fs) ≡ length_at n (cond t (f ∷ fs) (from_file n fs))
  found_by f fs true e above more = first_there n f fs (let l : n ≤ f.file = grind (arith, nat_tests, e) in l) above
  found_by f fs false e above more = below_first n f fs (let l : f.file < n = grind (arith, nat_tests, e) in l) ∙ more

  -- it is found where it is the first of those
  pub found_first : (fs : List FileLength) → AreRising fs → length_in n fs ≡ length_at n (from_file n fs)
  found_first [] rise = refl
  found_first (f ∷ fs) rise = found_by f fs (nat_le n f.file) refl rise.0 (found_first fs rise.1)

  rising_by : (f : FileLength) (fs : List FileLength) (t : Bool) → AreRising (f ∷ fs) → AreRising (from_file n fs) → AreRising (cond t (f ∷ fs) (from_file n fs))
  rising_by f fs true rise more = rise
  rising_by f fs false rise more = more

  pub still_rising : (fs : List FileLength) → AreRising fs → AreRising (from_file n fs)
  still_rising [] rise = tt
  still_rising (f ∷ fs) rise = rising_by f fs (nat_le n f.file) rise (still_rising fs rise.1)

  kept_by : (m : ℕ) (f : FileLength) (fs : List FileLength) (t : Bool) → nat_le n f.file ≡ t → n ≤ m → length_in m (from_file n fs) ≡ length_in m fs → length_in m (cond t (f ∷ fs) (from_file n fs)) ≡ length_in m (f ∷ fs)
  kept_by m f fs true e le more = refl
  kept_by m f fs false e le more = more ∙ sym (below_first m f fs (let l : f.file < m = grind (arith, nat_tests, e, le) in l))

  -- those that are left out are lower ones
  pub still_found : (m : ℕ) (fs : List FileLength) → n ≤ m → length_in m (from_file n fs) ≡ length_in m fs
  still_found m [] le = refl
  still_found m (f ∷ fs) le = kept_by m f fs (nat_le n f.file) refl le (still_found m fs le)

  pub still_drops : (bs fs : List FileLength) → AllByRecursion (λ (b : FileLength). n < b.file) bs → drops bs (from_file n fs) ≡ drops bs fs
  still_drops [] fs above = refl
  still_drops (b ∷ bs) fs above =
      ap (λ o. cons_option (drop_of b o) (drops bs (from_file n fs))) (still_found b.file fs (let l = above.0 in omega (arith, l)))
      ∙ ap (cons_option (drop_of b (length_in b.file fs))) (still_drops bs fs above.1)

-- ---- one file after another

-- the first of some files, and those behind it, where some were left out
pub one_more : (b : FileLength) (bs fs : List FileLength) → AreRising (b ∷ bs) → AreRising fs
    → cons_option (drop_of b (length_at b.file (from_file b.file fs))) (drops bs (from_file b.file fs)) ≡ drops (b ∷ bs) fs
one_more b bs fs rise after =
    ap (λ o. cons_option (drop_of b o) (drops bs (from_file b.file fs))) (sym (found_first b.file fs after))
    ∙ ap (cons_option (drop_of b (length_in b.file fs))) (still_drops b.file bs fs rise.0)

module _ (before rest rest' : List FileLength) (i : ℕ) (d : FileLength) (lt : i < length before) (rise : AreRising (drop i before)) (after : AreRising rest) (skipped : rest' ≡ from_file (get_or before i d).file rest) where
  abbrev pub here : FileLength
  here = get_or before i d

  split : drop i before ≡ here ∷ drop (i + 1) before
  split = drop_more before i d lt

  rising : AreRising (here ∷ drop (i + 1) before)
  rising = subst AreRising split rise

  pub next_before : AreRising (drop (i + 1) before)
  next_before = rising.1

  pub next_after : AreRising rest'
  next_after = subst AreRising (sym skipped) (still_rising here.file rest after)

  pub next_told : (found new all : List Dropped) (o : Option Dropped) → o ≡ drop_of here (length_at here.file rest') → new ≡ found ++ cons_option o [] → found ++ drops (drop i before) rest ≡ all
      → new ++ drops (drop (i + 1) before) rest' ≡ all
  next_told found new all o is more told =
      let behind = drops (drop (i + 1) before) rest' in
      ap (λ ds. ds ++ behind) more ∙ append_assoc found (cons_option o []) behind ∙ ap (λ ds. found ++ ds) (told_first o behind)
      ∙ ap (λ (x : Option Dropped). found ++ cons_option x behind) is
      ∙ ap (λ (r : List FileLength). found ++ cons_option (drop_of here (length_at here.file r)) (drops (drop (i + 1) before) r)) skipped
      ∙ ap (λ ds. found ++ ds) (one_more here (drop (i + 1) before) rest rising after)
      ∙ ap (λ (bs : List FileLength). found ++ drops bs rest) (sym split) ∙ told
    where
      told_first : (o : Option Dropped) (ds : List Dropped) → cons_option o [] ++ ds ≡ cons_option o ds
      told_first None ds = refl
      told_first (Some d) ds = refl

-- ---- the files of a store

first : (a b : Bool) → T (a && b) → T a
first true b h = tt
first false b h = absurd h

second : (a b : Bool) → T (a && b) → T b
second true b h = h
second false b h = absurd h

is_below : (x y : ℕ) → T (is_lt (nat_cmp x y)) → x < y
is_below x y h = grind (arith, nat_tests, h)

module _ {X : Type 0} (len : ℕ → ℕ) where
  all_above : (x : ℕ) (es : List (ℕ × X)) → T (below_all nat_cmp x es) → AllByRecursion (λ (g : FileLength). x < g.file) (map (λ file. record { file = file; length = len file }) (map (λ e. e.0) es))
  all_above x [] h = tt
  all_above x (e ∷ es) h = (is_below x e.0 (first (is_lt (nat_cmp x e.0)) (below_all nat_cmp x es) h), all_above x es (second (is_lt (nat_cmp x e.0)) (below_all nat_cmp x es) h))

  rise_by : (es : List (ℕ × X)) → T (is_sorted nat_cmp es) → AreRising (map (λ file. record { file = file; length = len file }) (map (λ e. e.0) es))
  rise_by [] h = tt
  rise_by (e ∷ es) h = (all_above e.0 es (first (below_all nat_cmp e.0 es) (is_sorted nat_cmp es) h), rise_by es (second (below_all nat_cmp e.0 es) (is_sorted nat_cmp es) h))

-- none is left behind the last one
pub all_told : (found all : List FileLength) (len : ℕ → ℕ) (files : List ℕ) (i : ℕ) → length files ≤ i → found ++ map (λ file. record { file = file; length = len file }) (drop i files) ≡ all → found ≡ all
all_told found all len files i past told =
    sym (append-nil found) ∙ ap (λ (xs : List ℕ). found ++ map (λ file. record { file = file; length = len file }) xs) (sym (drop_all i files past)) ∙ told

pub lengths_rise : (d : Disk) → AreRising (lengths_of d)
lengths_rise d = rise_by (λ file. len_of d file) (entries d.table) (entries_sorted d.table)
