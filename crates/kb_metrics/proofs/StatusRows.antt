-- A row of the status page is of one tenant and of its rates.
use Rattle.std.proofs.Common.{◌≡◌, ◌∙◌, ◌+◌, ℕ, zero, suc, List, [], ◌∷◌, ◌++◌, arith, refl, sym, ap, append_assoc, append-nil, length, slice_get, Option, Some}
use Rattle.std.specs.List.{flat_map, range_with_len}
use Rattle.kb_metrics.specs.Rates.{History}
use Rattle.kb_metrics.specs.Rows.{Tenant}
use Rattle.kb_metrics.specs.Status as spec

module _ {T H : Type 0} (row : Option T → Option H → List ℕ) where
  abbrev pub row_at : List T → List H → ℕ → List ℕ
  row_at ts hs place = row (slice_get ts place) (slice_get hs place)

  abbrev pub rows : List T → List H → List ℕ
  rows ts hs = flat_map (row_at ts hs) (range_with_len 0 (length ts))

  -- behind the first tenant the places are one more
  one_more : (t : T) (h : H) (ts : List T) (hs : List H) (from count : ℕ)
      → flat_map (row_at (t ∷ ts) (h ∷ hs)) (range_with_len (from + 1) count) ≡ flat_map (row_at ts hs) (range_with_len from count)
  one_more t h ts hs from zero = refl
  one_more t h ts hs from (suc count) =
      let next : from + 1 ≡ suc from = omega arith in
      ap (λ k. row_at (t ∷ ts) (h ∷ hs) k ++ flat_map (row_at (t ∷ ts) (h ∷ hs)) (range_with_len (from + 1 + 1) count)) next
      ∙ ap (λ x. row (slice_get ts from) (slice_get hs from) ++ x) (one_more t h ts hs (from + 1) count)

  first : (t : T) (h : H) (ts : List T) (hs : List H) → rows (t ∷ ts) (h ∷ hs) ≡ row (Some t) (Some h) ++ rows ts hs
  first t h ts hs = ap (λ x. row (Some t) (Some h) ++ x) (one_more t h ts hs 0 (length ts))

  regroup : (a b c d : List ℕ) → a ++ (b ++ c ++ d) ≡ a ++ b ++ c ++ d
  regroup a b c d = simp append_assoc

  pub between : (before behind : List T) (befores behinds : List H) (t : T) (h : H) → length before ≡ length befores
      → rows (before ++ t ∷ behind) (befores ++ h ∷ behinds) ≡ rows before befores ++ rows (t ∷ []) (h ∷ []) ++ rows behind behinds
  between [] behind [] behinds t h e =
      first t h behind behinds ∙ ap (λ x. x ++ rows behind behinds) (sym (first t h [] [] ∙ append-nil (row (Some t) (Some h))))
  between [] behind (y ∷ befores) behinds t h e = absurd cc
  between (x ∷ before) behind [] behinds t h e = absurd cc
  between (x ∷ before) behind (y ∷ befores) behinds t h e =
      first x y (before ++ t ∷ behind) (befores ++ h ∷ behinds)
      ∙ ap (λ r. row (Some x) (Some y) ++ r) (between before behind befores behinds t h cc)
      ∙ regroup (row (Some x) (Some y)) (rows before befores) (rows (t ∷ []) (h ∷ [])) (rows behind behinds)
      ∙ ap (λ r. r ++ rows (t ∷ []) (h ∷ []) ++ rows behind behinds) (sym (first x y before befores))

pub row_between : (before behind : List Tenant) (befores behinds : List History) (t : Tenant) (h : History) → length before ≡ length befores
    → spec.rows_text (before ++ t ∷ behind) (befores ++ h ∷ behinds)
    ≡ spec.rows_text before befores ++ spec.rows_text (t ∷ []) (h ∷ []) ++ spec.rows_text behind behinds
unfolding spec.rows_text
row_between before behind befores behinds t h e = between spec.row_text before behind befores behinds t h e
