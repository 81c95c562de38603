-- A file that is read by several calls.
use Rattle.std.proofs.Common.{◌≡◌, ◌∙◌, ◌+◌, ◌≤◌, ◌++◌, ℕ, List, length, take, drop, ap, sym, subst}
use Rattle.std.proofs.lemmas.List.{length-take-le, take-append-le, take_at, drop_at, drop-drop}
use Rattle.std.proofs.Math.Seq.{take-add}
use Rattle.kb_folder.specs.Folder.{Contents, Stays, bytes_in}
use Rattle.kb_folder.specs.History.{IsPart, read}
use Rattle.kb_folder.specs.Told.{Calls, contents_of, with}
use Rattle.kb_folder.proofs.Told.{stays_read}

-- one more call
pub read_more : (whole front sub rest : List ℕ) (at place n k : ℕ) → place ≡ at + k → length front ≡ k → n ≤ length sub → front ≡ take k (drop at whole) → IsPart whole place (take n sub)
    → take (k + n) (front ++ (sub ++ rest)) ≡ take (k + n) (drop at whole)
read_more whole front sub rest at place n k e long fits is part =
    let given : take n sub ≡ take n (drop k (drop at whole)) = part.bytes ∙ ap (λ m. take m (drop place whole)) (length-take-le n sub fits) ∙ ap (λ m. take n (drop m whole)) e ∙ ap (take n) (sym (drop-drop k at whole)) in
    take-add k n (front ++ (sub ++ rest)) ∙ ap (λ x. x ++ take n (drop k (front ++ (sub ++ rest)))) (take_at front (sub ++ rest) k long)
    ∙ ap (λ x. front ++ take n x) (drop_at front (sub ++ rest) k long) ∙ ap (λ x. front ++ x) (take-append-le n sub rest fits)
    ∙ ap (λ x. x ++ take n sub) is ∙ ap (λ x. take k (drop at whole) ++ x) given ∙ sym (take-add k n (drop at whole))

module _ (h h' : Calls) (file : ℕ) where
  -- what was given is the file's as it was at first
  pub is_part : (c : Contents) (at : ℕ) (bytes : List ℕ) → Stays c (contents_of h) → h' ≡ with h (read file at bytes) → (contents_of h').honest → IsPart (bytes_in c file) at bytes
  is_part c at bytes stays e t =
      let both = subst (λ (x : Calls). (contents_of x).honest) e t in
      subst (λ files. IsPart (bytes_in (record { files = files; honest = c.honest }) file) at bytes) (stays.files both.0) both.1

  pub still_stays : (c : Contents) (at : ℕ) (bytes : List ℕ) → Stays c (contents_of h) → h' ≡ with h (read file at bytes) → Stays c (contents_of h')
  still_stays c at bytes stays e =
      let on = stays_read h h' file at bytes e in
      record { honest = λ t. stays.honest (on.honest t); files = λ t. on.files t ∙ stays.files (on.honest t) }
