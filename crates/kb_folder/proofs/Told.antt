-- A folder's history after one more answer.
use Rattle.std.proofs.Common.{◌≡◌, ◌∙◌, ◌+◌, ◌-◌, ◌≤◌, ◌++◌, ℕ, List, length, take, drop, ap, sym, subst, refl, arith}
use Rattle.std.specs.Prelude.{replicate, Result, Ok, Err, IfOk}
use Rattle.std.specs.FinMap.{insert}
use Rattle.std.proofs.lemmas.List.{append-nil, take_all, take-append-le, drop_all}
use Rattle.kb_folder.specs.Folder.{Turns, Stays, HasLength, bytes_in}
use Rattle.kb_folder.specs.History.{sized, overlaid, read, wrote, resized}
use Rattle.kb_folder.specs.Told.{Calls, contents_of, with}

sized_within : (bytes : List ℕ) (len : ℕ) → len ≤ length bytes → sized bytes len ≡ take len bytes
unfolding sized
sized_within bytes len le = take-append-le len bytes (replicate (len - length bytes) 0) le

-- bytes behind all that there were
overlaid_end : (old new : List ℕ) (at : ℕ) → at ≡ length old → overlaid old at new ≡ old ++ new
unfolding overlaid
overlaid_end old new at e =
    ap (λ x. x ++ new ++ drop (at + length new) old) (sized_within old at (omega (arith, e)) ∙ take_all at old (omega (arith, e)))
    ∙ ap (λ x. old ++ new ++ x) (drop_all (at + length new) old (omega (arith, e)))
    ∙ append-nil (old ++ new)

module _ (h h' : Calls) (file : ℕ) where
  pub turns_wrote : (at : ℕ) (bytes : List ℕ) → HasLength (contents_of h) file at → h' ≡ with h (wrote file at bytes)
      → Turns (contents_of h) (insert (contents_of h).files file (bytes_in (contents_of h) file ++ bytes)) (contents_of h')
  turns_wrote at bytes has e =
      subst (λ (x : Calls). Turns (contents_of h) (insert (contents_of h).files file (bytes_in (contents_of h) file ++ bytes)) (contents_of x)) (sym e)
      (record {
        honest = λ t. t.0;
        files = λ t. ap (insert (contents_of h).files file) (overlaid_end (bytes_in (contents_of h) file) bytes at (has t.0).1);
      })

  pub turns_cut : (len : ℕ) → ((contents_of h).honest → len ≤ length (bytes_in (contents_of h) file)) → h' ≡ with h (resized file len)
      → Turns (contents_of h) (insert (contents_of h).files file (take len (bytes_in (contents_of h) file))) (contents_of h')
  turns_cut len within e =
      subst (λ (x : Calls). Turns (contents_of h) (insert (contents_of h).files file (take len (bytes_in (contents_of h) file))) (contents_of x)) (sym e)
      (record {
        honest = λ t. t.0;
        files = λ t. ap (insert (contents_of h).files file) (sized_within (bytes_in (contents_of h) file) len (within t.0));
      })

  -- the same of what was written, where its count is passed on
  pub turns_told : {E F : Type 0} (at : ℕ) (bytes : List ℕ) (done : Result ℕ E) (result : Result ℕ F) → HasLength (contents_of h) file at → IfOk result (λ n. done ≡ Ok n)
      → IfOk done (λ n. h' ≡ with h (wrote file at (take n bytes)))
      → IfOk result (λ n. Turns (contents_of h) (insert (contents_of h).files file (bytes_in (contents_of h) file ++ take n bytes)) (contents_of h'))
  turns_told at bytes done (Ok n) has is told = turns_wrote at (take n bytes) has (subst (λ d. IfOk d (λ n. h' ≡ with h (wrote file at (take n bytes)))) is told)
  turns_told at bytes done (Err e) has is told = tt

  pub stays_read : (at : ℕ) (bytes : List ℕ) → h' ≡ with h (read file at bytes) → Stays (contents_of h) (contents_of h')
  stays_read at bytes e = subst (λ (x : Calls). Stays (contents_of h) (contents_of x)) (sym e) (record { honest = λ t. t.0; files = λ t. refl })
