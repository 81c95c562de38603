-- A file that grows by several calls.
use Rattle.std.proofs.Common.{◌≡◌, ◌≢◌, ◌∙◌, ◌+◌, ◌-◌, ◌++◌, ℕ, List, [], length, take, drop, append_assoc, ap, sym, subst, refl, arith, Some, IsSome, ⊎_elim}
use Rattle.std.specs.Prelude.{unwrap_or}
use Rattle.std.specs.Ordering.{nat_cmp}
use Rattle.std.specs.FinMap.{FinMap, get, insert, same_map, nat_cmp-IsAntisymmetric}
use Rattle.std.specs.Cmp.{nat_cmp_total}
use Rattle.std.proofs.Math.Seq.{take-add}
use Rattle.std.proofs.lemmas.Bool.{cases_eq}
use Rattle.std.proofs.lemmas.List.{append-nil, length-append, length-drop, take_all, take_at}
use Rattle.kb_store.specs.Disk.{Files}
use Rattle.kb_store.proofs.Maps.{get_inserted, get_other}
use Rattle.kb_folder.specs.Folder.{Contents, Turns, Stays, bytes_in, HasLength, AddsBytes}
use Rattle.kb_folder.proofs.Lens.{same_put, some_is}

-- what is put last stands
put_twice : {X : Type 0} (t : FinMap nat_cmp X) (k : ℕ) (v w : X) → insert (insert t k v) k w ≡ insert t k w
put_twice t k v w = same_map nat_cmp_total nat_cmp-IsAntisymmetric (insert (insert t k v) k w) (insert t k w) (λ q.
    ⊎_elim
    (λ (same : q ≡ k). subst (λ x. get (insert (insert t k v) k w) x ≡ get (insert t k w) x) (sym same)
    (get_inserted (insert t k v) k w ∙ sym (get_inserted t k w)))
    (λ (ne : q ≢ k). get_other (insert t k v) k w q ne ∙ get_other t k v q ne ∙ sym (get_other t k w q ne))
    (cases_eq q k))

module _ (c c' : Contents) (k : ℕ) where
  pub adds_none : (n : ℕ) → HasLength c k n → Stays c c' → AddsBytes c k [] c'
  adds_none n has t = record {
    honest = t.honest;
    files = λ h.
        t.files h ∙ same_put c.files k (bytes_in c k ++ []) (some_is (get c.files k) [] (has (t.honest h)).0 ∙ ap Some (sym (append-nil (bytes_in c k))));
  }

  -- the bytes of the file that grew
  pub bytes_added : (s : List ℕ) → AddsBytes c k s c' → c'.honest → get c'.files k ≡ Some (bytes_in c k ++ s)
  bytes_added s t h = subst (λ (x : Files). get x k ≡ Some (bytes_in c k ++ s)) (sym (t.files h)) (get_inserted c.files k (bytes_in c k ++ s))

  pub has_added : (s : List ℕ) (n m : ℕ) → HasLength c k n → AddsBytes c k s c' → m ≡ n + length s → HasLength c' k m
  has_added s n m has t e h =
      let is = bytes_added s t h in
      let long : length (bytes_in c' k) ≡ length (bytes_in c k ++ s) = ap (λ o. length (unwrap_or o [])) is in (
        subst (λ o. IsSome o) (sym is) refl,
        omega (arith, e, long, length-append (bytes_in c k) s, (has (t.honest h)).1),
      )

  pub adds_more : (c'' : Contents) (s u : List ℕ) → AddsBytes c k s c' → AddsBytes c' k u c'' → AddsBytes c k (s ++ u) c''
  adds_more c'' s u t t' = record {
    honest = λ h. t.honest (t'.honest h);
    files = λ h.
        let h' = t'.honest h in
        let is : bytes_in c' k ≡ bytes_in c k ++ s = ap (λ o. unwrap_or o []) (bytes_added s t h') in
        t'.files h ∙ ap (λ (x : Files). insert x k (bytes_in c' k ++ u)) (t.files h') ∙ put_twice c.files k (bytes_in c k ++ s) (bytes_in c' k ++ u)
        ∙ ap (insert c.files k) (ap (λ b. b ++ u) is ∙ append_assoc (bytes_in c k) s u);
  }

  -- further bytes of a list
  pub adds_next : (c'' : Contents) (bytes : List ℕ) (n m : ℕ) → AddsBytes c k (take n bytes) c' → AddsBytes c' k (take m (take (length bytes - n) (drop n bytes))) c'' → AddsBytes c k (take (n + m) bytes) c''
  adds_next c'' bytes n m t t' =
      let all : take (length bytes - n) (drop n bytes) ≡ drop n bytes = take_all (length bytes - n) (drop n bytes) (omega (arith, length-drop n bytes)) in
      subst (λ x. AddsBytes c k x c'') (sym (take-add n m bytes)) (adds_more c'' (take n bytes) (take m (drop n bytes)) t (subst (λ x. AddsBytes c' k (take m x) c'') all t'))

  pub adds_stays : (c'' : Contents) (s : List ℕ) → AddsBytes c k s c' → Stays c' c'' → AddsBytes c k s c''
  adds_stays c'' s t t' = record { honest = λ h. t.honest (t'.honest h); files = λ h. t'.files h ∙ t.files (t'.honest h) }

  -- what was added is cut off again
  pub adds_back : (c'' : Contents) (s : List ℕ) (n : ℕ) → HasLength c k n → AddsBytes c k s c' → Turns c' (insert c'.files k (take n (bytes_in c' k))) c'' → AddsBytes c k [] c''
  adds_back c'' s n has t t' = record {
    honest = λ h. t.honest (t'.honest h);
    files = λ h.
        let h' = t'.honest h in
        let is : bytes_in c' k ≡ bytes_in c k ++ s = ap (λ o. unwrap_or o []) (bytes_added s t h') in
        t'.files h ∙ ap (λ (x : Files). insert x k (take n (bytes_in c' k))) (t.files h') ∙ put_twice c.files k (bytes_in c k ++ s) (take n (bytes_in c' k))
        ∙ ap (insert c.files k) (ap (take n) is ∙ take_at (bytes_in c k) s n (sym (has (t.honest h')).1) ∙ sym (append-nil (bytes_in c k)));
  }
