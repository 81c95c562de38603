-- What a loss may leave after one call and another.
use Rattle.std.proofs.Common.{◌≡◌, ◌≢◌, ◌∙◌, ◌≤◌, ◌+◌, ℕ, List, [], ◌∷◌, take, drop, Option, Some, None, IsSome}
use Rattle.std.specs.Prelude.{IfSome, is_some, nat_lt, option_copied}
use Rattle.std.proofs.Common.{Bor, slice_index_or, length, refl, sym, ap, subst, arith, ⊎_elim, inl, inr, ◌⊎◌}
use Rattle.std.proofs.lemmas.Bool.{cases_eq}
use Rattle.std.proofs.lemmas.List.{drop-drop}
use Rattle.std.specs.Cmp.{nat_cmp_total}
use Rattle.std.specs.FinMap.{get, remove, same_map, nat_cmp-IsAntisymmetric}
use Rattle.kb_store.proofs.Maps.{get_removed, get_kept}
use Rattle.kb_store.specs.Disk.{Disk, Files, Table, Keeps, Removes}
use Rattle.kb_store.specs.Loss.{Loss, IsLawfulLoss, Goes, Only, Same, Makes, Drops, Clears, AreOthers}
use Rattle.kb_durable.specs.Waiting.{without_keys, IsTrimmed, Trims}
use Rattle.kb_durable.proofs.Left.{left_there, without_next}

-- ---- one step and another

pub goes_then : (P Q R : Files → Files → Type 0) (a b d : Loss)
    → ((x y : Files) → P x y → R x y) → ((x y z : Files) → P x y → Q y z → R x z) → Goes P a b → Goes Q b d → Goes R a d
goes_then P Q R a b d one both first second = record {
  later = omega (arith, first.later, second.later);
  now = λ z left.
      let (y, at_y, q) = second.now z left in
      let (x, at_x, p) = first.now y at_y in
      (x, at_x, both x y z p q);
  between = λ t z le left. ⊎_elim
      (λ was. ⊎_elim (λ earlier. inl earlier) (λ at. inr (at.0, at.1, one at.0 z at.2)) (first.between t z le was))
      (λ at. let from = first.now at.0 at.1 in inr (from.0, from.1, both from.0 at.0 z from.2 at.2))
      (second.between t z (omega (arith, le, first.later)) left);
  keeps = λ t z le left. second.keeps t z (omega (arith, le, first.later)) (first.keeps t z le left);
}

pub goes_so : (P R : Files → Files → Type 0) (a b : Loss) → ((x y : Files) → P x y → R x y) → Goes P a b → Goes R a b
goes_so P R a b one goes = record {
  later = goes.later;
  now = λ z left. let from = goes.now z left in (from.0, from.1, one from.0 z from.2);
  between = λ t z le left. ⊎_elim (λ was. inl was) (λ at. inr (at.0, at.1, one at.0 z at.2)) (goes.between t z le left);
  keeps = goes.keeps;
}

-- Nothing changes, and then something.
pub same_then : (Q : Files → Files → Type 0) (a b d : Loss) → ((x : Files) → Q x x) → Goes Same a b → Goes Q b d → Goes Q a d
same_then Q a b d stays first second =
    goes_then Same Q Q a b d (λ x y e. subst (Q x) (sym e) (stays x)) (λ x y z e q. subst (λ m. Q m z) e q) first second

-- Something, and then nothing.
pub then_same : (Q : Files → Files → Type 0) (a b d : Loss) → Goes Q a b → Goes Same b d → Goes Q a d
then_same Q a b d first second = goes_then Q Same Q a b d (λ x y q. q) (λ x y z q e. subst (Q x) (sym e) q) first second

-- ---- where a loss leaves the files as they are

pub only_still : (d e : Disk) (a b : Loss) → Keeps d e → Goes Same a b → (d.honest → Only d.files a) → e.honest → Only e.files b
only_still d e a b keeps goes only h found left =
    let from = goes.now found left in
    from.2 ∙ only (keeps.honest h) from.0 from.1 ∙ sym (keeps.files h)

-- ---- a removal, and the sync behind it

-- of one file that the table has no longer
pub dropped_cleared : (k : ℕ) (ks : List ℕ) (t : Table) (x y : Files) → Drops k x y → Clears (without_keys (k ∷ ks) t) x y
dropped_cleared k ks t x y dropped = record {
  stays = λ q some. ⊎_elim
      (λ (same : q ≡ k). absurd (not_there q same some))
      (λ (ne : q ≢ k). dropped.others q ne)
      (cases_eq q k);
  either = λ q. ⊎_elim
      (λ (same : q ≡ k). subst (λ o. (get y o ≡ get x o) ⊎ (get y o ≡ None)) (sym same) dropped.either)
      (λ (ne : q ≢ k). inl (dropped.others q ne))
      (cases_eq q k);
}
  where
    no_some : {X : Type 0} (o : Option X) → o ≡ None → IsSome o → ⊥
    no_some {X} o e some = let s : IsSome {T = X} None = subst (λ o. IsSome o) e some in absurd cc

    not_there : (q : ℕ) → q ≡ k → IsSome (get (without_keys (k ∷ ks) t) q) → ⊥
    not_there q same some =
        let e : get (remove t k) q ≡ None = ap (get (remove t k)) same ∙ get_removed t k in
        no_some (get (remove t k) q) e (left_there ks (remove t k) q some)

pub cleared_less : (ks : List ℕ) (t : Table) (x y : Files) → Clears t x y → Clears (without_keys ks t) x y
cleared_less ks t x y clears = record {
  stays = λ q some. clears.stays q (left_there ks t q some);
  either = clears.either;
}

pub cleared_twice : (t : Table) (x y z : Files) → Clears t x y → Clears t y z → Clears t x z
cleared_twice t x y z first second = record {
  stays = λ q some. second.stays q some ∙ first.stays q some;
  either = λ q. ⊎_elim
      (λ e. ⊎_elim (λ b. inl (e ∙ b)) (λ n. inr (e ∙ n)) (first.either q))
      (λ n. inr n)
      (second.either q);
}

-- the found files are those, or those without the one removed
pub dropped_is : (k : ℕ) (x y : Files) → Drops k x y → (y ≡ x) ⊎ (y ≡ remove x k)
dropped_is k x y dropped = ⊎_elim
    (λ same. inl (same_map nat_cmp_total nat_cmp-IsAntisymmetric y x (λ q. ⊎_elim
    (λ (at : q ≡ k). subst (λ o. get y o ≡ get x o) (sym at) same)
    (λ (ne : q ≢ k). dropped.others q ne)
    (cases_eq q k))))
    (λ none. inr (same_map nat_cmp_total nat_cmp-IsAntisymmetric y (remove x k) (λ q. ⊎_elim
    (λ (at : q ≡ k). subst (λ o. get y o ≡ get (remove x k) o) (sym at) (none ∙ sym (get_removed x k)))
    (λ (ne : q ≢ k). dropped.others q ne ∙ sym (get_kept x k q ne))
    (cases_eq q k))))
    dropped.either

-- ---- some removals, and then more

pub trims_none : (most : ℕ) (ks : List ℕ) (d : Disk) (l : Loss) → Trims most ks ks d l d l
trims_none most ks d l = record {
  count = 0;
  at_most = omega arith;
  rest = refl;
  disk = record { table = refl; honest = λ h. h; files = λ h. refl };
  between = λ h t found le left. inl left;
}

pub trims_then : (m n : ℕ) (ks js hs : List ℕ) (d e f : Disk) (a b c : Loss)
    → a.moment ≤ b.moment → Trims m ks js d a e b → Trims n js hs e b f c → Trims (m + n) ks hs d a f c
trims_then m n ks js hs d e f a b c later first second =
    let i = first.count in
    let j = second.count in
    record {
      count = i + j;
      at_most = omega (arith, first.at_most, second.at_most);
      rest = second.rest ∙ ap (drop j) first.rest ∙ drop-drop j i ks;
      disk = record {
        table = second.disk.table ∙ ap (λ l. without_keys (take j l) e.table) first.rest ∙ ap (without_keys (take j (drop i ks))) first.disk.table ∙ without_next i j ks d.table;
        honest = λ h. first.disk.honest (second.disk.honest h);
        files = λ h. second.disk.files h ∙ ap (λ l. without_keys (take j l) e.files) first.rest ∙ ap (without_keys (take j (drop i ks))) (first.disk.files (second.disk.honest h)) ∙ without_next i j ks d.files;
      };
      between = λ h t found le left. ⊎_elim
          (λ was. ⊎_elim (λ earlier. inl earlier) (λ trimmed. inr (trimmed.0, omega (arith, trimmed.1), trimmed.2)) (first.between (second.disk.honest h) t found le was))
          (λ trimmed. inr (
            i + trimmed.0,
            omega (arith, first.at_most, trimmed.1),
            trimmed.2 ∙ ap (λ l. without_keys (take trimmed.0 l) e.files) first.rest ∙ ap (without_keys (take trimmed.0 (drop i ks))) (first.disk.files (second.disk.honest h)) ∙ without_next i trimmed.0 ks d.files,
          ))
          (second.between h t found (omega (arith, le, later)) left);
    }

-- ---- one removal, of the first file that waits

module _ (k : ℕ) (ks waited waits : List ℕ) (first : waited ≡ k ∷ ks) (d e : Disk) (a b : Loss) (only : d.honest → Only d.files a) (goes : Goes (Drops k) a b) where
  trimmed_by : d.honest → (t : ℕ) (found : Files) → t ≤ a.moment → b.left_since t found → a.left_since t found ⊎ IsTrimmed 1 waited d.files found
  trimmed_by h t found le left = ⊎_elim
      (λ was. inl was)
      (λ at.
      let x : at.0 ≡ d.files = only h at.0 at.1 in
      inr (⊎_elim
      (λ same. (0, omega arith, same ∙ x))
      (λ less. (1, omega arith, less ∙ ap (λ m. remove m k) x ∙ sym (ap (λ l. without_keys (take 1 l) d.files) first)))
      (dropped_is k at.0 found at.2)))
      (goes.between t found le left)

  pub trims_removed : waits ≡ ks → Removes d k e → Trims 1 waited waits d a e b
  trims_removed rest removes = record {
    count = 1;
    at_most = omega arith;
    rest = rest ∙ sym (ap (drop 1) first);
    disk = record {
      table = removes.table ∙ sym (ap (λ l. without_keys (take 1 l) d.table) first);
      honest = λ h. removes.honest h;
      files = λ h. removes.files h ∙ sym (ap (λ l. without_keys (take 1 l) d.files) first);
    };
    between = λ h t found le left. trimmed_by (removes.honest h) t found le left;
  }

  pub trims_refused : waits ≡ waited → Keeps d e → Trims 1 waited waits d a e b
  trims_refused rest keeps = record {
    count = 0;
    at_most = omega arith;
    rest = rest;
    disk = record { table = keeps.table; honest = λ h. keeps.honest h; files = λ h. keeps.files h };
    between = λ h t found le left. trimmed_by (keeps.honest h) t found le left;
  }

  pub goes_dropped : (t : Table) → Goes (Clears (without_keys waited t)) a b
  goes_dropped t = goes_so (Drops k) (Clears (without_keys waited t)) a b (λ x y drops. subst (λ l. Clears (without_keys l t) x y) (sym first) (dropped_cleared k ks t x y drops)) goes

-- and a sync behind it
pub trims_synced : (m : ℕ) (ks js : List ℕ) (d e f : Disk) (a b c : Loss) → a.moment ≤ b.moment → IsLawfulLoss b → Trims m ks js d a e b → Keeps e f → Goes Same b c → Trims m ks js d a f c
trims_synced m ks js d e f a b c later timely trims stays goes = record {
  count = trims.count;
  at_most = trims.at_most;
  rest = trims.rest;
  disk = record {
    table = stays.table ∙ trims.disk.table;
    honest = λ h. trims.disk.honest (stays.honest h);
    files = λ h. stays.files h ∙ trims.disk.files (stays.honest h);
  };
  between = λ h t found le left.
      let before = trims.between (stays.honest h) t found le in
      let since : t ≤ b.moment = omega (arith, le, later) in
      ⊎_elim before (λ at. before (timely.counts_now t found since (subst b.leaves (sym at.2) at.1))) (goes.between t found since left);
}

-- the number at the front
pub first_found : (ks : List ℕ) (r : Option (Bor ℕ)) (k : ℕ) → Some k ≡ option_copied r → is_some r ≡ nat_lt 0 (length ks)
    → IfSome r (λ x. x.now ≡ slice_index_or ks 0 x.now) → ks ≡ k ∷ drop 1 ks
first_found ks None k e some look = absurd cc
first_found [] (Some x) k e some look = absurd cc
first_found (y ∷ ks) (Some x) k e some look =
    let at : k ≡ x.now = cc in
    ap (λ n. n ∷ ks) (sym (at ∙ look))

-- a file that is made where all was synced
pub made_after : (file : ℕ) (d e : Disk) (a b : Loss) → Keeps d e → (e.honest → Only e.files a) → Goes (Makes file) a b → e.honest
    → (found : Files) → b.leaves found → AreOthers file d.files found
made_after file d e a b stays only goes h found left =
    let from = goes.now found left in
    let was : from.0 ≡ d.files = only h from.0 from.1 ∙ stays.files h in
    subst (λ m. AreOthers file m found) was from.2
