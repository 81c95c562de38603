-- What a loss of power may leave of a store that puts changes off, from one call to the next.
use Rattle.std.proofs.Common.{◌≡◌, ◌≢◌, ◌≤◌, ◌+◌, ◌-◌, ℕ, Bool, true, false, List, [], ◌∷◌, refl, sym, subst, arith, inl, inr, ⊎_elim}
use Rattle.std.proofs.lemmas.Bool.{cases_eq}
use Rattle.kb_store.specs.Disk.{Disk, Files}
use Rattle.kb_store.specs.Loss.{Loss, Goes, Same}
use Rattle.kb_store.specs.LossLaws.{stays_goes}
use Rattle.kb_survey.specs.Changes.{disk_after}
use Rattle.kb_survey.specs.Lost.{IsMomentLater, anything, later, loss_of, loss_with}
use Rattle.kb_survey.specs.Postponed.{HasMade, IsUntouched, Postponing, postponing}
use Rattle.kb_survey.specs.declared.change.Change.{Change}

-- ---- one moment later

later_goes : (step : Files → Files → Type 0) (old new : Loss) → Goes step old new → Goes step (later old) (later new)
later_goes step old new g = record {
  later = omega (arith, g.later);
  now = λ found h. g.now found h;
  between = λ t found le h.
      ⊎_elim
      (λ (none : t ≡ 0). inl (λ one. let no : ⊥ = omega (arith, none, one) in absurd no))
      (λ (some : t ≢ 0).
      ⊎_elim
      (λ (was : old.left_since (t - 1) found). inl (λ one. was))
      (λ (made : (before : Files) × old.leaves before × step before found). inr made)
      (g.between (t - 1) found (omega (arith, le)) (h (omega (arith, some)))))
      (cases_eq t 0);
  keeps = λ t found le h one. g.keeps (t - 1) found (omega (arith, le)) (h one);
}

pub later_is : (l : Loss) → IsMomentLater l (later l)
later_is l = record {
  leaves = λ found h. h;
  all = λ found h. h;
  moment = refl;
  since = λ t found h. subst (λ n. l.left_since n found) (back t) (h (omega arith));
  all_since = λ t found h one. subst (λ n. l.left_since n found) (sym (back t)) h;
}
  where
    back : (t : ℕ) → t + 1 - 1 ≡ t
    back t = omega arith

-- once nothing is put off
pub made_is : {S : Type 0} (inner : S → Loss) (s : Postponing S) → HasMade s → IsMomentLater (inner s.store) (loss_with inner s)
made_is inner s made =
    subst (λ w. IsMomentLater (inner s.store) (loss_of w s.put_off (inner s.store))) (sym made.waits)
    (subst (λ cs. IsMomentLater (inner s.store) (loss_of false cs (inner s.store))) (sym made.none) (later_is (inner s.store)))

-- ---- after anything

first_since : (w : Bool) (cs : List Change) (l : Loss) (t : ℕ) (found : Files) → t ≤ 0 → (loss_of w cs l).left_since t found
first_since true cs l t found le = tt
first_since false (c ∷ cs) l t found le = tt
first_since false [] l t found le = λ one. let no : ⊥ = omega (arith, le, one) in absurd no

pub anything_goes : (step : Files → Files → Type 0) → ((c : Files) → step c c) → (w : Bool) (cs : List Change) (l : Loss)
    → Goes step anything (loss_of w cs l)
anything_goes step same w cs l = record {
  later = omega arith;
  now = λ found h. (found, tt, same found);
  between = λ t found le h. inl tt;
  keeps = λ t found le h. first_since w cs l t found le;
}

-- ---- a call that only reads, and one that is put off

pub read_goes : (w : Bool) (cs : List Change) (old new : Loss) → Goes Same old new → Goes Same (loss_of w cs old) (loss_of w cs new)
read_goes true cs old new g = anything_goes Same (λ c. refl) true cs new
read_goes false (c ∷ cs) old new g = anything_goes Same (λ c. refl) false (c ∷ cs) new
read_goes false [] old new g = later_goes Same old new g

pub waiting_goes : (step : Files → Files → Type 0) → ((c : Files) → step c c) → (w : Bool) → w ≡ true → (cs to : List Change) (old new : Loss)
    → Goes step (loss_of w cs old) (loss_of w to new)
waiting_goes step same true is cs to old new = anything_goes step same true to new
waiting_goes step same false is cs to old new = absurd cc

-- ---- a call that first makes what was put off

pub made_goes : {S : Type 0} (disk : S → Disk) (loss : S → Loss) (step : Disk → Files → Files → Type 0) → ((d : Disk) (c : Files) → step d c c)
    → (w : Bool) (cs to : List Change) (old mid new : S) → (cs ≡ [] → (mid ≡ old) × (to ≡ [])) → Goes (step (disk mid)) (loss mid) (loss new)
    → Goes (step (disk_after cs (disk old))) (loss_of w cs (loss old)) (loss_of false to (loss new))
made_goes disk loss step same true cs to old mid new still g =
    anything_goes (step (disk_after cs (disk old))) (same (disk_after cs (disk old))) false to (loss new)
made_goes disk loss step same false (c ∷ cs) to old mid new still g =
    anything_goes (step (disk_after (c ∷ cs) (disk old))) (same (disk_after (c ∷ cs) (disk old))) false to (loss new)
made_goes disk loss step same false [] to old mid new still g =
    let is = still refl in
    subst (λ x. Goes (step (disk old)) (later (loss old)) (loss_of false x (loss new))) (sym is.1)
    (later_goes (step (disk old)) (loss old) (loss new) (subst (λ s. Goes (step (disk s)) (loss s) (loss new)) is.0 g))

-- ---- the store inside is as it was

pub untouched : {S : Type 0} (disk : S → Disk) (loss : S → Loss) (s : S) (cs to : List Change) (w : Bool)
    → IsUntouched disk loss (postponing s cs w) (postponing s to w)
untouched disk loss s cs to w = record {
  waits = refl;
  inside = λ is. record { table = refl; honest = λ h. h; files = λ h. refl };
  lost = λ is. stays_goes Same (λ f. refl) (loss s);
}
