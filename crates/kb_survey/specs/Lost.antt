-- What a loss of power may leave of a store that puts off what is cut and removed.
use Rattle.std.specs.Prelude.{◌≡◌, ◌≤◌, ◌+◌, ◌-◌, ℕ, Bool, true, false, List, [], ◌∷◌}
use Rattle.std.proofs.Common.{subst, arith}
use Rattle.kb_store.specs.Disk.{Files}
use Rattle.kb_store.specs.Loss.{Loss, IsLawfulLoss}
use Rattle.kb_survey.specs.Postponed.{Postponing}
use Rattle.kb_survey.specs.declared.change.Change.{Change}

-- Anything, at the first moment.
abbrev pub anything : Loss
anything = record { leaves = λ _. Unit {0}; moment = 0; left_since = λ _ _. Unit {0} }

-- Each moment is one later: at the first one it was anything.
abbrev pub later : Loss → Loss
later l = record { leaves = l.leaves; moment = l.moment + 1; left_since = λ t found. 1 ≤ t → l.left_since (t - 1) found }

-- While it waits, or has something put off, it is anything. From then on it is what is left of the store inside.
abbrev pub loss_of : Bool → List Change → Loss → Loss
loss_of true cs l = anything
loss_of false (c ∷ cs) l = anything
loss_of false [] l = later l

abbrev pub loss_with : {S : Type 0} → (S → Loss) → Postponing S → Loss
loss_with inner s = loss_of s.waits s.put_off (inner s.store)

-- The same is left, each moment one later.
pub record IsMomentLater (old new : Loss) : Type 0 where
  pub leaves : (found : Files) → new.leaves found → old.leaves found
  pub all : (found : Files) → old.leaves found → new.leaves found
  pub moment : new.moment ≡ old.moment + 1
  pub since : (t : ℕ) (found : Files) → new.left_since (t + 1) found → old.left_since t found
  pub all_since : (t : ℕ) (found : Files) → old.left_since t found → new.left_since (t + 1) found

-- ---- a moment is one of those since an earlier one

anything_timely : IsLawfulLoss anything
anything_timely = record { counts_now = λ t found le h. tt; only_now = λ found h. tt }

later_timely : (l : Loss) → IsLawfulLoss l → IsLawfulLoss (later l)
later_timely l is = record {
  counts_now = λ t found le h one. is.counts_now (t - 1) found (omega (arith, le, one)) h;
  only_now = λ found h.
      let e : l.moment + 1 - 1 ≡ l.moment = omega arith in
      is.only_now found (subst (λ t. l.left_since t found) e (h (omega arith)));
}

pub timely_of : (w : Bool) (cs : List Change) (l : Loss) → IsLawfulLoss l → IsLawfulLoss (loss_of w cs l)
timely_of true cs l is = anything_timely
timely_of false (c ∷ cs) l is = anything_timely
timely_of false [] l is = later_timely l is
