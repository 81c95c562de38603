-- What holds of what a loss of power may leave, from one moment to the next.
use Rattle.std.specs.Prelude.{◌≡◌, ℕ, drop}
use Rattle.std.proofs.Common.{refl, sym, subst, arith, inl}
use Rattle.std.proofs.lemmas.List.{take-append-drop}
use Rattle.kb_store.specs.Disk.{Files, Table}
use Rattle.kb_store.specs.Loss.{Loss, IsLawfulLoss, Goes, Tears, Makes, Drops, Clears, Same, found_of, nothing_left}

-- ---- where nothing could be left

pub nothing_timely : IsLawfulLoss nothing_left
nothing_timely = record { counts_now = λ t c l h. h; only_now = λ c h. h }

-- ---- where nothing is done

pub stays_goes : (step : Files → Files → Type 0) → ((c : Files) → step c c) → (l : Loss) → Goes step l l
stays_goes step same l = record { later = omega arith; now = λ c h. (c, h, same c); between = λ t c le h. inl h; keeps = λ t c le h. h }

pub torn_not : (file keep : ℕ) (c : Files) → Tears file keep c c
torn_not file keep c = record { others = λ o ne. refl; there = λ h. h; tail = drop keep (found_of c file); bytes = sym (take-append-drop keep (found_of c file)) }

pub made_not : (file : ℕ) (c : Files) → Makes file c c
made_not file c = λ o ne. refl

pub dropped_not : (file : ℕ) (c : Files) → Drops file c c
dropped_not file c = record { others = λ o ne. refl; either = inl refl }

pub cleared_not : (table : Table) (c : Files) → Clears table c c
cleared_not table c = record { stays = λ file there. refl; either = λ file. inl refl }

-- ---- where a store is as it was

pub same_read : {S : Type 0} (loss : S → Loss) (old new : S) → new ≡ old → Goes Same (loss old) (loss new)
same_read loss old new e = subst (λ s. Goes Same (loss old) (loss s)) (sym e) (stays_goes Same (λ c. refl) (loss old))

pub same_made : {S : Type 0} (loss : S → Loss) (file : ℕ) (old new : S) → new ≡ old → Goes (Makes file) (loss old) (loss new)
same_made loss file old new e = subst (λ s. Goes (Makes file) (loss old) (loss s)) (sym e) (stays_goes (Makes file) (made_not file) (loss old))

pub same_torn : {S : Type 0} (loss : S → Loss) (file keep : ℕ) (old new : S) → new ≡ old → Goes (Tears file keep) (loss old) (loss new)
same_torn loss file keep old new e = subst (λ s. Goes (Tears file keep) (loss old) (loss s)) (sym e) (stays_goes (Tears file keep) (torn_not file keep) (loss old))

pub same_dropped : {S : Type 0} (loss : S → Loss) (file : ℕ) (old new : S) → new ≡ old → Goes (Drops file) (loss old) (loss new)
same_dropped loss file old new e = subst (λ s. Goes (Drops file) (loss old) (loss s)) (sym e) (stays_goes (Drops file) (dropped_not file) (loss old))

pub same_cleared : {S : Type 0} (loss : S → Loss) (table : Table) (old new : S) → new ≡ old → Goes (Clears table) (loss old) (loss new)
same_cleared loss table old new e = subst (λ s. Goes (Clears table) (loss old) (loss s)) (sym e) (stays_goes (Clears table) (cleared_not table) (loss old))
