-- What a refusal says, of a part of a call and of the whole.
use Rattle.std.proofs.Common.{◌≡◌, ◌≤◌, ◌<◌, ◌^◌, ◌⊎◌, inl, inr, ⊎_elim, ℕ, Result, Ok, Err, refl, sym, ap, subst, arith}
use Rattle.std.specs.Result.{IsErrAnd}
use Rattle.kb_store.specs.Disk.{Disk, Grew}
use Rattle.kb_log.specs.declared.fault.LogFault.{LogFault}
use Rattle.kb_log.specs.declared.fault.LogFault.TheVariants as faults
use Rattle.kb_segment_log.specs.SegmentLog.{MissesStore, Clears}
use Rattle.kb_opening.specs.Partition.{MissesShelf}
use Rattle.std.proofs.lemmas.Bool.{cases_lt}

pub clears_none : {owns : ℕ → Type 0} (d : Disk) → Clears owns d d
clears_none d = record { honest = λ h. h; lengths = λ file not. refl; contents = λ h file not. refl }

-- no fault
pub misses_ok : {T : Type 0} (old new : Disk) (next : ℕ) (As : Type 0) (x : T) → old.failures ≤ new.failures → MissesShelf old next As (Ok x) new
misses_ok old new next As x later = record { later = later; store = λ h such is. absurd cc; range = λ is. absurd cc; full = λ is. absurd cc }

-- a call that was refused
abbrev refused : (T : Type 0) → LogFault → Result T LogFault
refused T e = Err e

same_err : (T U : Type 0) (e f : LogFault) → refused T e ≡ refused T f → refused U e ≡ refused U f
same_err T U e f is = ap (λ x. refused U x) (let same : e ≡ f = cc in same)

grown : (a b c : ℕ) → Grew b c → a ≤ b → Grew a c
grown a b c g le = omega (arith, g, le)

-- a part's fault is the whole's, after what came before it
pub misses_passed : {T U : Type 0} (first old new : Disk) (next : ℕ) (As As' : Type 0) (e : LogFault) → (new.honest → As' → As) → first.failures ≤ old.failures
    → MissesShelf {T = T} old next As (Err e) new → MissesShelf {T = U} first next As' (Err e) new
misses_passed {T} {U} first old new next As As' e weaker before m =
    let after = m.later in
    record {
      later = omega (arith, before, after);
      store = λ h such is. ⊎_elim (λ g. inl (grown first.failures old.failures new.failures g before)) (λ none. inr none) (m.store h (weaker h such) (same_err U T e faults.Store is));
      range = λ is. m.range (same_err U T e faults.Range is);
      full = λ is. m.full (same_err U T e faults.Full is);
    }

-- where a part asks for a file number to be left
pub misses_left : {T U : Type 0} (old new : Disk) (next : ℕ) (As As' : Type 0) (e : LogFault) → (As' → As)
    → MissesStore {T = T} old (As × (next < 2 ^ 64)) (Err e) new → MissesShelf {T = U} old next As' (Err e) new
misses_left {T} {U} old new next As As' e weaker m = record {
  later = m.later;
  store = λ h such is. elim (cases_lt next (2 ^ 64)) [
    | inl lt ↦ inl (m.store h (weaker such, lt) (same_err U T e faults.Store is))
    | inr ge ↦ inr ge
  ];
  range = λ is. m.range (same_err U T e faults.Range is);
  full = λ is. m.full (same_err U T e faults.Full is);
}

-- where the next number was raised before, and the last one is left if it was
pub misses_raised : {T : Type 0} (old new : Disk) (first next : ℕ) (As : Type 0) (r : Result T LogFault) → (first < 2 ^ 64 → next < 2 ^ 64)
    → MissesShelf old next As r new → MissesShelf old first As r new
misses_raised old new first next As r room m = record {
  later = m.later;
  store = λ h such is. ⊎_elim (λ (g : Grew old.failures new.failures). inl g) (λ (over : 2 ^ 64 ≤ next). elim (cases_lt first (2 ^ 64)) [
    | inl lt ↦ let fits = room lt in absurd (omega (arith, fits, over))
    | inr ge ↦ inr ge
  ]) (m.store h such is);
  range = m.range;
  full = m.full;
}

-- ---- by the answer of the whole

pub misses_handed : {T U : Type 0} (first old new : Disk) (next : ℕ) (As As' : Type 0) (e : LogFault) (r : Result U LogFault) → IsErrAnd r (λ f. f ≡ e) → (new.honest → As' → As) → first.failures ≤ old.failures
    → MissesShelf {T = T} old next As (Err e) new → MissesShelf {T = U} first next As' r new
misses_handed first old new next As As' e (Ok x) is weaker before m = absurd is
misses_handed {T} {U} first old new next As As' e (Err f) is weaker before m =
    subst (λ (g : LogFault). MissesShelf {T = U} first next As' (Err g) new) (sym is) (misses_passed first old new next As As' e weaker before m)

pub misses_left_handed : {T U : Type 0} (old new : Disk) (next : ℕ) (As As' : Type 0) (e : LogFault) (r : Result U LogFault) → IsErrAnd r (λ f. f ≡ e) → (As' → As)
    → MissesStore {T = T} old (As × (next < 2 ^ 64)) (Err e) new → MissesShelf {T = U} old next As' r new
misses_left_handed old new next As As' e (Ok x) is weaker m = absurd is
misses_left_handed {T} {U} old new next As As' e (Err f) is weaker m =
    subst (λ (g : LogFault). MissesShelf {T = U} old next As' (Err g) new) (sym is) (misses_left old new next As As' e weaker m)

pub stores_handed : {T U : Type 0} (first old new : Disk) (As As' : Type 0) (e : LogFault) (r : Result U LogFault) → IsErrAnd r (λ f. f ≡ e) → (new.honest → As' → As) → first.failures ≤ old.failures
    → MissesStore {T = T} old As (Err e) new → MissesStore {T = U} first As' r new
stores_handed first old new As As' e (Ok x) is weaker before m = absurd is
stores_handed {T} {U} first old new As As' e (Err f) is weaker before m =
    let after = m.later in
    subst (λ (g : LogFault). MissesStore {T = U} first As' (Err g) new) (sym is) record {
      later = omega (arith, before, after);
      store = λ h such same. grown first.failures old.failures new.failures (m.store h (weaker h such) (same_err U T e faults.Store same)) before;
      range = λ same. m.range (same_err U T e faults.Range same);
      full = λ same. m.full (same_err U T e faults.Full same);
    }

-- the store of a log is blamed, whatever file numbers are left
pub misses_store_handed : {T U : Type 0} (old new : Disk) (next : ℕ) (As As' : Type 0) (e : LogFault) (r : Result U LogFault) → IsErrAnd r (λ f. f ≡ e) → (As' → As)
    → MissesStore {T = T} old As (Err e) new → MissesShelf {T = U} old next As' r new
misses_store_handed old new next As As' e (Ok x) is weaker m = absurd is
misses_store_handed {T} {U} old new next As As' e (Err f) is weaker m =
    subst (λ (g : LogFault). MissesShelf {T = U} old next As' (Err g) new) (sym is) record {
      later = m.later;
      store = λ h such same. inl (m.store h (weaker such) (same_err U T e faults.Store same));
      range = λ same. m.range (same_err U T e faults.Range same);
      full = λ same. m.full (same_err U T e faults.Full same);
    }

-- what is said of three facts is said of a pair and the third
pub misses_joined : {T : Type 0} {P Q : Type 0} {r : Result T LogFault} (old new : Disk) (next : ℕ) → MissesStore {T = T} old (P × Q × (next < 2 ^ 64)) r new → MissesStore {T = T} old ((P × Q) × (next < 2 ^ 64)) r new
misses_joined old new next m = record { later = m.later; store = λ h such is. m.store h (such.0.0, such.0.1, such.1) is; range = m.range; full = m.full }
