-- What is done goes on, one list after another.
use Rattle.std.proofs.Common.{◌≡◌, ◌<◌, ◌+◌, List, [], ◌∷◌, ◌++◌, Option, None, Some, IfSome, Result, Ok, Err, OnOk, OnErr, ℕ, zero, suc, take, length, slice_get, slice_index_or, ◌≤◌, inl, inr, sym, refl, subst, append-nil, add-one, arith}
use Rattle.std.proofs.lemmas.Option.{slice_get-get_or}
use Rattle.std.specs.List.{AllByRecursion}
use Rattle.std.specs.Io.KnownBytes.{Appends, Consumes}
use Rattle.kb_store.specs.Disk.{Disk}
use Rattle.kb_isolation_spec.specs.Machine.{Opens}
use Rattle.kb_isolation_spec.specs.Calls.{opened, IsRefusedUnbound}
use Rattle.kb_broker.specs.Hosts.{OnStore, IsReadyOn, StepsTo}
use Rattle.kb_broker.specs.Truth.{SpeaksAt}
use Rattle.kb_broker.specs.Runs.{unkept}
use Rattle.kb_broker.proofs.Honest.{ready-of}
use Rattle.kb_node.specs.Traffic.{Along, AreDone, Commit, Deed, Event, Fail, Happens, IsDone, Take}

pub along_then : {D X : Type 0} (Does : D → X → X → Type 0) (ds es : List D) (a b c : X) → Along Does ds a b → Along Does es b c → Along Does (ds ++ es) a c
along_then Does [] es a b c h k = subst (λ x. Along Does es x c) h k
along_then Does (d ∷ ds) es a b c h k = (h.0, h.1, along_then Does ds es h.0 b c h.2 k)

-- and one thing more
next_done : {D X : Type 0} (Does : D → X → X → Type 0) (ds : List D) (i : ℕ) (a b c : X) → i < length ds → Along Does (take i ds) a b
    → IfSome (slice_get ds i) (λ d. Does d b c) → Along Does (take (suc i) ds) a c
next_done Does [] i a b c lt h k = absurd (omega (arith, lt))
next_done Does (d ∷ ds) zero a b c lt h k = (c, subst (λ x. Does d x c) h k, refl)
next_done Does (d ∷ ds) (suc i) a b c lt h k = (h.0, h.1, next_done Does ds i h.0 b c (omega (arith, lt)) h.2 k)

pub along_next : {D X : Type 0} (Does : D → X → X → Type 0) (ds : List D) (i : ℕ) (a b c : X) → i < length ds → Along Does (take i ds) a b
    → IfSome (slice_get ds i) (λ d. Does d b c) → Along Does (take (i + 1) ds) a c
along_next Does ds i a b c lt h k = subst (λ n. Along Does (take n ds) a c) (sym (add-one i)) (next_done Does ds i a b c lt h k)

-- the same, where it is found in a list that is that
pub along_found : {D X : Type 0} (Does : D → X → X → Type 0) (ds es : List D) (i : ℕ) (d : D) (a b c : X) → ds ≡ es → i < length ds
    → Along Does (take i es) a b → Does (slice_index_or ds i d) b c → Along Does (take (i + 1) es) a c
along_found Does ds es i d a b c same lt h k = subst (λ xs. Along Does (take (i + 1) xs) a c) same
    (along_next Does ds i a b c lt (subst (λ xs. Along Does (take i xs) a b) (sym same) h)
    (subst (λ o. IfSome o (λ x. Does x b c)) (sym (slice_get-get_or ds i d lt)) k))

-- and behind the last of them all are
pub along_all : {D X : Type 0} (Does : D → X → X → Type 0) (ds : List D) (i : ℕ) (a b : X) → length ds ≤ i → Along Does (take i ds) a b
    → Along Does ds a b
along_all Does [] zero a b le h = h
along_all Does [] (suc i) a b le h = h
along_all Does (d ∷ ds) zero a b le h = absurd (omega (arith, le))
along_all Does (d ∷ ds) (suc i) a b le h = (h.0, h.1, along_all Does ds i h.0 b (omega (arith, le)) h.2)

pub all_then : {X : Type 0} (P : X → Type 0) (xs ys : List X) → AllByRecursion P xs → AllByRecursion P ys → AllByRecursion P (xs ++ ys)
all_then P [] ys h k = k
all_then P (x ∷ xs) ys h k = (h.0, all_then P xs ys h.1 k)

-- what is known of the store may be less
pub done_knowing : {S : Type 0} (disk : S → Disk) (known less : Deed → S → Type 0) → ((d : Deed) (s : S) → known d s → less d s)
    → (d : Deed) (a b : OnStore S) → IsDone disk known d a b → IsDone disk less d a b
done_knowing disk known less weaker (Event e) a b h = h
done_knowing disk known less weaker (Take n bytes) a b h = (h.0, h.1, weaker (Take n bytes) b.store h.2)
done_knowing disk known less weaker Commit a b h = (h.0, weaker Commit b.store h.1)
done_knowing disk known less weaker Fail a b h = (h.0, weaker Fail b.store h.1)

pub all_knowing : {S : Type 0} (disk : S → Disk) (known less : Deed → S → Type 0) → ((d : Deed) (s : S) → known d s → less d s)
    → (ds : List Deed) (a b : OnStore S) → AreDone disk known ds a b → AreDone disk less ds a b
all_knowing disk known less weaker [] a b h = h
all_knowing disk known less weaker (d ∷ ds) a b h =
    (h.0, done_knowing disk known less weaker d a h.0 h.1, all_knowing disk known less weaker ds h.0 b h.2)

-- nothing was added, and nothing went
pub appends_none : (known : Option (List ℕ)) → Appends known known []
appends_none None = tt
appends_none (Some xs) = sym (append-nil xs)

pub consumes_none : (known : Option (List ℕ)) → Consumes known known []
consumes_none None = tt
consumes_none (Some xs) = refl

-- a connection that opens, or could not be kept
pub opens : {S A E : Type 0} (disk : S → Disk) (n : ℕ) (a b : OnStore S) (r : Result A E) → b.store ≡ a.store → StepsTo disk (Opens n) a b
    → SpeaksAt (Opens n) a.state b.state → IsReadyOn disk b → a.state.last < n → OnOk r (b.state ≡ opened a.state n) → OnErr r (IsRefusedUnbound a.state b.state) → Happens disk (Opens n) a b
opens disk n a b (Ok done) store step spoken ready rises is refused = record {
  step = step;
  spoken = λ honest. spoken;
  ready = ready-of disk b ready;
  honest = λ honest. subst (λ s. (disk s).honest) store honest;
  within = (rises, tt);
  leads = ([], inl (is, refl));
}
opens disk n a b (Err fault) store step spoken ready rises is refused = record {
  step = step;
  spoken = λ honest. spoken;
  ready = ready-of disk b ready;
  honest = λ honest. subst (λ s. (disk s).honest) store honest;
  within = (rises, tt);
  leads = (unkept n ∷ [], inr (refused, refl));
}
