-- What a tenant's partitions are after other files changed.
use Rattle.std.proofs.Common.{◌≡◌, ◌∙◌, ◌<◌, ℕ, zero, suc, Bool, true, false, cond, List, [], ◌∷◌, Option, Some, None, refl, sym, ap, arith, length}
use Rattle.std.specs.Prelude.{slice_get}
use Rattle.std.specs.Option.{option_and_then}
use Rattle.std.specs.Ordering.{nat_cmp, match_ordering, is_eq}
use Rattle.std.specs.FinMap.{get}
use Rattle.std.specs.List.Sorted.{IsStrictlySortedBy}
use Rattle.std.specs.Map.{keys_of, lookup}
use Rattle.std.specs.BTreeMap.{insert_entry, is_at}
use Rattle.std.specs.declared.cmp.Ordering.{Ordering}
use Rattle.std.specs.declared.cmp.Ordering.TheVariants.{Less, Equal, Greater}
use Rattle.kb_store.specs.Disk.{Table, Files}
use Rattle.kb_producers.specs.Batches.{kept_all}
use Rattle.kb_segment_log.specs.SegmentLog.{segment_log}
use Rattle.kb_segment_log.specs.SegmentLaws.{segment_lawful}
use Rattle.kb_segment_log.specs.declared.log.SegmentLog.{SegmentLog}
use Rattle.kb_tenant_state.specs.Logs.{LogState, Logs, log_at}
use Rattle.kb_tenant_state.specs.Partitions.{Entries, Owned, AreSound, AreExact, Agree, partition_at, log_state, logs_of}
use Rattle.kb_tenant_state.specs.declared.partition.Partition.{Partition}
use Rattle.kb_tenant_state.proofs.Changed.{found_at, shown}
use Rattle.kb_tenant_state.proofs.Put.{own_number, same_number, map_same, values_same}

-- ---- their own files stay

module _ (es : Entries SegmentLog) where
  here : (i p : ℕ) (x : Partition SegmentLog) → partition_at i p es ≡ Some x → (file : ℕ) → (segment_log x.log).owns file → Owned segment_log es file
  here i p x at file own = record { instance = i; number = p; partition = x; at = at; own = own }

  pub sound_stays : (old new : Table) (next : ℕ) → ((file : ℕ) → Owned segment_log es file → get new file ≡ get old file) → AreSound segment_log es old next → AreSound segment_log es new next
  sound_stays old new next same s = record {
    ordered = s.ordered;
    each = λ i p x at. (segment_lawful x.log).sound_stays old new next next (s.each i p x at) (omega arith) (λ file own. same file (here i p x at file own));
    apart = s.apart;
  }

  pub exact_stays : (old new : Table) → ((file : ℕ) → Owned segment_log es file → get new file ≡ get old file) → AreExact segment_log es old → AreExact segment_log es new
  exact_stays old new same e i p x at =
      let was = e i p x at in
      ((segment_lawful x.log).exact_stays old new was.0 (λ file own. same file (here i p x at file own)), was.1)

  pub agree_stays : (old new : Files) → ((file : ℕ) → Owned segment_log es file → get new file ≡ get old file) → Agree segment_log es old → Agree segment_log es new
  agree_stays old new same a = record {
    each = λ i p x at. (segment_lawful x.log).agrees_stays old new (a.each i p x at) (λ file own. same file (here i p x at file own));
    producers = λ i p x at. a.producers i p x at ∙ sym (ap kept_all ((segment_lawful x.log).batches_stay old new (λ file own. same file (here i p x at file own))));
  }

  state_stays : (old new : Files) → ((file : ℕ) → Owned segment_log es file → get new file ≡ get old file) → (i p : ℕ) (x : Partition SegmentLog) → partition_at i p es ≡ Some x
      → log_state (segment_log x.log) new ≡ log_state (segment_log x.log) old
  state_stays old new same i p x at =
      ap (λ bs. (let s : LogState = record { start = (segment_log x.log).start; end = (segment_log x.log).end; batches = bs } in s))
      ((segment_lawful x.log).batches_stay old new (λ file own. same file (here i p x at file own)))

  pub logs_stay : (old new : Files) → ((file : ℕ) → Owned segment_log es file → get new file ≡ get old file) → IsStrictlySortedBy nat_cmp (keys_of es) → logs_of segment_log es new ≡ logs_of segment_log es old
  logs_stay old new same ordered = values_same (shown segment_log old) (shown segment_log new) es ordered (λ j v found.
      map_same (λ (x : Partition SegmentLog). log_state (segment_log x.log) old) (λ (x : Partition SegmentLog). log_state (segment_log x.log) new) v.items
      (λ q x at. state_stays old new same j q x (found_at es j q (Some v) found ∙ at)))

-- ---- one more entry

-- a key that is one number is not another
apart : (i j k : ℕ) → (j ≡ i → ⊥) → is_at (nat_cmp i) k ≡ true → is_at (nat_cmp j) k ≡ false
apart i j k ne e = by (is_at (nat_cmp j) k) refl
  where
    by : (b : Bool) → is_at (nat_cmp j) k ≡ b → is_at (nat_cmp j) k ≡ false
    by false f = f
    by true f = absurd (ne (same_number j k f ∙ sym (same_number i k e)))

pub insert_other : {A : Type 0} (es : List (ℕ × A)) (i j : ℕ) (v : A) → (j ≡ i → ⊥) → lookup (is_at (nat_cmp j)) (insert_entry nat_cmp es i v) ≡ lookup (is_at (nat_cmp j)) es
insert_other [] i j v ne = ap (λ b. cond b (Some v) None) (apart i j i ne (own_number i))
insert_other {A} (e ∷ es) i j v ne = by (nat_cmp i e.0) refl (insert_other es i j v ne)
  where
    by : (o : Ordering) → nat_cmp i e.0 ≡ o → lookup (is_at (nat_cmp j)) (insert_entry nat_cmp es i v) ≡ lookup (is_at (nat_cmp j)) es
        → lookup (is_at (nat_cmp j)) (match_ordering {X = List (ℕ × A)} o ((i, v) ∷ e ∷ es) ((e.0, v) ∷ es) (e ∷ insert_entry nat_cmp es i v)) ≡ lookup (is_at (nat_cmp j)) (e ∷ es)
    by Less here rest = ap (λ b. cond b (Some v) (lookup (is_at (nat_cmp j)) (e ∷ es))) (apart i j i ne (own_number i))
    by Equal here rest =
        let past = apart i j e.0 ne (ap is_eq here) in
        ap (λ b. cond b (Some v) (lookup (is_at (nat_cmp j)) es)) past ∙ sym (ap (λ b. cond b (Some e.1) (lookup (is_at (nat_cmp j)) es)) past)
    by Greater here rest = ap (λ o. cond (is_at (nat_cmp j) e.0) (Some e.1) o) rest

pub insert_same : {A : Type 0} (es : List (ℕ × A)) (i : ℕ) (v : A) → lookup (is_at (nat_cmp i)) (insert_entry nat_cmp es i v) ≡ Some v
insert_same [] i v = ap (λ b. cond b (Some v) None) (own_number i)
insert_same {A} (e ∷ es) i v = by (nat_cmp i e.0) refl (insert_same es i v)
  where
    by : (o : Ordering) → nat_cmp i e.0 ≡ o → lookup (is_at (nat_cmp i)) (insert_entry nat_cmp es i v) ≡ Some v
        → lookup (is_at (nat_cmp i)) (match_ordering {X = List (ℕ × A)} o ((i, v) ∷ e ∷ es) ((e.0, v) ∷ es) (e ∷ insert_entry nat_cmp es i v)) ≡ Some v
    by Less here rest = ap (λ b. cond b (Some v) (lookup (is_at (nat_cmp i)) (e ∷ es))) (own_number i)
    by Equal here rest = ap (λ b. cond b (Some v) (lookup (is_at (nat_cmp i)) es)) (ap is_eq here)
    by Greater here rest = ap (λ b. cond b (Some e.1) (lookup (is_at (nat_cmp i)) (insert_entry nat_cmp es i v))) (ap is_eq here) ∙ rest

-- ---- a log that is found

pub log_found : (ls : Logs) (i p : ℕ) (t : Option (List LogState)) → lookup (is_at (nat_cmp i)) ls ≡ t → log_at i p ls ≡ option_and_then (λ (t : List LogState). slice_get t p) t
log_found ls i p t e = ap (λ o. option_and_then (λ (t : List LogState). slice_get t p) o) e

-- a place within a list has an item
pub item_within : {A : Type 0} (xs : List A) (p : ℕ) → p < length xs → (x : A) × (slice_get xs p ≡ Some x)
item_within [] p lt = absurd (omega (arith, lt))
item_within (x ∷ xs) zero lt = (x, refl)
item_within (x ∷ xs) (suc p) lt = item_within xs p (omega (arith, lt))
