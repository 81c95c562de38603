-- How many of each tenant's refusals are the store's, by place, before calls and after them.
use Rattle.std.proofs.Common.{◌≡◌, ◌∙◌, ◌⊎◌, ⊎_elim, inl, inr, ◌≤◌, ◌<◌, ◌+◌, ◌-◌, ℕ, List, [], ◌∷◌, zero, suc, length, get_or, ap, refl, subst, sym, arith}
use Rattle.std.specs.Prelude.{map, max, min}
use Rattle.std.proofs.lemmas.List.{get_or_past, length-map}
use Rattle.kb_over_limit.specs.declared.over.OverLimit.{OverLimit}
use Rattle.kb_store.specs.Disk.{Disk}
use Rattle.kb_log.specs.OnShelf.{Log}
use Rattle.kb_tenant_state.specs.Counts.{END}
use Rattle.kb_tenant.proofs.LogMoves.{same_or_not}
use Rattle.kb_tenant_api.specs.Hosted.{TenantState, refusals_of}
use Rattle.kb_tenants.specs.Counts.{AreCounted, AreCountedFor, AreSameCounts, AreShared, HasEndedAtStore, IsCountedBy, counts_of, no_counts, risen, shared_as, all_counts, store_total}
use Rattle.kb_tenants.specs.Tenants.{hosted, state_of}
use Rattle.kb_tenants.specs.declared.counts.Counts.{Counts}
use Rattle.kb_tenants.specs.declared.tenants.Tenant.{Tenant}
use Rattle.kb_tenants.specs.declared.tenants.Tenants.{Tenants}
use Rattle.kb_tenants.proofs.Accounted.{accounted_rises, accounted_then}
use Rattle.kb_tenants.proofs.Causes.{all_counted_next, all_counted_none}

-- 1. By place

total_as : (n : ℕ) (f g : ℕ → Counts) → ((u : ℕ) → (g u).by_store ≡ (f u).by_store) → store_total n g ≡ store_total n f
total_as zero f g same = refl
total_as (suc n) f g same =
    let rest = total_as n f g same in
    let last = same n in
    omega (arith, rest, last)

-- 2. No call, and calls in turn

pub shares_same : (ps : List TenantState) (f : ℕ) (counts : List Counts) → AreShared ps ps f f counts counts
shares_same ps f counts = all_counted_none ps f (shared_as counts)

-- refusals were counted, none of which is the store's
pub shares_rise : (ps qs : List TenantState) (f : ℕ) (counts : List Counts) → length qs ≡ length ps → ((u : ℕ) → refusals_of ps u ≤ refusals_of qs u) → AreShared ps qs f f counts counts
shares_rise ps qs f counts many grows = record {
  accounted = accounted_rises ps qs f many grows;
  store = inl refl;
  among = λ t. (let up = grows t in omega (arith, up));
  rise = λ t. omega arith;
}

pub shares_then : (ps qs rs : List TenantState) (f g h : ℕ) (old mid new : List Counts) → length qs ≡ length ps → ((u : ℕ) → refusals_of qs u ≤ refusals_of rs u)
    → AreShared ps qs f g old mid → AreShared qs rs g h mid new → AreShared ps rs f h old new
shares_then ps qs rs f g h old mid new many grows first second =
    let then : AreCounted qs rs g h (shared_as mid) (shared_as new) = second in
    record {
      accounted = accounted_then ps qs rs f g h grows first.accounted second.accounted;
      store = ⊎_elim
          (λ sum. ⊎_elim
          (λ (more : store_total (length qs) (shared_as new) + g ≡ store_total (length qs) (shared_as mid) + h).
          let all = subst (λ n. store_total n (shared_as new) + g ≡ store_total n (shared_as mid) + h) many more in
          inl (omega (arith, sum, all)))
          (λ ended. inr ended) then.store)
          (λ ended. inr (let far = ended.1 in let up = second.rise ended.0 in (ended.0, omega (arith, far, up))))
          first.store;
      among = λ t. (let a = first.among t in let b = second.among t in let c = first.rise t in let d = second.rise t in omega (arith, a, b, c, d));
      rise = λ t. (let c = first.rise t in let d = second.rise t in omega (arith, c, d));
    }

-- 3. What is counted of tenants on their shelf

-- none of the counts is another
all_same : {L : Type 0} (xs ys : List (Tenant L)) → length ys ≡ length xs
    → ((t : ℕ) → get_or (map (λ (x : Tenant L). x.counts) ys) t no_counts ≡ get_or (map (λ (x : Tenant L). x.counts) xs) t no_counts)
    → map (λ (x : Tenant L). x.counts) ys ≡ map (λ (x : Tenant L). x.counts) xs
all_same [] [] many same = refl
all_same [] (y ∷ ys) many same = absurd (omega (arith, many))
all_same (x ∷ xs) [] many same = absurd (omega (arith, many))
all_same {L} (x ∷ xs) (y ∷ ys) many same =
    ap (λ n. n ∷ map (λ (z : Tenant L). z.counts) ys) (same 0)
    ∙ ap (λ ns. x.counts ∷ ns) (all_same xs ys (omega (arith, many)) (λ t. same (suc t)))

module _ {L S : Type 0} (log : L → Log) (disk : S → Disk) (old new : Tenants L S) where
  pub shares_kept : length (hosted log disk new) ≡ length (hosted log disk old) → AreSameCounts old new → all_counts new ≡ all_counts old
  shares_kept many same =
      let before = length-map old.tenants.items (state_of log (disk old.shelf.store).files) in
      let after = length-map new.tenants.items (state_of log (disk new.shelf.store).files) in
      all_same old.tenants.items new.tenants.items (omega (arith, many, before, after)) same

  pub shares_passed : AreCountedFor log disk old new
      → AreShared (hosted log disk old) (hosted log disk new) (disk old.shelf.store).failures (disk new.shelf.store).failures (all_counts old) (all_counts new)
  shares_passed h = h

  -- a call for one of them
  pub shares_called : {told : OverLimit → OverLimit} (t : ℕ) → t < length (hosted log disk old) → (disk old.shelf.store).failures ≤ (disk new.shelf.store).failures
      → ((u : ℕ) → refusals_of (hosted log disk old) u ≤ refusals_of (hosted log disk new) u) → IsCountedBy told t (hosted log disk old) (hosted log disk new) (disk old.shelf.store).failures (disk new.shelf.store).failures (counts_of old) (counts_of new)
      → AreShared (hosted log disk old) (hosted log disk new) (disk old.shelf.store).failures (disk new.shelf.store).failures (all_counts old) (all_counts new)
  shares_called t lt more grows h =
      let ps = hosted log disk old in
      let f = (disk old.shelf.store).failures in
      shares_passed (all_counted_next t ps ps (hosted log disk new) f f (disk new.shelf.store).failures (counts_of old) (counts_of old) (counts_of new) lt (omega arith) more grows (all_counted_none ps f (counts_of old)) h)

  uncounted : (ts : Tenants L S) (t : ℕ) → length (hosted log disk ts) ≤ t → (counts_of ts t).by_store ≡ 0
  uncounted ts t past =
      let many = length-map ts.tenants.items (state_of log (disk ts.shelf.store).files) in
      ap (λ (c : Counts). c.by_store) (get_or_past (all_counts ts) t no_counts (omega (arith, past, many, length-map ts.tenants.items (λ (x : Tenant L). x.counts))))

  -- or for none, at a place behind the last
  pub shares_turned : {told : OverLimit → OverLimit} (t : ℕ) → length (hosted log disk new) ≡ length (hosted log disk old) → (disk old.shelf.store).failures ≤ (disk new.shelf.store).failures
      → ((u : ℕ) → refusals_of (hosted log disk old) u ≤ refusals_of (hosted log disk new) u) → IsCountedBy told t (hosted log disk old) (hosted log disk new) (disk old.shelf.store).failures (disk new.shelf.store).failures (counts_of old) (counts_of new)
      → AreShared (hosted log disk old) (hosted log disk new) (disk old.shelf.store).failures (disk new.shelf.store).failures (all_counts old) (all_counts new)
  shares_turned t many more grows h = ⊎_elim (λ lt. shares_called t lt more grows h) (λ past. shares_passed (behind past)) (there_or_past t (length (hosted log disk old)))
    where
      there_or_past : (m n : ℕ) → (m < n) ⊎ (n ≤ m)
      there_or_past m n = grind arith

      behind : length (hosted log disk old) ≤ t → AreCountedFor log disk old new
      behind past =
          let was = uncounted old t past in
          let is = uncounted new t (omega (arith, past, many)) in
          let store = h.store in
          let none : (disk new.shelf.store).failures ≡ (disk old.shelf.store).failures = omega (arith, was, is, store, more) in
          let same : (u : ℕ) → (counts_of new u).by_store ≡ (counts_of old u).by_store = λ u. ⊎_elim
          (λ (here : u ≡ t). subst (λ k. (counts_of new k).by_store ≡ (counts_of old k).by_store) (sym here) (is ∙ sym was))
          (λ (ne : u ≡ t → ⊥). ap (λ (c : Counts). c.by_store) (h.others u ne))
          (same_or_not u t) in
          let all = total_as (length (hosted log disk old)) (counts_of old) (counts_of new) same in
          record {
            accounted = h.accounted;
            store = inl (omega (arith, all, none));
            among = λ u. (let e = same u in let up = grows u in omega (arith, e, up));
            rise = λ u. (let e = same u in omega (arith, e));
          }
