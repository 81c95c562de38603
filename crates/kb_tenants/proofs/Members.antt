-- Tenants of which the first new member gets a number.
use Rattle.std.proofs.Common.{◌≡◌, ◌∙◌, ◌<◌, ◌≤◌, ◌+◌, ℕ, ℤ, zero, suc, Bool, true, false, cond, nat_le, List, [], ◌∷◌, ◌++◌, Some, length, take, drop, slice_set, slice_index_or, refl, sym, ap, subst, arith}
use Rattle.std.specs.Prelude.{map, slice_get, string_bytes}
use Rattle.std.specs.Vec.{with_items}
use Rattle.std.proofs.lemmas.List.{length-map, with_items_is}
use Rattle.std.specs.declared.alloc.Global.{Global}
use Rattle.std.specs.declared.vec.Vec.{Vec}
use Rattle.kb_coordinator.specs.Calls as calls
use Rattle.kb_coordinator.specs.Calls.{at_moment}
use Rattle.kb_coordinator.specs.Groups.{Groups, earliest}
use Rattle.kb_coordinator.specs.Groups as groups
use Rattle.kb_store.specs.Disk.{Disk, Files}
use Rattle.kb_log.specs.OnShelf.{Log}
use Rattle.kb_tenant_state.specs.Calls.{retain_all}
use Rattle.kb_tenant_api.specs.Hosted.{Kept, TenantState, kept_in, passed}
use Rattle.kb_tenants.specs.Members.{HasNoGroup, HaveNoGroup, kept_numbered_from, numbered_from, renumbered, tenant_numbered_from}
use Rattle.kb_tenants.specs.Tenants.{AllAgree, AreKept, AllAreSound, AreAccountedFor, IsIdleUntil, IsLeftAlone, hosted, parts_of, state_of, strays_of}
use Rattle.kb_tenants.specs.declared.tenants.Tenant.{Tenant}
use Rattle.kb_tenants.specs.declared.tenants.Tenants.{Tenants}

-- ---- lists that are changed place by place

-- the next one is changed
pub next_mapped : {A : Type 0} (f : A → A) (xs : List A) (i : ℕ) (d v : A) → i < length xs → v ≡ f (slice_index_or xs i d)
    → take (suc i) (slice_set xs i v) ++ map f (drop (suc i) (slice_set xs i v)) ≡ take i xs ++ map f (drop i xs)
next_mapped f [] i d v lt e = absurd (omega (arith, lt))
next_mapped f (x ∷ xs) zero d v lt e = ap (λ w. w ∷ map f xs) e
next_mapped f (x ∷ xs) (suc i) d v lt e = ap (λ ys. x ∷ ys) (next_mapped f xs i d v (omega (arith, lt)) e)

-- those after it stay
pub next_stays : {A : Type 0} (P : A → Type 0) (xs : List A) (i : ℕ) (v : A) → ((k : ℕ) (d : A) → i ≤ k → k < length xs → P (slice_index_or xs k d))
    → (k : ℕ) (d : A) → i + 1 ≤ k → k < length (slice_set xs i v) → P (slice_index_or (slice_set xs i v) k d)
next_stays P [] i v all k d le lt = absurd (omega (arith, lt))
next_stays P (x ∷ xs) zero v all zero d le lt = absurd (omega (arith, le))
next_stays P (x ∷ xs) zero v all (suc k) d le lt = all (suc k) d (omega arith) lt
next_stays P (x ∷ xs) (suc i) v all zero d le lt = absurd (omega (arith, le))
next_stays P (x ∷ xs) (suc i) v all (suc k) d le lt =
    next_stays P xs i v (λ j e ge below. all (suc j) e (omega (arith, ge)) (omega (arith, below))) k d (omega (arith, le)) (omega (arith, lt))

-- ---- a moment

passed_groups : (first clock : ℕ) (gs : Groups) → calls.passed clock (groups.numbered_from first gs) ≡ groups.numbered_from first (calls.passed clock gs)
passed_groups first clock gs = by (nat_le (earliest gs.groups) clock)
  where
    by : (b : Bool) → cond b (at_moment clock (groups.numbered_from first gs)) (groups.numbered_from first gs) ≡ groups.numbered_from first (cond b (at_moment clock gs) gs)
    by true = refl
    by false = refl

passed_numbered : (first clock : ℕ) (k : Kept) → passed clock (kept_numbered_from first k) ≡ kept_numbered_from first (passed clock k)
unfolding passed
passed_numbered first clock k = ap (kept_in (retain_all clock k.world).0) (passed_groups first clock k.groups)

idle_numbered : (first : ℕ) (until : ℤ) (ts : List TenantState) → IsIdleUntil until ts → IsIdleUntil until (numbered_from first ts)
idle_numbered first until [] idle t clock le = idle t clock le
idle_numbered first until (x ∷ ts) idle zero clock le = passed_numbered first clock x.kept ∙ ap (kept_numbered_from first) (idle zero clock le)
idle_numbered first until (x ∷ ts) idle (suc t) clock le = idle_numbered first until ts (λ u. idle (suc u)) t clock le

-- ---- all tenants

pub none_in : {L : Type 0} (log : L → Log) (files : Files) (ts : List (Tenant L)) → HaveNoGroup (map (state_of log files) ts)
    → (k : ℕ) (d : Tenant L) → k < length ts → HasNoGroup (slice_index_or ts k d)
none_in log files [] none k d lt = absurd (omega (arith, lt))
none_in log files (x ∷ ts) none zero d lt = none zero
none_in log files (x ∷ ts) none (suc k) d lt = none_in log files ts (λ t. none (suc t)) k d (omega (arith, lt))

-- the list of all, once each of its items is numbered
pub items_numbered : {L : Type 0} (first : ℕ) (v : Vec (Tenant L) Global) (now new : List (Tenant L)) → now ≡ v.items → new ≡ map (renumbered first) now → (with_items v new).items ≡ map (renumbered first) v.items
items_numbered first v now new same is =
    let all : new ≡ map (renumbered first) v.items = is ∙ ap (map (renumbered first)) same in
    with_items_is v new (omega (arith, ap length all, length-map v.items (renumbered first), v.ok.0)) ∙ all

parts_stay : {L : Type 0} (first : ℕ) (ts : List (Tenant L)) → parts_of (map (renumbered first) ts) ≡ parts_of ts
parts_stay first [] = refl
parts_stay first (x ∷ ts) = ap (λ ps. x.parts ∷ ps) (parts_stay first ts)

states_numbered : {L : Type 0} (log : L → Log) (files : Files) (first : ℕ) (ts : List (Tenant L)) → map (state_of log files) (map (renumbered first) ts) ≡ numbered_from first (map (state_of log files) ts)
states_numbered log files first [] = refl
states_numbered log files first (x ∷ ts) = ap (λ ss. tenant_numbered_from first (state_of log files x) ∷ ss) (states_numbered log files first ts)

-- each tenant has its parts under its name
abbrev AreNamed : {L : Type 0} → List (Tenant L) → Type 0
AreNamed {L} ts = (t : ℕ) (x : Tenant L) → slice_get ts t ≡ Some x → string_bytes x.parts.tenant ≡ string_bytes x.name

names_stay : {L : Type 0} (first : ℕ) (ts : List (Tenant L)) → AreNamed ts → AreNamed (map (renumbered first) ts)
names_stay first [] named t x at = absurd cc
names_stay {L} first (y ∷ ts) named zero x at =
    let same : renumbered first y ≡ x = cc in
    subst (λ (z : Tenant L). string_bytes z.parts.tenant ≡ string_bytes z.name) same (named zero y refl)
names_stay first (y ∷ ts) named (suc t) x at = names_stay first ts (λ u. named (suc u)) t x at

module _ {L S : Type 0} (log : L → Log) (disk : S → Disk) (first : ℕ) (old : Tenants L S) (v : Vec (Tenant L) Global) (is : v.items ≡ map (renumbered first) old.tenants.items) where
  pub parts_numbered : parts_of v.items ≡ parts_of old.tenants.items
  parts_numbered = ap parts_of is ∙ parts_stay first old.tenants.items

  pub hosted_numbered : hosted log disk (record old { tenants = v }) ≡ numbered_from first (hosted log disk old)
  hosted_numbered = ap (map (state_of log (disk old.shelf.store).files)) is ∙ states_numbered log (disk old.shelf.store).files first old.tenants.items

  pub kept_numbered : AreKept log disk old → AreKept log disk (record old { tenants = v })
  kept_numbered kept = record {
    sound = subst (λ ps. AllAreSound log ps (disk old.shelf.store).table old.shelf.next) (sym parts_numbered) kept.sound;
    named = subst (λ (xs : List (Tenant L)). AreNamed xs) (sym is) (names_stay first old.tenants.items kept.named);
    apart = λ file stray. subst (λ ps. IsLeftAlone log ps old.shelf.next file) (sym parts_numbered) (kept.apart file stray);
    accounts = λ known honest. subst (λ ps. AreAccountedFor log ps (strays_of old.strays) (disk old.shelf.store) old.shelf.next) (sym parts_numbered) (kept.accounts known honest);
    agree = λ honest. subst (λ ps. AllAgree log ps (disk old.shelf.store).files) (sym parts_numbered) (kept.agree honest);
    until = λ honest. subst (λ ts. IsIdleUntil old.next_retention_time ts) (sym hosted_numbered) (idle_numbered first old.next_retention_time (hosted log disk old) (kept.until honest));
  }
