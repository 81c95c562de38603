-- Up to when a moment leaves each tenant what it keeps.
use Rattle.std.proofs.Common.{◌≡◌, ◌∙◌, ◌⊎◌, ⊎_elim, ◌≤◌, ◌<◌, ◌≤ℤ◌, ◌+◌, ◌-◌, ◌-ℤ◌, ◌^◌, ℕ, ℤ, zero, suc, pos, negsuc, Bool, true, false, cond, nat_le, nat_lt, List, [], ◌∷◌, ◌++◌, length, drop, drop-cons, add-one, Some, None, sym, ap, refl, subst, arith}
use Rattle.std.proofs.lemmas.Bool.Decides.{nat_tests}
use Rattle.std.proofs.lemmas.Int.{ints, clamps}
use Rattle.std.proofs.lemmas.Option.{slice_get_within, get_or_from_slice_get}
use Rattle.std.specs.Prelude.{map, min, slice_get, unwrap_or}
use Rattle.std.specs.Int.{int_min}
use Rattle.std.specs.List.{flat_map}
use Rattle.std.specs.Cmp.Lexicographic.{slice_cmp}
use Rattle.std.specs.FinMap.{empty, entries, len-empty, len-entries}
use Rattle.std.specs.Ordering.{nat_cmp}
use Rattle.std.proofs.lemmas.List.{length-map, get_or_past}
use Rattle.kb_coordinator.specs.Calls as groups
use Rattle.kb_coordinator.specs.Calls.{at_moment, next_due}
use Rattle.kb_coordinator.specs.Groups.{Groups, earliest, none}
use Rattle.kb_groups.specs.Moments.{never}
use Rattle.kb_store.specs.Disk.{Files}
use Rattle.kb_log.specs.OnShelf.{Log}
use Rattle.kb_topics.specs.ByName.{by_name}
use Rattle.kb_topics.specs.Known.{TopicState}
use Rattle.kb_tenant_state.specs.Calls.{all_places, places_of_topic, retain_all, retain_each}
use Rattle.kb_tenant_state.specs.Parts.{Agrees, world_of}
use Rattle.kb_tenant_state.specs.World.{World, new_world}
use Rattle.kb_tenant_api.specs.Hosted.{TenantState, nothing, new_tenant, kept_in, kept_of, passed}
use Rattle.kb_tenant_api.specs.Turns.{IsTurn}
use Rattle.kb_tenant_state.proofs.RetainedAll.{none_due, nothing_goes}
use Rattle.kb_tenant.proofs.LogMoves.{same_or_not}
use Rattle.kb_tenants.specs.Tenants.{IsIdleUntil, clock_before, idle_time, least_idle_time}
use Rattle.kb_tenants.specs.declared.tenants.Tenant.{Tenant}

-- ---- nothing is kept

past : (ts : List TenantState) (t : ℕ) → length ts ≤ t → kept_of ts t ≡ nothing
past ts t le = get_or_past (map (λ (x : TenantState). x.kept) ts) t nothing (omega (arith, le, length-map ts (λ (x : TenantState). x.kept)))

no_item : {A : Type 0} (xs : List A) → length xs ≡ 0 → xs ≡ []
no_item [] e = refl
no_item (x ∷ xs) e = absurd (omega (arith, e))

no_topic : by_name [] ≡ []
no_topic = ap (map (λ (e : List ℕ × (ℕ × TopicState)). e.1)) (no_item (entries (empty {R = slice_cmp nat_cmp})) (sym (len-entries (empty {R = slice_cmp nat_cmp})) ∙ len-empty (slice_cmp nat_cmp) (ℕ × TopicState)))

-- where no group is a moment leaves none
no_group : (clock : ℕ) → groups.passed clock none ≡ none
no_group clock = by (nat_le (earliest none.groups) clock)
  where
    by : (b : Bool) → cond b (at_moment clock none) none ≡ none
    by true = refl
    by false = refl

-- where nothing is there is nothing due
nothing_passed : (clock : ℕ) → passed clock nothing ≡ nothing
unfolding passed
nothing_passed clock =
    ap (λ ts. kept_in (retain_each clock (flat_map places_of_topic ts) new_world).0 (groups.passed clock none)) no_topic
    ∙ ap (kept_in new_world) (no_group clock)

pub past_passed : (ts : List TenantState) (t clock : ℕ) → length ts ≤ t → passed clock (kept_of ts t) ≡ kept_of ts t
past_passed ts t clock le = subst (λ k. passed clock k ≡ k) (sym (past ts t le)) (nothing_passed clock)

-- ---- one tenant

-- at each clock up to that one a moment leaves a tenant what it keeps
abbrev pub IsQuiet : {L : Type 0} → (L → Log) → Tenant L → ℤ → Type 0
IsQuiet log x until = (files : Files) → Agrees log x.parts files → (clock : ℕ) → pos clock ≤ℤ until
    → passed clock (kept_in (world_of log x.parts files) x.groups) ≡ kept_in (world_of log x.parts files) x.groups

-- before the first moment at which a session ends or a deadline comes the groups stay
pub not_due : (clock : ℕ) (gs : Groups) → clock < earliest gs.groups → groups.passed clock gs ≡ gs
not_due clock gs early =
    let before : nat_le (earliest gs.groups) clock ≡ false = grind (arith, nat_tests) in
    ap (λ b. cond b (at_moment clock gs) gs) before

-- where the topics have nothing to drop, and the groups nothing due
pub quiet_kept : (w : World) (gs : Groups) (clock : ℕ) → retain_all clock w ≡ (w, false) → clock < earliest gs.groups → passed clock (kept_in w gs) ≡ kept_in w gs
unfolding passed
quiet_kept w gs clock quiet early = ap (λ r. kept_in r.0 (groups.passed clock gs)) quiet ∙ ap (kept_in w) (not_due clock gs early)

-- up to its own last clock
pub idle_quiet : {L : Type 0} (log : L → Log) (x : Tenant L) → IsQuiet log x (idle_time x)
idle_quiet log x files agrees clock le =
    let w = world_of log x.parts files in
    let kept : pos clock ≤ℤ x.parts.next_retention_time = omega (arith, ints, clamps, le) in
    let early : clock < earliest x.groups.groups = omega (arith, ints, clamps, le) in
    quiet_kept w x.groups clock (nothing_goes clock w (λ place. none_due w x.parts.next_retention_time clock place agrees.until kept) (all_places w)) early

-- a clock behind none of both
pub idle_bound : {L : Type 0} (x : Tenant L) (u before : ℤ) (quiet : ℕ) → quiet ≤ earliest x.groups.groups → before ≡ clock_before quiet → u ≤ℤ x.parts.next_retention_time → u ≤ℤ before → u ≤ℤ idle_time x
idle_bound x u before quiet le is own other =
    omega (arith, ints, clamps, le, is, own, other)

-- the moment at which something is due in the groups, if there is one
pub due_before : (gs : Groups) → clock_before (unwrap_or (next_due gs) never) ≡ clock_before (earliest gs.groups)
due_before gs = by (nat_lt (earliest gs.groups) never) refl
  where
    by : (b : Bool) → nat_lt (earliest gs.groups) never ≡ b → clock_before (unwrap_or (cond b (Some (earliest gs.groups)) None) never) ≡ clock_before (earliest gs.groups)
    by true e = refl
    by false e =
        let far : never ≤ earliest gs.groups = grind (arith, nat_tests) in
        let same : min never (2 ^ 63 - 1) ≡ min (earliest gs.groups) (2 ^ 63 - 1) = omega (arith, far) in
        ap (λ n. pos n -ℤ pos 1) same

-- ---- the least of some

drop_next : {A : Type 0} (xs : List A) (i : ℕ) (x : A) → slice_get xs i ≡ Some x → drop i xs ≡ x ∷ drop (i + 1) xs
drop_next xs i x at =
    drop-cons xs i x (slice_get_within xs i x at) ∙ ap (λ y. y ∷ drop (suc i) xs) (get_or_from_slice_get xs i x x at) ∙ ap (λ n. x ∷ drop n xs) (sym (add-one i))

drop_end : {A : Type 0} (xs : List A) (i : ℕ) → length xs ≤ i → drop i xs ≡ []
drop_end [] zero h = refl
drop_end [] (suc i) h = refl
drop_end (x ∷ xs) zero h = absurd (omega (arith, h))
drop_end (x ∷ xs) (suc i) h = drop_end xs i (omega (arith, h))

pub least_most : {L : Type 0} (xs : List (Tenant L)) → least_idle_time xs ≤ℤ pos (2 ^ 63 - 1)
least_most [] = omega (arith, ints)
least_most (x ∷ xs) = let rest = least_most xs in omega (arith, ints, clamps, rest)

pub least_none : (u l : ℤ) → l ≤ℤ u → int_min u l ≡ l
least_none u l le = omega (arith, ints, clamps, le)

min_regroup : (u v w : ℤ) → int_min (int_min u v) w ≡ int_min u (int_min v w)
min_regroup u v w = omega (arith, ints, clamps)

pub least_next : {L : Type 0} (xs : List (Tenant L)) (i : ℕ) (x : Tenant L) (u v all : ℤ) → slice_get xs i ≡ Some x → v ≡ int_min u (idle_time x) → int_min u (least_idle_time (drop i xs)) ≡ all
    → int_min v (least_idle_time (drop (i + 1) xs)) ≡ all
least_next xs i x u v all at is so_far =
    ap (λ z. int_min z (least_idle_time (drop (i + 1) xs))) is ∙ min_regroup u (idle_time x) (least_idle_time (drop (i + 1) xs))
    ∙ sym (ap (λ ys. int_min u (least_idle_time ys)) (drop_next xs i x at)) ∙ so_far

pub least_over : {L : Type 0} (xs : List (Tenant L)) (i : ℕ) (u all : ℤ) → length xs ≤ i → u ≤ℤ pos (2 ^ 63 - 1) → int_min u (least_idle_time (drop i xs)) ≡ all → u ≡ all
least_over xs i u all past most so_far =
    sym (least_first u (pos (2 ^ 63 - 1)) most) ∙ sym (ap (λ ys. int_min u (least_idle_time ys)) (drop_end xs i past)) ∙ so_far
  where
    least_first : (a b : ℤ) → a ≤ℤ b → int_min a b ≡ a
    least_first a b le = omega (arith, ints, clamps, le)

-- ---- all tenants

-- where there is none
pub idle_none : (until : ℤ) (ts : List TenantState) → ts ≡ [] → IsIdleUntil until ts
idle_none until ts none t clock le = past_passed ts t clock (omega (arith, ap length none))

-- where nothing is known of any
pub idle_unknown : (ts : List TenantState) → IsIdleUntil (negsuc 0) ts
idle_unknown ts t clock le = absurd (omega (arith, ints, le))

-- where all keep what they kept
pub idle_stays : (until : ℤ) (old new : List TenantState) → ((t : ℕ) → kept_of new t ≡ kept_of old t) → IsIdleUntil until old → IsIdleUntil until new
idle_stays until old new same idle t clock le = ap (passed clock) (same t) ∙ idle t clock le ∙ sym (same t)

-- where one is looked at, and the others keep what they kept
pub idle_turn : (until later : ℤ) (t : ℕ) (H : Type 0) (old new : List TenantState) → IsTurn t H old new → H → until ≤ℤ later → IsIdleUntil later old
    → ((clock : ℕ) → pos clock ≤ℤ until → passed clock (kept_of new t) ≡ kept_of new t) → IsIdleUntil until new
idle_turn until later t H old new turn honest sooner idle own u clock le = ⊎_elim
    (λ same. subst (λ v. passed clock (kept_of new v) ≡ kept_of new v) (sym same) (own clock le))
    (λ ne. let stays = turn.others honest u ne in ap (passed clock) stays ∙ idle u clock (omega (arith, ints, sooner, le)) ∙ sym stays)
    (same_or_not u t)

kept_pushed : (ts : List TenantState) (name : List ℕ) (t : ℕ) → kept_of (ts ++ new_tenant name ∷ []) t ≡ kept_of ts t
kept_pushed [] name zero = refl
kept_pushed [] name (suc t) = refl
kept_pushed (x ∷ ts) name zero = refl
kept_pushed (x ∷ ts) name (suc t) = kept_pushed ts name t

-- one that keeps nothing is added
pub idle_added : (until : ℤ) (ts : List TenantState) (name : List ℕ) → IsIdleUntil until ts → IsIdleUntil until (ts ++ new_tenant name ∷ [])
idle_added until ts name = idle_stays until ts (ts ++ new_tenant name ∷ []) (kept_pushed ts name)

-- ---- tenant by tenant

-- at each clock up to that one a moment leaves each tenant before a place what it keeps
abbrev pub IsIdleBelow : ℕ → ℤ → List TenantState → Type 0
IsIdleBelow i until ts = (t clock : ℕ) → t < i → pos clock ≤ℤ until → passed clock (kept_of ts t) ≡ kept_of ts t

pub below_or_not : (u i : ℕ) → (u < i) ⊎ (i ≤ u)
below_or_not u i = grind arith

-- one more is looked at
-- the sooner of two times is at most each of them
pub sooner_first : (a b v : ℤ) → v ≡ int_min a b → v ≤ℤ a
sooner_first a b v is = omega (arith, ints, clamps, is)

pub sooner_second : (a b v clock : ℤ) → v ≡ int_min a b → clock ≤ℤ v → clock ≤ℤ b
sooner_second a b v clock is le = omega (arith, ints, clamps, is, le)

pub sooner_most : (a b v most : ℤ) → v ≡ int_min a b → a ≤ℤ most → v ≤ℤ most
sooner_most a b v most is le = omega (arith, ints, clamps, is, le)

pub idle_next : (i : ℕ) (until later : ℤ) (ts : List TenantState) → until ≤ℤ later → IsIdleBelow i later ts
    → ((clock : ℕ) → pos clock ≤ℤ until → passed clock (kept_of ts i) ≡ kept_of ts i) → IsIdleBelow (i + 1) until ts
idle_next i until later ts sooner below here t clock lt le = ⊎_elim
    (λ before. below t clock before (omega (arith, ints, sooner, le)))
    (λ from. let same : i ≡ t = omega (arith, lt, from) in subst (λ v. passed clock (kept_of ts v) ≡ kept_of ts v) same (here clock le))
    (below_or_not t i)

-- behind the last tenant
pub idle_over : (i : ℕ) (until : ℤ) (ts : List TenantState) → length ts ≤ i → IsIdleBelow i until ts → IsIdleUntil until ts
idle_over i until ts all below t clock le = ⊎_elim
    (λ before. below t clock before le)
    (λ from. past_passed ts t clock (omega (arith, all, from)))
    (below_or_not t i)
