-- What a call for one tenant is to those who see each tenant's name, what it keeps and its count.
use Rattle.std.proofs.Common.{◌≡◌, ◌∙◌, ◌≤◌, ◌<◌, ◌+◌, ◌≤ℤ◌, ⊎_elim, ℕ, ℤ, pos, zero, suc, Bool, true, false, cond, eqb, List, [], ◌∷◌, Option, Some, None, length, get_or, sym, ap, refl, subst, arith}
use Rattle.std.specs.Prelude.{map, min, slice_get, slice_set, option_map, string_bytes, ◌&&◌}
use Rattle.std.specs.Bool.{MatchBool}
use Rattle.std.specs.List.{AllWithin, HoldsAt, list_all}
use Rattle.std.specs.Vec.{with_item}
use Rattle.std.proofs.lemmas.List.Folds.{list_all_at}
use Rattle.std.proofs.lemmas.List.Sums.{list_all-from_AllPass}
use Rattle.std.proofs.lemmas.List.{map-set, length-map, get_or-set_other}
use Rattle.std.proofs.lemmas.Option.{slice_get-map, get_or_from_slice_get}
use Rattle.std.proofs.Math.Seq.{map-set_same}
use Rattle.kb_coordinator.specs.Calls as groups
use Rattle.kb_coordinator.specs.Groups.{Groups, limited, none}
use Rattle.kb_coordinator.specs.declared.limits.Limits.{Limits}
use Rattle.kb_store.specs.Disk.{Disk, Files}
use Rattle.kb_log.specs.OnShelf.{Log, IsLawfulLog}
use Rattle.kb_log.specs.Shelf.{Shelved}
use Rattle.kb_tenant_state.specs.Scene.{WhereHonest}
use Rattle.kb_tenant_state.specs.Parts.{Agrees, IsSound, meta, scene, world_of, raised, refused}
use Rattle.kb_tenant_state.specs.Counts.{END, IsCalm, counted_by, counted_once}
use Rattle.kb_tenant_state.specs.Steps.{Meets, step_same}
use Rattle.kb_tenant_state.specs.World.{World}
use Rattle.kb_tenant_state.specs.declared.parts.Parts.{Parts}
use Rattle.kb_tenant_state.proofs.Lifted.{loud, refused_step}
use Rattle.kb_tenant_api.specs.Hosted.{TenantState, Kept, nothing, kept_in, kept_of, left, passed, refusals_of, names_of}
use Rattle.kb_tenant_api.specs.Turns.{IsAccounted, IsTurn, IsMet, with_kept, all_calm}
use Rattle.kb_tenant_state.proofs.Put.{get_put}
use Rattle.kb_tenant.proofs.LogMoves.{same_or_not}
use Rattle.kb_tenants.specs.Limited.{kept_limited, limited_at}
use Rattle.kb_tenants.specs.Members.{HaveNoGroup}
use Rattle.kb_tenants.specs.Tenants.{AreKept, AreLeftAlone, AreAccountedFor, IsIdleUntil, IsLeftAlone, commands_of, hosted}
use Rattle.kb_tenants.specs.Tenants.{parts_of, regrouped, state_of, strays_of}
use Rattle.kb_tenants.specs.Turns.{IsShelfTurn, seen_at}
use Rattle.kb_tenants.specs.declared.counts.Counts.{Counts}
use Rattle.kb_tenants.specs.declared.tenants.Tenant.{Tenant}
use Rattle.kb_tenants.specs.declared.tenants.Tenants.{Tenants}
use Rattle.kb_tenants.proofs.Accounted.{accounted_rises, accounted_turn}
use Rattle.kb_tenants.proofs.Change.{IsChange, called, raised_change, raised_met}
use Rattle.kb_tenants.proofs.Idle.{IsQuiet, idle_stays, idle_turn}
use Rattle.kb_tenants.proofs.Others.{alone_stays, bytes_stay, found, put_here, accounts_stay, turn}
use Rattle.kb_tenants.proofs.Passed.{length_named}

-- ---- lists

-- a tenant's place is among the tenants that are seen
within : {A B : Type 0} (f : A → B) (xs : List A) (t : ℕ) → t < length (map f xs) → t < length xs
within f xs t lt = subst (λ n. t < n) (length-map xs f) lt

-- a greater count at a place, and no count is less
rises : (ns : List ℕ) (t u n : ℕ) → get_or ns t 0 ≤ n → get_or ns u 0 ≤ get_or (slice_set ns t n) u 0
rises [] t u n le = omega arith
rises (m ∷ ns) zero zero n le = le
rises (m ∷ ns) zero (suc u) n le = omega arith
rises (m ∷ ns) (suc t) zero n le = omega arith
rises (m ∷ ns) (suc t) (suc u) n le = rises ns t u n le

-- ---- what is seen of the tenants

names_in : {L : Type 0} → List (Tenant L) → List (List ℕ)
names_in {L} ts = map (λ (x : Tenant L). string_bytes x.name) ts

counts_in : {L : Type 0} → List (Tenant L) → List ℕ
counts_in {L} ts = map (λ (x : Tenant L). x.parts.refusals) ts

groups_in : {L : Type 0} → List (Tenant L) → List Groups
groups_in {L} ts = map (λ (x : Tenant L). x.groups) ts

kepts_in : {L : Type 0} → (L → Log) → Files → List (Tenant L) → List Kept
kepts_in {L} log files ts = map (λ (x : Tenant L). kept_in (world_of log x.parts files) x.groups) ts

-- what is kept where that is seen of the topics, with those groups
abbrev joined : Option World → Groups → Kept
joined None gs = nothing
joined (Some w) gs = kept_in w gs

module _ {L : Type 0} (log : L → Log) (files : Files) where
  names_seen : (ts : List (Tenant L)) → names_of (map (state_of log files) ts) ≡ names_in ts
  unfolding names_in
  names_seen [] = refl
  names_seen (x ∷ ts) = ap (λ ns. string_bytes x.name ∷ ns) (names_seen ts)

  counts_seen : (ts : List (Tenant L)) → map (λ (x : TenantState). x.refusals) (map (state_of log files) ts) ≡ counts_in ts
  unfolding counts_in
  counts_seen [] = refl
  counts_seen (x ∷ ts) = ap (λ ns. x.parts.refusals ∷ ns) (counts_seen ts)

  refusals_seen : (ts : List (Tenant L)) (u : ℕ) → refusals_of (map (state_of log files) ts) u ≡ get_or (counts_in ts) u 0
  refusals_seen ts u = ap (λ ns. get_or ns u 0) (counts_seen ts)

  kepts_seen : (ts : List (Tenant L)) → map (λ (x : TenantState). x.kept) (map (state_of log files) ts) ≡ kepts_in log files ts
  unfolding kepts_in
  kepts_seen [] = refl
  kepts_seen (x ∷ ts) = ap (λ ks. kept_in (world_of log x.parts files) x.groups ∷ ks) (kepts_seen ts)

  kept_seen : (ts : List (Tenant L)) (u : ℕ) → kept_of (map (state_of log files) ts) u ≡ joined (seen_at log (parts_of ts) files u) (get_or (groups_in ts) u none)
  unfolding groups_in
  kept_seen [] u = refl
  kept_seen (x ∷ ts) zero = refl
  kept_seen (x ∷ ts) (suc u) = kept_seen ts u

  pub kept_here : (ts : List (Tenant L)) (t : ℕ) (x : Tenant L) → slice_get ts t ≡ Some x → kept_of (map (state_of log files) ts) t ≡ kept_in (world_of log x.parts files) x.groups
  kept_here [] t x at = absurd cc
  kept_here (y ∷ ts) zero x at = let same : y ≡ x = cc in ap (λ (z : Tenant L). kept_in (world_of log z.parts files) z.groups) same
  kept_here (y ∷ ts) (suc t) x at = kept_here ts t x at

  pub refusals_here : (ts : List (Tenant L)) (t : ℕ) (x : Tenant L) → slice_get ts t ≡ Some x → refusals_of (map (state_of log files) ts) t ≡ x.parts.refusals
  refusals_here [] t x at = absurd cc
  refusals_here (y ∷ ts) zero x at = let same : y ≡ x = cc in ap (λ (z : Tenant L). z.parts.refusals) same
  refusals_here (y ∷ ts) (suc t) x at = refusals_here ts t x at

  -- another's groups, and nothing else
  put_groups : (ts : List (Tenant L)) (t : ℕ) (x : Tenant L) (gs : Groups) → slice_get ts t ≡ Some x
      → map (state_of log files) (slice_set ts t (record x { groups = gs })) ≡ with_kept t (kept_in (world_of log x.parts files) gs) (map (state_of log files) ts)
  unfolding with_kept
  put_groups [] t x gs at = absurd cc
  put_groups (y ∷ ts) zero x gs at =
      let same : y ≡ x = cc in
      ap (λ (z : Tenant L). (let s : TenantState = record { name = string_bytes z.name; kept = kept_in (world_of log x.parts files) gs; refusals = z.parts.refusals } in s) ∷ map (state_of log files) ts) (sym same)
  put_groups (y ∷ ts) (suc t) x gs at = ap (λ ss. state_of log files y ∷ ss) (put_groups ts t x gs at)

-- how many commands the log of a catalog has recorded
abbrev pub recorded : {L : Type 0} → (L → Log) → Tenant L → ℕ
recorded log x = (meta log x.parts).end

pub commands_here : {L : Type 0} (log : L → Log) (ts : List (Tenant L)) (t : ℕ) (x : Tenant L) → slice_get ts t ≡ Some x
    → get_or (map (recorded log) ts) t 0 ≡ recorded log x
commands_here log [] t x at = absurd cc
commands_here log (y ∷ ts) zero x at = let same : y ≡ x = cc in ap (recorded log) same
commands_here log (y ∷ ts) (suc t) x at = commands_here log ts t x at

-- ---- a step of one tenant

-- the tenants after a call that left the tenant at a place these parts, groups and counts, and this shelf
abbrev pub after : {L S : Type 0} → Tenants L S → ℕ → Tenant L → Parts L → Groups → Counts → Shelved S → Tenants L S
after ts t x p gs cs shelf = record ts { tenants = with_item ts.tenants t (record x { parts = p; groups = gs; counts = cs }); shelf = shelf }

-- what is due for a tenant is what it is seen to be
pub idle_here : {L : Type 0} (log : L → Log) (files : Files) (ts : List (Tenant L)) (t : ℕ) (x : Tenant L) (until : ℤ) → slice_get ts t ≡ Some x → Agrees log x.parts files → IsQuiet log x until
    → (clock : ℕ) → pos clock ≤ℤ until → passed clock (kept_of (map (state_of log files) ts) t) ≡ kept_of (map (state_of log files) ts) t
idle_here log files ts t x until at agree quiet clock le =
    subst (λ k. passed clock k ≡ k) (sym (kept_here log files ts t x at)) (quiet files agree clock le)

-- where the tenant of a call stands
module _ {L S : Type 0} (log : L → Log) (disk : S → Disk) (old : Tenants L S) (t : ℕ) (x : Tenant L) (lt : t < length (hosted log disk old)) (read : x ≡ get_or old.tenants.items t x) where
  pub stands : slice_get old.tenants.items t ≡ Some x
  stands = found old.tenants.items t x (within (state_of log (disk old.shelf.store).files) old.tenants.items t lt) read

  parts_stand : slice_get (parts_of old.tenants.items) t ≡ Some x.parts
  parts_stand = slice_get-map (λ (z : Tenant L). z.parts) old.tenants.items t ∙ ap (option_map (λ (z : Tenant L). z.parts)) stands

  pub sound_here : AreKept log disk old → IsSound log x.parts (disk old.shelf.store).table old.shelf.next
  sound_here kept = kept.sound.each t x.parts parts_stand

module _ {L S : Type 0} (log : L → Log) (disk : S → Disk) (law : (l : L) → IsLawfulLog (log l)) (old : Tenants L S) (t : ℕ) (x : Tenant L) (p : Parts L) (gs : Groups) (cs : Counts) (shelf : Shelved S)
    (lt : t < length (hosted log disk old)) (read : x ≡ get_or old.tenants.items t x)
    (kept : AreKept log disk old) (step : IsChange log (scene log disk x.parts old.shelf) (scene log disk p shelf)) where
  there : slice_get old.tenants.items t ≡ Some x
  there = stands log disk old t x lt read

  parts_there : slice_get (parts_of old.tenants.items) t ≡ Some x.parts
  parts_there = parts_stand log disk old t x lt read

  pub there_after : slice_get (after old t x p gs cs shelf).tenants.items t ≡ Some (record x { parts = p; groups = gs; counts = cs })
  there_after = put_here old.tenants.items t x (record x { parts = p; groups = gs; counts = cs }) there

  parts_after : parts_of (after old t x p gs cs shelf).tenants.items ≡ slice_set (parts_of old.tenants.items) t p
  parts_after = map-set (λ (z : Tenant L). z.parts) old.tenants.items t (record x { parts = p; groups = gs; counts = cs })

  shelf_turn : IsShelfTurn log t (parts_of old.tenants.items) (parts_of (after old t x p gs cs shelf).tenants.items) (disk old.shelf.store) (disk shelf.store) old.shelf.next shelf.next
  shelf_turn =
      subst (λ qs. IsShelfTurn log t (parts_of old.tenants.items) qs (disk old.shelf.store) (disk shelf.store) old.shelf.next shelf.next) (sym parts_after)
      (turn log law (parts_of old.tenants.items) t x.parts p (disk old.shelf.store) (disk shelf.store) old.shelf.next shelf.next parts_there kept.sound step)

  kept_idle : (until : ℤ) → ((disk shelf.store).honest → IsIdleUntil until (hosted log disk (after old t x p gs cs shelf))) → AreKept log disk (record (after old t x p gs cs shelf) { next_retention_time = until })
  kept_idle until idle = record {
    sound = shelf_turn.sound;
    named = λ u y here. ⊎_elim
        (λ s. subst (λ (z : Tenant L). string_bytes z.parts.tenant ≡ string_bytes z.name) (sym s.1) (step.named ∙ kept.named t x there))
        (λ o. kept.named u y o.1)
        (get_put old.tenants.items t u x (record x { parts = p; groups = gs; counts = cs }) y there here);
    apart = λ file stray. subst (λ qs. IsLeftAlone log qs shelf.next file) (sym parts_after)
        (alone_stays log law (parts_of old.tenants.items) t x.parts p (disk old.shelf.store) (disk shelf.store) old.shelf.next shelf.next parts_there kept.sound step file (kept.apart file stray));
    accounts = λ known honest.
        let before = shelf_turn.honest honest in
        subst (λ qs. AreAccountedFor log qs (strays_of old.strays) (disk shelf.store) shelf.next) (sym parts_after)
        (accounts_stay log law (parts_of old.tenants.items) t x.parts p (disk old.shelf.store) (disk shelf.store) old.shelf.next shelf.next parts_there kept.sound step honest (kept.agree before) (strays_of old.strays)
        (kept.accounts known before));
    agree = λ honest. shelf_turn.agree honest (kept.agree (shelf_turn.honest honest));
    until = idle;
  }

  -- the files that are left alone have the bytes that they had
  pub alone_after : AreLeftAlone (strays_of old.strays) (disk old.shelf.store) (disk shelf.store)
  alone_after honest file stray =
      bytes_stay log law (parts_of old.tenants.items) t x.parts p (disk old.shelf.store) (disk shelf.store) old.shelf.next shelf.next parts_there kept.sound step honest file (kept.apart file stray)

  counts_after : counts_in (after old t x p gs cs shelf).tenants.items ≡ slice_set (counts_in old.tenants.items) t p.refusals
  unfolding counts_in
  counts_after = map-set (λ (z : Tenant L). z.parts.refusals) old.tenants.items t (record x { parts = p; groups = gs; counts = cs })

  count_after : (u : ℕ) → refusals_of (hosted log disk (after old t x p gs cs shelf)) u ≡ get_or (slice_set (counts_in old.tenants.items) t p.refusals) u 0
  count_after u = refusals_seen log (disk shelf.store).files (after old t x p gs cs shelf).tenants.items u ∙ ap (λ ns. get_or ns u 0) counts_after

  -- the count of another tenant is as it was
  counts_stay : (u : ℕ) → (u ≡ t → ⊥) → refusals_of (hosted log disk (after old t x p gs cs shelf)) u ≡ refusals_of (hosted log disk old) u
  counts_stay u ne =
      count_after u ∙ get_or-set_other (counts_in old.tenants.items) t u p.refusals 0 ne ∙ sym (refusals_seen log (disk old.shelf.store).files old.tenants.items u)

  -- no count is less
  counts_rise : (u : ℕ) → refusals_of (hosted log disk old) u ≤ refusals_of (hosted log disk (after old t x p gs cs shelf)) u
  counts_rise u =
      let was = refusals_seen log (disk old.shelf.store).files old.tenants.items in
      let here : get_or (counts_in old.tenants.items) t 0 ≡ x.parts.refusals = sym (was t) ∙ refusals_here log (disk old.shelf.store).files old.tenants.items t x there in
      let more = rises (counts_in old.tenants.items) t u p.refusals (omega (arith, here, step.grows)) in
      omega (arith, more, was u, count_after u)

  names_stay : names_in (after old t x p gs cs shelf).tenants.items ≡ names_in old.tenants.items
  unfolding names_in
  names_stay = map-set_same (λ (z : Tenant L). string_bytes z.name) old.tenants.items t (record x { parts = p; groups = gs; counts = cs }) x
      (ap (λ (z : Tenant L). string_bytes z.name) (sym (get_or_from_slice_get old.tenants.items t x x there)))

  -- the groups of another tenant are as they were
  groups_stay : (u : ℕ) → (u ≡ t → ⊥) → get_or (groups_in (after old t x p gs cs shelf).tenants.items) u none ≡ get_or (groups_in old.tenants.items) u none
  unfolding groups_in
  groups_stay u ne =
      ap (λ gss. get_or gss u none) (map-set (λ (z : Tenant L). z.groups) old.tenants.items t (record x { parts = p; groups = gs; counts = cs }))
      ∙ get_or-set_other (map (λ (z : Tenant L). z.groups) old.tenants.items) t u gs none ne

  -- the step is a turn of what is seen
  pub turn_after : IsTurn t (disk shelf.store).honest (hosted log disk old) (hosted log disk (after old t x p gs cs shelf))
  turn_after = record {
    names = names_seen log (disk shelf.store).files (after old t x p gs cs shelf).tenants.items ∙ names_stay ∙ sym (names_seen log (disk old.shelf.store).files old.tenants.items);
    grows = counts_rise;
    counts = counts_stay;
    others = λ honest u ne.
        kept_seen log (disk shelf.store).files (after old t x p gs cs shelf).tenants.items u
        ∙ ap (λ o. joined o (get_or (groups_in (after old t x p gs cs shelf).tenants.items) u none)) (shelf_turn.worlds honest u ne)
        ∙ ap (joined (seen_at log (parts_of old.tenants.items) (disk old.shelf.store).files u)) (groups_stay u ne)
        ∙ sym (kept_seen log (disk old.shelf.store).files old.tenants.items u);
  }

  -- what the tenant keeps now
  pub kept_now : kept_of (hosted log disk (after old t x p gs cs shelf)) t ≡ kept_in (world_of log p (disk shelf.store).files) gs
  kept_now = kept_here log (disk shelf.store).files (after old t x p gs cs shelf).tenants.items t (record x { parts = p; groups = gs; counts = cs }) there_after

  -- where the tenant is looked at
  pub kept_after : (until : ℤ) → until ≤ℤ old.next_retention_time → IsQuiet log (record x { parts = p; groups = gs; counts = cs }) until → AreKept log disk (record (after old t x p gs cs shelf) { next_retention_time = until })
  kept_after until sooner quiet = kept_idle until (λ honest.
      let before = shelf_turn.honest honest in
      idle_turn until old.next_retention_time t (disk shelf.store).honest (hosted log disk old) (hosted log disk (after old t x p gs cs shelf)) turn_after honest sooner (kept.until before)
      (idle_here log (disk shelf.store).files (after old t x p gs cs shelf).tenants.items t (record x { parts = p; groups = gs; counts = cs }) until there_after (step.frame.agrees honest (kept.agree before t x.parts parts_there)) quiet))

  -- where all keep what they kept
  pub kept_same : ((disk shelf.store).honest → (u : ℕ) → kept_of (hosted log disk (after old t x p gs cs shelf)) u ≡ kept_of (hosted log disk old) u) → AreKept log disk (after old t x p gs cs shelf)
  kept_same same = kept_idle old.next_retention_time (λ honest.
      idle_stays old.next_retention_time (hosted log disk old) (hosted log disk (after old t x p gs cs shelf)) (same honest) (kept.until (shelf_turn.honest honest)))

  -- a calm that is seen is one of the tenant's parts
  pub calm_here : IsCalm (refusals_of (hosted log disk old) t) (refusals_of (hosted log disk (after old t x p gs cs shelf)) t) → IsCalm x.parts.refusals p.refusals
  calm_here calm =
      subst (λ n. IsCalm x.parts.refusals n) (refusals_here log (disk shelf.store).files (after old t x p gs cs shelf).tenants.items t (record x { parts = p; groups = gs; counts = cs }) there_after)
      (subst (λ n. IsCalm n (refusals_of (hosted log disk (after old t x p gs cs shelf)) t)) (refusals_here log (disk old.shelf.store).files old.tenants.items t x there) calm)

  -- and a calm of its parts is one that is seen
  pub calm_seen : IsCalm x.parts.refusals p.refusals → IsCalm (refusals_of (hosted log disk old) t) (refusals_of (hosted log disk (after old t x p gs cs shelf)) t)
  calm_seen calm =
      subst (λ n. IsCalm (refusals_of (hosted log disk old) t) n) (sym (refusals_here log (disk shelf.store).files (after old t x p gs cs shelf).tenants.items t (record x { parts = p; groups = gs; counts = cs }) there_after))
      (subst (λ n. IsCalm n p.refusals) (sym (refusals_here log (disk old.shelf.store).files old.tenants.items t x there)) calm)

  -- where the tenant keeps what it kept, all do
  pub stays_after : ((disk shelf.store).honest → Agrees log x.parts (disk old.shelf.store).files → kept_in (world_of log p (disk shelf.store).files) gs ≡ kept_in (world_of log x.parts (disk old.shelf.store).files) x.groups)
      → (disk shelf.store).honest → (u : ℕ) → kept_of (hosted log disk (after old t x p gs cs shelf)) u ≡ kept_of (hosted log disk old) u
  stays_after same honest u =
      let here : kept_of (hosted log disk (after old t x p gs cs shelf)) t ≡ kept_of (hosted log disk old) t =
      kept_here log (disk shelf.store).files (after old t x p gs cs shelf).tenants.items t (record x { parts = p; groups = gs; counts = cs }) there_after
      ∙ same honest (kept.agree (shelf_turn.honest honest) t x.parts parts_there)
      ∙ sym (kept_here log (disk old.shelf.store).files old.tenants.items t x there) in
      ⊎_elim
      (λ is. subst (λ v. kept_of (hosted log disk (after old t x p gs cs shelf)) v ≡ kept_of (hosted log disk old) v) (sym is) here)
      (λ ne. turn_after.others honest u ne)
      (same_or_not u t)

  -- what the step meets is what is seen
  pub met_after : (P : Kept → Kept → Type 0)
      → Meets (scene log disk x.parts old.shelf) (scene log disk p shelf) (P (kept_in (world_of log x.parts (disk old.shelf.store).files) x.groups) (kept_in (world_of log p (disk shelf.store).files) gs))
      → IsMet t (disk shelf.store).honest (hosted log disk old) (hosted log disk (after old t x p gs cs shelf)) P
  met_after P meets honest calm =
      subst (λ k. P k (kept_of (hosted log disk (after old t x p gs cs shelf)) t)) (sym (kept_here log (disk old.shelf.store).files old.tenants.items t x there))
      (subst (λ k. P (kept_in (world_of log x.parts (disk old.shelf.store).files) x.groups) k) (sym (kept_here log (disk shelf.store).files (after old t x p gs cs shelf).tenants.items t (record x { parts = p; groups = gs; counts = cs }) there_after))
      (meets honest (kept.agree (shelf_turn.honest honest) t x.parts parts_there) (calm_here calm)))

-- ---- a refusal is counted

module _ {L S : Type 0} (log : L → Log) (disk : S → Disk) (law : (l : L) → IsLawfulLog (log l)) (old : Tenants L S) (t : ℕ) (x : Tenant L) (p : Parts L)
    (lt : t < length (hosted log disk old)) (read : x ≡ get_or old.tenants.items t x) (kept : AreKept log disk old) (counted : p ≡ refused x.parts) where
  refused_at : IsChange log (scene log disk x.parts old.shelf) (scene log disk p old.shelf)
  refused_at =
      let a = scene log disk x.parts old.shelf in
      subst (λ (v : Parts L). IsChange log a (scene log disk v old.shelf)) (sym counted)
      (called (refused_step log a x.parts (disk old.shelf.store) old.shelf.next (step_same a (sound_here log disk old t x lt read kept))))

  kepts_stay : kepts_in log (disk old.shelf.store).files (after old t x p x.groups x.counts old.shelf).tenants.items ≡ kepts_in log (disk old.shelf.store).files old.tenants.items
  unfolding kepts_in
  kepts_stay =
      let files = (disk old.shelf.store).files in
      map-set_same (λ (z : Tenant L). kept_in (world_of log z.parts files) z.groups) old.tenants.items t (record x { parts = p }) x
      (ap (λ (v : Parts L). kept_in (world_of log v files) x.groups) counted ∙ ap (λ (z : Tenant L). kept_in (world_of log z.parts files) z.groups) (sym (get_or_from_slice_get old.tenants.items t x x (stands log disk old t x lt read))))

  pub kept_stays : (u : ℕ) → kept_of (hosted log disk (after old t x p x.groups x.counts old.shelf)) u ≡ kept_of (hosted log disk old) u
  kept_stays u =
      let files = (disk old.shelf.store).files in
      ap (λ ks. get_or ks u nothing) (kepts_seen log files (after old t x p x.groups x.counts old.shelf).tenants.items ∙ kepts_stay ∙ sym (kepts_seen log files old.tenants.items))

  pub kept_refused : AreKept log disk (after old t x p x.groups x.counts old.shelf)
  kept_refused = kept_same log disk law old t x p x.groups x.counts old.shelf lt read kept refused_at (λ honest. kept_stays)

  -- what is kept needs no honest store here
  pub turn_refused : IsTurn t (Unit {0}) (hosted log disk old) (hosted log disk (after old t x p x.groups x.counts old.shelf))
  turn_refused =
      let told = turn_after log disk law old t x p x.groups x.counts old.shelf lt read kept refused_at in
      record { names = told.names; grows = told.grows; counts = told.counts; others = λ honest u ne. kept_stays u }

  pub loud_refused : IsCalm (refusals_of (hosted log disk old) t) (refusals_of (hosted log disk (after old t x p x.groups x.counts old.shelf)) t) → ⊥
  loud_refused calm =
      loud x.parts.refusals x.parts (omega arith)
      (subst (λ (v : Parts L). IsCalm x.parts.refusals v.refusals) counted (calm_here log disk law old t x p x.groups x.counts old.shelf lt read kept refused_at calm))

  -- it is one refusal more, short of the end
  pub once_refused : refusals_of (hosted log disk (after old t x p x.groups x.counts old.shelf)) t ≡ counted_once (refusals_of (hosted log disk old) t)
  once_refused =
      let files = (disk old.shelf.store).files in
      let was = refusals_here log files old.tenants.items t x (stands log disk old t x lt read) in
      let is = refusals_here log files (after old t x p x.groups x.counts old.shelf).tenants.items t (record x { parts = p }) (there_after log disk law old t x p x.groups x.counts old.shelf lt read kept refused_at) in
      is ∙ ap (λ (v : Parts L). v.refusals) counted ∙ sym (ap counted_once was)

  -- no log of a catalog has recorded more
  pub commands_stay : (u : ℕ) → commands_of log (after old t x p x.groups x.counts old.shelf) u ≡ commands_of log old u
  commands_stay u =
      ap (λ ns. get_or ns u 0) (map-set_same (recorded log) old.tenants.items t (record x { parts = p }) x
      (ap (λ (v : Parts L). (meta log v).end) counted
      ∙ ap (recorded log) (sym (get_or_from_slice_get old.tenants.items t x x (stands log disk old t x lt read)))))

  pub accounted_refused : IsAccounted (hosted log disk old) (hosted log disk (after old t x p x.groups x.counts old.shelf)) (disk old.shelf.store).failures (disk old.shelf.store).failures
  accounted_refused =
      accounted_rises (hosted log disk old) (hosted log disk (after old t x p x.groups x.counts old.shelf)) (disk old.shelf.store).failures
      (length_named (hosted log disk old) (hosted log disk (after old t x p x.groups x.counts old.shelf)) turn_refused.names) turn_refused.grows

-- ---- groups are limited

-- the tenants that are seen are as many as there are
pub seen_many : {L S : Type 0} (log : L → Log) (disk : S → Disk) (ts : Tenants L S) (t : ℕ) → t < length ts.tenants.items → t < length (hosted log disk ts)
seen_many log disk ts t lt = subst (λ n. t < n) (sym (length-map ts.tenants.items (state_of log (disk ts.shelf.store).files))) lt

-- behind the last there is none
with_none : (t : ℕ) (k : Kept) (ts : List TenantState) → length ts ≤ t → ts ≡ with_kept t k ts
unfolding with_kept
with_none t k [] le = refl
with_none zero k (x ∷ ts) le = absurd (omega (arith, le))
with_none (suc t) k (x ∷ ts) le = ap (λ xs. x ∷ xs) (with_none t k ts (omega (arith, le)))

pub limited_none : {L S : Type 0} (log : L → Log) (disk : S → Disk) (ts : Tenants L S) (t : ℕ) (limits : Limits) → length ts.tenants.items ≤ t
    → hosted log disk ts ≡ limited_at t limits (hosted log disk ts)
limited_none log disk ts t limits le =
    with_none t (kept_limited limits (kept_of (hosted log disk ts) t)) (hosted log disk ts)
    (subst (λ n. n ≤ t) (sym (length-map ts.tenants.items (state_of log (disk ts.shelf.store).files))) le)

-- ---- groups change, and what was refused to them is counted

module _ {L S : Type 0} (log : L → Log) (disk : S → Disk) (law : (l : L) → IsLawfulLog (log l)) (old : Tenants L S) (t : ℕ) (x : Tenant L) (gs : Groups)
    (lt : t < length (hosted log disk old)) (read : x ≡ get_or old.tenants.items t x) (kept : AreKept log disk old) where
  step_own : IsChange log (scene log disk x.parts old.shelf) (scene log disk x.parts old.shelf)
  step_own = called (step_same (scene log disk x.parts old.shelf) (sound_here log disk old t x lt read kept))

  pub kept_left : (until : ℤ) → until ≤ℤ old.next_retention_time → IsQuiet log (record x { groups = gs }) until → AreKept log disk (record (after old t x x.parts gs x.counts old.shelf) { next_retention_time = until })
  kept_left = kept_after log disk law old t x x.parts gs x.counts old.shelf lt read kept step_own

  pub state_left : (clock n : ℕ) → gs ≡ groups.left clock n x.groups
      → hosted log disk (after old t x x.parts gs x.counts old.shelf) ≡ with_kept t (left clock n (kept_of (hosted log disk old) t)) (hosted log disk old)
  unfolding left
  state_left clock n is =
      let files = (disk old.shelf.store).files in
      let here = stands log disk old t x lt read in
      let seen = kept_here log files old.tenants.items t x here in
      put_groups log files old.tenants.items t x gs here
      ∙ ap (λ k. with_kept t k (hosted log disk old)) (ap (kept_in (world_of log x.parts files)) is ∙ ap (left clock n) (sym seen))

  pub state_limited : (limits : Limits) → gs ≡ limited limits x.groups
      → hosted log disk (after old t x x.parts gs x.counts old.shelf) ≡ limited_at t limits (hosted log disk old)
  state_limited limits is =
      let files = (disk old.shelf.store).files in
      let here = stands log disk old t x lt read in
      let seen = kept_here log files old.tenants.items t x here in
      put_groups log files old.tenants.items t x gs here
      ∙ ap (λ k. with_kept t k (hosted log disk old)) (ap (kept_in (world_of log x.parts files)) is ∙ ap (kept_limited limits) (sym seen))

  pub none_here : HaveNoGroup (hosted log disk old) → x.groups.groups ≡ []
  none_here early =
      ap (λ (k : Kept). k.groups.groups) (sym (kept_here log (disk old.shelf.store).files old.tenants.items t x (stands log disk old t x lt read)))
      ∙ early t

  module _ (p : Parts L) (n : ℕ) (counted : p ≡ raised x.parts n) where
    counted_own : IsChange log (scene log disk x.parts old.shelf) (scene log disk p old.shelf)
    counted_own = subst (λ (v : Parts L). IsChange log (scene log disk x.parts old.shelf) (scene log disk v old.shelf)) (sym counted)
        (raised_change log (scene log disk x.parts old.shelf) x.parts n (disk old.shelf.store) old.shelf.next step_own)

    pub kept_counted : (until : ℤ) → until ≤ℤ old.next_retention_time → IsQuiet log (record x { parts = p; groups = gs }) until → AreKept log disk (record (after old t x p gs x.counts old.shelf) { next_retention_time = until })
    kept_counted = kept_after log disk law old t x p gs x.counts old.shelf lt read kept counted_own

    pub turn_counted : IsTurn t (disk old.shelf.store).honest (hosted log disk old) (hosted log disk (after old t x p gs x.counts old.shelf))
    turn_counted = turn_after log disk law old t x p gs x.counts old.shelf lt read kept counted_own

    pub accounted_counted : IsAccounted (hosted log disk old) (hosted log disk (after old t x p gs x.counts old.shelf)) (disk old.shelf.store).failures (disk old.shelf.store).failures
    accounted_counted =
        accounted_rises (hosted log disk old) (hosted log disk (after old t x p gs x.counts old.shelf)) (disk old.shelf.store).failures
        (length_named (hosted log disk old) (hosted log disk (after old t x p gs x.counts old.shelf)) turn_counted.names) turn_counted.grows

    -- the topics and the logs stay
    pub topics_counted : (kept_of (hosted log disk (after old t x p gs x.counts old.shelf)) t).world ≡ (kept_of (hosted log disk old) t).world
    topics_counted =
        let files = (disk old.shelf.store).files in
        let was = kept_here log files old.tenants.items t x (stands log disk old t x lt read) in
        let is = kept_now log disk law old t x p gs x.counts old.shelf lt read kept counted_own ∙ ap (λ (v : Parts L). kept_in (world_of log v files) gs) counted in
        ap (λ (k : Kept). k.world) is ∙ ap (λ (k : Kept). k.world) (sym was)

    -- what holds of the groups before and now is seen
    pub groups_counted : (P : Groups → Groups → Type 0) → P x.groups gs → P (kept_of (hosted log disk old) t).groups (kept_of (hosted log disk (after old t x p gs x.counts old.shelf)) t).groups
    groups_counted P h =
        let files = (disk old.shelf.store).files in
        let was = kept_here log files old.tenants.items t x (stands log disk old t x lt read) in
        subst (λ (k : Kept). P k.groups (kept_of (hosted log disk (after old t x p gs x.counts old.shelf)) t).groups) (sym was)
        (subst (λ (k : Kept). P x.groups k.groups) (sym (kept_now log disk law old t x p gs x.counts old.shelf lt read kept counted_own)) h)

    -- how many refusals are counted then
    pub count_counted : (m : ℕ) → n ≡ min (x.parts.refusals + m) END
        → refusals_of (hosted log disk (after old t x p gs x.counts old.shelf)) t ≡ counted_by m (refusals_of (hosted log disk old) t)
    count_counted m count =
        let files = (disk old.shelf.store).files in
        let was = refusals_here log files old.tenants.items t x (stands log disk old t x lt read) in
        let is = refusals_here log files (after old t x p gs x.counts old.shelf).tenants.items t (record x { parts = p; groups = gs }) (there_after log disk law old t x p gs x.counts old.shelf lt read kept counted_own) in
        let more = ap (λ (v : Parts L). v.refusals) counted in
        omega (arith, count, more, was, is)

    -- a moment of the groups, where none was refused memory
    pub met_counted : (clock m : ℕ) → n ≡ min (x.parts.refusals + m) END → (m ≡ 0 → gs ≡ groups.passed clock x.groups)
        → IsMet t (disk old.shelf.store).honest (hosted log disk old) (hosted log disk (after old t x p gs x.counts old.shelf)) (λ k l. l ≡ regrouped clock k)
    met_counted clock m count all = met_after log disk law old t x p gs x.counts old.shelf lt read kept counted_own (λ k l. l ≡ regrouped clock k) (λ honest agree calm.
        let files = (disk old.shelf.store).files in
        let same = ap (λ (v : Parts L). v.refusals) counted in
        let none : m ≡ 0 = omega (arith, count, same, calm.same, calm.below) in
        ap (λ (v : Parts L). kept_in (world_of log v files) gs) counted ∙ ap (kept_in (world_of log x.parts files)) (all none))

  -- nothing was due
  module _ (same : gs ≡ x.groups) where
    pub stays_own : (u : ℕ) → kept_of (hosted log disk (after old t x x.parts gs x.counts old.shelf)) u ≡ kept_of (hosted log disk old) u
    stays_own u =
        let files = (disk old.shelf.store).files in
        let here = stands log disk old t x lt read in
        ap (λ ss. kept_of ss u) (map-set_same (state_of log files) old.tenants.items t (record x { groups = gs }) x
        (ap (λ v. state_of log files (record x { groups = v })) same ∙ ap (state_of log files) (sym (get_or_from_slice_get old.tenants.items t x x here))))

    -- the groups had their moment
    pub passed_own : (clock : ℕ) → groups.is_due clock x.groups ≡ false
        → (kept_of (hosted log disk (after old t x x.parts gs x.counts old.shelf)) t).groups ≡ groups.passed clock (kept_of (hosted log disk old) t).groups
    passed_own clock early =
        let was = kept_here log (disk old.shelf.store).files old.tenants.items t x (stands log disk old t x lt read) in
        ap (λ (k : Kept). k.groups) (stays_own t)
        ∙ subst (λ (k : Kept). k.groups ≡ groups.passed clock k.groups) (sym was)
        (ap (λ b. cond b (groups.at_moment clock x.groups) x.groups) (sym early))

    pub count_own : refusals_of (hosted log disk (after old t x x.parts gs x.counts old.shelf)) t ≡ counted_by 0 (refusals_of (hosted log disk old) t)
    count_own =
        let files = (disk old.shelf.store).files in
        let was = refusals_here log files old.tenants.items t x (stands log disk old t x lt read) in
        let is = refusals_here log files (after old t x x.parts gs x.counts old.shelf).tenants.items t (record x { groups = gs }) (there_after log disk law old t x x.parts gs x.counts old.shelf lt read kept step_own) in
        omega (arith, was, is)

    pub kept_own : AreKept log disk (after old t x x.parts gs x.counts old.shelf)
    kept_own = kept_same log disk law old t x x.parts gs x.counts old.shelf lt read kept step_own (λ honest. stays_own)

    pub turn_own : IsTurn t (disk old.shelf.store).honest (hosted log disk old) (hosted log disk (after old t x x.parts gs x.counts old.shelf))
    turn_own = turn_after log disk law old t x x.parts gs x.counts old.shelf lt read kept step_own

    pub accounted_own : IsAccounted (hosted log disk old) (hosted log disk (after old t x x.parts gs x.counts old.shelf)) (disk old.shelf.store).failures (disk old.shelf.store).failures
    accounted_own =
        accounted_rises (hosted log disk old) (hosted log disk (after old t x x.parts gs x.counts old.shelf)) (disk old.shelf.store).failures
        (length_named (hosted log disk old) (hosted log disk (after old t x x.parts gs x.counts old.shelf)) turn_own.names) turn_own.grows

    pub met_own : (clock : ℕ) → groups.is_due clock x.groups ≡ false
        → IsMet t (disk old.shelf.store).honest (hosted log disk old) (hosted log disk (after old t x x.parts gs x.counts old.shelf)) (λ k l. l ≡ regrouped clock k)
    met_own clock early = met_after log disk law old t x x.parts gs x.counts old.shelf lt read kept step_own (λ k l. l ≡ regrouped clock k) (λ honest agree calm.
        ap (kept_in (world_of log x.parts (disk old.shelf.store).files)) (same ∙ ap (λ b. cond b (groups.at_moment clock x.groups) x.groups) (sym early)))

-- ---- counts

abbrev pub uncounted : {L : Type 0} → Tenant L → Bool
uncounted x = eqb x.parts.refusals 0

module _ {L : Type 0} (log : L → Log) (files : Files) where
  calm_list : (ts : List (Tenant L)) → list_all (λ (x : Tenant L). uncounted x) ts ≡ all_calm (map (state_of log files) ts)
  calm_list [] = refl
  calm_list (x ∷ ts) = ap (λ (b : Bool). uncounted x && b) (calm_list ts)

  -- what `all` answers of a test of each count
  pub calm_cases : (ts : List (Tenant L)) (r : Bool) → MatchBool r (AllWithin (λ (x : Tenant L). uncounted x ≡ true) ts 0 (length ts)) ((k : ℕ) × (k < length ts) × HoldsAt (λ (x : Tenant L). uncounted x ≡ false) ts k)
      → r ≡ all_calm (map (state_of log files) ts)
  calm_cases ts true h = sym (list_all-from_AllPass (λ (x : Tenant L). uncounted x) ts (λ k e lt. h k e (omega arith) lt)) ∙ calm_list ts
  calm_cases [] false h = absurd (omega (arith, h.1))
  calm_cases (x ∷ ts) false h = sym (list_all_at (λ (x : Tenant L). uncounted x) (x ∷ ts) h.0 x h.1 (h.2 x)) ∙ calm_list (x ∷ ts)

-- ---- a call, after which what the store refused is counted

module _ {L S : Type 0} (log : L → Log) (disk : S → Disk) (law : (l : L) → IsLawfulLog (log l)) (old : Tenants L S) (t : ℕ) (x : Tenant L)
    (lt : t < length (hosted log disk old)) (read : x ≡ get_or old.tenants.items t x) (kept : AreKept log disk old)
    (mid p : Parts L) (n : ℕ) (gs : Groups) (cs : Counts) (shelf : Shelved S) (counted : p ≡ raised mid n) (step : IsChange log (scene log disk x.parts old.shelf) (scene log disk mid shelf)) where
  pub step_called : IsChange log (scene log disk x.parts old.shelf) (scene log disk p shelf)
  step_called = subst (λ (v : Parts L). IsChange log (scene log disk x.parts old.shelf) (scene log disk v shelf)) (sym counted) (raised_change log (scene log disk x.parts old.shelf) mid n (disk shelf.store) shelf.next step)

  -- where the tenant is looked at
  pub kept_called : (until : ℤ) → until ≤ℤ old.next_retention_time → IsQuiet log (record x { parts = p; groups = gs; counts = cs }) until → AreKept log disk (record (after old t x p gs cs shelf) { next_retention_time = until })
  kept_called = kept_after log disk law old t x p gs cs shelf lt read kept step_called

  pub alone_called : AreLeftAlone (strays_of old.strays) (disk old.shelf.store) (disk shelf.store)
  alone_called = alone_after log disk law old t x p gs cs shelf lt read kept step_called

  pub turn_called : IsTurn t (disk shelf.store).honest (hosted log disk old) (hosted log disk (after old t x p gs cs shelf))
  turn_called = turn_after log disk law old t x p gs cs shelf lt read kept step_called

  -- what is told, where the store is honest, is told of what the tenant is seen to keep
  pub told_called : (P : World → Type 0)
      → WhereHonest (scene log disk x.parts old.shelf) (scene log disk mid shelf) (P (world_of log x.parts (disk old.shelf.store).files))
      → (disk shelf.store).honest → P (kept_of (hosted log disk old) t).world
  told_called P told honest =
      subst (λ (k : Kept). P k.world) (sym (kept_here log (disk old.shelf.store).files old.tenants.items t x (stands log disk old t x lt read)))
      (told honest (kept.agree (step.frame.others.honest honest) t x.parts (parts_stand log disk old t x lt read)))

  -- what the tenant keeps now
  pub now_called : kept_of (hosted log disk (after old t x p gs cs shelf)) t ≡ kept_in (world_of log p (disk shelf.store).files) gs
  now_called = kept_now log disk law old t x p gs cs shelf lt read kept step_called

  -- what the tenant kept
  pub was_called : kept_of (hosted log disk old) t ≡ kept_in (world_of log x.parts (disk old.shelf.store).files) x.groups
  was_called = kept_here log (disk old.shelf.store).files old.tenants.items t x (stands log disk old t x lt read)

  -- what was counted before is counted then
  pub count_called : (m : ℕ) → mid.refusals ≡ counted_by m x.parts.refusals
      → counted_by m (refusals_of (hosted log disk old) t) ≤ refusals_of (hosted log disk (after old t x p gs cs shelf)) t
  count_called m so =
      let was = refusals_here log (disk old.shelf.store).files old.tenants.items t x (stands log disk old t x lt read) in
      let is = refusals_here log (disk shelf.store).files (after old t x p gs cs shelf).tenants.items t (record x { parts = p; groups = gs; counts = cs }) (there_after log disk law old t x p gs cs shelf lt read kept step_called) in
      let more = ap (λ (v : Parts L). v.refusals) counted in
      omega (arith, so, more, was, is)

  -- what is told so of what the topics were and are
  pub topics_called : (P : World → World → Type 0)
      → WhereHonest (scene log disk x.parts old.shelf) (scene log disk mid shelf)
      (P (world_of log x.parts (disk old.shelf.store).files) (world_of log mid (disk shelf.store).files))
      → (disk shelf.store).honest → P (kept_of (hosted log disk old) t).world (kept_of (hosted log disk (after old t x p gs cs shelf)) t).world
  topics_called P told honest =
      let is : Parts L → World = λ v. world_of log v (disk shelf.store).files in
      subst (P (kept_of (hosted log disk old) t).world) (sym (ap (λ (k : Kept). k.world) now_called ∙ ap is counted))
      (told_called (λ w. P w (is mid)) told honest)

  -- how many commands the log of its catalog has recorded
  pub commands_called : commands_of log (after old t x p gs cs shelf) t ≡ (meta log mid).end
  commands_called =
      let there = there_after log disk law old t x p gs cs shelf lt read kept step_called in
      commands_here log (after old t x p gs cs shelf).tenants.items t (record x { parts = p; groups = gs; counts = cs }) there ∙ ap (λ (v : Parts L). (meta log v).end) counted

  -- what is told, where the store is honest, of what the tenant has recorded, kept before and keeps now, is told of what is seen
  pub truthful_called : (P : ℕ → Kept → Kept → Type 0)
      → WhereHonest (scene log disk x.parts old.shelf) (scene log disk mid shelf) (P (meta log mid).end
      (kept_in (world_of log x.parts (disk old.shelf.store).files) x.groups) (kept_in (world_of log mid (disk shelf.store).files) gs))
      → (disk shelf.store).honest → P (commands_of log (after old t x p gs cs shelf) t) (kept_of (hosted log disk old) t)
      (kept_of (hosted log disk (after old t x p gs cs shelf)) t)
  truthful_called P told honest =
      let new = after old t x p gs cs shelf in
      let n = commands_of log new t in
      let was = kept_in (world_of log x.parts (disk old.shelf.store).files) x.groups in
      let is : Parts L → Kept = λ v. kept_in (world_of log v (disk shelf.store).files) gs in
      subst (λ k. P n k (kept_of (hosted log disk new) t))
      (sym was_called)
      (subst (P n was) (sym (now_called ∙ ap is counted))
      (subst (λ m. P m was (is mid)) (sym commands_called)
      (told honest (kept.agree (step.frame.others.honest honest) t x.parts (parts_stand log disk old t x lt read)))))

  -- what holds of the groups before and now is seen
  pub groups_called : (P : Groups → Groups → Type 0) → P x.groups gs → P (kept_of (hosted log disk old) t).groups (kept_of (hosted log disk (after old t x p gs cs shelf)) t).groups
  groups_called P h =
      let was = kept_here log (disk old.shelf.store).files old.tenants.items t x (stands log disk old t x lt read) in
      subst (λ (k : Kept). P k.groups (kept_of (hosted log disk (after old t x p gs cs shelf)) t).groups) (sym was) (subst (λ (k : Kept). P x.groups k.groups) (sym now_called) h)

  -- what is met is what is seen
  pub met_called : (P : Kept → Kept → Type 0)
      → Meets (scene log disk x.parts old.shelf) (scene log disk mid shelf) (P (kept_in (world_of log x.parts (disk old.shelf.store).files) x.groups) (kept_in (world_of log mid (disk shelf.store).files) gs))
      → IsMet t (disk shelf.store).honest (hosted log disk old) (hosted log disk (after old t x p gs cs shelf)) P
  met_called P meets =
      let a = scene log disk x.parts old.shelf in
      let was = kept_in (world_of log x.parts (disk old.shelf.store).files) x.groups in
      let now : Parts L → Kept = λ v. kept_in (world_of log v (disk shelf.store).files) gs in
      met_after log disk law old t x p gs cs shelf lt read kept step_called P
      (subst (λ (v : Parts L). Meets a (scene log disk v shelf) (P was (now v))) (sym counted)
      (raised_met log a mid n (disk shelf.store) shelf.next step (P was (now mid)) meets))

  -- where the world and the groups stay, all keep what they kept
  pub stays_called : gs ≡ x.groups → ((disk shelf.store).honest → Agrees log x.parts (disk old.shelf.store).files → world_of log mid (disk shelf.store).files ≡ world_of log x.parts (disk old.shelf.store).files)
      → (disk shelf.store).honest → (u : ℕ) → kept_of (hosted log disk (after old t x p gs cs shelf)) u ≡ kept_of (hosted log disk old) u
  stays_called is same = stays_after log disk law old t x p gs cs shelf lt read kept step_called (λ honest agree.
      ap (λ (v : Parts L). kept_in (world_of log v (disk shelf.store).files) gs) counted
      ∙ ap (λ w. kept_in w gs) (same honest agree)
      ∙ ap (kept_in (world_of log x.parts (disk old.shelf.store).files)) is)

  pub kept_stay_called : gs ≡ x.groups → ((disk shelf.store).honest → Agrees log x.parts (disk old.shelf.store).files → world_of log mid (disk shelf.store).files ≡ world_of log x.parts (disk old.shelf.store).files) → AreKept log disk (after old t x p gs cs shelf)
  kept_stay_called is same = kept_same log disk law old t x p gs cs shelf lt read kept step_called (stays_called is same)

  -- what is calm for its parts is seen to be calm
  pub calm_called : IsCalm x.parts.refusals p.refusals → IsCalm (refusals_of (hosted log disk old) t) (refusals_of (hosted log disk (after old t x p gs cs shelf)) t)
  calm_called = calm_seen log disk law old t x p gs cs shelf lt read kept step_called

  -- and the other way round
  pub calm_from : IsCalm (refusals_of (hosted log disk old) t) (refusals_of (hosted log disk (after old t x p gs cs shelf)) t) → IsCalm x.parts.refusals p.refusals
  calm_from = calm_here log disk law old t x p gs cs shelf lt read kept step_called

  -- what the store refused meanwhile was counted
  pub accounted_called : (m : ℕ) → n ≡ min (x.parts.refusals + m) END → (disk shelf.store).failures ≡ (disk old.shelf.store).failures + m
      → IsAccounted (hosted log disk old) (hosted log disk (after old t x p gs cs shelf)) (disk old.shelf.store).failures (disk shelf.store).failures
  accounted_called m count sum =
      let was = refusals_here log (disk old.shelf.store).files old.tenants.items t x (stands log disk old t x lt read) in
      let is = refusals_here log (disk shelf.store).files (after old t x p gs cs shelf).tenants.items t (record x { parts = p; groups = gs; counts = cs }) (there_after log disk law old t x p gs cs shelf lt read kept step_called) in
      let more = ap (λ (v : Parts L). v.refusals) counted in
      subst (λ f. IsAccounted (hosted log disk old) (hosted log disk (after old t x p gs cs shelf)) (disk old.shelf.store).failures f) (sym sum)
      (accounted_turn (hosted log disk old) (hosted log disk (after old t x p gs cs shelf)) t (disk old.shelf.store).failures m lt
      (length_named (hosted log disk old) (hosted log disk (after old t x p gs cs shelf)) turn_called.names) turn_called.grows (omega (arith, count, more, was, is)))
