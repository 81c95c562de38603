-- What a tenant's own call leaves of the other tenants, and of the files that are left alone.
use Rattle.std.proofs.Common.{◌≡◌, ◌∙◌, ◌⊎◌, ⊎_elim, inl, inr, ◌≤◌, ◌<◌, ◌&&◌, ℕ, zero, suc, ℤ, pos, negsuc, Bool, true, false, cond, max, List, [], ◌∷◌, Option, Some, None, sym, ap, refl, subst, arith, length, get_or}
use Rattle.std.specs.Prelude.{nat_eq, slice_get, slice_set, option_map, string_bytes, unwrap_or}
use Rattle.std.specs.FinMap.{get}
use Rattle.kb_store.specs.Disk.{Disk, Files, bytes_of}
use Rattle.kb_batch.specs.Batch.{natural}
use Rattle.kb_log.specs.OnShelf.{Log, IsLawfulLog}
use Rattle.kb_topics.specs.Catalog.{catalog_identity, known, meta_log}
use Rattle.kb_topics.specs.MetaLog.{IsFoldOf}
use Rattle.std.proofs.lemmas.Bool.{eq-eqb}
use Rattle.std.proofs.lemmas.Bool.Decides.{nat_tests}
use Rattle.std.proofs.lemmas.List.{length-set}
use Rattle.kb_tenant_state.proofs.Put.{get_put}
use Rattle.kb_tenant_state.specs.RetentionTime.{AreAllKept}
use Rattle.kb_tenant_state.specs.Stored.{IsTold, stored_in, up_to_end}
use Rattle.kb_tenant_state.specs.Parts as parts
use Rattle.kb_snapshot.specs.Renewal.{IsUnfinished}
use Rattle.kb_tenant_state.specs.Parts.{IsPast, IsSound, Agrees, Owns, entries, meta, world_of}
use Rattle.kb_tenant_state.specs.Scene.{IsGivenUp, LeavesOwn}
use Rattle.kb_tenant_state.specs.Steps.{Meets}
use Rattle.kb_tenant_state.specs.World.{World}
use Rattle.kb_tenant_state.specs.declared.parts.Parts.{Parts}
use Rattle.kb_tenant_state.proofs.Spared as spared
use Rattle.kb_tenants.specs.Tenants.{AllAgree, AllAreSound, AreAccountedFor, AreUnfinished, IsLeftAlone, IsLeftBy, IsOfSome, IsOfUnfinished, Unfinished}
use Rattle.kb_tenants.specs.Turns.{IsShelfTurn, IsShelfMet}
use Rattle.kb_tenants.proofs.Change.{IsChange, LeavesBegun}
use Rattle.kb_tenant.proofs.LogMoves.{same_or_not}

-- ---- a tenant whose files were left as they were

module _ {L : Type 0} (log : L → Log) (law : (l : L) → IsLawfulLog (log l)) (q : Parts L) (d e : Disk) (next last : ℕ)
    (sound : IsSound log q d.table next) (later : next ≤ last)
    (lengths : (file : ℕ) → file < next → Owns log q file → get e.table file ≡ get d.table file)
    (contents : e.honest → (file : ℕ) → file < next → Owns log q file → get e.files file ≡ get d.files file) where
  lawful : IsLawfulLog (meta log q)
  lawful = law (meta_log q.catalog)

  below : (file : ℕ) → (meta log q).owns file → file < next
  below file own = lawful.given_out d.table next sound.catalog file own

  there : e.honest → (file : ℕ) → (meta log q).owns file → get e.files file ≡ get d.files file
  there honest file own = contents honest file (below file own) (inl own)

  pub still_sound : IsSound log q e.table last
  still_sound = record {
    catalog = lawful.sound_stays d.table e.table next last sound.catalog later (λ file own. lengths file (below file own) (inl own));
    logs = spared.spared_sound log law (entries q) d e next last sound.logs later (λ file lt own. lengths file lt (inr own)) (λ honest file lt own. contents honest file lt (inr own));
    apart = sound.apart;
    few = sound.few;
    unmade = sound.unmade;
    small = sound.small;
    tied = sound.tied;
    catalog_named = sound.catalog_named;
    logs_named = sound.logs_named;
    begun = let b : natural (meta log q).identity.generation < max 1 next = sound.begun in omega (arith, b, later);
    offsets = sound.offsets;
    texts = sound.texts;
  }

  pub still_seen : e.honest → world_of log q e.files ≡ world_of log q d.files
  still_seen honest =
      ap (λ ls. (let w : World = record { known = known q.catalog; logs = ls } in w))
      (spared.spared_logs log law (entries q) d e next last sound.logs later (λ file lt own. lengths file lt (inr own)) (λ h file lt own. contents h file lt (inr own)) honest)

  pub still_agrees : e.honest → Agrees log q d.files → Agrees log q e.files
  still_agrees honest agree = record {
    catalog = lawful.agrees_stays d.files e.files agree.catalog (there honest);
    fold = subst (λ bs. IsFoldOf (natural (meta log q).identity.generation) bs (known q.catalog)) (sym (lawful.batches_stay d.files e.files (there honest))) agree.fold;
    logs = spared.spared_agree log law (entries q) d e next last sound.logs later (λ file lt own. lengths file lt (inr own)) (λ h file lt own. contents h file lt (inr own)) honest agree.logs;
    started = agree.started;
    meta_started = agree.meta_started;
    until = subst (AreAllKept q.next_retention_time) (sym (still_seen honest)) agree.until;
    stored = subst (λ (w : World). IsTold q.stored (up_to_end (stored_in w))) (sym (still_seen honest)) agree.stored;
  }

-- ---- all tenants

-- another tenant is where it was
other_at : {A : Type 0} (xs : List A) (t u : ℕ) (y : A) → (u ≡ t → ⊥) → slice_get (slice_set xs t y) u ≡ slice_get xs u
other_at [] t u y ne = refl
other_at (x ∷ xs) zero zero y ne = absurd (ne refl)
other_at (x ∷ xs) zero (suc u) y ne = refl
other_at (x ∷ xs) (suc t) zero y ne = refl
other_at (x ∷ xs) (suc t) (suc u) y ne = other_at xs t u y (λ e. ne (ap suc e))

pub put_here : {A : Type 0} (xs : List A) (t : ℕ) (x y : A) → slice_get xs t ≡ Some x → slice_get (slice_set xs t y) t ≡ Some y
put_here [] t x y at = absurd cc
put_here (z ∷ xs) zero x y at = refl
put_here (z ∷ xs) (suc t) x y at = put_here xs t x y at

le_same : (n : ℕ) → n ≤ n
le_same n = omega arith

one_item : {A : Type 0} (x y : A) → Some x ≡ Some y → x ≡ y
one_item x y e = cc

same_item : {A : Type 0} (xs : List A) (t u : ℕ) (x y : A) → slice_get xs t ≡ Some x → slice_get xs u ≡ Some y → u ≡ t → x ≡ y
same_item xs t u x y a b e = one_item x y (sym a ∙ ap (slice_get xs) (sym e) ∙ b)

-- an item within the list is found there
pub found : {A : Type 0} (xs : List A) (i : ℕ) (x : A) → i < length xs → x ≡ get_or xs i x → slice_get xs i ≡ Some x
found [] i x lt is = absurd (omega (arith, lt))
found (y ∷ ys) zero x lt is = ap Some (sym is)
found (y ∷ ys) (suc i) x lt is = found ys i x (omega (arith, lt)) is

-- ---- what refused renewals left

-- one more is noted, of the tenant at a place and of that generation
abbrev with_left : {L : Type 0} → Unfinished L → ℕ → ℕ → L × Files → Unfinished L
with_left us t n x u (pos m) = cond (nat_eq u t && nat_eq m n) (Some x) (us u (pos m))
with_left us t n x u (negsuc m) = us u (negsuc m)

module _ {L : Type 0} (us : Unfinished L) (t n : ℕ) (x : L × Files) where
  tested : (u m : ℕ) (a b : Bool) → nat_eq u t ≡ a → nat_eq m n ≡ b → cond (nat_eq u t && nat_eq m n) (Some x) (us u (pos m)) ≡ cond (a && b) (Some x) (us u (pos m))
  tested u m a b i j = λ k. cond (i k && j k) (Some x) (us u (pos m))

  left_here : with_left us t n x t (pos n) ≡ Some x
  left_here = tested t n true true (eq-eqb t t refl) (eq-eqb n n refl)

  left_or : (u : ℕ) (g : ℤ) (y : L × Files) → with_left us t n x u g ≡ Some y → ((u ≡ t) × (g ≡ pos n) × (x ≡ y)) ⊎ (us u g ≡ Some y)
  left_or u (negsuc m) y has = inr has
  left_or u (pos m) y has = by (nat_eq u t) (nat_eq m n) refl refl
    where
      by : (a b : Bool) → nat_eq u t ≡ a → nat_eq m n ≡ b → ((u ≡ t) × (pos m ≡ pos n) × (x ≡ y)) ⊎ (us u (pos m) ≡ Some y)
      by true true i j =
          let here : u ≡ t = grind (arith, nat_tests, i) in
          let there : m ≡ n = grind (arith, nat_tests, j) in
          inl (here, ap pos there, one_item x y (sym (tested u m true true i j) ∙ has))
      by true false i j = inr (sym (tested u m true false i j) ∙ has)
      by false b i j = inr (sym (tested u m false b i j) ∙ has)

  left_still : (u : ℕ) (g : ℤ) (y : L × Files) → us u g ≡ Some y → (g ≡ pos n → ⊥) → with_left us t n x u g ≡ Some y
  left_still u (negsuc m) y has ne = has
  left_still u (pos m) y has ne = by (nat_eq u t) (nat_eq m n) refl refl
    where
      by : (a b : Bool) → nat_eq u t ≡ a → nat_eq m n ≡ b → cond (nat_eq u t && nat_eq m n) (Some x) (us u (pos m)) ≡ Some y
      by a true i j = let there : m ≡ n = grind (arith, nat_tests, j) in absurd (ne (ap pos there))
      by true false i j = tested u m true false i j ∙ has
      by false false i j = tested u m false false i j ∙ has

-- a tenant's files have numbers that were given out
given : {L : Type 0} (log : L → Log) → ((l : L) → IsLawfulLog (log l)) → (q : Parts L) (d : Disk) (next file : ℕ) → IsSound log q d.table next → Owns log q file → file < next
given log law q d next file sound own = ⊎_elim
    (λ mine. (law (meta_log q.catalog)).given_out d.table next sound.catalog file mine)
    (λ o. (law o.partition.log).given_out d.table next (sound.logs.each o.instance o.number o.partition o.at) file o.own)
    own

module _ {L : Type 0} (log : L → Log) (law : (l : L) → IsLawfulLog (log l)) (ps : List (Parts L)) (t : ℕ) (p p' : Parts L) (d e : Disk) (next last : ℕ)
    (at : slice_get ps t ≡ Some p) (sound : AllAreSound log ps d.table next) (step : IsChange log (parts.scene_on log p d next) (parts.scene_on log p' e last)) where
  -- the files of another tenant are not those of the one that is served
  lengths : (u : ℕ) (q : Parts L) → slice_get ps u ≡ Some q → (u ≡ t → ⊥) → (file : ℕ) → file < next → Owns log q file → get e.table file ≡ get d.table file
  lengths u q here ne file lt own = step.frame.others.lengths file lt (λ mine. sound.apart u t q p here at ne file own mine)

  contents : (u : ℕ) (q : Parts L) → slice_get ps u ≡ Some q → (u ≡ t → ⊥) → e.honest → (file : ℕ) → file < next → Owns log q file → get e.files file ≡ get d.files file
  contents u q here ne honest file lt own = step.frame.others.contents honest file lt (λ mine. sound.apart u t q p here at ne file own mine)

  -- a tenant is the one that was served, or another, which is where it was
  either : (u : ℕ) (q : Parts L) → slice_get (slice_set ps t p') u ≡ Some q → ((u ≡ t) × (q ≡ p')) ⊎ ((u ≡ t → ⊥) × (slice_get ps u ≡ Some q))
  either u q here = get_put ps t u p p' q at here

  turn_each : (u : ℕ) (q : Parts L) → slice_get (slice_set ps t p') u ≡ Some q → IsSound log q e.table last
  turn_each u q here = ⊎_elim
      (λ s. subst (λ (v : Parts L). IsSound log v e.table last) (sym s.1) step.frame.sound)
      (λ o. still_sound log law q d e next last (sound.each u q o.1) step.frame.others.later (lengths u q o.1 o.0) (contents u q o.1 o.0))
      (either u q here)

  new_file : (u : ℕ) (q : Parts L) → slice_get ps u ≡ Some q → (u ≡ t → ⊥) → (file : ℕ) → Owns log q file → Owns log p' file → ⊥
  new_file u q here ne file own mine = ⊎_elim
      (λ old. sound.apart u t q p here at ne file own old)
      (λ le. omega (arith, le, given log law q d next file (sound.each u q here) own))
      (step.frame.others.owned file mine)

  turn_apart : (u v : ℕ) (q r : Parts L) → slice_get (slice_set ps t p') u ≡ Some q → slice_get (slice_set ps t p') v ≡ Some r → (u ≡ v → ⊥) → (file : ℕ) → Owns log q file → Owns log r file → ⊥
  turn_apart u v q r a b ne file own theirs = ⊎_elim
      (λ s. ⊎_elim
      (λ w. ne (s.0 ∙ sym w.0))
      (λ w. new_file v r w.1 w.0 file theirs (subst (λ (x : Parts L). Owns log x file) s.1 own))
      (either v r b))
      (λ s. ⊎_elim
      (λ w. new_file u q s.1 s.0 file own (subst (λ (x : Parts L). Owns log x file) w.1 theirs))
      (λ w. sound.apart u v q r s.1 w.1 ne file own theirs)
      (either v r b))
      (either u q a)

  seen : e.honest → (u : ℕ) → (u ≡ t → ⊥) → (o : Option (Parts L)) → slice_get ps u ≡ o → option_map (λ (q : Parts L). world_of log q e.files) o ≡ option_map (λ (q : Parts L). world_of log q d.files) o
  seen honest u ne None here = refl
  seen honest u ne (Some q) here = ap Some (still_seen log law q d e next last (sound.each u q here) step.frame.others.later (lengths u q here ne) (contents u q here ne) honest)

  -- a step of one tenant is a turn of all
  pub turn : IsShelfTurn log t ps (slice_set ps t p') d e next last
  turn = record {
    sound = record { each = turn_each; apart = turn_apart };
    counts = λ u ne. ap (option_map (λ (q : Parts L). q.refusals)) (other_at ps t u p' ne);
    worlds = λ honest u ne. ap (option_map (λ (q : Parts L). world_of log q e.files)) (other_at ps t u p' ne) ∙ seen honest u ne (slice_get ps u) refl;
    agree = λ honest agree u q here. ⊎_elim
        (λ s. subst (λ (v : Parts L). Agrees log v e.files) (sym s.1) (step.frame.agrees honest (agree t p at)))
        (λ o. still_agrees log law q d e next last (sound.each u q o.1) step.frame.others.later (lengths u q o.1 o.0) (contents u q o.1 o.0) honest (agree u q o.1))
        (either u q here);
    honest = step.frame.others.honest;
    failures = step.frame.failures;
    many = length-set ps t p';
    grows = λ u q r here now. ⊎_elim
        (λ s. subst (λ n. n ≤ r.refusals) (ap (λ (v : Parts L). v.refusals) (same_item ps t u p q at here s.0)) (subst (λ (v : Parts L). p.refusals ≤ v.refusals) (sym s.1) step.grows))
        (λ o. subst (λ (v : Parts L). q.refusals ≤ v.refusals) (one_item q r (sym here ∙ o.1)) (le_same q.refusals))
        (either u r now);
  }

  -- ---- the files that are left alone

  -- none of them is the tenant's
  not_own : (file : ℕ) → IsLeftAlone log ps next file → Owns log p file → ⊥
  not_own file alone own = alone.nobodys (record { tenant = t; parts = p; at = at; owns = own })

  pub alone_stays : (file : ℕ) → IsLeftAlone log ps next file → IsLeftAlone log (slice_set ps t p') last file
  alone_stays file alone = record {
    given_out = omega (arith, alone.given_out, step.frame.others.later);
    nobodys = λ some. ⊎_elim
        (λ s. ⊎_elim
        (λ old. not_own file alone old)
        (λ le. omega (arith, le, alone.given_out))
        (step.frame.others.owned file (subst (λ (v : Parts L). Owns log v file) s.1 some.owns)))
        (λ o. alone.nobodys (record { tenant = some.tenant; parts = some.parts; at = o.1; owns = some.owns }))
        (either some.tenant some.parts some.at);
  }

  pub bytes_stay : e.honest → (file : ℕ) → IsLeftAlone log ps next file → get e.files file ≡ get d.files file
  bytes_stay honest file alone = step.frame.others.contents honest file alone.given_out (not_own file alone)

  -- ---- which files are accounted for, whatever was refused

  -- what was left is left still
  still_left : (us : Unfinished L) (file : ℕ) (bytes : List ℕ) → IsLeftBy log ps us file bytes → IsLeftBy log (slice_set ps t p') us file bytes
  still_left us file bytes o = ⊎_elim
      (λ is. record {
        tenant = o.tenant;
        parts = p';
        at = subst (λ u. slice_get (slice_set ps t p') u ≡ Some p') (sym is) (put_here ps t p p' at);
        how = ⊎_elim
            (λ (up : IsGivenUp log (string_bytes o.parts.tenant) (IsPast log o.parts) file bytes).
            inl (step.wrote file bytes (subst (λ (v : Parts L). IsGivenUp log (string_bytes v.tenant) (IsPast log v) file bytes) (sym (same_item ps t o.tenant p o.parts at o.at is)) up)))
            (λ (x : IsOfUnfinished log us o.tenant file bytes). inr x)
            o.how;
      })
      (λ ne. record { tenant = o.tenant; parts = o.parts; at = other_at ps t o.tenant p' ne ∙ o.at; how = o.how })
      (same_or_not o.tenant t)

  unfinished_still : (us : Unfinished L) → AreUnfinished log ps next us → AreUnfinished log (slice_set ps t p') last us
  unfinished_still us un = record {
    each = λ u g q x here has. ⊎_elim
        (λ (s : (u ≡ t) × (q ≡ p')).
        let w = un.each u g p x (was_at u s.0) has in
        (w.0, w.1, subst (λ name. IsUnfinished log w.0 (catalog_identity name g w.1) x.0 x.1) (sym step.named ∙ ap (λ (v : Parts L). string_bytes v.tenant) (sym s.1)) w.2))
        (λ (o : (u ≡ t → ⊥) × (slice_get ps u ≡ Some q)). un.each u g q x o.1 has)
        (either u q here);
    begun = λ u g q x here has.
        let was = low u g q x here has in
        let later = step.frame.others.later in
        omega (arith, was, later);
    other = λ u g q x here has same. ⊎_elim
        (λ (s : (u ≡ t) × (q ≡ p')).
        let is : natural g ≡ natural (meta log p').identity.generation = same ∙ ap (λ (v : Parts L). natural (meta log v).identity.generation) s.1 in
        let was = low u g q x here has in
        ⊎_elim
        (λ (stays : natural (meta log p').identity.generation ≡ natural (meta log p).identity.generation). un.other u g p x (was_at u s.0) has (is ∙ stays))
        (λ (new : max 1 next ≤ natural (meta log p').identity.generation). omega (arith, was, new, is))
        step.begun)
        (λ (o : (u ≡ t → ⊥) × (slice_get ps u ≡ Some q)). un.other u g q x o.1 has same)
        (either u q here);
  }
    where
      was_at : (u : ℕ) → u ≡ t → slice_get ps u ≡ Some p
      was_at u is = ap (slice_get ps) is ∙ at

      low : (u : ℕ) (g : ℤ) (q : Parts L) (x : L × Files) → slice_get (slice_set ps t p') u ≡ Some q → us u g ≡ Some x → natural g < max 1 next
      low u g q x here has = ⊎_elim
          (λ (s : (u ≡ t) × (q ≡ p')). un.begun u g p x (was_at u s.0) has)
          (λ (o : (u ≡ t → ⊥) × (slice_get ps u ≡ Some q)). un.begun u g q x o.1 has)
          (either u q here)

  -- the parts at its place are the ones that it has now
  is_served : (u : ℕ) (q : Parts L) → u ≡ t → slice_get (slice_set ps t p') u ≡ Some q → q ≡ p'
  is_served u q is here = ⊎_elim (λ (s : (u ≡ t) × (q ≡ p')). s.1) (λ (o : (u ≡ t → ⊥) × (slice_get ps u ≡ Some q)). absurd (o.0 is)) (either u q here)

  -- a file of no log, which was not the tenant's, was of no log
  nobodys_before : (file : ℕ) → (Owns log p file → ⊥) → (IsOfSome log (slice_set ps t p') file → ⊥) → IsOfSome log ps file → ⊥
  nobodys_before file free not some = ⊎_elim
      (λ is. free (subst (λ (v : Parts L). Owns log v file) (sym (same_item ps t some.tenant p some.parts at some.at is)) some.owns))
      (λ ne. not (record { tenant = some.tenant; parts = some.parts; at = other_at ps t some.tenant p' ne ∙ some.at; owns = some.owns }))
      (same_or_not some.tenant t)

  -- it is not the tenant's now
  not_now : (file : ℕ) → (IsOfSome log (slice_set ps t p') file → ⊥) → Owns log p' file → ⊥
  not_now file not mine = not (record { tenant = t; parts = p'; at = put_here ps t p p' at; owns = mine })

  -- the tenant left nothing that is to be noted
  own_left : LeavesOwn (parts.scene_on log p d next) (parts.scene_on log p' e last) → (strays : List ℕ) → AreAccountedFor log ps strays d next
      → AreAccountedFor log (slice_set ps t p') strays e last
  own_left leaves strays before = record {
    left = before.left;
    unfinished = unfinished_still before.left before.unfinished;
    each = λ file there not full none.
        let was = leaves file there (not_now file not) full
        (λ up. none (record { tenant = t; parts = p'; at = put_here ps t p p' at; how = inl up })) in
        let bytes : bytes_of e file ≡ bytes_of d file = ap (λ (o : Option (List ℕ)). unwrap_or o []) was.1 in
        before.each file was.0 (nobodys_before file was.2 not) (λ empty. full (bytes ∙ empty))
        (λ o. none (subst (IsLeftBy log (slice_set ps t p') before.left file) (sym bytes) (still_left before.left file (bytes_of d file) o)));
  }

  -- it left part of a generation, which is noted
  module _ (u : LeavesBegun log (parts.scene_on log p d next) (parts.scene_on log p' e last)) where
    abbrev noted : Unfinished L → Unfinished L
    noted us = with_left us t u.generation (u.of, u.files)

    noted_still : (us : Unfinished L) → AreUnfinished log ps next us → AreUnfinished log (slice_set ps t p') last (noted us)
    noted_still us un =
        let still = unfinished_still us un in
        record {
          each = λ v g q x here has. ⊎_elim
              (λ (s : (v ≡ t) × (g ≡ pos u.generation) × ((u.of, u.files) ≡ x)). (
                u.known,
                u.size,
                subst (λ (y : L × Files). IsUnfinished log u.known (catalog_identity (string_bytes q.tenant) g u.size) y.0 y.1) s.2
                    (subst (λ h. IsUnfinished log u.known (catalog_identity (string_bytes q.tenant) h u.size) u.of u.files) (sym s.1)
                    (subst (λ name. IsUnfinished log u.known (catalog_identity name (pos u.generation) u.size) u.of u.files) (sym step.named ∙ ap (λ (w : Parts L). string_bytes w.tenant) (sym (is_served v q s.0 here))) u.unfinished)),
              ))
              (λ (old : us v g ≡ Some x). still.each v g q x here old)
              (left_or us t u.generation (u.of, u.files) v g x has);
          begun = λ v g q x here has. ⊎_elim
              (λ (s : (v ≡ t) × (g ≡ pos u.generation) × ((u.of, u.files) ≡ x)). let is : natural g ≡ u.generation = ap natural s.1 in
              let low : u.generation < max 1 last = u.begun in
              omega (arith, is, low))
              (λ (old : us v g ≡ Some x). still.begun v g q x here old)
              (left_or us t u.generation (u.of, u.files) v g x has);
          other = λ v g q x here has same. ⊎_elim
              (λ (s : (v ≡ t) × (g ≡ pos u.generation) × ((u.of, u.files) ≡ x)).
              let is : natural g ≡ u.generation = ap natural s.1 in
              let in_use : natural (meta log q).identity.generation ≡ natural (meta log p').identity.generation = ap (λ (w : Parts L). natural (meta log w).identity.generation) (is_served v q s.0 here) in
              let above : natural (meta log p').identity.generation < u.generation = u.above in
              omega (arith, is, in_use, same, above))
              (λ (old : us v g ≡ Some x). still.other v g q x here old same)
              (left_or us t u.generation (u.of, u.files) v g x has);
        }

    -- what was noted before is noted still
    noted_left : (us : Unfinished L) → AreUnfinished log ps next us → (file : ℕ) (bytes : List ℕ) → IsLeftBy log ps us file bytes → IsLeftBy log ps (noted us) file bytes
    noted_left us un file bytes o = record {
      tenant = o.tenant;
      parts = o.parts;
      at = o.at;
      how = ⊎_elim
          (λ (up : IsGivenUp log (string_bytes o.parts.tenant) (IsPast log o.parts) file bytes). inl up)
          (λ (x : IsOfUnfinished log us o.tenant file bytes). inr (record {
            generation = x.generation;
            of = x.of;
            at = left_still us t u.generation (u.of, u.files) o.tenant x.generation x.of x.at (λ is.
                let low : natural x.generation < max 1 next = un.begun o.tenant x.generation o.parts x.of o.at x.at in
                let same : natural x.generation ≡ u.generation = ap natural is in
                let new : max 1 next ≤ u.generation = u.new in
                omega (arith, low, same, new));
            owns = x.owns;
            had = x.had;
          }))
          o.how;
    }

    part_left : (strays : List ℕ) → AreAccountedFor log ps strays d next → AreAccountedFor log (slice_set ps t p') strays e last
    part_left strays before = record {
      left = noted before.left;
      unfinished = noted_still before.left before.unfinished;
      each = λ file there not full none.
          let was = u.left file there (not_now file not) full
          (λ up. none (record { tenant = t; parts = p'; at = put_here ps t p p' at; how = inl up }))
          (λ (mine : (log u.of).owns file × (get u.files file ≡ Some (bytes_of e file))). none (record {
            tenant = t;
            parts = p';
            at = put_here ps t p p' at;
            how = inr (record {
              generation = pos u.generation;
              of = (u.of, u.files);
              at = left_here before.left t u.generation (u.of, u.files);
              owns = mine.0;
              had = mine.1;
            });
          })) in
          let bytes : bytes_of e file ≡ bytes_of d file = ap (λ (o : Option (List ℕ)). unwrap_or o []) was.1 in
          before.each file was.0 (nobodys_before file was.2 not) (λ empty. full (bytes ∙ empty))
          (λ o. none (subst (IsLeftBy log (slice_set ps t p') (noted before.left) file) (sym bytes)
          (still_left (noted before.left) file (bytes_of d file) (noted_left before.left before.unfinished file (bytes_of d file) o))));
    }

  -- whatever was refused
  pub accounts_stay : e.honest → AllAgree log ps d.files → (strays : List ℕ) → AreAccountedFor log ps strays d next → AreAccountedFor log (slice_set ps t p') strays e last
  accounts_stay honest agree strays before = ⊎_elim
      (λ (own : LeavesOwn (parts.scene_on log p d next) (parts.scene_on log p' e last)). own_left own strays before)
      (λ (u : LeavesBegun log (parts.scene_on log p d next) (parts.scene_on log p' e last)). part_left u strays before)
      (step.leaves honest (agree t p at))

  -- what the step meets is what the turn meets
  pub met : (P : World → World → Type 0) → Meets (parts.scene_on log p d next) (parts.scene_on log p' e last) (P (world_of log p d.files) (world_of log p' e.files)) → IsShelfMet log t ps (slice_set ps t p') d e next last P
  met P meets q r here now =
      let old : p ≡ q = one_item p q (sym at ∙ here) in
      let new : p' ≡ r = ⊎_elim (λ s. sym s.1) (λ o. absurd (o.0 refl)) (either t r now) in
      subst (λ (v : Parts L). Meets (parts.scene_on log v d next) (parts.scene_on log r e last) (P (world_of log v d.files) (world_of log r e.files))) old
      (subst (λ (v : Parts L). Meets (parts.scene_on log p d next) (parts.scene_on log v e last) (P (world_of log p d.files) (world_of log v e.files))) new meets)
