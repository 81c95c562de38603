-- One more tenant, without groups.
use Rattle.std.proofs.Common.{◌≡◌, ◌∙◌, ◌⊎◌, ⊎_elim, inl, inr, ℕ, zero, suc, ℤ, true, false, cond, List, [], ◌∷◌, ◌++◌, Option, Some, None, sym, ap, refl, subst, arith}
use Rattle.std.specs.Prelude.{Contains, IsSome, length, map, nat_eq, slice_get, string_bytes}
use Rattle.std.proofs.lemmas.Bool.{eq-eqb}
use Rattle.std.proofs.lemmas.Bool.Decides.{nat_tests}
use Rattle.std.proofs.lemmas.Option.{none-some, slice_get_within}
use Rattle.std.specs.declared.alloc.Global.{Global}
use Rattle.std.specs.declared.vec.Vec.{Vec}
use Rattle.std.proofs.lemmas.List.{map_push}
use Rattle.kb_coordinator.specs.Groups.{none}
use Rattle.kb_store.specs.Disk.{Disk, Table, Files, bytes_of}
use Rattle.kb_log.specs.OnShelf.{Log}
use Rattle.kb_log.specs.Shelf.{Shelved}
use Rattle.kb_tenant_state.specs.Parts.{Agrees, IsPast, IsSound, Owns, world_of}
use Rattle.kb_tenant_state.specs.Scene.{IsGivenUp}
use Rattle.kb_tenant_state.specs.World.{World, new_world}
use Rattle.kb_tenant_state.specs.declared.parts.Parts.{Parts}
use Rattle.kb_tenant_api.specs.Hosted.{TenantState, kept_in, new_tenant}
use Rattle.kb_tenants.specs.Tenants.{AreAccountedFor, AreKept, AreSettled, AllAreSound, AllAgree, IsApart, IsIdleUntil, IsLeftAlone, IsOfUnfinished, Unfinished, hosted, shelf_is_honest, parts_of, restored_tenant, state_of, strays_of}
use Rattle.kb_tenants.specs.declared.tenants.Tenant.{Tenant}
use Rattle.kb_tenants.specs.declared.tenants.Tenants.{Tenants}
use Rattle.kb_tenants.proofs.Idle.{idle_added}

-- an item of a longer list stood there before, or is the last
pushed_place : {A : Type 0} (xs : List A) (y : A) (u : ℕ) (z : A) → slice_get (xs ++ y ∷ []) u ≡ Some z → (slice_get xs u ≡ Some z) ⊎ ((z ≡ y) × (u ≡ length xs))
pushed_place [] y zero z e = inr ((let same : y ≡ z = cc in sym same), refl)
pushed_place [] y (suc u) z e = absurd cc
pushed_place (x ∷ xs) y zero z e = inl e
pushed_place (x ∷ xs) y (suc u) z e = ⊎_elim (λ old. inl old) (λ last. inr (last.0, ap suc last.1)) (pushed_place xs y u z e)

-- there is none in an empty list
pub no_tenant : {A : Type 0} (xs : List A) → xs ≡ [] → (u : ℕ) (z : A) → slice_get xs u ≡ Some z → ⊥
no_tenant [] none u z at = absurd cc
no_tenant (x ∷ xs) none u z at = absurd cc

-- an item stands there also in a longer list
still_place : {A : Type 0} (xs : List A) (y : A) (u : ℕ) (z : A) → slice_get xs u ≡ Some z → slice_get (xs ++ y ∷ []) u ≡ Some z
still_place [] y u z e = absurd cc
still_place (x ∷ xs) y zero z e = e
still_place (x ∷ xs) y (suc u) z e = still_place xs y u z e

-- where it is not known which files are left alone, none is
pub unknown : (strays : Option (Vec ℕ Global)) → strays ≡ None → IsSome strays → ⊥
unknown None early known = absurd cc
unknown (Some files) early known = absurd cc

pub unknown_strays : (strays : Option (Vec ℕ Global)) → strays ≡ None → (file : ℕ) → Contains (strays_of strays) file → ⊥
unknown_strays strays early file stray = let h = (subst (λ o. Contains (strays_of o) file) early stray).1 in omega (arith, h)

module _ {L : Type 0} (log : L → Log) (ps : List (Parts L)) (p : Parts L) where
  sound_pushed : (table : Table) (next : ℕ) → AllAreSound log ps table next → IsSound log p table next → IsApart log ps p → AllAreSound log (ps ++ p ∷ []) table next
  sound_pushed table next sound one alone =
      let last : (q : Parts L) → q ≡ p → (file : ℕ) → Owns log q file → Owns log p file = λ q same file own. subst (λ (v : Parts L). Owns log v file) same own in
      record {
        each = λ u q at. ⊎_elim
            (λ old. sound.each u q old)
            (λ new. subst (λ (v : Parts L). IsSound log v table next) (sym new.0) one)
            (pushed_place ps p u q at);
        apart = λ u v q r here there ne file own theirs. ⊎_elim
            (λ old. ⊎_elim
            (λ too. sound.apart u v q r old too ne file own theirs)
            (λ new. alone u q old file own (last r new.0 file theirs))
            (pushed_place ps p v r there))
            (λ new. ⊎_elim
            (λ too. alone v r too file theirs (last q new.0 file own))
            (λ both. ne (new.1 ∙ sym both.1))
            (pushed_place ps p v r there))
            (pushed_place ps p u q here);
      }

  agree_pushed : (files : Files) → AllAgree log ps files → Agrees log p files → AllAgree log (ps ++ p ∷ []) files
  agree_pushed files agree one u q at = ⊎_elim
      (λ old. agree u q old)
      (λ new. subst (λ (v : Parts L). Agrees log v files) (sym new.0) one)
      (pushed_place ps p u q at)

  -- a file that none of them has, and not the new one either
  alone_pushed : (next file : ℕ) → (Owns log p file → ⊥) → IsLeftAlone log ps next file → IsLeftAlone log (ps ++ p ∷ []) next file
  alone_pushed next file free alone = record {
    given_out = alone.given_out;
    nobodys = λ some. ⊎_elim
        (λ old. alone.nobodys (record { tenant = some.tenant; parts = some.parts; at = old; owns = some.owns }))
        (λ new. free (subst (λ (v : Parts L). Owns log v file) new.0 some.owns))
        (pushed_place ps p some.tenant some.parts some.at);
  }

  -- each file is accounted for as it was
  accounts_pushed : (disk : Disk) (strays : List ℕ) (next : ℕ) → AreAccountedFor log ps strays disk next → AreAccountedFor log (ps ++ p ∷ []) strays disk next
  accounts_pushed disk strays next before = record {
    left = left;
    unfinished = record {
      each = λ t g q u at has. let w = was t g q u at has in before.unfinished.each t g q u w.0 w.1;
      begun = λ t g q u at has. let w = was t g q u at has in before.unfinished.begun t g q u w.0 w.1;
      other = λ t g q u at has. let w = was t g q u at has in before.unfinished.other t g q u w.0 w.1;
    };
    each = λ file there not full other. before.each file there
        (λ some. not (record { tenant = some.tenant; parts = some.parts; at = still_place ps p some.tenant some.parts some.at; owns = some.owns }))
        full
        (λ o. other (record {
          tenant = o.tenant;
          parts = o.parts;
          at = still_place ps p o.tenant o.parts o.at;
          how = ⊎_elim
              (λ (up : IsGivenUp log (string_bytes o.parts.tenant) (IsPast log o.parts) file (bytes_of disk file)). inl up)
              (λ (x : IsOfUnfinished log before.left o.tenant file (bytes_of disk file)).
              inr (record { generation = x.generation; of = x.of; at = still o.tenant o.parts x.generation x.of o.at x.at; owns = x.owns; had = x.had }))
              o.how;
        }));
  }
    where
      -- the new one left none
      left : Unfinished L
      left t g = cond (nat_eq t (length ps)) None (before.left t g)

      still : (t : ℕ) (q : Parts L) (g : ℤ) (u : L × Files) → slice_get ps t ≡ Some q → before.left t g ≡ Some u → left t g ≡ Some u
      still t q g u at has =
          let lt = slice_get_within ps t q at in
          let apart : nat_eq t (length ps) ≡ false = grind (arith, nat_tests) in
          ap (λ b. cond b None (before.left t g)) apart ∙ has

      was : (t : ℕ) (g : ℤ) (q : Parts L) (u : L × Files) → slice_get (ps ++ p ∷ []) t ≡ Some q → left t g ≡ Some u → (slice_get ps t ≡ Some q) × (before.left t g ≡ Some u)
      was t g q u at has = ⊎_elim
          (λ (old : slice_get ps t ≡ Some q).
          let lt = slice_get_within ps t q old in
          let apart : nat_eq t (length ps) ≡ false = grind (arith, nat_tests) in
          (old, sym (ap (λ b. cond b None (before.left t g)) apart) ∙ has))
          (λ (new : (q ≡ p) × (t ≡ length ps)).
          let same : nat_eq t (length ps) ≡ true = eq-eqb t (length ps) new.1 in
          absurd (none-some u (sym (ap (λ b. cond b None (before.left t g)) same) ∙ has)))
          (pushed_place ps p t q at)

-- nothing was added
module _ {L S : Type 0} (log : L → Log) (disk : S → Disk) (old new : Tenants L S) (left : new.tenants.items ≡ old.tenants.items) (same : new.shelf ≡ old.shelf) (until : new.next_retention_time ≡ old.next_retention_time) (strays : new.strays ≡ old.strays) where
  pub hosted_left : hosted log disk new ≡ hosted log disk old
  hosted_left = ap (λ (s : Shelved S). map (state_of log (disk s.store).files) new.tenants.items) same ∙ ap (map (state_of log (disk old.shelf.store).files)) left

  pub kept_left : AreKept log disk old → AreKept log disk new
  kept_left kept = record {
    sound = subst (λ (s : Shelved S). AllAreSound log (parts_of new.tenants.items) (disk s.store).table s.next) (sym same)
        (subst (λ (xs : List (Tenant L)). AllAreSound log (parts_of xs) (disk old.shelf.store).table old.shelf.next) (sym left) kept.sound);
    named = subst (λ (xs : List (Tenant L)). (t : ℕ) (x : Tenant L) → slice_get xs t ≡ Some x → string_bytes x.parts.tenant ≡ string_bytes x.name) (sym left) kept.named;
    apart = subst (λ (o : Option (Vec ℕ Global)). (file : ℕ) → Contains (strays_of o) file → IsLeftAlone log (parts_of new.tenants.items) new.shelf.next file) (sym strays)
        (subst (λ (s : Shelved S). (file : ℕ) → Contains (strays_of old.strays) file → IsLeftAlone log (parts_of new.tenants.items) s.next file) (sym same)
        (subst (λ (xs : List (Tenant L)). (file : ℕ) → Contains (strays_of old.strays) file → IsLeftAlone log (parts_of xs) old.shelf.next file) (sym left) kept.apart));
    accounts = λ known honest.
        let was = kept.accounts (subst (λ (o : Option (Vec ℕ Global)). IsSome o) strays known) (subst (λ (s : Shelved S). (disk s.store).honest) same honest) in
        subst (λ (o : Option (Vec ℕ Global)). AreAccountedFor log (parts_of new.tenants.items) (strays_of o) (disk new.shelf.store) new.shelf.next) (sym strays)
        (subst (λ (s : Shelved S). AreAccountedFor log (parts_of new.tenants.items) (strays_of old.strays) (disk s.store) s.next) (sym same)
        (subst (λ (xs : List (Tenant L)). AreAccountedFor log (parts_of xs) (strays_of old.strays) (disk old.shelf.store) old.shelf.next) (sym left) was));
    agree = λ honest. subst (λ (s : Shelved S). AllAgree log (parts_of new.tenants.items) (disk s.store).files) (sym same)
        (subst (λ (xs : List (Tenant L)). AllAgree log (parts_of xs) (disk old.shelf.store).files) (sym left) (kept.agree (subst (λ (s : Shelved S). (disk s.store).honest) same honest)));
    until = λ honest. subst (λ z. IsIdleUntil z (hosted log disk new)) (sym until)
        (subst (IsIdleUntil old.next_retention_time) (sym hosted_left) (kept.until (subst (λ (s : Shelved S). (disk s.store).honest) same honest)));
  }

-- the files are left alone that an opening leaves
module _ {L S : Type 0} (log : L → Log) (disk : S → Disk) (old : Tenants L S) (strays : Vec ℕ Global) where
  pub kept_leaving : ((file : ℕ) → Contains strays.items file → IsLeftAlone log (parts_of old.tenants.items) old.shelf.next file)
      → AreSettled log (parts_of old.tenants.items) strays.items (disk old.shelf.store) → AreKept log disk old → AreKept log disk (record old { strays = Some strays })
  kept_leaving alone all kept = record {
    sound = kept.sound;
    named = kept.named;
    apart = alone;
    accounts = λ known honest. record {
      left = λ t g. None;
      unfinished = record {
        each = λ t g p u at has. absurd (none-some u has);
        begun = λ t g p u at has. absurd (none-some u has);
        other = λ t g p u at has. absurd (none-some u has);
      };
      each = λ file there not full other. all.accounts file there not;
    };
    agree = kept.agree;
    until = kept.until;
  }

-- a tenant of parts that were there was added behind the others
module _ {L S : Type 0} (log : L → Log) (disk : S → Disk) (old new : Tenants L S) (x : Tenant L)
    (pushed : new.tenants.items ≡ old.tenants.items ++ x ∷ []) (same : new.shelf ≡ old.shelf) (strays : new.strays ≡ old.strays)
    (name : List ℕ) (named : string_bytes x.name ≡ name) (bare : x.groups ≡ none) where
  pub parts_pushed : parts_of new.tenants.items ≡ parts_of old.tenants.items ++ x.parts ∷ []
  parts_pushed = ap parts_of pushed ∙ map_push (λ (z : Tenant L). z.parts) old.tenants.items x

  pub hosted_pushed : hosted log disk new ≡ hosted log disk old ++ restored_tenant log (disk old.shelf.store).files name x.parts ∷ []
  hosted_pushed =
      let files = (disk old.shelf.store).files in
      let kept = ap (kept_in (world_of log x.parts files)) bare in
      let one : state_of log files x ≡ restored_tenant log files name x.parts = (λ i. record { name = named i; kept = kept i; refusals = x.parts.refusals }) in
      ap (λ (s : Shelved S). map (state_of log (disk s.store).files) new.tenants.items) same
      ∙ ap (map (state_of log files)) pushed
      ∙ map_push (state_of log files) old.tenants.items x
      ∙ ap (λ (s : TenantState). map (state_of log files) old.tenants.items ++ s ∷ []) one

  pub kept_pushed : IsSound log x.parts (disk old.shelf.store).table old.shelf.next → IsApart log (parts_of old.tenants.items) x.parts
      → string_bytes x.parts.tenant ≡ name → ((file : ℕ) → Contains (strays_of old.strays) file → Owns log x.parts file → ⊥)
      → (shelf_is_honest disk old → Agrees log x.parts (disk old.shelf.store).files) → (shelf_is_honest disk old → IsIdleUntil new.next_retention_time (hosted log disk new))
      → AreKept log disk old → AreKept log disk new
  kept_pushed sound alone own free agrees idle kept =
      let before : shelf_is_honest disk new → shelf_is_honest disk old = subst (λ (s : Shelved S). (disk s.store).honest) same in
      record {
        sound = subst (λ (s : Shelved S). AllAreSound log (parts_of new.tenants.items) (disk s.store).table s.next) (sym same)
            (subst (λ ps. AllAreSound log ps (disk old.shelf.store).table old.shelf.next) (sym parts_pushed)
            (sound_pushed log (parts_of old.tenants.items) x.parts (disk old.shelf.store).table old.shelf.next kept.sound sound alone));
        named = λ u y at. ⊎_elim
            (λ there. kept.named u y there)
            (λ last. subst (λ (z : Tenant L). string_bytes z.parts.tenant ≡ string_bytes z.name) (sym last.0) (own ∙ sym named))
            (pushed_place old.tenants.items x u y (subst (λ (xs : List (Tenant L)). slice_get xs u ≡ Some y) pushed at));
        apart = subst (λ (o : Option (Vec ℕ Global)). (file : ℕ) → Contains (strays_of o) file → IsLeftAlone log (parts_of new.tenants.items) new.shelf.next file) (sym strays)
            (subst (λ (s : Shelved S). (file : ℕ) → Contains (strays_of old.strays) file → IsLeftAlone log (parts_of new.tenants.items) s.next file) (sym same)
            (subst (λ ps. (file : ℕ) → Contains (strays_of old.strays) file → IsLeftAlone log ps old.shelf.next file) (sym parts_pushed)
            (λ file stray. alone_pushed log (parts_of old.tenants.items) x.parts old.shelf.next file (free file stray) (kept.apart file stray))));
        accounts = λ known honest.
            let was = kept.accounts (subst (λ (o : Option (Vec ℕ Global)). IsSome o) strays known) (before honest) in
            subst (λ (o : Option (Vec ℕ Global)). AreAccountedFor log (parts_of new.tenants.items) (strays_of o) (disk new.shelf.store) new.shelf.next) (sym strays)
            (subst (λ (s : Shelved S). AreAccountedFor log (parts_of new.tenants.items) (strays_of old.strays) (disk s.store) s.next) (sym same)
            (subst (λ ps. AreAccountedFor log ps (strays_of old.strays) (disk old.shelf.store) old.shelf.next) (sym parts_pushed)
            (accounts_pushed log (parts_of old.tenants.items) x.parts (disk old.shelf.store) (strays_of old.strays) old.shelf.next was)));
        agree = λ honest. subst (λ (s : Shelved S). AllAgree log (parts_of new.tenants.items) (disk s.store).files) (sym same)
            (subst (λ ps. AllAgree log ps (disk old.shelf.store).files) (sym parts_pushed)
            (agree_pushed log (parts_of old.tenants.items) x.parts (disk old.shelf.store).files (kept.agree (before honest)) (agrees (before honest))));
        until = λ honest. idle (before honest);
      }

-- a tenant without files was added behind the others
module _ {L S : Type 0} (log : L → Log) (disk : S → Disk) (old new : Tenants L S) (x : Tenant L)
    (pushed : new.tenants.items ≡ old.tenants.items ++ x ∷ []) (same : new.shelf ≡ old.shelf) (until : new.next_retention_time ≡ old.next_retention_time) (strays : new.strays ≡ old.strays)
    (name : List ℕ) (named : string_bytes x.name ≡ name) (world : (files : Files) → world_of log x.parts files ≡ new_world) (calm : x.parts.refusals ≡ 0) (bare : x.groups ≡ none) where
  pub hosted_added : hosted log disk new ≡ hosted log disk old ++ new_tenant name ∷ []
  hosted_added =
      let files = (disk old.shelf.store).files in
      let kept = ap (λ (w : World). kept_in w none) (world files) in
      let one : restored_tenant log files name x.parts ≡ new_tenant name = (λ i. record { name = name; kept = kept i; refusals = calm i }) in
      hosted_pushed log disk old new x pushed same strays name named bare ∙ ap (λ (s : TenantState). hosted log disk old ++ s ∷ []) one

  pub kept_added : ((table : Table) (next : ℕ) → IsSound log x.parts table next) → ((files : Files) → Agrees log x.parts files) → ((file : ℕ) → Owns log x.parts file → ⊥)
      → string_bytes x.parts.tenant ≡ name → AreKept log disk old → AreKept log disk new
  kept_added sound agrees none own kept = kept_pushed log disk old new x pushed same strays name named bare
      (sound (disk old.shelf.store).table old.shelf.next) (λ t p at file own theirs. none file theirs) own (λ file stray theirs. none file theirs) (λ honest. agrees (disk old.shelf.store).files)
      (λ honest. subst (λ z. IsIdleUntil z (hosted log disk new)) (sym until) (subst (IsIdleUntil old.next_retention_time) (sym hosted_added) (idle_added old.next_retention_time (hosted log disk old) name (kept.until honest))))
      kept
