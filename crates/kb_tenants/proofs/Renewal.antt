-- What a renewal of a catalog, and a look at it, leave of all tenants.
use Rattle.std.proofs.Common.{◌≡◌, ◌∙◌, ◌⊎◌, ⊎_elim, inl, inr, ◌≤◌, ◌<◌, ◌+◌, ◌-◌, ◌^◌, ◌&&◌, ℕ, zero, suc, Bool, true, false, cond, nat_le, nat_lt, List, [], ◌∷◌, Some, length, get_or, sym, ap, refl, subst, arith}
use Rattle.std.proofs.lemmas.Bool.Decides.{nat_tests}
use Rattle.std.specs.Prelude.{map, max, min, slice_get, string_bytes}
use Rattle.std.specs.Vec.{with_item}
use Rattle.std.proofs.Math.Seq.{map-set_same}
use Rattle.std.proofs.lemmas.List.{map-set, get_or-set_other}
use Rattle.kb_store.specs.Disk.{Disk}
use Rattle.kb_log.specs.OnShelf.{Log, IsLawfulLog}
use Rattle.kb_log.specs.Shelf.{Shelved}
use Rattle.kb_topics.specs.declared.fault.CatalogFault.{CatalogFault}
use Rattle.kb_topics.specs.Catalog.{catalog_identity, known}
use Rattle.kb_batch.specs.Batch.{natural}
use Rattle.std.specs.Prelude.{OnErr, OnOk, Result, Ok, Err}
use Rattle.kb_snapshot.specs.Renewal.{IsRenewal, LeavesNone, LeavesPart, LeavesUnfinished, Renews, next_generation}
use Rattle.kb_snapshot.specs.Snapshot as snapshots
use Rattle.kb_tenant_state.specs.Counts.{END, IsCalm, counted_by, counted_once}
use Rattle.kb_tenant_state.specs.Parts.{Owns, Seen, meta, raised, refused, scene}
use Rattle.kb_tenant_state.specs.Scene.{LeavesOwn, Scene}
use Rattle.kb_tenant_state.specs.Steps.{calm_then}
use Rattle.kb_tenant_state.specs.declared.parts.Parts.{Parts}
use Rattle.kb_tenant_state.proofs.Put.{get_put}
use Rattle.kb_tenant_api.specs.Hosted.{kept_of, refusals_of}
use Rattle.kb_tenant_api.specs.Turns.{IsAccounted, IsTurn}
use Rattle.kb_tenants.specs.Renewal.{IsLookedAt, IsRenewedIfDue, IsShortenedFor, MAX_SNAPSHOT, MIN_COMMANDS, is_due, limit, next_look, renew_at_of, snapshot_of}
use Rattle.kb_tenants.specs.Tenants.{AreKept, AllAreSound, AllAgree, AreAccountedFor, IsIdleUntil, IsLeftAlone, commands_of, hosted, parts_of, shelf_is_honest, state_of, strays_of}
use Rattle.kb_tenants.specs.declared.counts.Counts.{Counts}
use Rattle.kb_tenants.specs.declared.tenants.Tenant.{Tenant}
use Rattle.kb_tenants.specs.declared.tenants.Tenants.{Tenants}
use Rattle.kb_tenants.proofs.Change.{IsChange}
use Rattle.kb_tenants.proofs.Hosted.{after, calm_from, commands_called, commands_here, kept_here, recorded, refusals_here, stands, step_called, there_after, was_called}
use Rattle.kb_tenants.proofs.Others.{put_here}

-- ---- counts

-- a count that stops at the end of its type is as good as the whole one
pub due_clipped : (commands len : ℕ) → commands < 2 ^ 64 → is_due commands (min len END) ≡ is_due commands len
due_clipped commands len lt = by (nat_lt (limit (min len END)) commands) (nat_lt (limit len) commands) (nat_le (min len END) MAX_SNAPSHOT) (nat_le len MAX_SNAPSHOT) refl refl refl refl
  where
    by : (a b c d : Bool) → nat_lt (limit (min len END)) commands ≡ a → nat_lt (limit len) commands ≡ b → nat_le (min len END) MAX_SNAPSHOT ≡ c → nat_le len MAX_SNAPSHOT ≡ d
        → a && c ≡ b && d
    by true true true true p q r s = refl
    by true true true false p q r s = absurd (grind (arith, nat_tests))
    by true true false true p q r s = absurd (grind (arith, nat_tests))
    by true true false false p q r s = refl
    by true false c d p q r s = absurd (grind (arith, nat_tests))
    by false true c d p q r s = absurd (grind (arith, nat_tests))
    by false false c d p q r s = refl

pub look_clipped : (commands len : ℕ) → commands < 2 ^ 64 → next_look commands (min len END) ≡ next_look commands len
look_clipped commands len lt = by (nat_lt (limit (min len END)) commands) (nat_lt (limit len) commands) refl refl
  where
    by : (a b : Bool) → nat_lt (limit (min len END)) commands ≡ a → nat_lt (limit len) commands ≡ b
        → min (cond a (commands + max MIN_COMMANDS (min len END)) (limit (min len END))) END ≡ min (cond b (commands + max MIN_COMMANDS len) (limit len)) END
    by true true p q = omega arith
    by true false p q = absurd (grind (arith, nat_tests))
    by false true p q = absurd (grind (arith, nat_tests))
    by false false p q = omega arith

-- ---- a renewal

-- a renewal is a change of the tenant's parts, also where it is refused
pub renewed : {L S : Type 0} (log : L → Log) (disk : S → Disk) (p q : Parts L) (a b : Shelved S) (r : Result (Unit {0}) CatalogFault) → (scene log disk p a).sound
    → IsRenewal (scene log disk p a) (scene log disk q b)
    → OnOk r ((meta log q).identity.generation ≡ next_generation a.next)
    → OnErr r (q ≡ refused p)
    → OnOk r ((disk b.store).honest → (scene log disk p a).agrees → LeavesOwn (scene log disk p a) (scene log disk q b))
    → OnErr r (LeavesUnfinished log (known p.catalog) (catalog_identity (string_bytes p.tenant) (next_generation a.next) p.segment_bytes) (disk a.store) (disk b.store) b.next)
    → IsChange log (scene log disk p a) (scene log disk q b)
renewed log disk p q a b (Ok u) sound r generation same leaves left = record {
  frame = r.frame;
  named = r.named;
  grows = r.grows;
  begun =
      let is : natural (meta log q).identity.generation ≡ max 1 a.next = ap natural generation in
      let most : max 1 a.next ≤ natural (meta log q).identity.generation = omega (arith, is) in
      inr most;
  settles = r.settles;
  wrote = r.wrote;
  leaves = λ honest agree. inl (leaves honest agree);
}
renewed log disk p q a b (Err f) sound r generation same leaves left = record {
  frame = r.frame;
  named = r.named;
  grows = r.grows;
  begun = inl stays;
  settles = r.settles;
  wrote = r.wrote;
  leaves = λ honest agree. ⊎_elim
      (λ (none : LeavesNone (disk a.store) (disk b.store)). inl (λ file there not some other. let was = none file there some in (was.0, was.1, λ own. not (owned file own))))
      (λ (u : LeavesPart log (known p.catalog) (catalog_identity (string_bytes p.tenant) (next_generation a.next) p.segment_bytes) (disk a.store) (disk b.store) b.next). inr (record {
        generation = max 1 a.next;
        known = known p.catalog;
        size = p.segment_bytes;
        of = u.of;
        files = u.files;
        unfinished = u.unfinished;
        new = omega arith;
        begun = u.begun;
        above = below;
        left = λ file there not some other part. let was = u.left file there some part in (was.0, was.1, λ own. not (owned file own));
      }))
      (left honest);
}
  where
    -- the meta log is the one that it was
    stays : natural (meta log q).identity.generation ≡ natural (meta log p).identity.generation
    stays = ap (λ (v : Parts _). natural (meta log v).identity.generation) same

    below : natural (meta log q).identity.generation < max 1 a.next
    below =
        let low : natural (meta log p).identity.generation < max 1 a.next = sound.begun in
        omega (arith, low, stays)

    owned : (file : ℕ) → Owns log p file → Owns log q file
    owned file own = subst (λ (v : Parts _). Owns log v file) (sym same) own

-- one refusal, and what the store refused meanwhile
counted_more : (before after m refused : ℕ) → refused ≡ m → after ≡ max (counted_once before) (min (before + m) END) → after ≡ counted_by (max 1 refused) before
counted_more before after m refused same is = by (nat_lt before END) refl is
  where
    by : (b : Bool) → nat_lt before END ≡ b → after ≡ max (cond b (before + 1) before) (min (before + m) END) → after ≡ max before (min (before + max 1 refused) END)
    by true e h = let lt : before < END = grind (arith, nat_tests, e) in omega (arith, lt, h, same)
    by false e h = let le : END ≤ before = grind (arith, nat_tests, e) in omega (arith, le, h, same)

-- where nothing was refused the log has the commands of the snapshot
renewed_commands : (a b : Scene Seen) (r : Result (Unit {0}) CatalogFault) → Renews a b r → IsCalm a.state.refusals b.state.refusals
    → b.state.commands ≡ length (snapshots.snapshot_of b.state.world.known)
renewed_commands a b (Ok u) told calm = told.commands
renewed_commands a b (Err f) told calm = absurd (loud (nat_lt a.state.refusals END) refl told.counted)
  where
    loud : (t : Bool) → nat_lt a.state.refusals END ≡ t → b.state.refusals ≡ cond t (a.state.refusals + 1) a.state.refusals → ⊥
    loud true e c = omega (arith, c, calm.same)
    loud false e c = let lt = calm.below in absurd (grind (arith, nat_tests))

module _ {L S : Type 0} (log : L → Log) (disk : S → Disk) (law : (l : L) → IsLawfulLog (log l)) (old : Tenants L S) (t : ℕ) (x : Tenant L)
    (lt : t < length (hosted log disk old)) (read : x ≡ get_or old.tenants.items t x) (kept : AreKept log disk old)
    (mid p : Parts L) (n : ℕ) (cs : Counts) (shelf : Shelved S) (counted : p ≡ raised mid n) (renewal : IsRenewal (scene log disk x.parts old.shelf) (scene log disk mid shelf))
    (change : IsChange log (scene log disk x.parts old.shelf) (scene log disk mid shelf)) where
  pub commands_renewed : (r : Result (Unit {0}) CatalogFault) → Renews (scene log disk x.parts old.shelf) (scene log disk mid shelf) r
      → IsCalm (refusals_of (hosted log disk old) t) (refusals_of (hosted log disk (after old t x p x.groups cs shelf)) t)
      → commands_of log (after old t x p x.groups cs shelf) t ≡ snapshot_of (kept_of (hosted log disk old) t)
  commands_renewed r told calm =
      let here : IsCalm x.parts.refusals p.refusals = calm_from log disk law old t x lt read kept mid p n x.groups cs shelf counted change calm in
      let more : mid.refusals ≤ p.refusals = subst (λ (v : Parts L). mid.refusals ≤ v.refusals) (sym counted) (omega arith) in
      let first = (calm_then x.parts.refusals mid.refusals p.refusals renewal.grows more here).0 in
      commands_called log disk law old t x lt read kept mid p n x.groups cs shelf counted change
      ∙ renewed_commands (scene log disk x.parts old.shelf) (scene log disk mid shelf) r told first
      ∙ ap (λ k. length (snapshots.snapshot_of k)) renewal.known
      ∙ sym (ap snapshot_of (was_called log disk law old t x lt read kept mid p n x.groups cs shelf counted change))

  -- whatever was refused, the log has the commands of the snapshot or those that it had
  either_renewed : (r : Result (Unit {0}) CatalogFault) → Renews (scene log disk x.parts old.shelf) (scene log disk mid shelf) r → OnErr r (mid ≡ refused x.parts)
      → ((meta log mid).end ≡ (meta log x.parts).end) ⊎ ((meta log mid).end ≡ length (snapshots.snapshot_of x.parts.catalog.known))
  either_renewed (Ok u) told same = inr (told.commands ∙ ap (λ k. length (snapshots.snapshot_of k)) renewal.known)
  either_renewed (Err f) told same = inl (ap (λ (v : Parts L). (meta log v).end) same)

  -- what was counted before the store's refusals are
  once_renewed : (r : Result (Unit {0}) CatalogFault) → Renews (scene log disk x.parts old.shelf) (scene log disk mid shelf) r
      → (mid.refusals ≡ x.parts.refusals) ⊎ (mid.refusals ≡ counted_once x.parts.refusals)
  once_renewed (Ok u) told = told.counted
  once_renewed (Err f) told = inr told.counted

  pub shortened_renewed : (r : Result (Unit {0}) CatalogFault) → Renews (scene log disk x.parts old.shelf) (scene log disk mid shelf) r → OnErr r (mid ≡ refused x.parts)
      → (m : ℕ) → n ≡ min (x.parts.refusals + m) END → (disk shelf.store).failures ≡ (disk old.shelf.store).failures + m → IsShortenedFor log disk t old (after old t x p x.groups cs shelf)
  shortened_renewed r told same m count sum =
      let new = after old t x p x.groups cs shelf in
      let first = stands log disk old t x lt read in
      let last = there_after log disk law old t x p x.groups cs shelf lt read kept (step_called log disk law old t x lt read kept mid p n x.groups cs shelf counted change) in
      let snapshot : snapshot_of (kept_of (hosted log disk old) t) ≡ length (snapshots.snapshot_of x.parts.catalog.known) =
      ap snapshot_of (was_called log disk law old t x lt read kept mid p n x.groups cs shelf counted change) in
      let had = commands_here log old.tenants.items t x first in
      let has = commands_called log disk law old t x lt read kept mid p n x.groups cs shelf counted change in
      let was = refusals_here log (disk old.shelf.store).files old.tenants.items t x first in
      let is = refusals_here log (disk shelf.store).files new.tenants.items t (record x { parts = p; counts = cs }) last in
      let more = ap (λ (v : Parts L). v.refusals) counted in
      record {
        shorter = λ calm. let equal = commands_renewed r told calm in omega (arith, equal);
        either = ⊎_elim (λ e. inl (has ∙ e ∙ sym had)) (λ e. inr (has ∙ e ∙ sym snapshot)) (either_renewed r told same);
        counted = ⊎_elim
            (λ e. inl (omega (arith, e, more, was, is, count, sum)))
            (λ e. inr (counted_more (refusals_of (hosted log disk old) t) (refusals_of (hosted log disk new) t) m ((disk shelf.store).failures - (disk old.shelf.store).failures)
            (omega (arith, sum)) (is ∙ more ∙ ap (λ k. max k n) e ∙ ap (max (counted_once x.parts.refusals)) count ∙ ap (λ k. max (counted_once k) (min (k + m) END)) (sym was))))
            (once_renewed r told);
        others = λ u ne.
            ap (λ ns. get_or ns u 0) (map-set (recorded log) old.tenants.items t (record x { parts = p; counts = cs }))
            ∙ get_or-set_other (map (recorded log) old.tenants.items) t u (meta log p).end 0 ne;
      }

-- ---- when a tenant is looked at next

-- what is read of each tenant is read of the one at a place
pub read_here : {L : Type 0} (f : Tenant L → ℕ) (ts : List (Tenant L)) (t : ℕ) (x : Tenant L) → slice_get ts t ≡ Some x → get_or (map f ts) t 0 ≡ f x
read_here f [] t x at = absurd cc
read_here f (y ∷ ts) zero x at = let same : y ≡ x = cc in ap f same
read_here f (y ∷ ts) (suc t) x at = read_here f ts t x at

module _ {L S : Type 0} (log : L → Log) (disk : S → Disk) (ts : Tenants L S) (t : ℕ) (x : Tenant L) (lt : t < length (hosted log disk ts)) (read : x ≡ get_or ts.tenants.items t x) where
  -- what it has
  pub commands_read : commands_of log ts t ≡ (meta log x.parts).end
  commands_read = read_here (recorded log) ts.tenants.items t x (stands log disk ts t x lt read)

  pub renew_at_read : renew_at_of ts t ≡ x.renew_at
  renew_at_read = read_here (λ (z : Tenant L). z.renew_at) ts.tenants.items t x (stands log disk ts t x lt read)

  pub snapshot_read : snapshot_of (kept_of (hosted log disk ts) t) ≡ length (snapshots.snapshot_of x.parts.catalog.known)
  snapshot_read = ap snapshot_of (kept_here log (disk ts.shelf.store).files ts.tenants.items t x (stands log disk ts t x lt read))

  -- what is answered of it, by a count that stops at the end of its type
  pub due_told : (commands count : ℕ) (b : Bool) → commands ≡ (meta log x.parts).end → commands < 2 ^ 64 → count ≡ min (length (snapshots.snapshot_of x.parts.catalog.known)) END
      → b ≡ is_due commands count → is_due (commands_of log ts t) (snapshot_of (kept_of (hosted log disk ts) t)) ≡ b
  due_told commands count b same small clip is =
      ap (λ n. is_due n (snapshot_of (kept_of (hosted log disk ts) t))) (commands_read ∙ sym same)
      ∙ ap (is_due commands) snapshot_read
      ∙ sym (due_clipped commands (length (snapshots.snapshot_of x.parts.catalog.known)) small)
      ∙ ap (is_due commands) (sym clip)
      ∙ sym is

  pub look_told : (at new mid count : ℕ) → at ≡ next_look mid count → new ≡ mid → mid < 2 ^ 64 → count ≡ min (length (snapshots.snapshot_of x.parts.catalog.known)) END
      → at ≡ next_look new (snapshot_of (kept_of (hosted log disk ts) t))
  look_told at new mid count is same small clip =
      is
      ∙ ap (next_look mid) clip
      ∙ look_clipped mid (length (snapshots.snapshot_of x.parts.catalog.known)) small
      ∙ ap (next_look mid) (sym snapshot_read)
      ∙ ap (λ n. next_look n (snapshot_of (kept_of (hosted log disk ts) t))) (sym same)

  module _ (n : ℕ) where
    -- the tenants, where another count is said for it
    abbrev timed : Tenants L S
    timed = record ts { tenants = with_item ts.tenants t (record x { renew_at = n }) }

    pub parts_timed : parts_of timed.tenants.items ≡ parts_of ts.tenants.items
    parts_timed = map-set_same (λ (z : Tenant L). z.parts) ts.tenants.items t (record x { renew_at = n }) x (ap (λ (z : Tenant L). z.parts) read)

    pub hosted_timed : hosted log disk timed ≡ hosted log disk ts
    hosted_timed =
        let files = (disk ts.shelf.store).files in
        map-set_same (state_of log files) ts.tenants.items t (record x { renew_at = n }) x (ap (state_of log files) read)

    pub commands_timed : (u : ℕ) → commands_of log timed u ≡ commands_of log ts u
    commands_timed u = ap (λ ns. get_or ns u 0) (map-set_same (recorded log) ts.tenants.items t (record x { renew_at = n }) x (ap (recorded log) read))

    pub renew_at_timed : renew_at_of timed t ≡ n
    renew_at_timed =
        read_here (λ (z : Tenant L). z.renew_at) timed.tenants.items t (record x { renew_at = n }) (put_here ts.tenants.items t x (record x { renew_at = n }) (stands log disk ts t x lt read))

    pub kept_timed : AreKept log disk ts → AreKept log disk timed
    kept_timed kept =
        let d = disk ts.shelf.store in
        record {
          sound = subst (λ ps. AllAreSound log ps d.table ts.shelf.next) (sym parts_timed) kept.sound;
          named = λ u y at. ⊎_elim
              (λ s. subst (λ (z : Tenant L). string_bytes z.parts.tenant ≡ string_bytes z.name) (sym s.1) (kept.named t x (stands log disk ts t x lt read)))
              (λ o. kept.named u y o.1)
              (get_put ts.tenants.items t u x (record x { renew_at = n }) y (stands log disk ts t x lt read) at);
          apart = λ file stray. subst (λ ps. IsLeftAlone log ps ts.shelf.next file) (sym parts_timed) (kept.apart file stray);
          accounts = λ known honest. subst (λ ps. AreAccountedFor log ps (strays_of ts.strays) d ts.shelf.next) (sym parts_timed) (kept.accounts known honest);
          agree = λ honest. subst (λ ps. AllAgree log ps d.files) (sym parts_timed) (kept.agree honest);
          until = λ honest. subst (λ xs. IsIdleUntil ts.next_retention_time xs) (sym hosted_timed) (kept.until honest);
        }

-- the tenants see nothing of it
module _ {L S : Type 0} (log : L → Log) (disk : S → Disk) (old mid new : Tenants L S) (shelf : new.shelf ≡ mid.shelf) (hosts : hosted log disk new ≡ hosted log disk mid) where
  pub turn_timed : (t : ℕ) → IsTurn t (shelf_is_honest disk mid) (hosted log disk old) (hosted log disk mid) → IsTurn t (shelf_is_honest disk new) (hosted log disk old) (hosted log disk new)
  turn_timed t turn =
      subst (λ (s : Shelved S). IsTurn t (disk s.store).honest (hosted log disk old) (hosted log disk new)) (sym shelf)
      (subst (IsTurn t (shelf_is_honest disk mid) (hosted log disk old)) (sym hosts) turn)

  pub stays_timed : (shelf_is_honest disk mid → (t : ℕ) → kept_of (hosted log disk mid) t ≡ kept_of (hosted log disk old) t)
      → shelf_is_honest disk new → (t : ℕ) → kept_of (hosted log disk new) t ≡ kept_of (hosted log disk old) t
  stays_timed stays honest t = ap (λ xs. kept_of xs t) hosts ∙ stays (subst (λ (s : Shelved S). (disk s.store).honest) shelf honest) t

  pub accounted_timed : (f : ℕ) → IsAccounted (hosted log disk old) (hosted log disk mid) f (disk mid.shelf.store).failures → IsAccounted (hosted log disk old) (hosted log disk new) f (disk new.shelf.store).failures
  accounted_timed f counts =
      subst (λ (s : Shelved S). IsAccounted (hosted log disk old) (hosted log disk new) f (disk s.store).failures) (sym shelf)
      (subst (λ xs. IsAccounted (hosted log disk old) xs f (disk mid.shelf.store).failures) (sym hosts) counts)

  pub failures_timed : (f : ℕ) → f ≤ (disk mid.shelf.store).failures → f ≤ (disk new.shelf.store).failures
  failures_timed f le = subst (λ (s : Shelved S). f ≤ (disk s.store).failures) (sym shelf) le

  pub calm_timed : (t : ℕ) → IsCalm (refusals_of (hosted log disk old) t) (refusals_of (hosted log disk new) t)
      → IsCalm (refusals_of (hosted log disk old) t) (refusals_of (hosted log disk mid) t)
  calm_timed t calm = subst (λ xs. IsCalm (refusals_of (hosted log disk old) t) (refusals_of xs t)) hosts calm

-- ---- a look

snapshot_small : (n : ℕ) → n ≤ limit n
snapshot_small n = omega arith

small_enough : (commands snapshot : ℕ) → is_due commands snapshot ≡ false → (commands ≤ limit snapshot) ⊎ (MAX_SNAPSHOT < snapshot)
small_enough commands snapshot = by (nat_lt (limit snapshot) commands) (nat_le snapshot MAX_SNAPSHOT) refl refl
  where
    by : (a b : Bool) → nat_lt (limit snapshot) commands ≡ a → nat_le snapshot MAX_SNAPSHOT ≡ b → a && b ≡ false → (commands ≤ limit snapshot) ⊎ (MAX_SNAPSHOT < snapshot)
    by true true p q h = absurd cc
    by true false p q h = inr (grind (arith, nat_tests))
    by false b p q h = inl (grind (arith, nat_tests))

module _ {L S : Type 0} (log : L → Log) (disk : S → Disk) (t : ℕ) (old : Tenants L S) where
  -- it is not looked at
  pub unlooked : commands_of log old t ≤ renew_at_of old t → IsRenewedIfDue log disk t old old
  unlooked few = record {
    stays = λ h. (refl, refl);
    renews = λ due. absurd (let more = due.0 in omega (arith, few, more));
    limited = λ more. absurd (omega (arith, few, more));
    unlooked = λ h. refl;
    looked = λ more. absurd (omega (arith, few, more));
  }

  module _ (new : Tenants L S) (more : IsLookedAt log old t) (next : renew_at_of new t ≡ next_look (commands_of log new t) (snapshot_of (kept_of (hosted log disk old) t))) where
    -- it is looked at, and not due
    pub undue : is_due (commands_of log old t) (snapshot_of (kept_of (hosted log disk old) t)) ≡ false → parts_of new.tenants.items ≡ parts_of old.tenants.items → new.shelf ≡ old.shelf
        → commands_of log new t ≡ commands_of log old t → IsRenewedIfDue log disk t old new
    undue early parts shelf commands = record {
      stays = λ h. (parts, shelf);
      renews = λ d. absurd (let late = d.1 in cc);
      limited = λ _ calm. subst (λ n. (n ≤ limit (snapshot_of (kept_of (hosted log disk old) t))) ⊎ (MAX_SNAPSHOT < snapshot_of (kept_of (hosted log disk old) t))) (sym commands)
          (small_enough (commands_of log old t) (snapshot_of (kept_of (hosted log disk old) t)) early);
      unlooked = λ h. absurd (h more);
      looked = λ _. next;
    }

    -- it is due
    pub due : is_due (commands_of log old t) (snapshot_of (kept_of (hosted log disk old) t)) ≡ true
        → (IsCalm (refusals_of (hosted log disk old) t) (refusals_of (hosted log disk new) t) → commands_of log new t ≡ snapshot_of (kept_of (hosted log disk old) t)) → IsRenewedIfDue log disk t old new
    due late renews = record {
      stays = λ h. absurd (h (more, late));
      renews = λ _. renews;
      limited = λ _ calm. inl (subst (λ n. n ≤ limit (snapshot_of (kept_of (hosted log disk old) t))) (sym (renews calm)) (snapshot_small (snapshot_of (kept_of (hosted log disk old) t))));
      unlooked = λ h. absurd (h more);
      looked = λ _. next;
    }

  -- whose turn comes next is no matter
  pub renewed_next : (new : Tenants L S) (place : ℕ) → IsRenewedIfDue log disk t old new → IsRenewedIfDue log disk t old (record new { next_renewal = place })
  renewed_next new place r = record { stays = r.stays; renews = r.renews; limited = r.limited; unlooked = r.unlooked; looked = r.looked }
