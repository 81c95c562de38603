-- A sync leaves what the tenants have.
use Rattle.std.proofs.Common.{◌≡◌, ◌∙◌, ℕ, List, [], IsSome, ap, subst, sym}
use Rattle.std.specs.Prelude.{length, map, unwrap_or}
use Rattle.std.proofs.lemmas.List.{length-map}
use Rattle.kb_store.specs.Disk.{Disk, Files, Table, Keeps, bytes_of}
use Rattle.kb_log.specs.OnShelf.{Log}
use Rattle.kb_log.specs.Shelf.{Shelved}
use Rattle.std.specs.FinMap.{get}
use Rattle.kb_tenant_state.specs.declared.parts.Parts.{Parts}
use Rattle.kb_tenants.specs.declared.tenants.Tenants.{Tenants}
use Rattle.kb_tenants.specs.Tenants.{AreKept, AllAreSound, AllAgree, AreAccountedFor, IsLeftBy, IsIdleUntil, IsLeftAlone, hosted, parts_of, state_of, strays_of}

accounts_synced : {L : Type 0} (log : L → Log) (ps : List (Parts L)) (strays : List ℕ) (old new : Disk) (next : ℕ) → Keeps old new → new.honest
    → AreAccountedFor log ps strays old next → AreAccountedFor log ps strays new next
accounts_synced log ps strays old new next keeps honest before = record {
  left = before.left;
  unfinished = before.unfinished;
  each = λ file there not full other.
      let bytes : bytes_of new file ≡ bytes_of old file = ap (λ (files : Files). unwrap_or (get files file) []) (keeps.files honest) in
      before.each file (subst (λ (table : Table). IsSome (get table file)) keeps.table there) not (λ empty. full (bytes ∙ empty))
      (λ o. other (subst (IsLeftBy log ps before.left file) (sym bytes) o));
}

module _ {L S : Type 0} (log : L → Log) (disk : S → Disk) (old : Tenants L S) (shelf : Shelved S) (next : shelf.next ≡ old.shelf.next)
    (keeps : Keeps (disk old.shelf.store) (disk shelf.store)) where
  pub hosted_synced : (disk shelf.store).honest → hosted log disk (record old { shelf = shelf }) ≡ hosted log disk old
  hosted_synced honest = ap (λ (files : Files). map (state_of log files) old.tenants.items) (keeps.files honest)

  pub count_synced : length (hosted log disk (record old { shelf = shelf })) ≡ length (hosted log disk old)
  count_synced = length-map old.tenants.items (state_of log (disk shelf.store).files) ∙ sym (length-map old.tenants.items (state_of log (disk old.shelf.store).files))

  pub kept_synced : AreKept log disk old → AreKept log disk (record old { shelf = shelf })
  kept_synced kept = record {
    sound = subst (λ (t : Table). AllAreSound log (parts_of old.tenants.items) t shelf.next) (sym keeps.table)
        (subst (AllAreSound log (parts_of old.tenants.items) (disk old.shelf.store).table) (sym next) kept.sound);
    named = kept.named;
    apart = λ file stray. subst (λ n. IsLeftAlone log (parts_of old.tenants.items) n file) (sym next) (kept.apart file stray);
    accounts = λ some honest. subst (AreAccountedFor log (parts_of old.tenants.items) (strays_of old.strays) (disk shelf.store)) (sym next)
        (accounts_synced log (parts_of old.tenants.items) (strays_of old.strays) (disk old.shelf.store) (disk shelf.store) old.shelf.next keeps honest (kept.accounts some (keeps.honest honest)));
    agree = λ honest. subst (AllAgree log (parts_of old.tenants.items)) (sym (keeps.files honest)) (kept.agree (keeps.honest honest));
    until = λ honest. subst (IsIdleUntil old.next_retention_time) (sym (hosted_synced honest)) (kept.until (keeps.honest honest));
  }
