-- Some removals, one after another.
use Rattle.std.proofs.Common.{◌≡◌, ◌∙◌, ◌≤◌, ◌<◌, ◌+◌, ℕ, List, drop, refl, sym, ap, subst, arith, ⊎_elim, inl, inr}
use Rattle.std.proofs.lemmas.List.{drop-drop}
use Rattle.kb_store.specs.Disk.{Disk, Keeps}
use Rattle.kb_store.specs.Loss.{Loss, IsLawfulLoss, Goes, Only, Same, Clears}
use Rattle.kb_store.specs.LossLaws.{stays_goes, cleared_not}
use Rattle.kb_durable.specs.Durable.{disk_left}
use Rattle.kb_durable.specs.Waiting.{without_keys, AreThere, Trims}
use Rattle.kb_durable.proofs.Left.{without_both}
use Rattle.kb_durable.proofs.Lost.{goes_then, cleared_twice, same_then, trims_none, trims_synced, trims_then}

-- The first i are done, and all is synced.
pub record IsRun (i : ℕ) (ks js : List ℕ) (d : Disk) (a : Loss) (e : Disk) (b : Loss) : Type 0 where
  pub left : js ≡ drop i ks
  pub trims : Trims i ks js d a e b
  pub there : AreThere js e.table
  pub synced : e.honest → Only e.files b
  pub loss : Goes (Clears (without_keys ks d.table)) a b
  pub later : d.failures ≤ e.failures

pub begun : (ks : List ℕ) (d : Disk) (a : Loss) → AreThere ks d.table → (d.honest → Only d.files a) → IsRun 0 ks ks d a d a
begun ks d a there synced = record {
  left = refl;
  trims = trims_none 0 ks d a;
  there = there;
  synced = synced;
  loss = stays_goes (Clears (without_keys ks d.table)) (cleared_not (without_keys ks d.table)) a;
  later = omega arith;
}

pub widen : (m n : ℕ) (ks js : List ℕ) (d e : Disk) (a b : Loss) → m ≤ n → Trims m ks js d a e b → Trims n ks js d a e b
widen m n ks js d e a b le trims = record {
  count = trims.count;
  at_most = omega (arith, le, trims.at_most);
  rest = trims.rest;
  disk = trims.disk;
  between = λ h t found since left. ⊎_elim (λ was. inl was) (λ x. inr (x.0, omega (arith, le, x.1), x.2)) (trims.between h t found since left);
}

module _ (i : ℕ) (ks js hs : List ℕ) (d e f : Disk) (a b c : Loss) (run : IsRun i ks js d a e b) where
  all_left : without_keys js e.table ≡ without_keys ks d.table
  all_left =
      ap (λ l. without_keys l e.table) run.trims.rest ∙ ap (without_keys (drop run.trims.count ks)) run.trims.disk.table ∙ without_both run.trims.count ks d.table

  pub run_loss : Goes (Clears (without_keys js e.table)) b c → Goes (Clears (without_keys ks d.table)) a c
  run_loss goes =
      let t = without_keys ks d.table in
      goes_then (Clears t) (Clears t) (Clears t) a b c (λ x y p. p) (λ x y z p q. cleared_twice t x y z p q) run.loss
      (subst (λ m. Goes (Clears m) b c) all_left goes)

  pub run_trims : i < 16 → Trims 1 js hs e b f c → Trims 16 ks hs d a f c
  run_trims more trims = widen (i + 1) 16 ks hs d f a c (omega (arith, more)) (trims_then i 1 ks js hs d e f a b c run.loss.later run.trims trims)

  pub run_on : hs ≡ drop 1 js → Trims 1 js hs e b f c → AreThere hs f.table → (f.honest → Only f.files c)
      → Goes (Clears (without_keys js e.table)) b c → e.failures ≤ f.failures → IsRun (i + 1) ks hs d a f c
  run_on rest trims there synced goes later = record {
    left = rest ∙ ap (drop 1) run.left ∙ drop-drop 1 i ks;
    trims = trims_then i 1 ks js hs d e f a b c run.loss.later run.trims trims;
    there = there;
    synced = synced;
    loss = run_loss goes;
    later = omega (arith, later, run.later);
  }

-- ---- after a sync of what was changed

module _ (ks hs js : List ℕ) (d e f : Disk) (a b c : Loss) (timely : IsLawfulLoss a) (same : hs ≡ ks) (keeps : Keeps d e) (goes : Goes Same a b) where
  -- nothing is removed
  pub trims_flushed : (most : ℕ) → Trims most ks hs d a e b
  trims_flushed most = subst (λ l. Trims most ks l d a e b) (sym same) (trims_synced most ks ks d d e a a b (omega arith) timely (trims_none most ks d a) keeps goes)

  -- some are
  pub trims_after : Trims 16 hs js e b f c → Trims 16 ks js d a f c
  trims_after trims =
      trims_then 0 16 ks hs js d e f a b c goes.later (trims_flushed 0) trims

  pub loss_after : Goes (Clears (without_keys hs e.table)) b c → Goes (Clears (without_keys ks d.table)) a c
  loss_after clears =
      let t = without_keys ks d.table in
      let is : without_keys hs e.table ≡ t = ap (λ l. without_keys l e.table) same ∙ ap (without_keys ks) keeps.table in
      same_then (Clears t) a b c (cleared_not t) goes (subst (λ m. Goes (Clears m) b c) is clears)

-- what callers see stays
pub trims_left : (most : ℕ) (ks js : List ℕ) (r s : ℕ) (d f : Disk) (a c : Loss) → Trims most ks js d a f c → Keeps (disk_left ks r d) (disk_left js s f)
trims_left most ks js r s d f a c trims = record {
  table = ap (λ l. without_keys l f.table) trims.rest ∙ ap (without_keys (drop trims.count ks)) trims.disk.table ∙ without_both trims.count ks d.table;
  honest = λ h. trims.disk.honest h;
  files = λ h. ap (λ l. without_keys l f.files) trims.rest ∙ ap (without_keys (drop trims.count ks)) (trims.disk.files h) ∙ without_both trims.count ks d.files;
}
