-- A tenant of a broker has after any number of commits, losses and starts what it had.
use Rattle.std.proofs.Common.{◌⊎◌, ◌∷◌, [], ℕ, List, sym, subst, ⊎_elim}
use Rattle.kb_store.specs.Disk.{Files}
use Rattle.kb_tenant_api.specs.Hosted.{Kept}
use Rattle.kb_tenant_state.specs.World.{World}
use Rattle.kb_restart.specs.Restart.{IsReopened, owners_of}
use Rattle.kb_loss.specs.Since.{Touched, AreLeft}
use Rattle.kb_loss.specs.Tenant.{HasWhatWas}
use Rattle.kb_loss.proofs.Commits.{what_is, what_was_then}
use Rattle.kb_loss.proofs.Owned.{named_owners}
use Rattle.kb_loss.proofs.Tenant.{what_was_left}
use Rattle.kb_recovered.specs.Commits.{TenantAt, IsLeftOf, IsOpenedFrom, FollowOn, last_at}
use Rattle.kb_recovered.specs.Recovered.{AreAll, IsWrittenSince, KeepsWhatWas}
use Rattle.kb_recovered.proofs.Recovered.{keeps_what_was}

module _ (name : List ℕ) where
  keeps_itself : (a : TenantAt name) → KeepsWhatWas a.kept a.kept
  keeps_itself a = what_is a.files (owners_of a.files a.numbers name) a.kept.world.known a.kept.world.logs a.found.opened

  keeps_then : (a : TenantAt name) (mid new : Kept) → KeepsWhatWas a.kept mid → KeepsWhatWas mid new → KeepsWhatWas a.kept new
  keeps_then a mid new first then =
      what_was_then a.files (owners_of a.files a.numbers name) a.kept.world.known a.kept.world.logs a.found.opened
      mid.world.known mid.world.logs new.world.known new.world.logs first then

  left_of : (a b : TenantAt name) → IsLeftOf a b → KeepsWhatWas a.kept b.kept
  left_of a b l =
      what_was_left a.files (owners_of a.files a.numbers name) a.kept.world.known a.kept.world.logs a.found.opened name l.touched l.waiting b.files l.left (owners_of b.files b.numbers name)
      (named_owners a.files a.numbers name a.all.once a.all.all) (named_owners b.files b.numbers name b.all.once b.all.all)
      b.kept.world.known b.kept.world.logs l.written.read l.written.written b.found.opened

  opened_from : (a b : TenantAt name) → IsOpenedFrom a b → KeepsWhatWas a.kept b.kept
  opened_from a b o =
      subst (λ (w : World). HasWhatWas a.kept.world.known a.kept.world.logs w.known w.logs) (sym o.same) (keeps_itself a)

  pub all_follow : (a : TenantAt name) (bs : List (TenantAt name)) → FollowOn a bs → KeepsWhatWas a.kept (last_at a bs).kept
  all_follow a [] f = keeps_itself a
  all_follow a (b ∷ bs) f = keeps_then a b.kept (last_at b bs).kept
      (⊎_elim (λ (l : IsLeftOf a b). left_of a b l) (λ (o : IsOpenedFrom a b). opened_from a b o) f.0)
      (all_follow b bs f.1)

  -- and after a further loss
  pub all_follow_lost : (a : TenantAt name) (bs : List (TenantAt name)) → FollowOn a bs → (touched : Touched) (waiting : List ℕ) (found : Files) → AreLeft (last_at a bs).files touched waiting found → (there : List ℕ) → AreAll found there → (new : Kept)
      → IsReopened found there name new → IsWrittenSince (last_at a bs).found touched waiting found there new → KeepsWhatWas a.kept new
  all_follow_lost a bs f touched waiting found left there all new opened written =
      let last = last_at a bs in
      keeps_then a last.kept new (all_follow a bs f) (keeps_what_was last.files last.numbers name last.kept last.found last.all touched waiting found left there all new opened written)
