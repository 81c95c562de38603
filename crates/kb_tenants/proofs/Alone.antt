-- The files that are left alone, over calls in turn.
use Rattle.std.proofs.Common.{◌≡◌, ◌∙◌, ℕ, List, sym, ap, refl, subst}
use Rattle.std.specs.Prelude.{Contains}
use Rattle.std.specs.FinMap.{get}
use Rattle.kb_store.specs.Disk.{Disk}
use Rattle.kb_log.specs.Shelf.{Shelved}
use Rattle.kb_tenants.specs.Tenants.{AreLeftAlone, shelf_is_honest, strays_of}
use Rattle.kb_tenants.specs.declared.tenants.Tenants.{Tenants}

-- nothing was done
pub alone_same : (files : List ℕ) (d : Disk) → AreLeftAlone files d d
alone_same files d honest file stray = refl

-- what two calls leave alone
pub alone_then : (files : List ℕ) (d e f : Disk) → (f.honest → e.honest) → AreLeftAlone files d e → AreLeftAlone files e f → AreLeftAlone files d f
alone_then files d e f before first second honest file stray = second honest file stray ∙ first (before honest) file stray

module _ {L S : Type 0} (disk : S → Disk) (old mid new : Tenants L S) where
  -- the first left the shelf
  pub alone_since : mid.strays ≡ old.strays → mid.shelf ≡ old.shelf → AreLeftAlone (strays_of mid.strays) (disk mid.shelf.store) (disk new.shelf.store)
      → AreLeftAlone (strays_of old.strays) (disk old.shelf.store) (disk new.shelf.store)
  alone_since strays shelf alone honest file stray =
      alone honest file (subst (λ o. Contains (strays_of o) file) (sym strays) stray) ∙ ap (λ (s : Shelved S). get (disk s.store).files file) shelf

  -- where the second left the shelf, the store was honest before
  pub honest_before : new.shelf ≡ mid.shelf → shelf_is_honest disk new → shelf_is_honest disk mid
  honest_before shelf honest = subst (λ (s : Shelved S). (disk s.store).honest) shelf honest

  pub alone_still : new.shelf ≡ mid.shelf → AreLeftAlone (strays_of old.strays) (disk old.shelf.store) (disk mid.shelf.store) → AreLeftAlone (strays_of old.strays) (disk old.shelf.store) (disk new.shelf.store)
  alone_still shelf alone honest file stray = ap (λ (s : Shelved S). get (disk s.store).files file) shelf ∙ alone (honest_before shelf honest) file stray
