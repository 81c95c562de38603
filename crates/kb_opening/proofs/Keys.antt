-- Owners that tie are the same.
use Rattle.std.proofs.Common.{◌≡◌, ◌≢◌, true, false, sym, ap}
use Rattle.std.specs.Bool.{Decides}
use Rattle.std.proofs.lemmas.Bool.{false≢true, false_from_ne_true}
use Rattle.std.proofs.lemmas.Bool.Decides.{Decides-like, Decides-and, Decides-eqb, Decides-at}
use Rattle.kb_opening.specs.Owners.{same_owner}
use Rattle.kb_opening.specs.Directory.{files_at}
use Rattle.kb_opening.specs.declared.directory.Directory.{Directory}
use Rattle.kb_opening.specs.declared.owner.Owner.{Owner}
use Rattle.kb_opening.specs.declared.owner.Owner.TheVariants.{Catalog, Partition}
use Rattle.kb_opening.specs.contracts.owner.OwnerPartialEq.TheImpl as owner_eq
use Rattle.kb_opening.specs.contracts.owner.OwnerOrd.TheImpl.Laws.{matches_eq-law}

-- `==` decides whether owners are the same
decides : (a b : Owner) → Decides ((owner_eq.ghosts).eq a b) (a ≡ b)
decides (Catalog t g) (Catalog u h) =
    Decides-like {P = (t ≡ u) × (g ≡ h)} _
    (λ e. λ k. Catalog (e.0 k) (e.1 k))
    (λ e. (cc, cc))
    (Decides-and _ _ (Decides-eqb t u) (Decides-eqb g h))
decides (Catalog t g) (Partition u j q) = (λ e. absurd (false≢true e), λ e. cc)
decides (Partition t i p) (Catalog u h) = (λ e. absurd (false≢true e), λ e. cc)
decides (Partition t i p) (Partition u j q) =
    Decides-like {P = (t ≡ u) × ((i ≡ j) × (p ≡ q))} _
    (λ h. λ k. Partition (h.0 k) (h.1.0 k) (h.1.1 k))
    (λ e. (cc, (cc, cc)))
    (Decides-and _ _ (Decides-eqb t u) (Decides-and _ _ (Decides-eqb i j) (Decides-eqb p q)))

pub same_owner-decides : (a b : Owner) → Decides (same_owner a b) (a ≡ b)
same_owner-decides a b = Decides-at _ _ (sym (matches_eq-law a b)) (decides a b)

pub apart_owners : (a b : Owner) → b ≢ a → same_owner a b ≡ false
apart_owners a b ne = false_from_ne_true (same_owner a b) (λ e. ne (sym ((same_owner-decides a b).0 e)))

-- the same owner has the same files
pub same_files_at : (d : Directory) (a b : Owner) → same_owner a b ≡ true → files_at a d ≡ files_at b d
same_files_at d a b e = ap (λ o. files_at o d) ((same_owner-decides a b).0 e)
