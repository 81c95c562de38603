-- Commits of a broker one after another, with losses of power and starts between them, as one tenant sees them.
use Rattle.std.specs.Prelude.{◌≡◌, ◌⊎◌, ℕ, List, [], ◌∷◌}
use Rattle.kb_store.specs.Disk.{Files}
use Rattle.kb_tenant_api.specs.Hosted.{Kept}
use Rattle.kb_restart.specs.Again.{IsFound}
use Rattle.kb_loss.specs.Since.{Touched, AreLeft}
use Rattle.kb_recovered.specs.Recovered.{AreAll, IsWrittenSince}

-- A named tenant at a commit, or as an opening finds it: all files of a store, and what the tenant keeps, to which its files come.
pub record TenantAt (name : List ℕ) : Type 0 where
  pub files : Files
  pub numbers : List ℕ
  pub all : AreAll files numbers
  pub kept : Kept
  pub found : IsFound files numbers name kept

-- The files are what a loss may leave of those of a commit, or what calls and removals left of them. The tenant's logs were written in
-- order since the commit, and what is left of its catalog can be read.
pub record IsLeftOf {name : List ℕ} (commit now : TenantAt name) : Type 0 where
  pub touched : Touched
  pub waiting : List ℕ
  pub left : AreLeft commit.files touched waiting now.files
  pub written : IsWrittenSince commit.found touched waiting now.files now.numbers now.kept

-- An opening drops files and cuts others, and what the tenant has is what was found.
pub record IsOpenedFrom {name : List ℕ} (found now : TenantAt name) : Type 0 where
  pub same : now.kept.world ≡ found.kept.world

-- Each is left of the one before it, or is what an opening made of it.
abbrev pub FollowOn : {name : List ℕ} → TenantAt name → List (TenantAt name) → Type 0
FollowOn a [] = Unit {0}
FollowOn a (b ∷ bs) = (IsLeftOf a b ⊎ IsOpenedFrom a b) × FollowOn b bs

-- the last one of some
abbrev pub last_at : {name : List ℕ} → TenantAt name → List (TenantAt name) → TenantAt name
last_at a [] = a
last_at a (b ∷ bs) = last_at b bs
