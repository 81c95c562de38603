-- Commits of a tenant one after another, with losses of power and starts between them.
use Rattle.std.specs.Prelude.{◌≡◌, ◌⊎◌, ℕ, List, [], ◌∷◌}
use Rattle.kb_store.specs.Disk.{Files}
use Rattle.kb_topics.specs.Known.{Known}
use Rattle.kb_tenant_state.specs.Logs.{Logs}
use Rattle.kb_opening.specs.Opened.{Owners, IsOpened}
use Rattle.kb_loss.specs.Since.{Touched, AreLeft}
use Rattle.kb_loss.specs.Tenant.{AreOfTenant, IsReadAgain, TenantIsWritten}

-- A tenant at a commit, or as an opening finds it: the files of a store, which of them are of its logs, and what they come to.
pub record TenantAt (name : List ℕ) : Type 0 where
  pub files : Files
  pub owners : Owners
  pub named : AreOfTenant files name owners
  pub known : Known
  pub logs : Logs
  pub opened : IsOpened files owners known logs

-- The files are what a loss may leave of those of a commit, or what calls and removals left of them. The logs were written in order since
-- the commit, and what is left of the catalog can be read.
pub record IsLeftOf {name : List ℕ} (commit now : TenantAt name) : Type 0 where
  pub touched : Touched
  pub waiting : List ℕ
  pub left : AreLeft commit.files touched waiting now.files
  pub again : IsReadAgain commit.opened now.files now.owners
  pub written : TenantIsWritten commit.opened name touched waiting now.files now.owners now.known

-- An opening drops files and cuts others, and what it found is the same.
pub record IsOpenedFrom {name : List ℕ} (found now : TenantAt name) : Type 0 where
  pub known : now.known ≡ found.known
  pub logs : now.logs ≡ found.logs

-- Each is left of the one before it, or is what an opening made of it.
abbrev pub FollowOn : {name : List ℕ} → TenantAt name → List (TenantAt name) → Type 0
FollowOn a [] = Unit {0}
FollowOn a (b ∷ bs) = (IsLeftOf a b ⊎ IsOpenedFrom a b) × FollowOn b bs

-- the last one of some
abbrev pub last_at : {name : List ℕ} → TenantAt name → List (TenantAt name) → TenantAt name
last_at a [] = a
last_at a (b ∷ bs) = last_at b bs
