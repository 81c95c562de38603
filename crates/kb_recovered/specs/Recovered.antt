-- What a tenant of a broker has after a loss of power.
use Rattle.std.specs.Prelude.{ℕ, List, IsSome, nat_eq}
use Rattle.std.specs.FinMap.{get}
use Rattle.std.specs.List.{Contains, IsDistinct}
use Rattle.kb_store.specs.Disk.{Files}
use Rattle.kb_tenant_api.specs.Hosted.{Kept}
use Rattle.kb_restart.specs.Again.{IsFound}
use Rattle.kb_restart.specs.Restart.{owners_of}
use Rattle.kb_loss.specs.Since.{Touched}
use Rattle.kb_loss.specs.Tenant.{IsReadAgain, TenantIsWritten, HasWhatWas}

-- Those are all files of a store, each once.
pub record AreAll (files : Files) (numbers : List ℕ) : Type 0 where
  pub once : IsDistinct nat_eq numbers
  pub all : (n : ℕ) → IsSome (get files n) → Contains numbers n

-- The logs of a named tenant were written in order since a commit, and what is left of its catalog can be read.
pub record IsWrittenSince {files : Files} {numbers name : List ℕ} {old : Kept} (was : IsFound files numbers name old) (touched : Touched)
    (waiting : List ℕ) (found : Files) (there : List ℕ) (new : Kept) : Type 0 where
  pub read : IsReadAgain was.opened found (owners_of found there name)
  pub written : TenantIsWritten was.opened name touched waiting found (owners_of found there name) new.world.known

-- The tenant keeps what it kept.
abbrev pub KeepsWhatWas : Kept → Kept → Type 0
KeepsWhatWas old new = HasWhatWas old.world.known old.world.logs new.world.known new.world.logs
