-- What a tenant of a broker has, found again in the files of its store.
use Rattle.std.specs.Prelude.{◌≡◌, ℕ, List, [], ◌∷◌, true, Some, slice_get}
use Rattle.std.specs.List.{Contains}
use Rattle.kb_store.specs.Disk.{Files}
use Rattle.kb_tenant_api.specs.Hosted.{Kept, TenantState, kept_of}
use Rattle.kb_opening.specs.Opened.{IsOpened, IsSame}
use Rattle.kb_opening.specs.Owners.{is_of_one, says}
use Rattle.kb_restart.specs.Restart.{IsStray, owners_of}

-- A tenant of that name keeps the topics and the logs that its files come to.
pub record IsFound (files : Files) (numbers name : List ℕ) (kept : Kept) : Type 0 where
  pub opened : IsOpened files (owners_of files numbers name) kept.world.known kept.world.logs

-- of the files that were of no log, those that name a tenant are of none of what the tenants have now
abbrev pub AreStillStrays : Files → List ℕ → List (List ℕ) → List TenantState → List ℕ → List ℕ → Type 0
AreStillStrays files numbers names ts name strays =
    (file : ℕ) → Contains strays file → says files (is_of_one (name ∷ [])) file ≡ true → IsStray files numbers names ts file

-- no name stands twice
abbrev pub AreApart : List (List ℕ) → Type 0
AreApart names = (t u : ℕ) (name : List ℕ) → slice_get names t ≡ Some name → slice_get names u ≡ Some name → t ≡ u

-- Of two times the tenant at a place has the same topics, with their settings, starts and committed offsets, as many producer ids given
-- out, and of each partition the same log.
abbrev pub HasSame : List TenantState → List TenantState → ℕ → Type 0
HasSame ts us t = IsSame (kept_of ts t).world.known (kept_of ts t).world.logs (kept_of us t).world.known (kept_of us t).world.logs
