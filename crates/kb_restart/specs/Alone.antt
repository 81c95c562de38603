-- The files of one tenant, beside those of many.
use Rattle.std.specs.Prelude.{◌≡◌, ℕ, Bool, true, List, IsSome, bytes_eq, map}
use Rattle.std.specs.FinMap.{get, keys}
use Rattle.kb_store.specs.Disk.{Files}
use Rattle.kb_segment.specs.Header.{Header}
use Rattle.kb_settings.specs.declared.settings.Settings.{Settings}
use Rattle.kb_topics.specs.Known.{Known}
use Rattle.kb_tenant_state.specs.Logs.{Logs}
use Rattle.kb_opening.specs.Opened.{IsOpened}
use Rattle.kb_opening.specs.Owners.{says}
use Rattle.kb_isolation_spec.specs.Broker.{BrokerState}
use Rattle.kb_isolation_spec.specs.Isolation.{IsIsolated}
use Rattle.kb_isolation_spec.specs.Machine.{Happening}
use Rattle.kb_broker.specs.Opening.{opening_over, tenants_of}
use Rattle.kb_broker.specs.Runs.{connections_of, sent_of}
use Rattle.kb_broker.specs.declared.opening.Listing.{Listing}
use Rattle.kb_broker.specs.declared.run.Written.{Written}
use Rattle.kb_restart.specs.Restart.{have_nothing_refused, owners_of, AreReopened}

-- ---- the files of a tenant

-- a header names that tenant
abbrev pub is_of_tenant : List ℕ → Header → Bool
is_of_tenant name h = bytes_eq h.tenant name

-- The file is there, and its header can be read and names that tenant.
pub record IsFileOfTenant (name : List ℕ) (files : Files) (file : ℕ) : Type 0 where
  pub there : IsSome (get files file)
  pub named : says files (is_of_tenant name) file ≡ true

-- Each file of a tenant that is among some files is among others, too: under the same number, with the same bytes.
abbrev pub HasFilesOf : List ℕ → Files → Files → Type 0
HasFilesOf name from to = (file : ℕ) → IsFileOfTenant name from file → get to file ≡ get from file

-- Both have the same files of a tenant, whatever else is among them.
pub record HaveSameFilesOf (name : List ℕ) (a b : Files) : Type 0 where
  pub forth : HasFilesOf name a b
  pub back : HasFilesOf name b a

-- Of shared files some are those of a tenant, and no other.
pub record AreFilesAlone (name : List ℕ) (shared own : Files) : Type 0 where
  pub all : HasFilesOf name shared own
  pub only : (file : ℕ) → IsSome (get own file) → IsFileOfTenant name shared file

-- What the files of a tenant come to among some they come to among others.
abbrev pub OpensAlike : List ℕ → Files → Files → Type 0
OpensAlike name a b =
    (k : Known) (logs : Logs) → IsOpened a (owners_of a (keys a) name) k logs → IsOpened b (owners_of b (keys b) name) k logs

-- ---- the broker that opens with them

-- A broker starts with what some files come to, under those settings. So says `open_broker` of its broker and the files that were there,
-- where the store is honest.
pub record StartsFrom (listing : Listing) (settings : Settings) (files : Files) (b : BrokerState) : Type 0 where
  pub fixed : b ≡ opening_over listing settings b.tenants
  pub found : AreReopened files (keys files) (tenants_of settings.users.items) b.tenants

-- ---- its run

-- A broker started with what some files came to, and nothing was refused yet. The events brought it there, and each tenant's connections
-- got what the tenant's machine writes.
pub record RanFrom (listing : Listing) (settings : Settings) (files : Files) (es : List Happening) (after : BrokerState)
    (written : List Written) : Type 0 where
  pub start : BrokerState
  pub starts : StartsFrom listing settings files start
  pub calm : have_nothing_refused start.tenants
  pub isolated : IsIsolated es start after (map sent_of written)
  pub connections : map (λ (w : Written). w.conn) written ≡ connections_of es start
