-- A broker on its store, and its tenants there.
use Rattle.std.specs.Prelude.{◌≡◌, ◌≤◌, ◌<◌, ℕ, List, [], length, Option, Some, None, unwrap_or}
use Rattle.kb_store.specs.Disk.{Disk}
use Rattle.kb_log.specs.OnShelf.{Log}
use Rattle.kb_tenant.specs.Batches.{HasSmallLogs}
use Rattle.kb_tenant.specs.LimitsKept.{HasOrderedCommits}
use Rattle.kb_tenant_api.specs.Hosted.{TenantState, refusals_of}
use Rattle.kb_tenants.specs.Counts.{AreShared, all_counts}
use Rattle.kb_tenants.specs.declared.counts.Counts.{Counts}
use Rattle.kb_tenants.specs.Tenants.{AreKept, AreLeftAlone, IsKeptIn, hosted, numbers_in}
use Rattle.kb_tenants.specs.declared.tenants.Tenants.{Tenants}
use Rattle.kb_isolation_spec.specs.Machine.{Happening, first_able}
use Rattle.kb_broker.specs.Truth.{SpeaksTruth}
use Rattle.kb_isolation_spec.specs.Broker.{BrokerState, AreUnready, AnyWait, IsSound, IsStep, kept_of_tenant}

-- 1. The tenants

-- by place
abbrev pub tenants_in : {L S : Type 0} → (L → Log) → (S → Disk) → Tenants L S → List TenantState
tenants_in log disk hosts = hosted log disk hosts

-- what holds of them between two calls
abbrev pub AreHosted : {L S : Type 0} → (L → Log) → (S → Disk) → Tenants L S → Type 0
AreHosted log disk hosts = AreKept log disk hosts

-- At a later moment the store has told the truth only if it had before, and its failures are no fewer. No tenant's count of
-- refusals is smaller, and the counts together have risen by at least as much as the failures, unless one has come to its end; and as many
-- refusals more are the store's. The files that are left alone are the same, and have the bytes that they had.
pub record IsLaterWith (old new : Disk) (strays left : Option (List ℕ)) (ts us : List TenantState) (cs ds : List Counts) : Type 0 where
  pub honest : new.honest → old.honest
  pub failures : old.failures ≤ new.failures
  pub many : length us ≡ length ts
  pub counts : (t : ℕ) → refusals_of ts t ≤ refusals_of us t
  pub accounted : AreShared ts us old.failures new.failures cs ds
  pub strays_are : left ≡ strays
  pub left_alone : AreLeftAlone (unwrap_or strays []) old new

abbrev pub AreLater : {L S : Type 0} → (L → Log) → (S → Disk) → Tenants L S → Tenants L S → Type 0
AreLater log disk old new = IsLaterWith (disk old.shelf.store) (disk new.shelf.store) (numbers_in old.strays) (numbers_in new.strays)
    (tenants_in log disk old) (tenants_in log disk new) (all_counts old) (all_counts new)

-- 2. The broker

-- a broker, the store on which it stands, the files there that are of no log and are left alone, where it is known which they are; and by
-- place what is counted for each tenant beside its refusals, and how many commands the log of its catalog has recorded
pub record OnStore (S : Type 0) : Type 0 where
  pub state : BrokerState
  pub store : S
  pub strays : Option (List ℕ)
  pub counts : List Counts
  pub commands : List ℕ

-- whether the store has told the truth so far
abbrev pub is_honest : {S : Type 0} → (S → Disk) → OnStore S → Type 0
is_honest disk b = (disk b.store).honest

-- A broker at a later moment: the same of its store and its tenants; and unless the store lied it went there in such a way.
pub record IsLaterBy {S : Type 0} (disk : S → Disk) (Goes : BrokerState → BrokerState → Type 0) (old new : OnStore S) : Type 0 where
  pub honest : is_honest disk new → is_honest disk old
  pub failures : (disk old.store).failures ≤ (disk new.store).failures
  pub many : length new.state.tenants ≡ length old.state.tenants
  pub counts : (t : ℕ) → refusals_of old.state.tenants t ≤ refusals_of new.state.tenants t
  pub accounted : AreShared old.state.tenants new.state.tenants (disk old.store).failures (disk new.store).failures old.counts new.counts
  pub strays_are : new.strays ≡ old.strays
  pub left_alone : AreLeftAlone (unwrap_or old.strays []) (disk old.store) (disk new.store)
  pub spoken : is_honest disk new → Goes old.state new.state

-- so it is of a broker, of what it said nothing
abbrev pub IsLaterOn : {S : Type 0} → (S → Disk) → OnStore S → OnStore S → Type 0
IsLaterOn disk old new = IsLaterWith (disk old.store) (disk new.store) old.strays new.strays old.state.tenants new.state.tenants old.counts
    new.counts

-- what it said meanwhile to its tenants is the truth, whatever was refused, while nothing came
abbrev pub IsLater : {S : Type 0} → (S → Disk) → OnStore S → OnStore S → Type 0
IsLater disk old new = IsLaterBy disk SpeaksTruth old new

-- Where it is known which files are of no log, what each tenant has is in the files of the store, unless it lied, and whatever was refused:
-- opened again the files come to the same.
abbrev pub IsInFiles : {L S : Type 0} → (L → Log) → (S → Disk) → OnStore S → Type 0
IsInFiles log disk b = is_honest disk b → (strays : List ℕ) → b.strays ≡ Some strays → (t : ℕ) → t < length b.state.tenants
    → IsKeptIn log (disk b.store) strays b.state.tenants t

-- an event is a step, unless the store lied
abbrev pub StepsTo : {S : Type 0} → (S → Disk) → Happening → OnStore S → OnStore S → Type 0
StepsTo disk e old new = is_honest disk new → IsStep e old.state new.state

-- nothing that waits is ready, unless the store lied
abbrev pub NoneReady : {S : Type 0} → (S → Disk) → OnStore S → Type 0
NoneReady disk b = is_honest disk b → AreUnready AnyWait b.state

-- the logs of each tenant are within their limits, unless the store lied
abbrev pub AreSmall : {S : Type 0} → (S → Disk) → OnStore S → Type 0
AreSmall disk b = is_honest disk b → (t : ℕ) → HasSmallLogs (kept_of_tenant b.state t).world

-- no group of a tenant has two offsets of one partition, unless the store lied
abbrev pub AreOrdered : {S : Type 0} → (S → Disk) → OnStore S → Type 0
AreOrdered disk b = is_honest disk b → (t : ℕ) → HasOrderedCommits (kept_of_tenant b.state t).world

-- what holds between the events
pub record IsReadyOn {S : Type 0} (disk : S → Disk) (b : OnStore S) : Type 0 where
  pub sound : IsSound b.state
  pub settled : first_able b.state.lines ≡ None
  pub unready : NoneReady disk b
