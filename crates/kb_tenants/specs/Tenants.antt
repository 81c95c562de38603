-- All tenants of a broker on one shelf.
use Rattle.std.specs.Prelude.{◌≡◌, ◌<◌, ◌≤◌, ◌≤ℤ◌, ◌+◌, ◌-◌, ◌-ℤ◌, ◌^◌, ◌++◌, ◌∷◌, ◌⊎◌, [], ℕ, ℤ, pos, Bool, true, List, Option, Some, IsSome}
use Rattle.std.specs.Prelude.{get_or, min, option_map, unwrap_or}
use Rattle.std.specs.Prelude.{map, slice_get, string_bytes, Contains, ⊤}
use Rattle.std.specs.FinMap.{get}
use Rattle.std.specs.Int.{int_min}
use Rattle.std.specs.declared.alloc.Global.{Global}
use Rattle.std.specs.declared.vec.Vec.{Vec}
use Rattle.kb_store.specs.Disk.{Disk, Table, Files, IsThere, bytes_of}
use Rattle.kb_log.specs.OnShelf.{Log}
use Rattle.kb_coordinator.specs.Calls as groups
use Rattle.kb_coordinator.specs.Groups.{Groups, earliest, none}
use Rattle.kb_groups.specs.declared.reply.Release.{Release}
use Rattle.kb_tenant_state.specs.Calls.{retain_all}
use Rattle.kb_batch.specs.Batch.{natural}
use Rattle.kb_topics.specs.Catalog.{known, catalog_identity}
use Rattle.kb_topics.specs.Known.{Known}
use Rattle.kb_snapshot.specs.Renewal.{IsUnfinished}
use Rattle.kb_tenant_state.specs.Partitions.{logs_of}
use Rattle.kb_tenant_state.specs.Parts.{IsSound, Agrees, IsBegun, IsPast, Owns, entries, meta, world_of}
use Rattle.kb_tenant_state.specs.Scene.{IsGivenUp}
use Rattle.kb_tenant_state.specs.Counts.{IsCalm}
use Rattle.kb_tenant_state.specs.declared.parts.Parts.{Parts}
use Rattle.kb_tenant_state.specs.declared.topic_partition.TopicPartition.{TopicPartition}
use Rattle.kb_tenant_api.specs.Acknowledged.{IsTruthful}
use Rattle.kb_tenant_api.specs.declared.answer.Answer.{Answer as AnyAnswer}
use Rattle.kb_tenant.specs.declared.node.Node.{Node}
use Rattle.kb_tenant_api.specs.Hosted.{Kept, TenantState, kept_in, kept_of, names_of, passed, refusals_of}
use Rattle.kb_tenant_api.specs.Replies.{told_to}
use Rattle.kb_tenant.specs.Replies.{Silent}
use Rattle.kb_tenant.specs.declared.answer.Answer.{Answer}
use Rattle.kb_tenant.specs.declared.answer.Answer.TheVariants as answers
use Rattle.kb_tenants.specs.declared.tenants.Tenant.{Tenant}
use Rattle.kb_tenants.specs.declared.tenants.Tenants.{Tenants}

-- Each tenant's parts are sound, and no file is of two tenants.
pub record AllAreSound {L : Type 0} (log : L → Log) (ps : List (Parts L)) (table : Table) (next : ℕ) : Type 0 where
  pub each : (t : ℕ) (p : Parts L) → slice_get ps t ≡ Some p → IsSound log p table next
  pub apart : (t u : ℕ) (p q : Parts L) → slice_get ps t ≡ Some p → slice_get ps u ≡ Some q → (t ≡ u → ⊥) → (file : ℕ) → Owns log p file
      → Owns log q file → ⊥

-- Each tenant's logs agree with their files.
abbrev pub AllAgree : {L : Type 0} → (L → Log) → List (Parts L) → Files → Type 0
AllAgree {L} log ps files = (t : ℕ) (p : Parts L) → slice_get ps t ≡ Some p → Agrees log p files

-- the parts of the tenants
abbrev pub parts_of : {L : Type 0} → List (Tenant L) → List (Parts L)
parts_of {L} ts = map (λ (x : Tenant L). x.parts) ts

-- Parts were put behind the others: a tenant's of that name, whose files are to hold so many bytes.
pub record AddsParts {L : Type 0} (name : List ℕ) (size : ℕ) (old new : List (Parts L)) : Type 0 where
  pub parts : Parts L
  pub added : new ≡ old ++ parts ∷ []
  pub named : string_bytes parts.tenant ≡ name
  pub size_is : parts.segment_bytes ≡ size

-- a tenant, where the files are those: its name, what it keeps, and how many refusals were counted for it
abbrev pub state_of : {L : Type 0} → (L → Log) → Files → Tenant L → TenantState
state_of log files x =
    record { name = string_bytes x.name; kept = kept_in (world_of log x.parts files) x.groups; refusals = x.parts.refusals }

-- whether the store has told the truth so far
abbrev pub shelf_is_honest : {L S : Type 0} → (S → Disk) → Tenants L S → Type 0
shelf_is_honest disk ts = (disk ts.shelf.store).honest

-- the tenants, by place
abbrev pub hosted : {L S : Type 0} → (L → Log) → (S → Disk) → Tenants L S → List TenantState
hosted log disk ts = map (state_of log (disk ts.shelf.store).files) ts.tenants.items

-- how many commands the log of each tenant's catalog has recorded, by place
abbrev pub all_commands : {L S : Type 0} → (L → Log) → Tenants L S → List ℕ
all_commands {L} log ts = map (λ (x : Tenant L). (meta log x.parts).end) ts.tenants.items

-- how many that of the tenant at a place has; 0 where there is no such tenant
abbrev pub commands_of : {L S : Type 0} → (L → Log) → Tenants L S → ℕ → ℕ
commands_of log ts t = get_or (all_commands log ts) t 0

-- that log has no room for one more command
abbrev pub IsCatalogFull : {L S : Type 0} → (L → Log) → Tenants L S → ℕ → Type 0
IsCatalogFull log ts t = 2 ^ 63 ≤ commands_of log ts t + 1

-- The answer to a request for a tenant, which came to what it kept and left what it keeps, is the truth, whatever was refused.
abbrev pub IsTruthfulFor : Type 0 → Type 0 → Node → ℕ → ℕ → ℤ → ℤ → ℤ → List ℕ → Kept → Kept → List TopicPartition → AnyAnswer → Type 0
IsTruthfulFor failed full node clock n key version id body k l touched answer =
    IsTruthful failed full node clock n key version id body k.world k.groups l.world l.groups touched answer

-- none of those tenants has a file of these parts
abbrev pub IsApart : {L : Type 0} → (L → Log) → List (Parts L) → Parts L → Type 0
IsApart {L} log ps parts = (t : ℕ) (p : Parts L) → slice_get ps t ≡ Some p → (file : ℕ) → Owns log p file → Owns log parts file → ⊥

-- a tenant of those parts, which has no groups, where the files are those
abbrev pub restored_tenant : {L : Type 0} → (L → Log) → Files → List ℕ → Parts L → TenantState
restored_tenant log files name parts = record { name = name; kept = kept_in (world_of log parts files) none; refusals = parts.refusals }

-- ---- a look

-- after it a request waits no longer: it is a reply, or the connection is to be shut
abbrev pub EndsWait : Answer → Type 0
EndsWait (answers.Reply reply) = ⊤
EndsWait (answers.Wait deadline fetch keys) = ⊥
EndsWait answers.NoReply = ⊥
EndsWait answers.Shut = ⊤

-- what a look comes to in which something was refused: its reply; or the connection is to be shut, also where the request would wait on
abbrev pub reply_or_shut : Answer → Answer
reply_or_shut (answers.Reply reply) = answers.Reply reply
reply_or_shut (answers.Wait deadline fetch keys) = answers.Shut
reply_or_shut answers.NoReply = answers.Shut
reply_or_shut answers.Shut = answers.Shut

-- ---- who is answered

abbrev pub connection_of : Release → ℕ
connection_of r = r.connection

-- the connections whose requests waited and were answered by the last request or moment, in the order of the replies
abbrev pub answered_connections : Groups → List ℕ
answered_connections gs = map connection_of gs.released

-- of what a tenant keeps at most its groups have changed, and a request that they told nothing is told nothing, but on those connections
pub record IsQuietBut (ns : List ℕ) (old new : Kept) : Type 0 where
  pub world : new.world ≡ old.world
  pub told : (n : ℕ) → (Contains ns n → ⊥) → told_to n old.groups ≡ Silent → told_to n new.groups ≡ Silent

-- so it is of each tenant
abbrev pub AreQuietBut : List ℕ → List TenantState → List TenantState → Type 0
AreQuietBut ns old new = (t : ℕ) → IsQuietBut ns (kept_of old t) (kept_of new t)

-- ---- a moment

-- its part for the groups, if a session of one ends or a deadline comes
abbrev pub regrouped : ℕ → Kept → Kept
regrouped clock kept = record kept { groups = groups.passed clock kept.groups }

-- and what retention leaves then
unfoldable pub retained : ℕ → Kept → Kept
retained clock kept = record kept { world = (retain_all clock kept.world).0 }

-- whether there is anything that it drops then
abbrev pub drops : ℕ → Kept → Bool
drops clock kept = (retain_all clock kept.world).1

-- batches of that tenant were dropped then, or a refusal was counted for it
abbrev pub IsDisturbed : (clock t : ℕ) (old new : List TenantState) → Type 0
IsDisturbed clock t old new = (drops clock (kept_of old t) ≡ true) ⊎ (IsCalm (refusals_of old t) (refusals_of new t) → ⊥)

-- of some tenant
abbrev pub IsSomeDisturbed : ℕ → (old new : List TenantState) → Type 0
IsSomeDisturbed clock old new = (t : ℕ) × IsDisturbed clock t old new

-- at each clock up to that one a moment leaves each tenant what it keeps
abbrev pub IsIdleUntil : ℤ → List TenantState → Type 0
IsIdleUntil until ts = (t clock : ℕ) → pos clock ≤ℤ until → passed clock (kept_of ts t) ≡ kept_of ts t

-- the last clock before a moment, as far as clocks reach
abbrev pub clock_before : ℕ → ℤ
clock_before moment = pos (min moment (2 ^ 63 - 1)) -ℤ pos 1

-- the last clock at which a moment leaves a tenant what it keeps: retention, by what its parts tell, and its groups
abbrev pub idle_time : {L : Type 0} → Tenant L → ℤ
idle_time x = int_min x.parts.next_retention_time (clock_before (earliest x.groups.groups))

-- ... each of some tenants what it keeps
abbrev pub least_idle_time : {L : Type 0} → List (Tenant L) → ℤ
least_idle_time [] = pos (2 ^ 63 - 1)
least_idle_time (x ∷ xs) = int_min (idle_time x) (least_idle_time xs)

-- ---- the files

-- the numbers of files, where it is known which these are
abbrev pub numbers_in : Option (Vec ℕ Global) → Option (List ℕ)
numbers_in files = option_map (λ (v : Vec ℕ Global). v.items) files

-- the files that are of no log, as far as they are known
abbrev pub strays_of : Option (Vec ℕ Global) → List ℕ
strays_of files = unwrap_or (numbers_in files) []

-- the file is of some tenant's log
pub record IsOfSome {L : Type 0} (log : L → Log) (ps : List (Parts L)) (file : ℕ) : Type 0 where
  pub tenant : ℕ
  pub parts : Parts L
  pub at : slice_get ps tenant ≡ Some parts
  pub owns : Owns log parts file

-- a file of no tenant, whose number was given out
pub record IsLeftAlone {L : Type 0} (log : L → Log) (ps : List (Parts L)) (next file : ℕ) : Type 0 where
  pub given_out : file < next
  pub nobodys : IsOfSome log ps file → ⊥

-- the files that are left alone have the bytes that they had
abbrev pub AreLeftAlone : List ℕ → Disk → Disk → Type 0
AreLeftAlone strays old new = new.honest → (file : ℕ) → Contains strays file → get new.files file ≡ get old.files file

-- Each file that is there and of no tenant's log is left alone.
pub record AreSettled {L : Type 0} (log : L → Log) (ps : List (Parts L)) (strays : List ℕ) (disk : Disk) : Type 0 where
  pub accounts : (file : ℕ) → IsThere disk file → (IsOfSome log ps file → ⊥) → Contains strays file

-- What refused renewals left, by the place of the tenant and the generation: a log that is not whole, and the bytes that its files had.
abbrev pub Unfinished : Type 0 → Type 0
Unfinished L = ℕ → ℤ → Option (L × Files)

-- Each is of its tenant's catalog, and of a generation that was begun and is not the one in use.
pub record AreUnfinished {L : Type 0} (log : L → Log) (ps : List (Parts L)) (next : ℕ) (us : Unfinished L) : Type 0 where
  pub each : (t : ℕ) (g : ℤ) (p : Parts L) (u : L × Files) → slice_get ps t ≡ Some p → us t g ≡ Some u
      → (k : Known) × (size : ℕ) × IsUnfinished log k (catalog_identity (string_bytes p.tenant) g size) u.0 u.1
  pub begun : (t : ℕ) (g : ℤ) (p : Parts L) (u : L × Files) → slice_get ps t ≡ Some p → us t g ≡ Some u → IsBegun g next
  pub other : (t : ℕ) (g : ℤ) (p : Parts L) (u : L × Files) → slice_get ps t ≡ Some p → us t g ≡ Some u
      → natural g ≡ natural (meta log p).identity.generation → ⊥

-- The file is one of an unfinished log of a tenant's, with the bytes that it had.
pub record IsOfUnfinished {L : Type 0} (log : L → Log) (us : Unfinished L) (tenant file : ℕ) (bytes : List ℕ) : Type 0 where
  pub generation : ℤ
  pub of : L × Files
  pub at : us tenant generation ≡ Some of
  pub owns : (log of.0).owns file
  pub had : get of.1 file ≡ Some bytes

-- It is of a log that its tenant has no more, or of an unfinished one.
pub record IsLeftBy {L : Type 0} (log : L → Log) (ps : List (Parts L)) (us : Unfinished L) (file : ℕ) (bytes : List ℕ) : Type 0 where
  pub tenant : ℕ
  pub parts : Parts L
  pub at : slice_get ps tenant ≡ Some parts
  pub how : IsGivenUp log (string_bytes parts.tenant) (IsPast log parts) file bytes ⊎ IsOfUnfinished log us tenant file bytes

-- Whatever was refused, each file that is there and of no log is left alone, unless it is empty, or some tenant left it with the bytes that
-- it has.
pub record AreAccountedFor {L : Type 0} (log : L → Log) (ps : List (Parts L)) (strays : List ℕ) (disk : Disk) (next : ℕ) : Type 0 where
  pub left : Unfinished L
  pub unfinished : AreUnfinished log ps next left
  pub each : (file : ℕ) → IsThere disk file → (IsOfSome log ps file → ⊥) → (bytes_of disk file ≡ [] → ⊥)
      → (IsLeftBy log ps left file (bytes_of disk file) → ⊥) → Contains strays file

-- What the tenant at a place has is in the files of a disk, on which some are left alone: it has what its parts come to. Beside its parts
-- stand all tenants', which are sound and agree with their files, and each file is accounted for.
pub record IsKeptIn {L : Type 0} (log : L → Log) (disk : Disk) (strays : List ℕ) (ts : List TenantState) (t : ℕ) : Type 0 where
  pub parts : List (Parts L)
  pub next : ℕ
  pub sound : AllAreSound log parts disk.table next
  pub agree : AllAgree log parts disk.files
  pub apart : (file : ℕ) → Contains strays file → IsLeftAlone log parts next file
  pub named : names_of ts ≡ map (λ p. string_bytes p.tenant) parts
  pub own : Parts L
  pub at : slice_get parts t ≡ Some own
  pub accounts : AreAccountedFor log parts strays disk next
  pub known_is : (kept_of ts t).world.known ≡ known own.catalog
  pub logs_are : (kept_of ts t).world.logs ≡ logs_of log (entries own) disk.files

-- ---- between the calls

-- What holds between the calls: the parts are sound on the shelf, each under its tenant's name; on an honest store they agree with
-- their files, and up to a clock a moment leaves each tenant what it keeps. The files that are left alone are no tenant's. Where they are
-- known, each file of an honest store is accounted for, whatever was refused.
pub record AreKept {L S : Type 0} (log : L → Log) (disk : S → Disk) (ts : Tenants L S) : Type 0 where
  pub sound : AllAreSound log (parts_of ts.tenants.items) (disk ts.shelf.store).table ts.shelf.next
  pub named : (t : ℕ) (x : Tenant L) → slice_get ts.tenants.items t ≡ Some x → string_bytes x.parts.tenant ≡ string_bytes x.name
  pub apart : (file : ℕ) → Contains (strays_of ts.strays) file → IsLeftAlone log (parts_of ts.tenants.items) ts.shelf.next file
  pub accounts : IsSome ts.strays → shelf_is_honest disk ts
      → AreAccountedFor log (parts_of ts.tenants.items) (strays_of ts.strays) (disk ts.shelf.store) ts.shelf.next
  pub agree : shelf_is_honest disk ts → AllAgree log (parts_of ts.tenants.items) (disk ts.shelf.store).files
  pub until : shelf_is_honest disk ts → IsIdleUntil ts.next_retention_time (hosted log disk ts)
