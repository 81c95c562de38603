-- A refused call of the catalog names what refused it.
use Rattle.std.proofs.Common.{◌≡◌, ◌∙◌, ◌≤◌, ◌+◌, ◌-◌, ◌^◌, ◌⊎◌, ⊎_elim, inl, inr, ℕ, ℤ, nat_le, nat_lt, Bool, true, false, List, length, Option, Some, None, is_some, Result, Err, not, ◌&&◌, sym, ap, refl, subst, arith}
use Rattle.std.proofs.lemmas.Bool.Decides.{nat_tests}
use Rattle.std.specs.Prelude.{if◌then◌else◌}
use Rattle.kb_store.specs.Disk.{Disk}
use Rattle.kb_log.specs.OnShelf.{Log}
use Rattle.kb_tenant_state.specs.Scene.{Scene}
use Rattle.kb_topics.specs.Calls.{IsCause, IsLogCause}
use Rattle.kb_topics.specs.Catalog.{known}
use Rattle.kb_topics.specs.Known.{has_committed, Known, PartitionState, is_limit, is_partition_count, named}
use Rattle.kb_topics.specs.Name.{is_legal}
use Rattle.kb_topics.specs.Refusals.{commit_refusal, create_refusal, delete_group_refusal, issue_refusal}
use Rattle.kb_topics.specs.declared.config.TopicConfig.{TopicConfig}
use Rattle.kb_topics.specs.declared.fault.CatalogFault.{CatalogFault}
use Rattle.kb_topics.specs.declared.fault.CatalogFault.TheVariants as catalog
use Rattle.kb_tenant_state.specs.Parts as parts
use Rattle.kb_tenant_state.specs.Parts.{Agrees, Seen, counted_for_catalog, meta, world_of}
use Rattle.kb_tenant_state.specs.Told.{IsCatalogWant, IsCreationWant, IsDone, IsRefused}
use Rattle.kb_tenant_state.specs.Counts.{counted_once}
use Rattle.kb_tenant_state.specs.World.{World}
use Rattle.kb_tenant_state.specs.declared.parts.Parts.{Parts}
use Rattle.kb_tenant_state.proofs.Recorded.{on_shelf}

-- a refusal of the call's own, which is not counted
abbrev pub IsOwn : CatalogFault → Type 0
IsOwn catalog.Full = ⊥
IsOwn catalog.Store = ⊥
IsOwn catalog.Memory = ⊥
IsOwn _ = Unit {0}

own_kept : {L : Type 0} (f : CatalogFault) (p : Parts L) → IsOwn f → counted_for_catalog f p ≡ p
own_kept catalog.Name p own = refl
own_kept catalog.Exists p own = refl
own_kept catalog.Partitions p own = refl
own_kept catalog.Limit p own = refl
own_kept catalog.TooMany p own = refl
own_kept catalog.Unknown p own = refl
own_kept catalog.Metadata p own = refl
own_kept catalog.Back p own = refl
own_kept catalog.UsedUp p own = refl
own_kept catalog.Full p own = absurd own
own_kept catalog.Store p own = absurd own
own_kept catalog.Memory p own = absurd own

-- ... or each instance was given out
abbrev pub IsDefined : Known → CatalogFault → Type 0
IsDefined k f = IsOwn f ⊎ ((f ≡ catalog.Full) × (2 ^ 63 ≤ k.creates + 1))

-- ---- what the definitions refuse

is_first : (P : CatalogFault → Type 0) (g f : CatalogFault) → P g → Some g ≡ Some f → P f
is_first P g f own e = let same : g ≡ f = cc in subst P same own

create_chain : (k : Known) (f : CatalogFault) (a b c d e g : Bool) → (g ≡ true → 2 ^ 63 ≤ k.creates + 1)
    → (if a then Some catalog.Name else (if b then Some catalog.Exists else (if c then Some catalog.Partitions else (if d then Some catalog.Limit else (if e then Some catalog.TooMany else (if g then Some catalog.Full else None)))))) ≡ Some f
    → IsDefined k f
create_chain k f true b c d e g up is = is_first (IsDefined k) catalog.Name f (inl tt) is
create_chain k f false true c d e g up is = is_first (IsDefined k) catalog.Exists f (inl tt) is
create_chain k f false false true d e g up is = is_first (IsDefined k) catalog.Partitions f (inl tt) is
create_chain k f false false false true e g up is = is_first (IsDefined k) catalog.Limit f (inl tt) is
create_chain k f false false false false true g up is = is_first (IsDefined k) catalog.TooMany f (inl tt) is
create_chain k f false false false false false true up is = is_first (IsDefined k) catalog.Full f (inr (refl, up refl)) is
create_chain k f false false false false false false up is = absurd cc

used_up : (n : ℕ) → nat_le (2 ^ 63 - 1) n ≡ true → 2 ^ 63 ≤ n + 1
used_up n e = grind (arith, nat_tests, e)

pub create_defined : (k : Known) (name : List ℕ) (partitions : ℤ) (config : TopicConfig) (f : CatalogFault) → create_refusal k name partitions config ≡ Some f → IsDefined k f
create_defined k name partitions config f is =
    create_chain k f (not (is_legal name)) (is_some (named name k.topics)) (not (is_partition_count partitions)) (not (is_limit config.retention_ms && is_limit config.retention_bytes))
    (nat_le 1000 (length k.topics)) (nat_le (2 ^ 63 - 1) k.creates) (used_up k.creates) is

pub issue_own : (k : Known) (f : CatalogFault) → issue_refusal k ≡ Some f → IsOwn f
issue_own k f is = by (nat_le (2 ^ 63 - 1) k.issues) is
  where
    by : (t : Bool) → (if t then Some catalog.UsedUp else None) ≡ Some f → IsOwn f
    by true e = is_first IsOwn catalog.UsedUp f tt e
    by false e = absurd cc

pub commit_own : (metadata : List ℕ) (o : Option PartitionState) (f : CatalogFault) → commit_refusal metadata o ≡ Some f → IsOwn f
commit_own metadata None f is = is_first IsOwn catalog.Unknown f tt is
commit_own metadata (Some p) f is = by (nat_lt 4096 (length metadata)) is
  where
    by : (t : Bool) → (if t then Some catalog.Metadata else None) ≡ Some f → IsOwn f
    by true e = is_first IsOwn catalog.Metadata f tt e
    by false e = absurd cc

pub group_own : (k : Known) (group : List ℕ) (f : CatalogFault) → delete_group_refusal k group ≡ Some f → IsOwn f
group_own k group f is = by (has_committed group k.topics) is
  where
    by : (t : Bool) → (if t then None else Some catalog.Unknown) ≡ Some f → IsOwn f
    by true e = absurd cc
    by false e = is_first IsOwn catalog.Unknown f tt e

-- ---- a refused call

module _ {L T : Type 0} (log : L → Log) (old mid : Parts L) (later : Log) (d d' : Disk) (next next' : ℕ) (unless : Option CatalogFault → World × Result T CatalogFault) where
  abbrev before : Scene Seen
  before = parts.scene_on log old d next

  abbrev after : CatalogFault → Scene Seen
  after f = parts.scene_on log (counted_for_catalog f mid) d' next'

  abbrev Told : (CatalogFault → Type 0) → CatalogFault → Option CatalogFault → Type 0
  Told want f refusal = IsDone before (after f) ((world_of log (counted_for_catalog f mid) d'.files, Err f) ≡ unless refusal) ⊎ IsRefused before (after f) (want f)

  abbrev CatalogWant : CatalogFault → Type 0
  CatalogWant f = IsCatalogWant before (after f) f

  abbrev CreationWant : CatalogFault → Type 0
  CreationWant f = IsCreationWant before (after f) f

  module _ (kept : mid.refusals ≡ old.refusals) (same : d'.honest → Agrees log old d.files → world_of log mid d'.files ≡ world_of log old d.files)
      (is : (g : CatalogFault) → unless (Some g) ≡ (world_of log old d.files, Err g)) where
    pub want_told : (f : CatalogFault) → IsLogCause (on_shelf (meta log old) d next) f (on_shelf later d' next') → IsRefused before (after f) (CatalogWant f)
    want_told catalog.Name cause = absurd cause
    want_told catalog.Exists cause = absurd cause
    want_told catalog.Partitions cause = absurd cause
    want_told catalog.Limit cause = absurd cause
    want_told catalog.TooMany cause = absurd cause
    want_told catalog.Unknown cause = absurd cause
    want_told catalog.Metadata cause = absurd cause
    want_told catalog.Back cause = absurd cause
    want_told catalog.UsedUp cause = absurd cause
    want_told catalog.Full cause = record { want = cause; counted = ap counted_once kept; stays = same }
    want_told catalog.Store cause = record { want = λ honest agree. cause honest agree.catalog; counted = ap counted_once kept; stays = same }
    want_told catalog.Memory cause = record { want = tt; counted = ap counted_once kept; stays = same }

    own_told : (want : CatalogFault → Type 0) (f : CatalogFault) → IsOwn f → Told want f (Some f)
    own_told want f own = inl (record {
      counted = ap (λ (p : Parts L). p.refusals) (own_kept f mid own) ∙ kept;
      met = λ honest agree. ap (λ (p : Parts L). (world_of log p d'.files, Err f)) (own_kept f mid own) ∙ ap (λ (v : World). (v, Err f)) (same honest agree) ∙ sym (is f);
    })

    pub told : (refusal : Option CatalogFault) → ((g : CatalogFault) → refusal ≡ Some g → IsOwn g)
        → (f : CatalogFault) → IsCause (on_shelf (meta log old) d next) refusal f (on_shelf later d' next') → Told CatalogWant f refusal
    told None own f cause = inr (want_told f cause)
    told (Some g) own f cause = subst (λ h. Told CatalogWant h (Some g)) (sym cause) (own_told CatalogWant g (own g refl))

    creation_want : (f : CatalogFault) → IsRefused before (after f) (CatalogWant f) → IsRefused before (after f) (CreationWant f)
    creation_want catalog.Name refused = refused
    creation_want catalog.Exists refused = refused
    creation_want catalog.Partitions refused = refused
    creation_want catalog.Limit refused = refused
    creation_want catalog.TooMany refused = refused
    creation_want catalog.Unknown refused = refused
    creation_want catalog.Metadata refused = refused
    creation_want catalog.Back refused = refused
    creation_want catalog.UsedUp refused = refused
    creation_want catalog.Full refused = record { want = inl refused.want; counted = refused.counted; stays = refused.stays }
    creation_want catalog.Store refused = refused
    creation_want catalog.Memory refused = refused

    defined_told : (f : CatalogFault) → IsDefined (known old.catalog) f → Told CreationWant f (Some f)
    defined_told f = ⊎_elim (own_told CreationWant f)
        (λ full. subst (λ g. Told CreationWant g (Some g)) (sym full.0) (inr (record { want = inr full.1; counted = ap counted_once kept; stays = same })))

    pub created_told : (refusal : Option CatalogFault) → ((g : CatalogFault) → refusal ≡ Some g → IsDefined (known old.catalog) g)
        → (f : CatalogFault) → IsCause (on_shelf (meta log old) d next) refusal f (on_shelf later d' next') → Told CreationWant f refusal
    created_told None defined f cause = inr (creation_want f (want_told f cause))
    created_told (Some g) defined f cause = subst (λ h. Told CreationWant h (Some g)) (sym cause) (defined_told g (defined g refl))

-- the definition's answer where it refuses nothing
abbrev pub or_refused : {T : Type 0} → World → World × Result T CatalogFault → Option CatalogFault → World × Result T CatalogFault
or_refused w x None = x
or_refused w x (Some g) = (w, Err g)
