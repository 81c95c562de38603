-- A call for the catalog, as a step of the parts.
use Rattle.std.proofs.Common.{◌≡◌, ◌∙◌, ◌⊎◌, ⊎_elim, inl, inr, ◌≤◌, ◌<◌, ◌+◌, ◌^◌, ℕ, Option, Some, None, Err, sym, ap, subst, refl, arith}
use Rattle.std.specs.Prelude.{Result}
use Rattle.std.specs.FinMap.{get}
use Rattle.kb_store.specs.Disk.{Disk, Files}
use Rattle.kb_batch.specs.Batch.{natural}
use Rattle.kb_log.specs.OnShelf.{Identity, Log, OnShelf, Frames, IsLawfulLog}
use Rattle.kb_log.specs.OnShelf as one
use Rattle.kb_topics.specs.Catalog.{known, meta_log}
use Rattle.kb_topics.specs.MetaLog.{IsFoldOf}
use Rattle.kb_topics.specs.Calls.{StaysFold, IsLogCause, IsCause}
use Rattle.kb_topics.specs.CatalogFault.{IsWant}
use Rattle.kb_topics.specs.Known.{Known}
use Rattle.kb_topics.specs.declared.fault.CatalogFault.{CatalogFault}
use Rattle.kb_topics.specs.declared.fault.CatalogFault.TheVariants as catalog
use Rattle.kb_topics.specs.declared.catalog.Catalog.{Catalog}
use Rattle.kb_tenant_state.specs.Partitions.{Owned, logs_of}
use Rattle.kb_tenant_state.specs.Scene.{Settles}
use Rattle.kb_tenant_state.specs.Parts as parts
use Rattle.kb_tenant_state.specs.Parts.{IsSound, meta, entries, recorded_start, world_of, counted_for_catalog}
use Rattle.kb_tenant_state.specs.Steps.{IsStep}
use Rattle.kb_tenant_state.specs.Counts.{IsCalm}
use Rattle.kb_tenant_state.specs.Tied.{counted, partition_count}
use Rattle.kb_tenant_state.specs.World.{World}
use Rattle.kb_tenant_state.specs.declared.parts.Parts.{Parts}
use Rattle.kb_tenant_state.proofs.StillKept.{WereThere, as_before, kept_by}
use Rattle.kb_tenant_state.proofs.Lifted.{AreTallied, counted_step_catalog, loud, recast_move, recast_settles}
use Rattle.kb_tenant_state.proofs.GivenUp.{given_up_stays}
use Rattle.kb_tenant_state.proofs.Left.{none_leaves, strays_gives, strays_writes}
use Rattle.kb_tenant_state.proofs.Moves.{IsMove, as_step}
use Rattle.kb_tenant_state.proofs.Spared as spared
use Rattle.kb_tenant_state.proofs.Starts.{SameStarts, same_topics}
use Rattle.kb_tenant_state.proofs.Sums.{still_told}
use Rattle.kb_tenant_state.proofs.Tied.{AreOf, IsCounted, named_still, still_counted, tie, untied_on}

-- the meta log at a moment
abbrev pub on_shelf : Log → Disk → ℕ → OnShelf
on_shelf l d next = record { log = l; disk = d; next = next }

-- a log would still start where the other did, if it were opened again
abbrev pub Resume : Log → Log → Type 0
Resume old new = (start : ℕ) → old.resumes start → new.resumes start

module _ {L : Type 0} (log : L → Log) (law : (l : L) → IsLawfulLog (log l)) (p : Parts L) (changed : Catalog L) (d d' : Disk) (next next' : ℕ)
    (sound : IsSound log p d.table next)
    (frames : Frames (on_shelf (meta log p) d next) (on_shelf (log (meta_log changed)) d' next')) where
  lengths : (file : ℕ) → file < next → Owned log (entries p) file → get d'.table file ≡ get d.table file
  lengths file lt own = frames.others.lengths file lt (λ mine. sound.apart file mine own)

  contents : d'.honest → (file : ℕ) → file < next → Owned log (entries p) file → get d'.files file ≡ get d.files file
  contents honest file lt own = frames.others.contents honest file lt (λ mine. sound.apart file mine own)

  pub recorded_logs : d'.honest → logs_of log (entries p) d'.files ≡ logs_of log (entries p) d.files
  recorded_logs = spared.spared_logs log law (entries p) d d' next next' sound.logs frames.others.later lengths contents

  below : (file : ℕ) → Owned log (entries p) file → file < next
  below file o = (law o.partition.log).given_out d.table next (sound.logs.each o.instance o.number o.partition o.at) file o.own

  -- whatever partitions the topics have by then, and wherever they are to start
  pub untied_move : (o t : ℕ) → (meta log p).end ≤ (log (meta_log changed)).end
      → StaysFold (on_shelf (meta log p) d next) (known p.catalog) (on_shelf (log (meta_log changed)) d' next') (known changed)
      → (known p.catalog).creates ≤ (known changed).creates → (known changed).creates < 2 ^ 63 → WereThere (known p.catalog) (known changed) → Resume (meta log p) (log (meta_log changed))
      → IsMove (parts.scene_on log p d next) (untied_on log (recorded_start (known p.catalog)) (record p { catalog = changed; offsets = o; texts = t }) d' next')
  untied_move o t longer fold more few were resumes = record {
    frame = record {
      sound = record {
        catalog = frames.sound;
        logs = spared.spared_sound log law (entries p) d d' next next' sound.logs frames.others.later lengths contents;
        apart = λ file mine theirs. ⊎_elim (λ old. sound.apart file old theirs) (λ le. omega (arith, le, below file theirs)) (frames.others.owned file mine);
        few = few;
        unmade = λ i le. sound.unmade i (omega (arith, more, le));
        small = sound.small;
        catalog_named = named_still _ _ _ _ frames.identity sound.catalog_named;
        logs_named = sound.logs_named;
        begun = let is = ap (λ (i : Identity). natural i.generation) frames.identity in omega (arith, sound.begun, is, frames.others.later);
      };
      others = record {
        later = frames.others.later;
        honest = frames.others.honest;
        owned = λ file own. ⊎_elim (λ mine. ⊎_elim (λ old. inl (inl old)) (λ le. inr le) (frames.others.owned file mine)) (λ theirs. inl (inr theirs)) own;
        lengths = λ file lt not. frames.others.lengths file lt (λ own. not (inl own));
        contents = λ honest file lt not. frames.others.contents honest file lt (λ own. not (inl own));
      };
      failures = frames.failures;
      agrees = λ honest agree. record {
        catalog = frames.agrees honest agree.catalog;
        fold = subst (λ (n : ℕ). IsFoldOf n ((log (meta_log changed)).batches d'.files) (known changed)) (sym (ap (λ (i : Identity). natural i.generation) frames.identity))
            (fold honest agree.catalog (natural (meta log p).identity.generation) agree.fold);
        logs = spared.spared_agree log law (entries p) d d' next next' sound.logs frames.others.later lengths contents honest agree.logs;
        started = agree.started;
        meta_started = resumes 0 agree.meta_started;
        until = kept_by p.next_retention_time (world_of log p d.files) (world_of log (record p { catalog = changed }) d'.files) were (recorded_logs honest) agree.until;
        stored = still_told p.stored p.stored (logs_of log (entries p) d.files) (logs_of log (entries p) d'.files) refl (recorded_logs honest) agree.stored;
      };
    };
    named = refl;
    grows = omega arith;
    commands = longer;
    creates = more;
    generation = ap (λ (i : Identity). natural i.generation) frames.identity;
    wrote = let is = ap (λ (i : Identity). natural i.generation) frames.identity in given_up_stays log p (record p { catalog = changed; offsets = o; texts = t }) (refl, refl) more (λ i lt none. none) (omega (arith, is));
    leaves = λ honest agree.
        let a = parts.scene_on log p d next in
        let b = parts.scene_on log (record p { catalog = changed; offsets = o; texts = t }) d' next' in
        none_leaves a b
        (strays_gives a b (meta log p).owns (log (meta_log changed)).owns (λ file own. inl own) (λ file own. ⊎_elim (λ mine. inl mine) (λ theirs. inr (inr theirs)) own) frames.strays)
        honest;
  }

  -- each topic has as many partitions as before, which start where they did
  pub catalog_move : (o t : ℕ) → IsCounted o t (known changed) → (meta log p).end ≤ (log (meta_log changed)).end
      → StaysFold (on_shelf (meta log p) d next) (known p.catalog) (on_shelf (log (meta_log changed)) d' next') (known changed)
      → counted partition_count (known changed).topics ≡ counted partition_count (known p.catalog).topics
      → (known p.catalog).creates ≤ (known changed).creates → (known changed).creates < 2 ^ 63 → WereThere (known p.catalog) (known changed) → SameStarts (known p.catalog) (known changed)
      → Resume (meta log p) (log (meta_log changed)) → IsMove (parts.scene_on log p d next) (parts.scene_on log (record p { catalog = changed; offsets = o; texts = t }) d' next')
  catalog_move o t counted longer fold counts more few were starts resumes =
      tie log (parts.scene_on log p d next) (recorded_start (known p.catalog)) (record p { catalog = changed; offsets = o; texts = t }) d' next' (sound.tied ∙ sym counts) starts counted (untied_move o t longer fold more few were resumes)

  -- what the call leaves where it was refused nothing
  pub catalog_settles : (o t : ℕ) → one.Settles (on_shelf (meta log p) d next) (on_shelf (log (meta_log changed)) d' next') → Settles (parts.scene_on log p d next) (parts.scene_on log (record p { catalog = changed; offsets = o; texts = t }) d' next')
  catalog_settles o t settles = record {
    accounts = λ file there not.
        let before = settles.accounts file there (λ own. not (inl own)) in
        (before.0, λ own. ⊎_elim (λ mine. before.1 mine) (λ theirs. not (inr theirs)) own);
    exact = λ exact. (settles.exact exact.0, spared.spared_exact log law (entries p) d d' next next' sound.logs frames.others.later lengths contents exact.1);
    timed = λ timed. timed;
    writes =
        let new = record p { catalog = changed; offsets = o; texts = t } in
        strays_writes (parts.scene_on log p d next) (parts.scene_on log new d' next') (meta log p).owns (log (meta_log changed)).owns (λ file own. inl own) frames.strays;
  }

  pub catalog_step : (o t : ℕ) → IsCounted o t (known changed) → (log (meta_log changed)).end ≡ (meta log p).end + 1
      → StaysFold (on_shelf (meta log p) d next) (known p.catalog) (on_shelf (log (meta_log changed)) d' next') (known changed)
      → counted partition_count (known changed).topics ≡ counted partition_count (known p.catalog).topics
      → (known p.catalog).creates ≤ (known changed).creates → (known changed).creates < 2 ^ 63 → WereThere (known p.catalog) (known changed) → SameStarts (known p.catalog) (known changed)
      → Resume (meta log p) (log (meta_log changed)) → ⊥ ⊎ one.Settles (on_shelf (meta log p) d next) (on_shelf (log (meta_log changed)) d' next')
      → IsStep (parts.scene_on log p d next) (parts.scene_on log (record p { catalog = changed; offsets = o; texts = t }) d' next')
  catalog_step o t counted longer fold counts more few were starts resumes settled =
      as_step (parts.scene_on log p d next) (parts.scene_on log (record p { catalog = changed; offsets = o; texts = t }) d' next') (catalog_move o t counted (omega (arith, longer)) fold counts more few were starts resumes)
      (λ calm. ⊎_elim (λ bad. absurd bad) (catalog_settles o t) settled)

  -- a call that was refused, and whose refusal is counted: what is known is as before
  pub refused_catalog : (T : Type 0) (q : Parts L) → q.catalog ≡ changed → AreOf q p → entries q ≡ entries p → q.next_retention_time ≡ p.next_retention_time → AreTallied q p → p.refusals ≤ q.refusals
      → (f : CatalogFault) → (log (meta_log changed)).end ≡ (meta log p).end → StaysFold (on_shelf (meta log p) d next) (known p.catalog) (on_shelf (log (meta_log changed)) d' next') (known changed)
      → known changed ≡ known p.catalog → Resume (meta log p) (log (meta_log changed)) → IsWant {T = T} (Err f) ⊎ one.Settles (on_shelf (meta log p) d next) (on_shelf (log (meta_log changed)) d' next')
      → IsStep (parts.scene_on log p d next) (parts.scene_on log (counted_for_catalog f q) d' next')
  refused_catalog T q catalog of e until tallied le f as_long fold same resumes settled =
      let a = parts.scene_on log p d next in
      let mid = record p { catalog = changed } in
      let creates = ap (λ (k : Known). k.creates) same in
      let topics = ap (λ (k : Known). k.topics) same in
      counted_step_catalog T log a q d' next' f
      (recast_move log a mid q d' next' catalog of e until tallied le
      (catalog_move p.offsets p.texts (still_counted p.offsets p.texts (known p.catalog) (known changed) same (sound.offsets, sound.texts)) (omega (arith, as_long)) fold (ap (λ (k : Known). counted partition_count k.topics) same) (omega (arith, creates)) (omega (arith, creates, sound.few))
      (as_before (known p.catalog) (known changed) topics) (same_topics (known p.catalog) (known changed) topics) resumes))
      (⊎_elim (λ want. inl want) (λ settles. inr (recast_settles log a mid q d' next' catalog e (catalog_settles p.offsets p.texts settles))) settled)

-- ---- refusals

-- counting changes nothing that the tenant sees
pub counted_world : {L : Type 0} (log : L → Log) (p : Parts L) (files : Files) (f : CatalogFault) → world_of log (counted_for_catalog f p) files ≡ world_of log p files
counted_world log p files catalog.Name = refl
counted_world log p files catalog.Exists = refl
counted_world log p files catalog.Partitions = refl
counted_world log p files catalog.Limit = refl
counted_world log p files catalog.TooMany = refl
counted_world log p files catalog.Unknown = refl
counted_world log p files catalog.Metadata = refl
counted_world log p files catalog.Back = refl
counted_world log p files catalog.UsedUp = refl
counted_world log p files catalog.Full = refl
counted_world log p files catalog.Store = refl
counted_world log p files catalog.Memory = refl

-- where nothing is counted, the log did not refuse
pub calm_cause : {L : Type 0} (o n : OnShelf) (k : ℕ) (p : Parts L) (f : CatalogFault) → IsLogCause o f n → k ≤ p.refusals → IsCalm k (counted_for_catalog f p).refusals → ⊥
calm_cause o n k p catalog.Name cause le calm = cause
calm_cause o n k p catalog.Exists cause le calm = cause
calm_cause o n k p catalog.Partitions cause le calm = cause
calm_cause o n k p catalog.Limit cause le calm = cause
calm_cause o n k p catalog.TooMany cause le calm = cause
calm_cause o n k p catalog.Unknown cause le calm = cause
calm_cause o n k p catalog.Metadata cause le calm = cause
calm_cause o n k p catalog.Back cause le calm = cause
calm_cause o n k p catalog.UsedUp cause le calm = cause
calm_cause o n k p catalog.Full cause le calm = loud k p le calm
calm_cause o n k p catalog.Store cause le calm = loud k p le calm
calm_cause o n k p catalog.Memory cause le calm = loud k p le calm

-- a refusal that is not counted is the call's own, and the world is as before
pub refused_meets : {L T : Type 0} (log : L → Log) (o n : OnShelf) (p : Parts L) (files : Files) (w : World) (k : ℕ) (unless : Option CatalogFault → World × Result T CatalogFault)
    → ((g : CatalogFault) → unless (Some g) ≡ (w, Err g)) → (refusal : Option CatalogFault) (f : CatalogFault) → IsCause o refusal f n → world_of log p files ≡ w → k ≤ p.refusals
    → IsCalm k (counted_for_catalog f p).refusals → (world_of log (counted_for_catalog f p) files, Err f) ≡ unless refusal
refused_meets log o n p files w k unless is (Some g) f cause same le calm =
    ap (λ v. (v, Err f)) (counted_world log p files f ∙ same) ∙ ap (λ h. (w, Err h)) cause ∙ sym (is g)
refused_meets log o n p files w k unless is None f cause same le calm = absurd (calm_cause o n k p f cause le calm)
