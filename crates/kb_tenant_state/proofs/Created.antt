-- A topic is made: its partitions, and then its command.
use Rattle.std.proofs.Common.{◌≡◌, ◌∙◌, ◌⊎◌, ⊎_elim, inl, inr, ◌≤◌, ◌<◌, ◌+◌, ◌-◌, ◌^◌, ℕ, Bool, true, false, cond, Some, None, length, sym, ap, subst, refl, arith, eqb-true}
use Rattle.std.specs.Prelude.{replicate, string_bytes}
use Rattle.std.specs.FinMap.{get}
use Rattle.std.specs.Ordering.{nat_cmp}
use Rattle.std.specs.Cmp.{unsigned_tied}
use Rattle.std.specs.Map.{lookup}
use Rattle.std.specs.BTreeMap.{insert_entry, is_at}
use Rattle.std.proofs.lemmas.List.{length-replicate}
use Rattle.kb_store.specs.Disk.{Disk, Files}
use Rattle.kb_batch.specs.Batch.{natural}
use Rattle.kb_log.specs.OnShelf.{Identity, Log, Frames, IsLawfulLog}
use Rattle.kb_log.specs.OnShelf as one
use Rattle.kb_topics.specs.Catalog.{known, meta_log}
use Rattle.kb_topics.specs.MetaLog.{IsFoldOf}
use Rattle.kb_topics.specs.Calls.{StaysFold}
use Rattle.kb_topics.specs.Known.{TopicState, new_partition, topic_at}
use Rattle.kb_topics.specs.declared.catalog.Catalog.{Catalog}
use Rattle.kb_tenant_state.specs.Logs.{with_new_logs}
use Rattle.kb_tenant_state.specs.Partitions.{Owned, AreNamed, AreStarted, IsMade, IsUnmade, logs_of, places_of}
use Rattle.kb_tenant_state.specs.Scene.{Settles}
use Rattle.kb_tenant_state.specs.declared.partitions.Partitions.{Partitions}
use Rattle.kb_tenant_state.specs.Parts as parts
use Rattle.kb_tenant_state.specs.Parts.{IsSound, meta, entries, recorded_start, world_of}
use Rattle.kb_tenant_state.specs.Steps.{IsStep}
use Rattle.kb_tenant_state.specs.Stored.{up_to_end}
use Rattle.kb_tenant_state.specs.Tied.{counted, partition_count}
use Rattle.kb_tenant_state.specs.declared.parts.Parts.{Parts}
use Rattle.kb_tenant_state.proofs.StillKept.{kept_created}
use Rattle.kb_tenant_state.proofs.GivenUp.{given_up_stays}
use Rattle.kb_tenant_state.proofs.Left.{none_leaves, strays_gives, strays_writes}
use Rattle.kb_tenant_state.proofs.Moves.{IsMove, as_step}
use Rattle.kb_tenant_state.proofs.Recorded.{Resume, on_shelf}
use Rattle.kb_tenant_state.proofs.Spared as spared
use Rattle.kb_tenant_state.proofs.Starts.{create_starts, new_starts, still_started}
use Rattle.kb_tenant_state.proofs.Sums.{created_offsets, created_texts, told_created}
use Rattle.kb_tenant_state.proofs.Tied.{counted_inserted, named_still, none_seen, tied_world}

same_number : (k i : ℕ) → is_at (nat_cmp k) i ≡ true → k ≡ i
same_number k i e = eqb-true k i (sym (unsigned_tied k i) ∙ e)

module _ {L : Type 0} (log : L → Log) (law : (l : L) → IsLawfulLog (log l)) (p : Parts L) (changed : Catalog L) (ps : Partitions L) (count : ℕ) (d d' : Disk) (next next' : ℕ)
    (sound : IsSound log p d.table next)
    (made : IsMade log (known p.catalog).creates count (entries p) ps.topics.entries)
    (frames : Frames (on_shelf (meta log p) d next) (on_shelf (log (meta_log changed)) d' next')) where
  lengths : (file : ℕ) → file < next → Owned log ps.topics.entries file → get d'.table file ≡ get d.table file
  lengths file lt own = frames.others.lengths file lt (λ mine. sound.apart file mine (made.owned file own))

  contents : d'.honest → (file : ℕ) → file < next → Owned log ps.topics.entries file → get d'.files file ≡ get d.files file
  contents honest file lt own = frames.others.contents honest file lt (λ mine. sound.apart file mine (made.owned file own))

  -- the tenant sees empty logs under the new instance
  pub created_logs : d'.honest → logs_of log ps.topics.entries d'.files ≡ with_new_logs (known p.catalog).creates count (logs_of log (entries p) d.files)
  created_logs honest =
      spared.spared_logs log law ps.topics.entries d d' next next' (made.sound d.table next sound.logs) frames.others.later lengths contents honest
      ∙ made.state d.files

  below : (file : ℕ) → Owned log (entries p) file → file < next
  below file o = (law o.partition.log).given_out d.table next (sound.logs.each o.instance o.number o.partition o.at) file o.own

  unmade : (i : ℕ) → (known p.catalog).creates < i → IsUnmade i ps.topics.entries
  unmade i lt = by (is_at (nat_cmp (known p.catalog).creates) i) refl (made.counts i)
    where
      by : (b : Bool) → is_at (nat_cmp (known p.catalog).creates) i ≡ b
          → lookup (is_at (nat_cmp i)) (places_of ps.topics.entries) ≡ cond b (Some count) (lookup (is_at (nat_cmp i)) (places_of (entries p)))
          → IsUnmade i ps.topics.entries
      by true e h = let same = same_number (known p.catalog).creates i e in absurd (omega (arith, same, lt))
      by false e h = h ∙ sound.unmade i (omega (arith, lt))

  -- an instance that is gone is not the new one
  still_gone : (i : ℕ) → i < (known p.catalog).creates → IsUnmade i (entries p) → IsUnmade i ps.topics.entries
  still_gone i lt none = by (is_at (nat_cmp (known p.catalog).creates) i) refl (made.counts i)
    where
      by : (b : Bool) → is_at (nat_cmp (known p.catalog).creates) i ≡ b
          → lookup (is_at (nat_cmp i)) (places_of ps.topics.entries) ≡ cond b (Some count) (lookup (is_at (nat_cmp i)) (places_of (entries p)))
          → IsUnmade i ps.topics.entries
      by true e h = let same = same_number (known p.catalog).creates i e in absurd (omega (arith, same, lt))
      by false e h = h ∙ none

  small : count ≤ 64 → (i n : ℕ) → lookup (is_at (nat_cmp i)) (places_of ps.topics.entries) ≡ Some n → n ≤ 64
  small le i n is = by (is_at (nat_cmp (known p.catalog).creates) i) (made.counts i)
    where
      by : (b : Bool)
          → lookup (is_at (nat_cmp i)) (places_of ps.topics.entries) ≡ cond b (Some count) (lookup (is_at (nat_cmp i)) (places_of (entries p)))
          → n ≤ 64
      by true h = let some : Some count ≡ Some n = sym h ∙ is in let same : count ≡ n = cc in omega (arith, le, same)
      by false h = sound.small i n (sym h ∙ is)

  tied : (new : TopicState) → (known changed).topics ≡ insert_entry nat_cmp (known p.catalog).topics (known p.catalog).creates new → partition_count new ≡ count
      → places_of ps.topics.entries ≡ counted partition_count (known changed).topics
  tied new topics many =
      let i = (known p.catalog).creates in
      made.places ∙ ap (λ ns. insert_entry nat_cmp ns i count) sound.tied
      ∙ ap (λ n. insert_entry nat_cmp (counted partition_count (known p.catalog).topics) i n) (sym many)
      ∙ sym (counted_inserted partition_count (known p.catalog).topics i new) ∙ sym (ap (counted partition_count) topics)

  none : topic_at (known p.catalog).creates (known p.catalog).topics ≡ None
  none = (tied_world log p d.table next d.files sound).next (known p.catalog).creates (omega arith)

  no_logs : (files : Files) → lookup (is_at (nat_cmp (known p.catalog).creates)) (logs_of log (entries p) files) ≡ None
  no_logs files = none_seen log (entries p) (known p.catalog).creates files (sound.unmade (known p.catalog).creates (omega arith))

  create_move : (AreNamed log (string_bytes p.tenant) p.segment_bytes (entries p) → AreNamed log (string_bytes p.tenant) p.segment_bytes ps.topics.entries)
      → ((recorded : ℕ → ℕ → ℕ) → ((q : ℕ) → recorded (known p.catalog).creates q ≡ 0) → AreStarted log recorded (entries p) → AreStarted log recorded ps.topics.entries)
      → (log (meta_log changed)).end ≡ (meta log p).end + 1
      → StaysFold (on_shelf (meta log p) d next) (known p.catalog) (on_shelf (log (meta_log changed)) d' next') (known changed) → Resume (meta log p) (log (meta_log changed))
      → (known changed).creates ≡ (known p.catalog).creates + 1 → (known p.catalog).creates < 2 ^ 63 - 1 → count ≤ 64
      → (new : TopicState) → (known changed).topics ≡ insert_entry nat_cmp (known p.catalog).topics (known p.catalog).creates new → new.partitions ≡ replicate count new_partition
      → IsMove (parts.scene_on log p d next) (parts.scene_on log (record p { catalog = changed; partitions = ps }) d' next')
  create_move named begun longer fold resumes more left few new topics many = record {
    frame = record {
      sound = record {
        catalog = frames.sound;
        logs = spared.spared_sound log law ps.topics.entries d d' next next' (made.sound d.table next sound.logs) frames.others.later lengths contents;
        apart = λ file mine theirs. ⊎_elim (λ old. sound.apart file old (made.owned file theirs)) (λ le. omega (arith, le, below file (made.owned file theirs))) (frames.others.owned file mine);
        few = omega (arith, more, left);
        unmade = λ i le. unmade i (omega (arith, more, le));
        small = small few;
        tied = tied new topics (ap (λ ps. length ps) many ∙ length-replicate count new_partition);
        catalog_named = named_still _ _ _ _ frames.identity sound.catalog_named;
        logs_named = named sound.logs_named;
        begun = let is = ap (λ (i : Identity). natural i.generation) frames.identity in omega (arith, sound.begun, is, frames.others.later);
        offsets = sound.offsets ∙ sym (ap up_to_end (created_offsets (known p.catalog) (known changed) count new none topics many));
        texts = sound.texts ∙ sym (ap up_to_end (created_texts (known p.catalog) (known changed) count new none topics many));
      };
      others = record {
        later = frames.others.later;
        honest = frames.others.honest;
        owned = λ file own. ⊎_elim (λ mine. ⊎_elim (λ old. inl (inl old)) (λ le. inr le) (frames.others.owned file mine)) (λ theirs. inl (inr (made.owned file theirs))) own;
        lengths = λ file lt not. frames.others.lengths file lt (λ own. not (inl own));
        contents = λ honest file lt not. frames.others.contents honest file lt (λ own. not (inl own));
      };
      failures = frames.failures;
      agrees = λ honest agree. record {
        catalog = frames.agrees honest agree.catalog;
        fold = subst (λ (n : ℕ). IsFoldOf n ((log (meta_log changed)).batches d'.files) (known changed)) (sym (ap (λ (i : Identity). natural i.generation) frames.identity))
            (fold honest agree.catalog (natural (meta log p).identity.generation) agree.fold);
        logs = spared.spared_agree log law ps.topics.entries d d' next next' (made.sound d.table next sound.logs) frames.others.later lengths contents honest (made.agrees d.files agree.logs);
        started = begun (recorded_start (known changed)) (new_starts (known p.catalog) (known changed) count new topics many)
            (still_started log (entries p) (recorded_start (known p.catalog)) (recorded_start (known changed)) (create_starts (known p.catalog) (known changed) count new none topics many) agree.started);
        meta_started = resumes 0 agree.meta_started;
        until = kept_created p.next_retention_time (world_of log p d.files) (world_of log (record p { catalog = changed; partitions = ps }) d'.files) (known p.catalog).creates count new topics (created_logs honest) agree.until;
        stored = told_created p.stored (logs_of log (entries p) d.files) (logs_of log ps.topics.entries d'.files) (known p.catalog).creates count (no_logs d.files) (created_logs honest) agree.stored;
      };
    };
    named = refl;
    grows = omega arith;
    commands = omega (arith, longer);
    creates = omega (arith, more);
    generation = ap (λ (i : Identity). natural i.generation) frames.identity;
    wrote = let is = ap (λ (i : Identity). natural i.generation) frames.identity in given_up_stays log p (record p { catalog = changed; partitions = ps }) (refl, refl) (omega (arith, more)) still_gone (omega (arith, is));
    leaves = λ honest agree.
        let a = parts.scene_on log p d next in
        let b = parts.scene_on log (record p { catalog = changed; partitions = ps }) d' next' in
        none_leaves a b
        (strays_gives a b (meta log p).owns (log (meta_log changed)).owns (λ file own. inl own) (λ file own. ⊎_elim (λ mine. inl mine) (λ theirs. inr (inr (made.owned_old file theirs))) own) frames.strays)
        honest;
  }

  create_settles : one.Settles (on_shelf (meta log p) d next) (on_shelf (log (meta_log changed)) d' next') → Settles (parts.scene_on log p d next) (parts.scene_on log (record p { catalog = changed; partitions = ps }) d' next')
  create_settles settles = record {
    accounts = λ file there not.
        let before = settles.accounts file there (λ own. not (inl own)) in
        (before.0, λ own. ⊎_elim (λ mine. before.1 mine) (λ theirs. not (inr (made.owned_old file theirs))) own);
    exact = λ exact. (settles.exact exact.0, spared.spared_exact log law ps.topics.entries d d' next next' (made.sound d.table next sound.logs) frames.others.later lengths contents (made.exact d.table exact.1));
    timed = made.timed;
    writes =
        let new = record p { catalog = changed; partitions = ps } in
        strays_writes (parts.scene_on log p d next) (parts.scene_on log new d' next') (meta log p).owns (log (meta_log changed)).owns (λ file own. inl own) frames.strays;
  }

  pub create_step : (AreNamed log (string_bytes p.tenant) p.segment_bytes (entries p) → AreNamed log (string_bytes p.tenant) p.segment_bytes ps.topics.entries)
      → ((recorded : ℕ → ℕ → ℕ) → ((q : ℕ) → recorded (known p.catalog).creates q ≡ 0) → AreStarted log recorded (entries p) → AreStarted log recorded ps.topics.entries)
      → (log (meta_log changed)).end ≡ (meta log p).end + 1
      → StaysFold (on_shelf (meta log p) d next) (known p.catalog) (on_shelf (log (meta_log changed)) d' next') (known changed) → Resume (meta log p) (log (meta_log changed))
      → ⊥ ⊎ one.Settles (on_shelf (meta log p) d next) (on_shelf (log (meta_log changed)) d' next')
      → (known changed).creates ≡ (known p.catalog).creates + 1 → (known p.catalog).creates < 2 ^ 63 - 1 → count ≤ 64
      → (new : TopicState) → (known changed).topics ≡ insert_entry nat_cmp (known p.catalog).topics (known p.catalog).creates new → new.partitions ≡ replicate count new_partition
      → IsStep (parts.scene_on log p d next) (parts.scene_on log (record p { catalog = changed; partitions = ps }) d' next')
  create_step named begun longer fold resumes settled more left few new topics many =
      as_step (parts.scene_on log p d next) (parts.scene_on log (record p { catalog = changed; partitions = ps }) d' next')
      (create_move named begun longer fold resumes more left few new topics many) (λ calm. ⊎_elim (λ bad. absurd bad) create_settles settled)
