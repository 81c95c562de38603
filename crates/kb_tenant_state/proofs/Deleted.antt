-- A topic is deleted: its command, and then its partitions go.
use Rattle.std.proofs.Common.{◌≡◌, ◌∙◌, ◌+◌, ◌≤◌, ◌<◌, ◌⊎◌, ⊎_elim, inl, ℕ, Bool, true, false, cond, nat_lt, List, Option, Some, None, sym, ap, refl, subst, length, arith}
use Rattle.std.specs.FinMap.{get}
use Rattle.std.specs.Prelude.{IfSome, option_map, string_bytes}
use Rattle.std.proofs.lemmas.Bool.Decides.{nat_tests}
use Rattle.std.specs.Ordering.{nat_cmp}
use Rattle.std.specs.Cmp.{nat_cmp_total, eq_by_cmp_equiv}
use Rattle.std.specs.List.Sorted.{IsStrictlySortedBy}
use Rattle.std.specs.Map.{keys_of, lookup, remove_entry}
use Rattle.std.specs.BTreeMap.{is_at}
use Rattle.std.specs.declared.alloc.Global.{Global}
use Rattle.std.specs.declared.vec.Vec.{Vec}
use Rattle.std.proofs.lemmas.Map.{lookup-remove_entry}
use Rattle.std.proofs.lemmas.Map.Keys.{IsDistinct-from_sorted}
use Rattle.std.proofs.lemmas.Map.Made.{keys_of-map_values}
use Rattle.kb_store.specs.Disk.{Disk, Files}
use Rattle.kb_log.specs.OnShelf.{Identity, Log, Frames, IsLawfulLog}
use Rattle.kb_log.specs.OnShelf as one
use Rattle.kb_topics.specs.Calls.{StaysFold}
use Rattle.kb_topics.specs.Catalog.{known, meta_log}
use Rattle.kb_topics.specs.declared.catalog.Catalog.{Catalog}
use Rattle.kb_topics.specs.Known.{Known, named, topic_at, without_topic, step}
use Rattle.kb_topics.specs.declared.command.Command.TheVariants as commands
use Rattle.kb_tenant_state.specs.Logs.{without_logs}
use Rattle.kb_tenant_state.specs.Partitions.{Agree, AreStarted, Entries, IsUnmade, OwnedBy, logs_of, partition_at, places_of, scene_on}
use Rattle.kb_tenant_state.specs.Scene.{Frame, GivesUp, IsGivenUp, Settles, WhereHonest}
use Rattle.kb_tenant_state.specs.Gone.{Went, stored_without}
use Rattle.kb_tenant_state.specs.Stored.{bytes_in_all}
use Rattle.kb_tenant_state.specs.declared.partition.Partition.{Partition}
use Rattle.kb_tenant_state.specs.declared.partitions.Partitions.{Partitions}
use Rattle.kb_tenant_state.proofs.Gone.{told_went}
use Rattle.kb_tenant_state.proofs.Put.{own_number}
use Rattle.kb_tenant_state.specs.Parts as parts
use Rattle.kb_tenant_state.specs.Parts.{IsSound, Agrees, IsPast, meta, entries, recorded_start, world_of}
use Rattle.kb_tenant_state.specs.Steps.{IsStep, settles_then}
use Rattle.kb_tenant_state.specs.Tied.{counted, partition_count}
use Rattle.kb_tenant_state.specs.declared.parts.Parts.{Parts}
use Rattle.kb_tenant_state.proofs.Retained as retained
use Rattle.kb_tenant_state.proofs.StillKept.{as_before, as_deleted, kept_deleted}
use Rattle.kb_tenant_state.proofs.Lifted.{parts_move, parts_settle}
use Rattle.kb_tenant_state.proofs.Moves.{IsMove, as_step, move_then}
use Rattle.kb_tenant_state.proofs.Recorded.{Resume, catalog_settles, on_shelf, recorded_logs, untied_move}
use Rattle.kb_tenant_state.proofs.Starts.{delete_starts}
use Rattle.kb_tenant_state.proofs.Tied.{IsCounted, KeepNames, KeepStarts, counted_removed, untied_on}

mapped : {A B : Type 0} (f : A → B) (o : Option A) (x : A) (y : B) → o ≡ Some x → option_map f o ≡ Some y → y ≡ f x
mapped f o x y here e = let is : Some y ≡ Some (f x) = sym e ∙ ap (option_map f) here in cc

pub deleted : (old new : Known) (name : List ℕ) (i : ℕ) → named name old.topics ≡ Some i → step old (commands.Delete name) ≡ Some new → new ≡ without_topic old i
deleted old new name i here e = mapped (without_topic old) (named name old.topics) i new here e

pub deleted_gone : (o : Option ℕ) (i : ℕ) (new : Known) → o ≡ Some i → IfSome o (λ j. topic_at j new.topics ≡ None) → topic_at i new.topics ≡ None
deleted_gone o i new here gone = subst (λ (x : Option ℕ). IfSome x (λ j. topic_at j new.topics ≡ None)) here gone

module _ {L : Type 0} (i : ℕ) (es es' : Entries L) (ordered : IsStrictlySortedBy nat_cmp (keys_of es)) (places : places_of es' ≡ remove_entry (is_at (nat_cmp i)) (places_of es)) where
  lookups : (j : ℕ) → lookup (is_at (nat_cmp j)) (places_of es') ≡ cond (is_at (nat_cmp i) j) None (lookup (is_at (nat_cmp j)) (places_of es))
  lookups j =
      let laws = eq_by_cmp_equiv nat_cmp_total in
      let count : Vec (Partition L) Global → ℕ = λ t. length t.items in
      let sorted : IsStrictlySortedBy nat_cmp (keys_of (places_of es)) = subst (λ ks. IsStrictlySortedBy nat_cmp ks) (sym (keys_of-map_values count es)) ordered in
      ap (λ ps. lookup (is_at (nat_cmp j)) ps) places
      ∙ lookup-remove_entry laws (is_at (nat_cmp i)) (λ x y. laws.congr i x y) j (places_of es) (IsDistinct-from_sorted nat_cmp (keys_of (places_of es)) sorted)

  pub still_unmade : (j : ℕ) → IsUnmade j es → IsUnmade j es'
  still_unmade j none = by (is_at (nat_cmp i) j) (lookups j)
    where
      by : (b : Bool) → lookup (is_at (nat_cmp j)) (places_of es') ≡ cond b None (lookup (is_at (nat_cmp j)) (places_of es)) → IsUnmade j es'
      by true h = h
      by false h = h ∙ none

  pub still_small : (j n : ℕ) → lookup (is_at (nat_cmp j)) (places_of es') ≡ Some n → lookup (is_at (nat_cmp j)) (places_of es) ≡ Some n
  still_small j n some = by (is_at (nat_cmp i) j) (lookups j)
    where
      by : (b : Bool) → lookup (is_at (nat_cmp j)) (places_of es') ≡ cond b None (lookup (is_at (nat_cmp j)) (places_of es)) → lookup (is_at (nat_cmp j)) (places_of es) ≡ Some n
      by true h = absurd (let bad : None ≡ Some n = sym h ∙ some in cc)
      by false h = sym h ∙ some

  -- the topic's own instance has none
  pub unmade_here : IsUnmade i es'
  unmade_here = lookups i ∙ ap (λ b. cond b None (lookup (is_at (nat_cmp i)) (places_of es))) (own_number i)

  -- a partition that is left is of another topic
  pub left_other : (j q : ℕ) (x : Partition L) → partition_at j q es' ≡ Some x → j ≡ i → ⊥
  left_other j q x at same =
      let c = retained.counted es' j q x at in
      let here : is_at (nat_cmp i) j ≡ true = subst (λ k. is_at (nat_cmp i) k ≡ true) (sym same) (own_number i) in
      let none : lookup (is_at (nat_cmp j)) (places_of es') ≡ None = lookups j ∙ ap (λ b. cond b None (lookup (is_at (nat_cmp j)) (places_of es))) here in
      let bad : Some c.count ≡ None = sym c.of ∙ none in cc

-- the instance of a topic that has partitions was given out
pub was_given_out : {L : Type 0} (es : Entries L) (creates i q : ℕ) (x : Partition L) → ((j : ℕ) → creates ≤ j → IsUnmade j es) → partition_at i q es ≡ Some x → i < creates
was_given_out es creates i q x unmade at = by (nat_lt i creates) refl
  where
    by : (t : Bool) → nat_lt i creates ≡ t → i < creates
    by true e = grind (arith, nat_tests, e)
    by false e =
        let c = retained.counted es i q x at in
        let none = unmade i (grind (arith, nat_tests, e)) in
        absurd (let bad : None ≡ Some c.count = sym none ∙ c.of in cc)

module _ {L : Type 0} (log : L → Log) (law : (l : L) → IsLawfulLog (log l)) (old : Parts L) (changed : Catalog L) (d d' : Disk) (next next' : ℕ) (i : ℕ)
    (sound : IsSound log old d.table next) (new : known changed ≡ without_topic (known old.catalog) i) (gone : topic_at i (known changed).topics ≡ None)
    (frames : Frames (on_shelf (meta log old) d next) (on_shelf (log (meta_log changed)) d' next'))
    (longer : (log (meta_log changed)).end ≡ (meta log old).end + 1)
    (fold : StaysFold (on_shelf (meta log old) d next) (known old.catalog) (on_shelf (log (meta_log changed)) d' next') (known changed))
    (resumes : Resume (meta log old) (log (meta_log changed))) where
  -- the command was recorded, and the topic's partitions are still there
  pub recorded : IsMove (parts.scene_on log old d next) (untied_on log (recorded_start (known old.catalog)) (record old { catalog = changed }) d' next')
  recorded =
      let same = ap (λ k. k.creates) new in
      untied_move log law old changed d d' next next' sound frames old.offsets old.texts (omega (arith, longer)) fold (omega (arith, same)) (omega (arith, same, sound.few)) (as_deleted (known old.catalog) (known changed) i new gone) resumes

  module _ (ps : Partitions L) (e : Disk) (last : ℕ) (places : places_of ps.topics.entries ≡ remove_entry (is_at (nat_cmp i)) (places_of (entries old)))
      (frame : Frame (scene_on log (entries old) d' next') (scene_on log ps.topics.entries e last))
      (gives : GivesUp (OwnedBy log i (entries old)) (scene_on log (entries old) d' next') (scene_on log ps.topics.entries e last))
      (removed : WhereHonest (scene_on log (entries old) d' next') (scene_on log ps.topics.entries e last) (logs_of log ps.topics.entries e.files ≡ without_logs i (logs_of log (entries old) d'.files))) where
    tied : places_of ps.topics.entries ≡ counted partition_count (known changed).topics
    tied =
        places ∙ ap (remove_entry (is_at (nat_cmp i))) sound.tied ∙ sym (counted_removed partition_count (is_at (nat_cmp i)) (known old.catalog).topics)
        ∙ sym (ap (λ k. counted partition_count k.topics) new)

    -- the partitions that are left start where they did
    still : AreStarted log (recorded_start (known old.catalog)) ps.topics.entries → AreStarted log (recorded_start (known changed)) ps.topics.entries
    still started j q x at =
        let ne = left_other i (entries old) ps.topics.entries sound.logs.ordered places j q x at in
        subst (λ n. (log x.log).resumes n) (sym (ap (λ k. recorded_start k j q) new ∙ delete_starts (known old.catalog) i j q ne)) (started j q x at)

    -- the files of its logs are given up: the instance was given out, and no topic has it again
    up : (files : Files) → Agree log (entries old) files → (file : ℕ) (bytes : List ℕ) → get files file ≡ Some bytes → OwnedBy log i (entries old) file
        → IsGivenUp log (string_bytes old.tenant) (IsPast log (record old { catalog = changed; partitions = ps })) file bytes
    up files agree file bytes had o =
        let who = sound.logs_named i o.number o.partition o.at in
        let given = was_given_out (entries old) (known old.catalog).creates i o.number o.partition sound.unmade o.at in
        let same = ap (λ k. k.creates) new in
        record {
          had = record { of = o.partition.log; files = files; tenants = ap (λ (w : Identity). w.tenant) who; owns = o.own; agrees = agree.each i o.number o.partition o.at; had = had };
          past = inl (record { instance = i; number = o.number; named = who; given_out = omega (arith, given, same); gone = unmade_here i (entries old) ps.topics.entries sound.logs.ordered places });
        }

    -- and the partitions are gone
    pub delete_move : (bytes : Option ℕ) → IfSome bytes (λ n. WhereHonest (scene_on log (entries old) d' next') (scene_on log ps.topics.entries e last) (Went (bytes_in_all (logs_of log (entries old) d'.files)) (bytes_in_all (logs_of log ps.topics.entries e.files)) n)) → (o t : ℕ) → IsCounted o t (known changed) → KeepNames log (entries old) ps.topics.entries → KeepStarts log (entries old) ps.topics.entries
        → IsMove (parts.scene_on log old d next) (parts.scene_on log (record old { catalog = changed; partitions = ps; stored = stored_without bytes old.stored; offsets = o; texts = t }) e last)
    delete_move bytes lost o t counts named starts =
        move_then (parts.scene_on log old d next) (untied_on log (recorded_start (known old.catalog)) (record old { catalog = changed }) d' next') (parts.scene_on log (record old { catalog = changed; partitions = ps; stored = stored_without bytes old.stored; offsets = o; texts = t }) e last) recorded
        (parts_move log law (recorded_start (known old.catalog)) (record old { catalog = changed }) (record old { catalog = changed; partitions = ps; stored = stored_without bytes old.stored; offsets = o; texts = t }) (OwnedBy log i (entries old)) d' e next' last refl (refl, refl) named
        (still_unmade i (entries old) ps.topics.entries sound.logs.ordered places) (still_small i (entries old) ps.topics.entries sound.logs.ordered places) (omega arith) tied
        recorded.frame.sound frame gives (λ honest agree. up d'.files agree.logs) (λ honest agree. still (starts (recorded_start (known old.catalog)) agree.started))
        (λ honest agree. kept_deleted old.next_retention_time (world_of log (record old { catalog = changed }) d'.files) (world_of log (record old { catalog = changed; partitions = ps }) e.files) i gone
        (as_before (known changed) (known changed) refl) (removed honest agree.logs) agree.until)
        counts (λ honest agree. told_went old.stored bytes (logs_of log (entries old) d'.files) (logs_of log ps.topics.entries e.files) e.honest (Agree log (entries old) d'.files) lost honest agree.logs agree.stored))

    pub delete_step : (bytes : Option ℕ) → IfSome bytes (λ n. WhereHonest (scene_on log (entries old) d' next') (scene_on log ps.topics.entries e last) (Went (bytes_in_all (logs_of log (entries old) d'.files)) (bytes_in_all (logs_of log ps.topics.entries e.files)) n)) → (o t : ℕ) → IsCounted o t (known changed) → KeepNames log (entries old) ps.topics.entries → KeepStarts log (entries old) ps.topics.entries
        → ⊥ ⊎ one.Settles (on_shelf (meta log old) d next) (on_shelf (log (meta_log changed)) d' next')
        → Settles (scene_on log (entries old) d' next') (scene_on log ps.topics.entries e last)
        → IsStep (parts.scene_on log old d next) (parts.scene_on log (record old { catalog = changed; partitions = ps; stored = stored_without bytes old.stored; offsets = o; texts = t }) e last)
    delete_step bytes lost o t counts named starts settled settles =
        let mid = record old { catalog = changed } in
        let last_of = record old { catalog = changed; partitions = ps; stored = stored_without bytes old.stored; offsets = o; texts = t } in
        as_step (parts.scene_on log old d next) (parts.scene_on log last_of e last) (delete_move bytes lost o t counts named starts) (λ calm.
        settles_then (parts.scene_on log old d next) (parts.scene_on log mid d' next') (parts.scene_on log last_of e last) frame.others.honest
        (⊎_elim (λ bad. absurd bad) (catalog_settles log law old changed d d' next next' sound frames old.offsets old.texts) settled)
        (parts_settle log law mid last_of d' e next' last refl recorded.frame.sound frame settles))

    pub deleted_world : e.honest → Agrees log old d.files
        → world_of log (record old { catalog = changed; partitions = ps }) e.files ≡ record (world_of log old d.files) { known = without_topic (known old.catalog) i; logs = without_logs i (logs_of log (entries old) d.files) }
    deleted_world honest agree =
        let before = frame.others.honest honest in
        let logs = removed honest (recorded.frame.agrees before agree).logs ∙ ap (without_logs i) (recorded_logs log law old changed d d' next next' sound frames before) in
        λ j. record { known = new j; logs = logs j }
