-- A call for the partitions or for the catalog alone, as a step of the parts.
use Rattle.std.proofs.Common.{◌≡◌, ◌∙◌, ◌⊎◌, ⊎_elim, inl, inr, ◌≤◌, ◌<◌, ◌+◌, ◌^◌, ℕ, ℤ, nat_lt, Bool, true, false, cond, List, Option, Some, sym, ap, subst, refl, arith}
use Rattle.std.proofs.lemmas.Bool.Decides.{nat_tests}
use Rattle.std.specs.Prelude.{IsSome, Err, string_bytes}
use Rattle.std.specs.FinMap.{get}
use Rattle.std.specs.Ordering.{nat_cmp}
use Rattle.std.specs.Map.{lookup}
use Rattle.std.specs.BTreeMap.{is_at}
use Rattle.kb_store.specs.Disk.{Disk, Keeps}
use Rattle.kb_batch.specs.Batch.{natural}
use Rattle.kb_log.specs.OnShelf.{Log, IsLawfulLog, no_file}
use Rattle.kb_topics.specs.MetaLog.{IsFoldOf}
use Rattle.kb_topics.specs.Catalog.{known, meta_log}
use Rattle.kb_topics.specs.declared.catalog.Catalog.{Catalog}
use Rattle.kb_topics.specs.CatalogFault.{IsWant}
use Rattle.kb_tenant_state.specs.PartitionCalls.{IsRefusedWant, Same}
use Rattle.kb_tenant_state.specs.Partitions.{Entries, Owned, AreSound, AreExact, AreTimed, AreNamed, AreStarted, Agree, IsUnmade, logs_of, scene_on, places_of}
use Rattle.kb_tenant_state.specs.Scene.{Scene, Frame, GivesUp, IsGivenUp, Settles}
use Rattle.kb_tenant_state.specs.declared.fault.PartitionFault.{PartitionFault}
use Rattle.kb_tenant_state.specs.declared.fault.PartitionFault.TheVariants as partition
use Rattle.kb_topics.specs.declared.fault.CatalogFault.{CatalogFault}
use Rattle.kb_topics.specs.declared.fault.CatalogFault.TheVariants as catalog
use Rattle.kb_tenant_state.specs.Parts as parts
use Rattle.kb_tenant_state.specs.RetentionTime.{AreAllKept}
use Rattle.kb_tenant_state.specs.Stored.{IsTold, offsets_in, stored_in, texts_in, up_to_end}
use Rattle.kb_tenant_state.specs.Parts.{IsSound, Agrees, IsBegun, IsPast, Seen, meta, entries, recorded_start, world_of, raised, refused, counted_for, counted_for_catalog}
use Rattle.kb_tenant_state.specs.Counts.{END, IsCalm}
use Rattle.kb_tenant_state.specs.Steps.{IsStep, Meets, calm_then}
use Rattle.kb_tenant_state.specs.Tied.{counted, partition_count}
use Rattle.kb_tenant_state.specs.declared.parts.Parts.{Parts}
use Rattle.kb_tenant_state.proofs.GivenUp.{given_up_stays}
use Rattle.kb_tenant_state.proofs.Left.{given_leaves, keeps_gives, keeps_writes}
use Rattle.kb_tenant_state.proofs.Moves.{IsMove, as_move, as_step}
use Rattle.kb_tenant_state.proofs.StillKept.{as_before, kept_by}
use Rattle.kb_tenant_state.proofs.Sums.{still_told}
use Rattle.kb_tenant_state.proofs.Tied.{AgreesBy, AreCounted, AreOf, IsUntied, KeepNames, KeepStarts, from_untied, meta_named, named_as, untied, untied_on}

-- how many offsets are counted, and the bytes of their texts
abbrev pub tally : {L : Type 0} → Parts L → ℕ × ℕ
tally p = (p.offsets, p.texts)

-- the same offsets and texts are counted, and the same is known of the bytes of batches
abbrev pub AreTallied : {L : Type 0} → Parts L → Parts L → Type 0
AreTallied q p = (tally q ≡ tally p) × (q.stored ≡ p.stored)

-- A call for the partitions: the catalog is as before, and topics that had no partitions have none, or as many as they had. Behind it
-- the catalog says how many, and where their logs start. Each file that is given up is of a log that the tenant has no more.
pub parts_move : {L : Type 0} (log : L → Log) (law : (l : L) → IsLawfulLog (log l)) (recorded : ℕ → ℕ → ℕ) (p p' : Parts L) (given : ℕ → Type 0) (d d' : Disk) (next next' : ℕ)
    → p'.catalog ≡ p.catalog → AreOf p' p → KeepNames log (entries p) (entries p')
    → ((i : ℕ) → IsUnmade i (entries p) → IsUnmade i (entries p'))
    → ((i n : ℕ) → lookup (is_at (nat_cmp i)) (places_of (entries p')) ≡ Some n → lookup (is_at (nat_cmp i)) (places_of (entries p)) ≡ Some n) → p.refusals ≤ p'.refusals
    → places_of (entries p') ≡ counted partition_count (known p'.catalog).topics
    → IsUntied log p d.table next → Frame (scene_on log (entries p) d next) (scene_on log (entries p') d' next') → GivesUp given (scene_on log (entries p) d next) (scene_on log (entries p') d' next')
    → (d'.honest → AgreesBy log recorded p d.files → (file : ℕ) (bytes : List ℕ) → get d.files file ≡ Some bytes → given file → IsGivenUp log (string_bytes p'.tenant) (IsPast log p') file bytes)
    → (d'.honest → AgreesBy log recorded p d.files → AreStarted log (recorded_start (known p'.catalog)) (entries p'))
    → (d'.honest → AgreesBy log recorded p d.files → AreAllKept p'.next_retention_time (world_of log p' d'.files))
    → AreCounted p' → (d'.honest → AgreesBy log recorded p d.files → IsTold p'.stored (up_to_end (stored_in (world_of log p' d'.files))))
    → IsMove (untied_on log recorded p d next) (parts.scene_on log p' d' next')
parts_move {L} log law recorded p p' given d d' next next' catalog of named unmade small grows tied sound frame gives up started until counts stored =
    let m = meta log p in
    let lawful : IsLawfulLog m = law (meta_log p.catalog) in
    let same : meta log p' ≡ m = ap (λ c. log (meta_log c)) catalog in
    let below : (file : ℕ) → m.owns file → file < next = λ file own. lawful.given_out d.table next sound.catalog file own in
    let others = frame.others in
    record {
      frame = record {
        sound = record {
          catalog = subst (λ (l : Log). l.sound d'.table next') (sym same) (lawful.sound_stays d.table d'.table next next' sound.catalog others.later (λ file own. others.lengths file (below file own) (sound.apart file own)));
          logs = frame.sound;
          apart = λ file own theirs. ⊎_elim
              (λ old. sound.apart file (subst (λ (l : Log). l.owns file) same own) old)
              (λ le. omega (arith, le, below file (subst (λ (l : Log). l.owns file) same own)))
              (others.owned file theirs);
          few = subst (λ c. (known c).creates < 2 ^ 63) (sym catalog) sound.few;
          unmade = λ i le. unmade i (sound.unmade i (subst (λ c. (known c).creates ≤ i) catalog le));
          small = λ i count e. sound.small i count (small i count e);
          tied = tied;
          catalog_named = meta_named p p' (meta log p').identity m.identity of (ap (λ (l : Log). l.identity) same) sound.catalog_named;
          logs_named = named (string_bytes p'.tenant) p'.segment_bytes (named_as log p p' (entries p) of sound.logs_named);
          begun = let is = ap (λ (l : Log). natural l.identity.generation) same in omega (arith, sound.begun, is, others.later);
          offsets = counts.0;
          texts = counts.1;
        };
        others = record {
          later = others.later;
          honest = others.honest;
          owned = λ file own. ⊎_elim
              (λ mine. inl (inl (subst (λ (l : Log). l.owns file) same mine)))
              (λ theirs. ⊎_elim (λ old. inl (inr old)) (λ le. inr le) (others.owned file theirs))
              own;
          lengths = λ file lt not. others.lengths file lt (λ own. not (inr own));
          contents = λ honest file lt not. others.contents honest file lt (λ own. not (inr own));
        };
        failures = frame.failures;
        agrees = λ honest agree.
            let stay : (file : ℕ) → m.owns file → get d'.files file ≡ get d.files file = λ file own. others.contents honest file (below file own) (sound.apart file own) in
            record {
              catalog = subst (λ (l : Log). l.agrees d'.files) (sym same) (lawful.agrees_stays d.files d'.files agree.catalog stay);
              fold = subst (λ c. IsFoldOf (natural (log (meta_log c)).identity.generation) ((log (meta_log c)).batches d'.files) (known c)) (sym catalog)
                  (subst (λ bs. IsFoldOf (natural (meta log p).identity.generation) bs (known p.catalog)) (sym (lawful.batches_stay d.files d'.files stay)) agree.fold);
              logs = frame.agrees honest agree.logs;
              started = started honest agree;
              meta_started = subst (λ (l : Log). l.resumes 0) (sym same) agree.meta_started;
              until = until honest agree;
              stored = stored honest agree;
            };
      };
      named = ap string_bytes of.0;
      grows = grows;
      commands = let ends : (meta log p').end ≡ m.end = ap (λ (l : Log). l.end) same in omega (arith, ends);
      creates = let made = ap (λ c. (known c).creates) catalog in omega (arith, made);
      generation = ap (λ (l : Log). natural l.identity.generation) same;
      wrote = let made = ap (λ c. (known c).creates) catalog in let is = ap (λ (l : Log). natural l.identity.generation) same in given_up_stays log p p' of (omega (arith, made)) (λ i lt none. unmade i none) (omega (arith, is));
      leaves = λ honest agree.
          given_leaves (untied_on log recorded p d next) (parts.scene_on log p' d' next') given
          (λ h file there not some.
          let was = gives h file there (λ theirs. not (inr theirs)) some in
          (was.0, was.1, λ own. ⊎_elim (λ mine. absurd (not (inl (subst (λ (l : Log). l.owns file) (sym same) mine)))) (λ theirs. was.2 theirs) own))
          honest (up honest agree);
    }

-- what such a call leaves where it was refused nothing
pub parts_settle : {L : Type 0} (log : L → Log) (law : (l : L) → IsLawfulLog (log l)) (p p' : Parts L) (d d' : Disk) (next next' : ℕ)
    → p'.catalog ≡ p.catalog → IsUntied log p d.table next → Frame (scene_on log (entries p) d next) (scene_on log (entries p') d' next')
    → Settles (scene_on log (entries p) d next) (scene_on log (entries p') d' next') → Settles (parts.scene_on log p d next) (parts.scene_on log p' d' next')
parts_settle {L} log law p p' d d' next next' catalog sound frame settles =
    let m = meta log p in
    let lawful : IsLawfulLog m = law (meta_log p.catalog) in
    let same : meta log p' ≡ m = ap (λ c. log (meta_log c)) catalog in
    record {
      accounts = λ file there not.
          let before = settles.accounts file there (λ own. not (inr own)) in
          (before.0, λ own. ⊎_elim (λ mine. not (inl (subst (λ (l : Log). l.owns file) (sym same) mine))) (λ theirs. before.1 theirs) own);
      exact = λ exact. (
        subst (λ (l : Log). l.exact d'.table) (sym same)
            (lawful.exact_stays d.table d'.table exact.0 (λ file own. frame.others.lengths file (lawful.given_out d.table next sound.catalog file own) (sound.apart file own))),
        settles.exact exact.1,
      );
      timed = settles.timed;
      writes = λ honest file there not some. settles.writes honest file there (λ own. not (inr own)) some;
    }

-- A call for the partitions, of which there are as many as before.
pub logs_move : {L : Type 0} (log : L → Log) (law : (l : L) → IsLawfulLog (log l)) (p p' : Parts L) (d d' : Disk) (next next' : ℕ)
    → p'.catalog ≡ p.catalog → AreOf p' p → KeepNames log (entries p) (entries p') → KeepStarts log (entries p) (entries p')
    → places_of (entries p') ≡ places_of (entries p) → p.refusals ≤ p'.refusals
    → IsSound log p d.table next → Frame (scene_on log (entries p) d next) (scene_on log (entries p') d' next') → GivesUp no_file (scene_on log (entries p) d next) (scene_on log (entries p') d' next')
    → (d'.honest → AgreesBy log (recorded_start (known p.catalog)) p d.files → AreAllKept p'.next_retention_time (world_of log p' d'.files))
    → tally p' ≡ tally p → (d'.honest → AgreesBy log (recorded_start (known p.catalog)) p d.files → IsTold p'.stored (up_to_end (stored_in (world_of log p' d'.files))))
    → IsMove (parts.scene_on log p d next) (parts.scene_on log p' d' next')
logs_move log law p p' d d' next next' catalog of named starts places grows sound frame gives until counts stored =
    from_untied log p (parts.scene_on log p' d' next') d next
    (parts_move log law (recorded_start (known p.catalog)) p p' no_file d d' next next' catalog of named
    (λ i none. ap (λ ps. lookup (is_at (nat_cmp i)) ps) places ∙ none)
    (λ i n e. ap (λ ps. lookup (is_at (nat_cmp i)) ps) (sym places) ∙ e) grows
    (places ∙ sound.tied ∙ sym (ap (λ c. counted partition_count (known c).topics) catalog)) (untied log p d.table next sound) frame gives
    (λ honest agree file bytes had no. absurd no)
    (λ honest agree. subst (λ c. AreStarted log (recorded_start (known c)) (entries p')) (sym catalog) (starts (recorded_start (known p.catalog)) agree.started)) until
    (ap (λ (n : ℕ × ℕ). n.0) counts ∙ sound.offsets ∙ sym (ap (λ c. up_to_end (offsets_in (known c))) catalog), ap (λ (n : ℕ × ℕ). n.1) counts ∙ sound.texts ∙ sym (ap (λ c. up_to_end (texts_in (known c))) catalog)) stored)

-- A call for the partitions that leaves them as they are, and each log's batches as they were.
pub read_move : {L : Type 0} (log : L → Log) (law : (l : L) → IsLawfulLog (log l)) (p p' : Parts L) (d d' : Disk) (next next' : ℕ)
    → p'.catalog ≡ p.catalog → AreOf p' p → KeepNames log (entries p) (entries p') → KeepStarts log (entries p) (entries p')
    → places_of (entries p') ≡ places_of (entries p) → p.refusals ≤ p'.refusals → p'.next_retention_time ≡ p.next_retention_time → AreTallied p' p
    → IsSound log p d.table next → Frame (scene_on log (entries p) d next) (scene_on log (entries p') d' next') → GivesUp no_file (scene_on log (entries p) d next) (scene_on log (entries p') d' next')
    → Same (scene_on log (entries p) d next) (scene_on log (entries p') d' next')
    → IsMove (parts.scene_on log p d next) (parts.scene_on log p' d' next')
read_move log law p p' d d' next next' catalog of named starts places grows until tallied sound frame gives same =
    logs_move log law p p' d d' next next' catalog of named starts places grows sound frame gives
    (λ honest agree. subst (λ u. AreAllKept u (world_of log p' d'.files)) (sym until)
    (kept_by p.next_retention_time (world_of log p d.files) (world_of log p' d'.files)
    (as_before (known p.catalog) (known p'.catalog) (ap (λ c. (known c).topics) catalog)) (same honest agree.logs) agree.until))
    tallied.0 (λ honest agree. still_told p.stored p'.stored (logs_of log (entries p) d.files) (logs_of log (entries p') d'.files) tallied.1 (same honest agree.logs) agree.stored)

-- a call that changes no file
pub kept_settle : {L : Type 0} (log : L → Log) (p : Parts L) (d d' : Disk) (next next' : ℕ) → Keeps d d' → Settles (parts.scene_on log p d next) (parts.scene_on log p d' next')
kept_settle log p d d' next next' keeps = record {
  accounts = λ file there not. (subst (λ table. IsSome (get table file)) keeps.table there, not);
  exact = λ exact. subst (λ table. (meta log p).exact table × AreExact log (entries p) table) (sym keeps.table) exact;
  timed = λ timed. timed;
  writes = keeps_writes (parts.scene_on log p d next) (parts.scene_on log p d' next') keeps;
}

-- A call that reads the partitions.
pub read_step : {L : Type 0} (log : L → Log) (law : (l : L) → IsLawfulLog (log l)) (p : Parts L) (d d' : Disk) (next next' : ℕ)
    → IsSound log p d.table next → Frame (scene_on log (entries p) d next) (scene_on log (entries p) d' next') → Same (scene_on log (entries p) d next) (scene_on log (entries p) d' next') → Keeps d d'
    → IsStep (parts.scene_on log p d next) (parts.scene_on log p d' next')
read_step log law p d d' next next' sound frame same keeps =
    as_step (parts.scene_on log p d next) (parts.scene_on log p d' next')
    (read_move log law p p d d' next next' refl (refl, refl) (λ tenant size named. named) (λ recorded started. started) refl (omega arith) refl (refl, refl) sound frame
    (keeps_gives (scene_on log (entries p) d next) (scene_on log (entries p) d' next') (λ file own. own) keeps) same)
    (λ calm. kept_settle log p d d' next next' keeps)

-- ---- counts

more_counted : (a n : ℕ) (t : Bool) → a ≤ n → a ≤ cond t (n + 1) n
more_counted a n true le = omega (arith, le)
more_counted a n false le = le

-- the same catalog and partitions, under another count
pub recast_move : {L : Type 0} (log : L → Log) (a : Scene Seen) (p q : Parts L) (d : Disk) (next : ℕ) → q.catalog ≡ p.catalog → AreOf q p → entries q ≡ entries p → q.next_retention_time ≡ p.next_retention_time → AreTallied q p → a.state.refusals ≤ q.refusals
    → IsMove a (parts.scene_on log p d next) → IsMove a (parts.scene_on log q d next)
recast_move {L} log a p q d next c of e until tallied le move =
    let s = move.frame.sound in
    let m : meta log q ≡ meta log p = ap (λ (k : Catalog L). log (meta_log k)) c in
    let made = ap (λ (k : Catalog L). (known k).creates) c in
    let generation = ap (λ (l : Log). natural l.identity.generation) m in
    let still = given_up_stays log p q of (omega (arith, made)) (λ i lt none. subst (λ (es : Entries L). IsUnmade i es) (sym e) none) (omega (arith, generation)) in
    record {
      frame = record {
        sound = record {
          catalog = subst (λ (l : Log). l.sound d.table next) (sym m) s.catalog;
          logs = subst (λ (es : Entries L). AreSound log es d.table next) (sym e) s.logs;
          apart = λ file own theirs. s.apart file (subst (λ (l : Log). l.owns file) m own) (subst (λ (es : Entries L). Owned log es file) e theirs);
          few = subst (λ (k : Catalog L). (known k).creates < 2 ^ 63) (sym c) s.few;
          unmade = λ i le. subst (λ (es : Entries L). IsUnmade i es) (sym e) (s.unmade i (subst (λ (k : Catalog L). (known k).creates ≤ i) c le));
          small = λ i n h. s.small i n (subst (λ (es : Entries L). lookup (is_at (nat_cmp i)) (places_of es) ≡ Some n) e h);
          tied = ap places_of e ∙ s.tied ∙ sym (ap (λ (k : Catalog L). counted partition_count (known k).topics) c);
          catalog_named = meta_named p q (meta log q).identity (meta log p).identity of (ap (λ (l : Log). l.identity) m) s.catalog_named;
          logs_named = named_as log p q (entries q) of (subst (AreNamed log (string_bytes p.tenant) p.segment_bytes) (sym e) s.logs_named);
          begun = subst (λ (l : Log). IsBegun l.identity.generation next) (sym m) s.begun;
          offsets = ap (λ (n : ℕ × ℕ). n.0) tallied.0 ∙ s.offsets ∙ sym (ap (λ (k : Catalog L). up_to_end (offsets_in (known k))) c);
          texts = ap (λ (n : ℕ × ℕ). n.1) tallied.0 ∙ s.texts ∙ sym (ap (λ (k : Catalog L). up_to_end (texts_in (known k))) c);
        };
        others = record {
          later = move.frame.others.later;
          honest = move.frame.others.honest;
          owned = λ file own. move.frame.others.owned file (⊎_elim (λ mine. inl (subst (λ (l : Log). l.owns file) m mine)) (λ theirs. inr (subst (λ (es : Entries L). Owned log es file) e theirs)) own);
          lengths = move.frame.others.lengths;
          contents = move.frame.others.contents;
        };
        failures = move.frame.failures;
        agrees = λ honest agree. let g = move.frame.agrees honest agree in record {
          catalog = subst (λ (l : Log). l.agrees d.files) (sym m) g.catalog;
          fold = subst (λ (k : Catalog L). IsFoldOf (natural (log (meta_log k)).identity.generation) ((log (meta_log k)).batches d.files) (known k)) (sym c) g.fold;
          logs = subst (λ (es : Entries L). Agree log es d.files) (sym e) g.logs;
          started = subst (λ (k : Catalog L). AreStarted log (recorded_start (known k)) (entries q)) (sym c) (subst (λ (es : Entries L). AreStarted log (recorded_start (known p.catalog)) es) (sym e) g.started);
          meta_started = subst (λ (l : Log). l.resumes 0) (sym m) g.meta_started;
          until = subst (λ u. AreAllKept u (world_of log q d.files)) (sym until)
              (kept_by p.next_retention_time (world_of log p d.files) (world_of log q d.files)
              (as_before (known p.catalog) (known q.catalog) (ap (λ (k : Catalog L). (known k).topics) c)) (ap (λ (es : Entries L). logs_of log es d.files) e) g.until);
          stored = still_told p.stored q.stored (logs_of log (entries p) d.files) (logs_of log (entries q) d.files) tallied.1 (ap (λ (es : Entries L). logs_of log es d.files) e) g.stored;
        };
      };
      named = ap string_bytes of.0 ∙ move.named;
      grows = le;
      commands = let ends : (meta log q).end ≡ (meta log p).end = ap (λ (l : Log). l.end) m in omega (arith, move.commands, ends);
      creates = let made = ap (λ (k : Catalog L). (known k).creates) c in omega (arith, move.creates, made);
      generation = generation ∙ move.generation;
      wrote = λ file bytes had. still file bytes (move.wrote file bytes had);
      leaves = λ honest agree file there not some other. move.leaves honest agree file there
          (λ own. not (⊎_elim (λ mine. inl (subst (λ (l : Log). l.owns file) (sym m) mine)) (λ theirs. inr (subst (λ (es : Entries L). Owned log es file) (sym e) theirs)) own))
          some (λ had. other (still file _ had));
    }

pub recast_settles : {L : Type 0} (log : L → Log) (a : Scene Seen) (p q : Parts L) (d : Disk) (next : ℕ) → q.catalog ≡ p.catalog → entries q ≡ entries p
    → Settles a (parts.scene_on log p d next) → Settles a (parts.scene_on log q d next)
recast_settles {L} log a p q d next c e settles =
    let m : meta log q ≡ meta log p = ap (λ (k : Catalog L). log (meta_log k)) c in
    record {
      accounts = λ file there not. settles.accounts file there
          (λ own. not (⊎_elim (λ mine. inl (subst (λ (l : Log). l.owns file) (sym m) mine)) (λ theirs. inr (subst (λ (es : Entries L). Owned log es file) (sym e) theirs)) own));
      exact = λ exact. let x = settles.exact exact in
          (subst (λ (l : Log). l.exact d.table) (sym m) x.0, subst (λ (es : Entries L). AreExact log es d.table) (sym e) x.1);
      timed = λ timed. subst (λ (es : Entries L). AreTimed log es) (sym e) (settles.timed timed);
      writes = λ honest file there not. settles.writes honest file there
          (λ own. not (⊎_elim (λ mine. inl (subst (λ (l : Log). l.owns file) (sym m) mine)) (λ theirs. inr (subst (λ (es : Entries L). Owned log es file) (sym e) theirs)) own));
    }

pub recast : {L : Type 0} (log : L → Log) (a : Scene Seen) (p q : Parts L) (d : Disk) (next : ℕ) → q.catalog ≡ p.catalog → AreOf q p → entries q ≡ entries p → q.next_retention_time ≡ p.next_retention_time → AreTallied q p → p.refusals ≤ q.refusals
    → IsStep a (parts.scene_on log p d next) → IsStep a (parts.scene_on log q d next)
recast log a p q d next c of e until tallied le step =
    as_step a (parts.scene_on log q d next)
    (recast_move log a p q d next c of e until tallied (omega (arith, step.grows, le)) (as_move a (parts.scene_on log p d next) step))
    (λ calm. recast_settles log a p q d next c e (step.settles (calm_then a.state.refusals p.refusals q.refusals step.grows le calm).0))

-- a refusal that was counted is no calm, whatever was counted before
pub loud : {L : Type 0} (n : ℕ) (p : Parts L) → n ≤ p.refusals → IsCalm n (refused p).refusals → ⊥
loud n p le calm = by (nat_lt p.refusals END) refl calm
  where
    by : (t : Bool) → nat_lt p.refusals END ≡ t → IsCalm n (cond t (p.refusals + 1) p.refusals) → ⊥
    by true e c = omega (arith, le, c.same)
    by false e c = let lt : p.refusals < END = subst (λ m. m < END) (sym c.same) c.below in absurd (grind (arith, nat_tests))

-- a call that was refused, and its refusal is counted
pub refused_move : {L : Type 0} (log : L → Log) (a : Scene Seen) (p : Parts L) (d : Disk) (next : ℕ) → IsMove a (parts.scene_on log p d next) → IsStep a (parts.scene_on log (refused p) d next)
refused_move log a p d next move =
    as_step a (parts.scene_on log (refused p) d next)
    (recast_move log a p (refused p) d next refl (refl, refl) refl refl (refl, refl) (more_counted a.state.refusals p.refusals (nat_lt p.refusals END) move.grows) move)
    (λ calm. absurd (loud a.state.refusals p move.grows calm))

-- a step, and a refusal is counted
pub refused_step : {L : Type 0} (log : L → Log) (a : Scene Seen) (p : Parts L) (d : Disk) (next : ℕ) → IsStep a (parts.scene_on log p d next) → IsStep a (parts.scene_on log (refused p) d next)
refused_step log a p d next step = refused_move log a p d next (as_move a (parts.scene_on log p d next) step)

-- memory or the store refused the call, which is counted, or it settles
pub counted_step : {L : Type 0} (T : Type 0) (log : L → Log) (a : Scene Seen) (p : Parts L) (d : Disk) (next : ℕ) (f : PartitionFault) → IsMove a (parts.scene_on log p d next)
    → IsRefusedWant {T = T} (Err f) ⊎ Settles a (parts.scene_on log p d next) → IsStep a (parts.scene_on log (counted_for f p) d next)
counted_step T log a p d next partition.Unknown move settled = as_step a (parts.scene_on log p d next) move (λ calm. ⊎_elim (λ want. absurd want) (λ settles. settles) settled)
counted_step T log a p d next partition.Range move settled = as_step a (parts.scene_on log p d next) move (λ calm. ⊎_elim (λ want. absurd want) (λ settles. settles) settled)
counted_step T log a p d next partition.Full move settled = as_step a (parts.scene_on log p d next) move (λ calm. ⊎_elim (λ want. absurd want) (λ settles. settles) settled)
counted_step T log a p d next partition.Store move settled = refused_move log a p d next move
counted_step T log a p d next partition.Memory move settled = refused_move log a p d next move

-- a call that settles also where it was refused
pub counted_read : {L : Type 0} (log : L → Log) (a : Scene Seen) (p : Parts L) (d : Disk) (next : ℕ) (f : PartitionFault) → IsStep a (parts.scene_on log p d next) → IsStep a (parts.scene_on log (counted_for f p) d next)
counted_read log a p d next partition.Unknown step = step
counted_read log a p d next partition.Range step = step
counted_read log a p d next partition.Full step = step
counted_read log a p d next partition.Store step = refused_step log a p d next step
counted_read log a p d next partition.Memory step = refused_step log a p d next step

-- the same of a call for the catalog
pub counted_step_catalog : {L : Type 0} (T : Type 0) (log : L → Log) (a : Scene Seen) (p : Parts L) (d : Disk) (next : ℕ) (f : CatalogFault) → IsMove a (parts.scene_on log p d next)
    → IsWant {T = T} (Err f) ⊎ Settles a (parts.scene_on log p d next) → IsStep a (parts.scene_on log (counted_for_catalog f p) d next)
counted_step_catalog T log a p d next catalog.Name move settled = as_step a (parts.scene_on log p d next) move (λ calm. ⊎_elim (λ want. absurd want) (λ settles. settles) settled)
counted_step_catalog T log a p d next catalog.Exists move settled = as_step a (parts.scene_on log p d next) move (λ calm. ⊎_elim (λ want. absurd want) (λ settles. settles) settled)
counted_step_catalog T log a p d next catalog.Partitions move settled = as_step a (parts.scene_on log p d next) move (λ calm. ⊎_elim (λ want. absurd want) (λ settles. settles) settled)
counted_step_catalog T log a p d next catalog.Limit move settled = as_step a (parts.scene_on log p d next) move (λ calm. ⊎_elim (λ want. absurd want) (λ settles. settles) settled)
counted_step_catalog T log a p d next catalog.TooMany move settled = as_step a (parts.scene_on log p d next) move (λ calm. ⊎_elim (λ want. absurd want) (λ settles. settles) settled)
counted_step_catalog T log a p d next catalog.Unknown move settled = as_step a (parts.scene_on log p d next) move (λ calm. ⊎_elim (λ want. absurd want) (λ settles. settles) settled)
counted_step_catalog T log a p d next catalog.Metadata move settled = as_step a (parts.scene_on log p d next) move (λ calm. ⊎_elim (λ want. absurd want) (λ settles. settles) settled)
counted_step_catalog T log a p d next catalog.Back move settled = as_step a (parts.scene_on log p d next) move (λ calm. ⊎_elim (λ want. absurd want) (λ settles. settles) settled)
counted_step_catalog T log a p d next catalog.UsedUp move settled = as_step a (parts.scene_on log p d next) move (λ calm. ⊎_elim (λ want. absurd want) (λ settles. settles) settled)
counted_step_catalog T log a p d next catalog.Full move settled = refused_move log a p d next move
counted_step_catalog T log a p d next catalog.Store move settled = refused_move log a p d next move
counted_step_catalog T log a p d next catalog.Memory move settled = refused_move log a p d next move

-- a step, and the count of refusals is raised
pub raised_step : {L : Type 0} (log : L → Log) (a : Scene Seen) (p : Parts L) (n : ℕ) (d : Disk) (next : ℕ) → IsStep a (parts.scene_on log p d next) → IsStep a (parts.scene_on log (raised p n) d next)
raised_step log a p n d next step = recast log a p (raised p n) d next refl (refl, refl) refl refl (refl, refl) (omega arith) step

-- what was met is met also where the count is raised behind it
pub raised_meets : {L : Type 0} (log : L → Log) (a : Scene Seen) (p : Parts L) (n : ℕ) (d : Disk) (next : ℕ) (P : Type 0) → IsStep a (parts.scene_on log p d next)
    → Meets a (parts.scene_on log p d next) P → Meets a (parts.scene_on log (raised p n) d next) P
raised_meets log a p n d next P step meets honest agree calm = meets honest agree (calm_then a.state.refusals p.refusals (raised p n).refusals step.grows (omega arith) calm).0

-- a step, and then another clock up to which no partition has anything to drop
pub kept_step : {L : Type 0} (log : L → Log) (a : Scene Seen) (p : Parts L) (u : ℤ) (d : Disk) (next : ℕ) → (d.honest → Agrees log p d.files → AreAllKept u (world_of log p d.files))
    → IsStep a (parts.scene_on log p d next) → IsStep a (parts.scene_on log (record p { next_retention_time = u }) d next)
kept_step log a p u d next until step =
    let s = step.frame.sound in
    record {
      frame = record {
        sound = record {
          catalog = s.catalog;
          logs = s.logs;
          apart = s.apart;
          few = s.few;
          unmade = s.unmade;
          small = s.small;
          tied = s.tied;
          catalog_named = s.catalog_named;
          logs_named = s.logs_named;
          begun = s.begun;
          offsets = s.offsets;
          texts = s.texts;
        };
        others = record {
          later = step.frame.others.later;
          honest = step.frame.others.honest;
          owned = step.frame.others.owned;
          lengths = step.frame.others.lengths;
          contents = step.frame.others.contents;
        };
        failures = step.frame.failures;
        agrees = λ honest agree. let g = step.frame.agrees honest agree in record {
          catalog = g.catalog;
          fold = g.fold;
          logs = g.logs;
          started = g.started;
          meta_started = g.meta_started;
          until = until honest g;
          stored = g.stored;
        };
      };
      named = step.named;
      grows = step.grows;
      commands = step.commands;
      creates = step.creates;
      generation = step.generation;
      settles = λ calm. let s = step.settles calm in record { accounts = s.accounts; exact = s.exact; timed = s.timed; writes = s.writes };
      wrote = step.wrote;
      leaves = λ honest agree file there not some other. step.leaves honest agree file there not some other;
    }

-- a step, and then the bytes of all batches are known
pub told_step : {L : Type 0} (log : L → Log) (a : Scene Seen) (p : Parts L) (o : Option ℕ) (d : Disk) (next : ℕ) → (d.honest → Agrees log p d.files → IsTold o (up_to_end (stored_in (world_of log p d.files))))
    → IsStep a (parts.scene_on log p d next) → IsStep a (parts.scene_on log (record p { stored = o }) d next)
told_step log a p o d next stored step =
    let s = step.frame.sound in
    record {
      frame = record {
        sound = record {
          catalog = s.catalog;
          logs = s.logs;
          apart = s.apart;
          few = s.few;
          unmade = s.unmade;
          small = s.small;
          tied = s.tied;
          catalog_named = s.catalog_named;
          logs_named = s.logs_named;
          begun = s.begun;
          offsets = s.offsets;
          texts = s.texts;
        };
        others = record {
          later = step.frame.others.later;
          honest = step.frame.others.honest;
          owned = step.frame.others.owned;
          lengths = step.frame.others.lengths;
          contents = step.frame.others.contents;
        };
        failures = step.frame.failures;
        agrees = λ honest agree. let g = step.frame.agrees honest agree in record {
          catalog = g.catalog;
          fold = g.fold;
          logs = g.logs;
          started = g.started;
          meta_started = g.meta_started;
          until = g.until;
          stored = stored honest g;
        };
      };
      named = step.named;
      grows = step.grows;
      commands = step.commands;
      creates = step.creates;
      generation = step.generation;
      settles = λ calm. let s = step.settles calm in record { accounts = s.accounts; exact = s.exact; timed = s.timed; writes = s.writes };
      wrote = step.wrote;
      leaves = λ honest agree file there not some other. step.leaves honest agree file there not some other;
    }
