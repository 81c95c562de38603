-- How the partitions of a tenant stand to the topics of its catalog.
use Rattle.std.proofs.Common.{◌≡◌, ◌∙◌, ◌≤◌, ◌<◌, ◌^◌, ℕ, ℤ, Bool, true, false, cond, List, [], ◌∷◌, length, Option, Some, None, refl, sym, ap, subst}
use Rattle.std.specs.Prelude.{int_le, map, option_map, string_bytes}
use Rattle.std.specs.Option.{option_and_then}
use Rattle.std.specs.Ordering.{nat_cmp, match_ordering}
use Rattle.std.specs.declared.cmp.Ordering.{Ordering}
use Rattle.std.specs.declared.cmp.Ordering.TheVariants.{Less, Equal, Greater}
use Rattle.std.specs.Map.{lookup, remove_entry, set_value}
use Rattle.std.specs.BTreeMap.{insert_entry, is_at}
use Rattle.std.specs.declared.alloc.Global.{Global}
use Rattle.std.specs.declared.vec.Vec.{Vec}
use Rattle.std.proofs.lemmas.List.{length-map, length-set}
use Rattle.std.proofs.lemmas.Map.Made.{lookup-map_values}
use Rattle.kb_store.specs.Disk.{Disk, Files, Table}
use Rattle.kb_batch.specs.Batch.{natural}
use Rattle.kb_log.specs.OnShelf.{Log, Identity}
use Rattle.kb_topics.specs.Catalog.{known, catalog_identity}
use Rattle.kb_topics.specs.Commands.{start_command}
use Rattle.kb_topics.specs.Known.{Known, PartitionState, TopicState, put_topic, step, topic_at, with_part, with_partition, with_start}
use Rattle.kb_topics.specs.Known as topics
use Rattle.kb_topics.specs.MetaLog.{IsFoldOf}
use Rattle.kb_tenant_state.specs.Partitions.{Entries, Owned, Agree, AreSound, AreNamed, AreStarted, IsUnmade, log_state, logs_of, places_of}
use Rattle.kb_tenant_state.specs.Scene.{Scene}
use Rattle.kb_tenant_state.specs.declared.partition.Partition.{Partition}
use Rattle.kb_tenant_state.specs.RetentionTime.{AreAllKept}
use Rattle.kb_tenant_state.specs.Parts.{Agrees, IsBegun, IsSound, Seen, entries, meta, recorded_start, scene_on, world_of}
use Rattle.kb_tenant_state.specs.Stored.{IsTold, offsets_in, stored_in, texts_in, up_to_end}
use Rattle.kb_tenant_state.specs.Tied.{IsTied, counted, partition_count}
use Rattle.kb_tenant_state.specs.declared.parts.Parts.{Parts}
use Rattle.kb_tenant_state.proofs.Moves.{IsMove}
use Rattle.kb_tenant_state.proofs.Starts.{still_started}

-- ---- how many items there are

counted_set : {A : Type 0} (size : A → ℕ) (test : ℕ → Bool) (es : List (ℕ × A)) (t u : A) → lookup test es ≡ Some t → size u ≡ size t → counted size (set_value test es u) ≡ counted size es
counted_set size test [] t u here same = refl
counted_set {A} size test (e ∷ es) t u here same = by (test e.0) here (counted_set size test es t u)
  where
    by : (b : Bool) → cond b (Some e.1) (lookup test es) ≡ Some t → (lookup test es ≡ Some t → size u ≡ size t → counted size (set_value test es u) ≡ counted size es)
        → counted size (cond {A = List (ℕ × A)} b ((e.0, u) ∷ es) (e ∷ set_value test es u)) ≡ counted size (e ∷ es)
    by true found rest = let one : e.1 ≡ t = cc in ap (λ (n : ℕ). (e.0, n) ∷ counted size es) (same ∙ sym (ap size one))
    by false found rest = ap (λ (l : List (ℕ × ℕ)). (e.0, size e.1) ∷ l) (rest found same)

pub counted_removed : {A : Type 0} (size : A → ℕ) (test : ℕ → Bool) (es : List (ℕ × A)) → counted size (remove_entry test es) ≡ remove_entry test (counted size es)
counted_removed size test [] = refl
counted_removed {A} size test (e ∷ es) = by (test e.0) (counted_removed size test es)
  where
    by : (b : Bool) → counted size (remove_entry test es) ≡ remove_entry test (counted size es)
        → counted size (cond {A = List (ℕ × A)} b es (e ∷ remove_entry test es)) ≡ cond b (counted size es) ((e.0, size e.1) ∷ remove_entry test (counted size es))
    by true rest = refl
    by false rest = ap (λ (l : List (ℕ × ℕ)). (e.0, size e.1) ∷ l) rest

pub counted_inserted : {A : Type 0} (size : A → ℕ) (es : List (ℕ × A)) (i : ℕ) (v : A) → counted size (insert_entry nat_cmp es i v) ≡ insert_entry nat_cmp (counted size es) i (size v)
counted_inserted size [] i v = refl
counted_inserted {A} size (e ∷ es) i v = by (nat_cmp i e.0) (counted_inserted size es i v)
  where
    by : (o : Ordering) → counted size (insert_entry nat_cmp es i v) ≡ insert_entry nat_cmp (counted size es) i (size v)
        → counted size (match_ordering {X = List (ℕ × A)} o ((i, v) ∷ e ∷ es) ((e.0, v) ∷ es) (e ∷ insert_entry nat_cmp es i v))
        ≡ match_ordering o ((i, size v) ∷ (e.0, size e.1) ∷ counted size es) ((e.0, size v) ∷ counted size es) ((e.0, size e.1) ∷ insert_entry nat_cmp (counted size es) i (size v))
    by Less rest = refl
    by Equal rest = refl
    by Greater rest = ap (λ (l : List (ℕ × ℕ)). (e.0, size e.1) ∷ l) rest

-- ---- a new start

pub put_counts : (i p : ℕ) (part : PartitionState) (ts : List (ℕ × TopicState)) (o : Option TopicState) → topic_at i ts ≡ o → counted partition_count (put_topic i p part ts o) ≡ counted partition_count ts
put_counts i p part ts None at = refl
put_counts i p part ts (Some t) at = counted_set partition_count (is_at (nat_cmp i)) ts t (with_part p part t) at (length-set t.partitions p part)

started_counts : (k new : Known) (i p offset : ℤ) (o : Option PartitionState)
    → option_and_then (λ (q : PartitionState). cond (int_le q.start offset) (Some (with_partition k i p (with_start q offset))) None) o ≡ Some new
    → counted partition_count new.topics ≡ counted partition_count k.topics
started_counts k new i p offset None e = absurd cc
started_counts k new i p offset (Some q) e = by (int_le q.start offset) e
  where
    by : (b : Bool) → cond b (Some (with_partition k i p (with_start q offset))) None ≡ Some new → counted partition_count new.topics ≡ counted partition_count k.topics
    by true is =
        let same : with_partition k i p (with_start q offset) ≡ new = cc in
        ap (λ (j : Known). counted partition_count j.topics) (sym same) ∙ put_counts (natural i) (natural p) (with_start q offset) k.topics (topic_at (natural i) k.topics) refl
    by false is = absurd cc

-- each topic has as many partitions as before
pub start_counts : (k new : Known) (i p offset : ℤ) → step k (start_command i p offset) ≡ Some new → counted partition_count new.topics ≡ counted partition_count k.topics
start_counts k new i p offset e = started_counts k new i p offset (topics.partition_at k i p) e

-- ---- whose the logs are

-- parts of the same tenant, with files of the same size
abbrev pub AreOf : {L : Type 0} → Parts L → Parts L → Type 0
AreOf q p = (q.tenant ≡ p.tenant) × (q.segment_bytes ≡ p.segment_bytes)

-- a catalog's log that is the same one's is named as before
pub named_still : (tenant : List ℕ) (size : ℕ) (new old : Identity) → new ≡ old → old ≡ catalog_identity tenant old.generation size → new ≡ catalog_identity tenant new.generation size
named_still tenant size new old same named = subst (λ who. who ≡ catalog_identity tenant who.generation size) (sym same) named

-- the meta log is named as before, where it is the same tenant's
pub meta_named : {L : Type 0} (p q : Parts L) (new old : Identity) → AreOf q p → new ≡ old → old ≡ catalog_identity (string_bytes p.tenant) old.generation p.segment_bytes
    → new ≡ catalog_identity (string_bytes q.tenant) new.generation q.segment_bytes
meta_named p q new old of same named =
    named_still (string_bytes q.tenant) q.segment_bytes new old same
    (named ∙ sym (ap (λ t. catalog_identity (string_bytes t) old.generation q.segment_bytes) of.0 ∙ ap (catalog_identity (string_bytes p.tenant) old.generation) of.1))

-- so are the partitions' logs
pub named_as : {L : Type 0} (log : L → Log) (p q : Parts L) (es : Entries L) → AreOf q p
    → AreNamed log (string_bytes p.tenant) p.segment_bytes es → AreNamed log (string_bytes q.tenant) q.segment_bytes es
named_as log p q es of named =
    subst (λ t. AreNamed log (string_bytes t) q.segment_bytes es) (sym of.0) (subst (λ n. AreNamed log (string_bytes p.tenant) n es) (sym of.1) named)

-- the logs keep their names: where the old are a tenant's own, so are the new
abbrev pub KeepNames : {L : Type 0} → (L → Log) → Entries L → Entries L → Type 0
KeepNames log old new = (tenant : List ℕ) (size : ℕ) → AreNamed log tenant size old → AreNamed log tenant size new

-- each log would still start where it does
abbrev pub KeepStarts : {L : Type 0} → (L → Log) → Entries L → Entries L → Type 0
KeepStarts log old new = (recorded : ℕ → ℕ → ℕ) → AreStarted log recorded old → AreStarted log recorded new

-- so many offsets are committed, with texts of so many bytes
abbrev pub IsCounted : ℕ → ℕ → Known → Type 0
IsCounted offsets texts k = (offsets ≡ up_to_end (offsets_in k)) × (texts ≡ up_to_end (texts_in k))

-- the committed offsets are counted, and their texts
abbrev pub AreCounted : {L : Type 0} → Parts L → Type 0
AreCounted p = IsCounted p.offsets p.texts (known p.catalog)

-- they are while what is known is the same
pub still_counted : (offsets texts : ℕ) (old new : Known) → new ≡ old → IsCounted offsets texts old → IsCounted offsets texts new
still_counted offsets texts old new same = subst (IsCounted offsets texts) (sym same)

-- ---- between a command and the call for the partitions

-- sound, whatever partitions the topics have
pub record IsUntied {L : Type 0} (log : L → Log) (p : Parts L) (table : Table) (next : ℕ) : Type 0 where
  pub catalog : (meta log p).sound table next
  pub logs : AreSound log (entries p) table next
  pub apart : (file : ℕ) → (meta log p).owns file → Owned log (entries p) file → ⊥
  pub few : (known p.catalog).creates < 2 ^ 63
  pub unmade : (i : ℕ) → (known p.catalog).creates ≤ i → IsUnmade i (entries p)
  pub small : (i count : ℕ) → lookup (is_at (nat_cmp i)) (places_of (entries p)) ≡ Some count → count ≤ 64
  pub catalog_named : (meta log p).identity ≡ catalog_identity (string_bytes p.tenant) (meta log p).identity.generation p.segment_bytes
  pub logs_named : AreNamed log (string_bytes p.tenant) p.segment_bytes (entries p)
  pub begun : IsBegun (meta log p).identity.generation next

-- in agreement, with those starts recorded of the partitions
pub record AgreesBy {L : Type 0} (log : L → Log) (recorded : ℕ → ℕ → ℕ) (p : Parts L) (files : Files) : Type 0 where
  pub catalog : (meta log p).agrees files
  pub fold : IsFoldOf (natural (meta log p).identity.generation) ((meta log p).batches files) (known p.catalog)
  pub logs : Agree log (entries p) files
  pub started : AreStarted log recorded (entries p)
  pub meta_started : (meta log p).resumes 0
  pub until : AreAllKept p.next_retention_time (world_of log p files)
  pub stored : IsTold p.stored (up_to_end (stored_in (world_of log p files)))

abbrev pub untied_on : {L : Type 0} → (L → Log) → (ℕ → ℕ → ℕ) → Parts L → Disk → ℕ → Scene Seen
untied_on log recorded p d next = record (scene_on log p d next) { sound = IsUntied log p d.table next; agrees = AgreesBy log recorded p d.files }

pub untied : {L : Type 0} (log : L → Log) (p : Parts L) (table : Table) (next : ℕ) → IsSound log p table next → IsUntied log p table next
untied log p table next s = record {
  catalog = s.catalog;
  logs = s.logs;
  apart = s.apart;
  few = s.few;
  unmade = s.unmade;
  small = s.small;
  catalog_named = s.catalog_named;
  logs_named = s.logs_named;
  begun = s.begun;
}

by_recorded : {L : Type 0} (log : L → Log) (p : Parts L) (files : Files) → Agrees log p files → AgreesBy log (recorded_start (known p.catalog)) p files
by_recorded log p files agree = record {
  catalog = agree.catalog;
  fold = agree.fold;
  logs = agree.logs;
  started = agree.started;
  meta_started = agree.meta_started;
  until = agree.until;
  stored = agree.stored;
}

pub from_untied : {L : Type 0} (log : L → Log) (p : Parts L) (b : Scene Seen) (d : Disk) (next : ℕ) → IsMove (untied_on log (recorded_start (known p.catalog)) p d next) b → IsMove (scene_on log p d next) b
from_untied log p b d next move = record {
  frame = record {
    sound = move.frame.sound;
    others = move.frame.others;
    failures = move.frame.failures;
    agrees = λ honest agree. move.frame.agrees honest (by_recorded log p d.files agree);
  };
  named = move.named;
  grows = move.grows;
  commands = move.commands;
  creates = move.creates;
  generation = move.generation;
  wrote = move.wrote;
  leaves = λ honest agree. move.leaves honest (by_recorded log p d.files agree);
}

pub tie : {L : Type 0} (log : L → Log) (a : Scene Seen) (recorded : ℕ → ℕ → ℕ) (p : Parts L) (d : Disk) (next : ℕ) → places_of (entries p) ≡ counted partition_count (known p.catalog).topics
    → ((i q : ℕ) → recorded_start (known p.catalog) i q ≡ recorded i q) → AreCounted p → IsMove a (untied_on log recorded p d next) → IsMove a (scene_on log p d next)
tie log a recorded p d next tied same counted move =
    let s = move.frame.sound in
    record {
      frame = record {
        sound = record {
          catalog = s.catalog;
          logs = s.logs;
          apart = s.apart;
          few = s.few;
          unmade = s.unmade;
          small = s.small;
          tied = tied;
          catalog_named = s.catalog_named;
          logs_named = s.logs_named;
          begun = s.begun;
          offsets = counted.0;
          texts = counted.1;
        };
        others = move.frame.others;
        failures = move.frame.failures;
        agrees = λ honest agree. let g = move.frame.agrees honest agree in record {
          catalog = g.catalog;
          fold = g.fold;
          logs = g.logs;
          started = still_started log (entries p) recorded (recorded_start (known p.catalog)) same g.started;
          meta_started = g.meta_started;
          until = g.until;
          stored = g.stored;
        };
      };
      named = move.named;
      grows = move.grows;
      commands = move.commands;
      creates = move.creates;
      generation = move.generation;
      wrote = move.wrote;
      leaves = move.leaves;
    }

-- ---- what the tenant sees

seen_counts : {L : Type 0} (log : L → Log) (es : Entries L) (files : Files) → counted length (logs_of log es files) ≡ places_of es
seen_counts log [] files = refl
seen_counts {L} log (e ∷ es) files =
    let many = length-map e.1.items (λ (x : Partition L). log_state (log x.log) files) in
    λ i. (e.0, many i) ∷ seen_counts log es files i

none_counted : {A B : Type 0} (f : A → B) (o : Option A) → option_map f o ≡ None → o ≡ None
none_counted f None e = refl
none_counted f (Some x) e = absurd cc

-- where a topic has no partitions the tenant sees no logs
pub none_seen : {L : Type 0} (log : L → Log) (es : Entries L) (i : ℕ) (files : Files) → IsUnmade i es → lookup (is_at (nat_cmp i)) (logs_of log es files) ≡ None
none_seen {L} log es i files none =
    let test : ℕ → Bool = is_at (nat_cmp i) in
    let count : Vec (Partition L) Global → ℕ = λ t. length t.items in
    let there = none_counted count (lookup test es) (sym (lookup-map_values count test es) ∙ none) in
    lookup-map_values (λ (t : Vec (Partition L) Global). map (λ (x : Partition L). log_state (log x.log) files) t.items) test es
    ∙ ap (option_map (λ (t : Vec (Partition L) Global). map (λ (x : Partition L). log_state (log x.log) files) t.items)) there

-- the world of sound parts is tied, by any files
pub tied_world : {L : Type 0} (log : L → Log) (p : Parts L) (table : Table) (next : ℕ) (files : Files) → IsSound log p table next → IsTied (world_of log p files)
tied_world log p table next files sound = record {
  next = λ i le.
      let topics = (known p.catalog).topics in
      let test = is_at (nat_cmp i) in
      none_counted partition_count (topic_at i topics) (sym (lookup-map_values partition_count test topics) ∙ sym (ap (lookup test) sound.tied) ∙ sound.unmade i le);
  logs = seen_counts log (entries p) files ∙ sound.tied;
}
