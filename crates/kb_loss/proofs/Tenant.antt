-- What a tenant has after a loss of power, by what is left of its files.
use Rattle.std.proofs.Common.{◌≡◌, ◌∙◌, ◌<◌, ◌≤◌, ◌≤ℤ◌, ℕ, ℤ, Some, List, [], sym, ap, subst, refl, inl, inr, ⊎_elim, arith}
use Rattle.std.specs.Prelude.{pos, negsuc, slice_get}
use Rattle.std.specs.List.{Contains}
use Rattle.std.specs.Option.{option_and_then}
use Rattle.std.proofs.lemmas.Bool.{cases_lt}
use Rattle.std.proofs.lemmas.Int.{ints}
use Rattle.std.proofs.lemmas.Option.{same_Some}
use Rattle.kb_store.specs.Disk.{Files}
use Rattle.kb_batch.specs.Batch.{natural}
use Rattle.kb_topics.specs.declared.command.Command.TheVariants.{Delete}
use Rattle.kb_topics.specs.Known.{Known, PartitionState, TopicState, partition_at}
use Rattle.kb_topics.specs.MetaLog.{IsFoldOf}
use Rattle.kb_tenant_state.specs.Logs.{LogState, Logs, log_at}
use Rattle.kb_opening.specs.Opened.{Owners, IsInUse, IsOpened}
use Rattle.kb_loss.specs.Chains.{HasAll}
use Rattle.kb_loss.specs.Known.{IsLaterPartition, StaysAt, GoesOnTo}
use Rattle.kb_loss.specs.Since.{Touched, AreLeft, untouched}
use Rattle.kb_loss.specs.Tenant.{IsReadAgain, FilesLast, GoesThroughAll, AreOfTenant, TenantIsWritten, HasLog, HasWhatWas}
use Rattle.kb_loss.proofs.Known.{anew_on, catalog_on, all_get}
use Rattle.kb_loss.proofs.Left.{left_lasts, untouched_written}
use Rattle.kb_loss.proofs.Logs.{whole_front, log_lasts}
use Rattle.kb_loss.proofs.Since.{still_itself}
use Rattle.kb_opening.specs.Owners.{is_of_catalog, is_of_partition}

pub natural_le : (x y : ℤ) → x ≤ℤ y → natural x ≤ natural y
natural_le (pos a) (pos b) l = grind (arith, ints, l)
natural_le (pos a) (negsuc b) l = absurd (grind (arith, ints, l))
natural_le (negsuc a) y l = omega arith

module _ (files : Files) (owners : Owners) (k : Known) (logs : Logs) (o : IsOpened files owners k logs) (found : Files) (there : Owners) (now : Known) (logs_now : Logs) (q : IsOpened found there now logs_now) (a : IsReadAgain o found there) (t : FilesLast o found there now) where
  abbrev g : ℕ
  g = o.generation

  same_generation : (h : ℕ) → h ≡ g → IsInUse found there h now → GoesOnTo k now
  same_generation h e u =
      let here = subst (λ (n : ℕ). IsInUse found there n now) e u in
      catalog_on g o.in_use.whole.commands here.whole.commands k now a.commands
      (whole_front files (owners.catalog g) 0 o.in_use.whole.commands o.in_use.whole.chain found (there.catalog g) (t.catalog here) (t.once.catalog g) (t.once_there.catalog g) 0 here.whole.commands here.whole.chain)
      here.whole.known

  abbrev catalog : GoesOnTo k now
  catalog = ⊎_elim
      (λ (lower : q.generation < g). absurd (q.in_use.greatest a.generation (omega (arith, lower, a.no_earlier)) a.small a.known a.read))
      (λ (not_lower : g ≤ q.generation). ⊎_elim
      (λ (higher : g < q.generation). anew_on q.generation q.in_use.whole.commands k now (omega (arith, higher)) (a.renewed q.generation now higher q.in_use.small q.in_use.whole) q.in_use.whole.known)
      (λ (not_higher : q.generation ≤ g). same_generation q.generation (omega (arith, not_lower, not_higher)) q.in_use)
      (cases_lt g q.generation))
      (cases_lt q.generation g)

  partition : (i p : ℕ) (was is : PartitionState) (l : LogState) → partition_at k (pos i) (pos p) ≡ Some was → partition_at now (pos i) (pos p) ≡ Some is → IsLaterPartition catalog.commands was is → log_at i p logs ≡ Some l → HasLog catalog.commands now logs_now i p was l
  partition i p was is l at here later has =
      let had = o.has.each i p was at in
      let has_now = q.has.each i p is here in
      let one : had.0 ≡ l = same_Some had.0 l (sym had.1 ∙ has) in
      let all : HasAll (natural is.start) had.0.batches had.0.end has_now.0.batches has_now.0.end =
      log_lasts files (owners.partition i p) (natural was.start) had.0.start had.0.end had.0.batches had.2 (natural is.start) (natural_le was.start is.start later.start) found (there.partition i p)
      (t.partitions i p was is at here) (t.once.partition i p) (t.once_there.partition i p) has_now.0.start has_now.0.end has_now.0.batches has_now.2 in
      record {
        part = is;
        later = later;
        at = here;
        log = has_now.0;
        has = has_now.1;
        all = subst (λ (x : LogState). HasAll (natural is.start) x.batches x.end has_now.0.batches has_now.0.end) one all;
      }

  pub what_was : HasWhatWas k logs now logs_now
  what_was = record {
    catalog = catalog;
    partitions = λ i p topic was l at part has. ⊎_elim
        (λ (deleted : Contains catalog.commands (Delete topic.name)). inl deleted)
        (λ (s : StaysAt catalog.commands i topic now).
        let still = all_get catalog.commands topic.partitions s.topic.partitions p was s.still.partitions part in
        inr (partition i p was still.0 l
        (ap (option_and_then (λ (x : TopicState). slice_get x.partitions p)) at ∙ part)
        (ap (option_and_then (λ (x : TopicState). slice_get x.partitions p)) s.at ∙ still.1)
        still.2 has))
        (catalog.topics i topic at);
  }

-- where its logs are written in order
pub what_was_left : (files : Files) (owners : Owners) (k : Known) (logs : Logs) (o : IsOpened files owners k logs) (name : List ℕ) (t : Touched) (waiting : List ℕ) (found : Files) → AreLeft files t waiting found → (there : Owners) → AreOfTenant files name owners → AreOfTenant found name there → (now : Known) (logs_now : Logs)
    → IsReadAgain o found there → TenantIsWritten o name t waiting found there now → IsOpened found there now logs_now → HasWhatWas k logs now logs_now
what_was_left files owners k logs o name t waiting found left there mine theirs now logs_now again w q = what_was files owners k logs o found there now logs_now q again (record {
  catalog = λ here. left_lasts files (owners.catalog o.generation) 0 o.in_use.whole.commands o.in_use.whole.chain (is_of_catalog name o.generation) t waiting 0 found (there.catalog o.generation) (w.catalog here) (mine.catalog o.generation) (theirs.catalog o.generation) left;
  partitions = λ i p was is at here.
      let had = (o.has.each i p was at).2 in
      left_lasts files (owners.partition i p) (natural was.start) had.bs had.chain (is_of_partition name i p) t waiting (natural is.start) found (there.partition i p) (w.partitions i p was is at here) (mine.partition i p) (theirs.partition i p) left;
  once = record { catalog = λ h. (mine.catalog h).once; partition = λ i p. (mine.partition i p).once };
  once_there = record { catalog = λ h. (theirs.catalog h).once; partition = λ i p. (theirs.partition i p).once };
})

-- ---- where nothing is lost

pub nothing_lost : (files : Files) (owners : Owners) (k : Known) (logs : Logs) (o : IsOpened files owners k logs) (name : List ℕ) → IsFoldOf o.generation o.in_use.whole.commands k → GoesThroughAll o → IsReadAgain o files owners × TenantIsWritten o name untouched [] files owners k × AreLeft files untouched [] files
nothing_lost files owners k logs o name fold all = (
  record {
    commands = fold;
    generation = o.generation;
    no_earlier = omega arith;
    small = o.in_use.small;
    known = k;
    read = o.in_use.whole;
    renewed = λ g n above small whole. absurd (o.in_use.greatest g above small n whole);
  },
  record {
    catalog = λ here. untouched_written files (owners.catalog o.generation) 0 o.in_use.whole.commands o.in_use.whole.chain (is_of_catalog name o.generation) 0 all.catalog;
    partitions = λ i p was is at here.
        let had = (o.has.each i p was at).2 in
        untouched_written files (owners.partition i p) (natural was.start) had.bs had.chain (is_of_partition name i p) (natural is.start) (all.partitions i p was at);
  },
  record { whole = files; still = still_itself files untouched; count = 0; is = refl },
)
