-- What a commit makes of the catalog.
use Rattle.std.proofs.Common.{◌≡◌, ◌∙◌, ℕ, ℤ, pos, nat_le, Bool, true, false, cond, List, length, Option, Some, None, is_some, Err, Bor, sym, ap, refl, arith}
use Rattle.std.specs.Prelude.{option_map, slice_get}
use Rattle.std.specs.Option.{option_and_then, option_copied}
use Rattle.std.specs.Ordering.{nat_cmp}
use Rattle.std.specs.Map.{lookup}
use Rattle.std.specs.BTreeMap.{is_at}
use Rattle.std.proofs.lemmas.Map.Made.{lookup-map_values}
use Rattle.std.proofs.lemmas.Option.{slice_get_within}
use Rattle.kb_store.specs.Disk.{Disk}
use Rattle.kb_log.specs.OnShelf.{Log}
use Rattle.kb_topics.specs.Catalog.{known}
use Rattle.kb_topics.specs.Commands.{commit_command}
use Rattle.kb_topics.specs.Known.{Known, CommittedOffset, PartitionState, TopicState, step, topic_at, partition_at, with_commit, with_partition}
use Rattle.kb_topics.specs.Refusals.{commit_refusal}
use Rattle.kb_topics.specs.declared.fault.CatalogFault.TheVariants as faults
use Rattle.kb_tenant_state.specs.Partitions.{places_of}
use Rattle.kb_tenant_state.specs.Calls.{commit, committed_unless, known_at, with_committed}
use Rattle.kb_tenant_state.specs.Dropping.{IsThere}
use Rattle.kb_tenant_state.specs.Parts.{IsSound, entries}
use Rattle.kb_tenant_state.specs.Tied.{counted, partition_count}
use Rattle.kb_tenant_state.specs.World.{World}
use Rattle.kb_tenant_state.specs.declared.parts.Parts.{Parts}
use Rattle.kb_tenant_state.specs.declared.topic_partition.TopicPartition.{TopicPartition}
use Rattle.kb_tenant_state.proofs.Retained.{fits}
use Rattle.kb_tenant_state.proofs.StillKept.{WereThere, as_before, part_put}
use Rattle.kb_tenant_state.proofs.Tied.{put_counts}

-- ---- a partition that is there

-- Each topic has at most 64 partitions, and an instance that was given out.
topic_there : {L : Type 0} (log : L → Log) (p : Parts L) (d : Disk) (next : ℕ) (place : TopicPartition) (o : Option TopicState) (part : PartitionState) → IsSound log p d.table next
    → topic_at place.instance (known p.catalog).topics ≡ o → option_and_then (λ (t : TopicState). slice_get t.partitions place.number) o ≡ Some part → IsThere place
topic_there log p d next place None part sound at there = absurd cc
topic_there log p d next place (Some t) part sound at there =
    let topics = (known p.catalog).topics in
    let many : lookup (is_at (nat_cmp place.instance)) (places_of (entries p)) ≡ Some (length t.partitions) =
    ap (lookup (is_at (nat_cmp place.instance))) sound.tied ∙ lookup-map_values partition_count (is_at (nat_cmp place.instance)) topics ∙ ap (option_map partition_count) at in
    let small = sound.small place.instance (length t.partitions) many in
    record {
      instance = fits (known p.catalog).creates place.instance sound.few (λ le. (let bad : Some (length t.partitions) ≡ None = sym many ∙ sound.unmade place.instance le in absurd cc));
      number = omega (arith, slice_get_within t.partitions place.number part there, small);
    }

pub known_some : {A : Type 0} (r : Option (Bor A)) (o : Option A) → option_copied r ≡ o → is_some r ≡ true → (x : A) × (o ≡ Some x)
known_some None o e f = absurd cc
known_some (Some b) o e f = (b.now, sym e)

-- the place of a partition that the catalog has fits its types on the wire
pub known_there : {L : Type 0} (log : L → Log) (p : Parts L) (d : Disk) (next : ℕ) (place : TopicPartition) (r : Option (Bor PartitionState)) → IsSound log p d.table next
    → option_copied r ≡ known_at (known p.catalog) place → is_some r ≡ true → IsThere place
known_there log p d next place r sound is some =
    let part = known_some r (known_at (known p.catalog) place) is some in
    topic_there log p d next place (topic_at place.instance (known p.catalog).topics) part.0 sound refl part.1

none_known : {A : Type 0} (r : Option (Bor A)) (o : Option A) → option_copied r ≡ o → is_some r ≡ false → o ≡ None
none_known None o e f = sym e
none_known (Some b) o e f = absurd cc

-- where the catalog has no such partition
pub commit_nowhere : (w : World) (place : TopicPartition) (group : List ℕ) (offset : ℤ) (metadata : List ℕ) (r : Option (Bor PartitionState)) → option_copied r ≡ known_at w.known place → is_some r ≡ false
    → (w, Err faults.Unknown) ≡ commit w place group offset metadata
commit_nowhere w place group offset metadata r is none =
    let c : CommittedOffset = record { offset = offset; metadata = metadata } in
    sym (ap (λ o. committed_unless w place group c (commit_refusal metadata o)) (none_known r (known_at w.known place) is none))

-- ---- what the command comes to

-- the same command, its numbers written otherwise
pub command_same : (k : Known) (place : TopicPartition) (group : List ℕ) (i p offset o : ℤ) (metadata : List ℕ) → i ≡ pos place.instance → p ≡ pos place.number → o ≡ offset
    → step k (commit_command group (pos place.instance) (pos place.number) offset metadata) ≡ step k (commit_command group i p o metadata)
command_same k place group i p offset o metadata e f h =
    ap (λ z. step k (commit_command group z (pos place.number) offset metadata)) (sym e) ∙ ap (λ z. step k (commit_command group i z offset metadata)) (sym f) ∙ ap (λ z. step k (commit_command group i p z metadata)) (sym h)

pub part_same : (k : Known) (place : TopicPartition) (i p : ℤ) → i ≡ pos place.instance → p ≡ pos place.number → partition_at k i p ≡ known_at k place
part_same k place i p e f = ap (λ z. partition_at k z p) e ∙ ap (partition_at k (pos place.instance)) f

-- It is the definition's.
pub committed_is : (k new : Known) (place : TopicPartition) (group : List ℕ) (offset : ℤ) (metadata : List ℕ) → step k (commit_command group (pos place.instance) (pos place.number) offset metadata) ≡ Some new
    → new ≡ with_committed k place group (record { offset = offset; metadata = metadata }) (known_at k place)
committed_is k new place group offset metadata e = by (nat_le (length metadata) 4096) (known_at k place) e
  where
    c : CommittedOffset
    c = record { offset = offset; metadata = metadata }

    by : (b : Bool) (o : Option PartitionState) → cond b (option_map (λ (q : PartitionState). with_partition k (pos place.instance) (pos place.number) (with_commit q group c)) o) None ≡ Some new → new ≡ with_committed k place group c o
    by true (Some q) is = let same : with_partition k (pos place.instance) (pos place.number) (with_commit q group c) ≡ new = cc in sym same
    by true None is = absurd cc
    by false o is = absurd cc

module _ (k : Known) (place : TopicPartition) (group : List ℕ) (c : CommittedOffset) where
  -- each topic has as many partitions as before
  pub commit_counts : (o : Option PartitionState) → counted partition_count (with_committed k place group c o).topics ≡ counted partition_count k.topics
  commit_counts None = refl
  commit_counts (Some q) = put_counts place.instance place.number (with_commit q group c) k.topics (topic_at place.instance k.topics) refl

  pub commit_were : (o : Option PartitionState) → WereThere k (with_committed k place group c o)
  commit_were None = as_before k k refl
  commit_were (Some q) = part_put k place.instance place.number (with_commit q group c) (topic_at place.instance k.topics) refl

  pub commit_creates : (o : Option PartitionState) → (with_committed k place group c o).creates ≡ k.creates
  commit_creates None = refl
  commit_creates (Some q) = refl
