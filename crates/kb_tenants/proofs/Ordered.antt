-- No group has two offsets of a partition of a catalog that agrees with its meta log.
use Rattle.std.proofs.Common.{◌≡◌, ◌∙◌, ℕ, zero, suc, List, [], ◌∷◌, Some, ap, refl}
use Rattle.std.specs.Prelude.{map, slice_get, option_map}
use Rattle.std.specs.List.{AllByRecursion}
use Rattle.std.proofs.lemmas.Option.{slice_get-map}
use Rattle.kb_batch.specs.Batch.{natural}
use Rattle.kb_store.specs.Disk.{Disk, Files}
use Rattle.kb_log.specs.OnShelf.{Log}
use Rattle.kb_topics.specs.Catalog.{known}
use Rattle.kb_topics.specs.Known.{Known, PartitionState, TopicState}
use Rattle.kb_topics.specs.WellFormed.{AreTopics, IsPartition, IsWellFormed}
use Rattle.kb_topics.proofs.WellFormed.{fold_well_formed}
use Rattle.kb_tenant_state.specs.Parts.{meta}
use Rattle.kb_tenant.specs.LimitsKept.{HasOrderedCommits, HasOrderedTopic, IsOrdered}
use Rattle.kb_tenant_api.specs.Hosted.{kept_of}
use Rattle.kb_tenants.specs.Tenants.{AreKept, hosted, shelf_is_honest, state_of}
use Rattle.kb_tenants.specs.declared.tenants.Tenant.{Tenant}
use Rattle.kb_tenants.specs.declared.tenants.Tenants.{Tenants}

ordered_parts : (ps : List PartitionState) → AllByRecursion IsPartition ps → AllByRecursion IsOrdered ps
ordered_parts [] is = tt
ordered_parts (p ∷ ps) is = (is.0.ordered, ordered_parts ps is.1)

ordered_topics : (creates : ℕ) (ts : List (ℕ × TopicState)) → AreTopics creates ts → AllByRecursion HasOrderedTopic ts
ordered_topics creates [] is = tt
ordered_topics creates (t ∷ ts) is = (ordered_parts t.1.partitions is.0.1.partitions, ordered_topics creates ts is.1)

ordered_known : (k : Known) → IsWellFormed k → AllByRecursion HasOrderedTopic k.topics
ordered_known k is = ordered_topics k.creates k.topics is.topics

module _ {L : Type 0} (log : L → Log) where
  ordered_kept : (files : Files) (ts : List (Tenant L)) (t : ℕ) → ((u : ℕ) (x : Tenant L) → slice_get ts u ≡ Some x → AllByRecursion HasOrderedTopic (known x.parts.catalog).topics)
      → HasOrderedCommits (kept_of (map (state_of log files) ts) t).world
  ordered_kept files [] t each = tt
  ordered_kept files (x ∷ ts) zero each = each 0 x refl
  ordered_kept files (x ∷ ts) (suc t) each = ordered_kept files ts t (λ u y at. each (suc u) y at)

  pub ordered_hosted : {S : Type 0} (disk : S → Disk) (ts : Tenants L S) → AreKept log disk ts → shelf_is_honest disk ts → (t : ℕ) → HasOrderedCommits (kept_of (hosted log disk ts) t).world
  ordered_hosted disk ts kept honest t =
      let files = (disk ts.shelf.store).files in
      ordered_kept files ts.tenants.items t (λ u x at.
      let parts = slice_get-map (λ (z : Tenant L). z.parts) ts.tenants.items u ∙ ap (option_map (λ (z : Tenant L). z.parts)) at in
      ordered_known (known x.parts.catalog)
      (fold_well_formed (natural (meta log x.parts).identity.generation) ((meta log x.parts).batches files) (known x.parts.catalog) (kept.agree honest u x.parts parts).fold))
