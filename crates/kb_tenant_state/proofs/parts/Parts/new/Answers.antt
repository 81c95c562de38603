use Rattle.std.proofs.Common.{◌≡◌, ◌∙◌, sym, ap, refl, subst}
use Rattle.std.proofs.lemmas.Option.{none-some}
use Rattle.kb_tenant_state.specs.Partitions.{AreExact}
use Rattle.kb_batch.specs.Batch.{natural}
use Rattle.kb_log.specs.OnShelf.{Identity, IsNew}
use Rattle.kb_topics.specs.Catalog.{known, meta_log}
use Rattle.kb_topics.specs.Known.{empty}
use Rattle.kb_tenant_state.proofs.Begun.{new_agrees}
use Rattle.kb_tenant_state.proofs.parts.Parts.new.Goals as goal

pub returns-clause-agrees : goal.returns-clause-agrees
returns-clause-agrees g c = λ files.
    let made = c.restored-parts.ensures.parts in
    let catalog = sym (ap (λ p. p.catalog) made) in
    new_agrees g.L.PartitionLog.log g.met.L.PartitionLog.lawful _ files
    (subst (λ k. IsNew (g.L.PartitionLog.log (meta_log k))) catalog c.new-catalog.ensures.log)
    (ap (λ k. natural (g.L.PartitionLog.log (meta_log k)).identity.generation) (sym catalog) ∙ ap (λ (i : Identity). natural i.generation) c.new-catalog.ensures.identity)
    (subst (λ k. known k ≡ empty) catalog c.new-catalog.ensures.known)
    (ap (λ p. p.partitions.topics.entries) made ∙ c.new-partitions.ensures) refl

pub returns-clause-exact : goal.returns-clause-exact
returns-clause-exact g c = λ table.
    let log = g.L.PartitionLog.log in
    let made = c.restored-parts.ensures.parts in
    let catalog = sym (ap (λ p. p.catalog) made) in
    let none = ap (λ p. p.partitions.topics.entries) made ∙ c.new-partitions.ensures in
    (subst (λ k. (log (meta_log k)).exact table) catalog (c.new-catalog.ensures.log.exact table), subst (λ es. AreExact log es table) (sym none) (λ i p x at. absurd (none-some x at)))
