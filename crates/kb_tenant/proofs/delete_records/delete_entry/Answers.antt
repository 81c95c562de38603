use Rattle.std.proofs.Common.{◌≡◌, ◌∙◌, ap, sym, subst, length, take, arith, rules, FitsSigned}
use Rattle.std.specs.Int.{w32, w64}
use Rattle.std.specs.declared.alloc.Global.{Global}
use Rattle.std.specs.declared.vec.Vec.{Vec}
use Rattle.std.proofs.lemmas.Int.{to_z-of_z}
use Rattle.std.proofs.lemmas.List.{take_all}
use Rattle.kb_log.specs.Shelf.{Shelved}
use Rattle.kb_tenant_state.specs.Parts.{scene}
use Rattle.kb_tenant_state.specs.Steps.{IsStep, step_same}
use Rattle.kb_tenant_state.specs.Told.{Deletes, IsDeletionWant}
use Rattle.kb_tenant_state.specs.World.{place_in}
use Rattle.kb_tenant_state.specs.declared.parts.Parts.{Parts}
use Rattle.kb_tenant_state.specs.declared.topic_partition.TopicPartition.{TopicPartition}
use Rattle.kb_tenant.specs.DeleteRecords.{deleted, deleted_at, deletion_answered}
use Rattle.kb_tenant.specs.Told.{IsDeletionTold, IsRefusalFor}
use Rattle.kb_tenant.proofs.DeletedRecords.{told_more}
use Rattle.kb_tenant.proofs.Trimming.{entry_trimmed, entry_unknown, trim_acknowledged}
use Rattle.kb_tenant.proofs.delete_records.delete_entry.Goals.{in-Some, in-None}
use Rattle.kb_tenant.proofs.delete_records.delete_entry.Goals as goal

pub returns-clause-step : goal.returns-clause-step
returns-clause-step g c =
    let log = g.L.PartitionLog.log in
    let disk = g.S.Store.disk in
    let a = scene log disk c.args.parts.now c.args.shelf.now in
    elim c.match-new.branch [
      | in-Some w ↦ subst (λ p. IsStep a (scene log disk p c.match-new.shelf)) (sym w.parts-is) (subst (λ s. IsStep a (scene log disk w.delete_at-deleted.new.parts s)) (sym w.shelf-is) w.delete_at-deleted.ensures.step)
      | in-None w ↦ subst (λ p. IsStep a (scene log disk p c.match-new.shelf)) (sym w.parts-is) (subst (λ s. IsStep a (scene log disk c.args.parts.now s)) (sym w.shelf-is) (step_same a c.requires))
    ]

pub returns-clause-unchanged : goal.returns-clause-unchanged
returns-clause-unchanged g c =
    let old = c.args.touched.now.items in
    elim c.match-new.branch [
      | in-Some w ↦ ap (take (length old)) (ap (λ (v : Vec TopicPartition Global). v.items) w.touched-is) ∙ told_more old old w.delete_at-deleted.new.touched.items w.in-Some.place w.delete_at-deleted.result w.delete_at-deleted.ensures.touched (take_all (length old) old (omega arith))
      | in-None w ↦ ap (take (length old)) (ap (λ (v : Vec TopicPartition Global). v.items) w.touched-is) ∙ take_all (length old) old (omega arith)
    ]

pub returns-clause-told : goal.returns-clause-told
returns-clause-told g c =
    let log = g.L.PartitionLog.log in
    let disk = g.S.Store.disk in
    let a = scene log disk c.args.parts.now c.args.shelf.now in
    let entry = c.args.entry.now in
    let old = c.args.touched.now.items in
    let x = c.answered.result in
    let index : FitsSigned w32 entry.partition = search rules in
    let told : Parts g.row.L.Denot → Shelved g.row.S.Denot → Vec TopicPartition Global → Type 0 = λ p s t.
    let b = scene log disk p s in
    IsDeletionTold a b x.error_code (((b.state.world, t.items), x) ≡ deleted c.args.topic (a.state.world, old) entry)
    (IsRefusalFor (IsDeletionWant a b) entry.partition x × (t.items ≡ old)) in
    let at = c.new.ensures ∙ ap (place_in c.args.topic) (to_z-of_z w32 entry.partition index) in
    let is = c.answered.ensures ∙ ap (λ z. deletion_answered z c.match-new.deleted) (to_z-of_z w32 entry.partition index) in
    elim c.match-new.branch [
      | in-Some w ↦
          let new = w.delete_at-deleted.new in
          let b = scene log disk new.parts new.shelf in
          let r = w.delete_at-deleted.result in
          let place = w.in-Some.place in
          let offset : FitsSigned w64 entry.offset = search rules in
          let deletes = subst (λ o. Deletes a b (((b.state.world, new.touched.items), r) ≡ deleted_at (a.state.world, old) place o)
          (IsDeletionWant a b) r) (to_z-of_z w64 entry.offset offset) w.delete_at-deleted.ensures.told in
          subst (λ p. told p c.match-new.shelf c.match-new.touched) (sym w.parts-is)
          (subst (λ s. told new.parts s c.match-new.touched) (sym w.shelf-is)
          (subst (told new.parts new.shelf) (sym w.touched-is)
          (entry_trimmed a b old new.touched.items c.args.topic entry place r x (sym w.in-Some.is ∙ at)
          (is ∙ ap (deletion_answered entry.partition) w.deleted-is) w.delete_at-deleted.ensures.touched deletes)))
      | in-None w ↦
          subst (λ p. told p c.match-new.shelf c.match-new.touched) (sym w.parts-is)
          (subst (λ s. told c.args.parts.now s c.match-new.touched) (sym w.shelf-is)
          (subst (told c.args.parts.now c.args.shelf.now) (sym w.touched-is)
          (entry_unknown a old c.args.topic entry x (IsRefusalFor (IsDeletionWant a a) entry.partition x × (old ≡ old))
          (sym w.in-None.is ∙ at) (is ∙ ap (deletion_answered entry.partition) w.deleted-is))))
    ]

pub returns-clause-acknowledged : goal.returns-clause-acknowledged
returns-clause-acknowledged g c =
    let log = g.L.PartitionLog.log in
    let disk = g.S.Store.disk in
    let a = scene log disk c.args.parts.now c.args.shelf.now in
    let b = scene log disk c.match-new.parts c.match-new.shelf in
    let old = c.args.touched.now.items in
    let new = c.match-new.touched.items in
    let x = c.answered.result in
    let entry = c.args.entry.now in
    trim_acknowledged a b (((b.state.world, new), x) ≡ deleted c.args.topic (a.state.world, old) entry) (new ≡ old) entry.partition x
    (returns-clause-told g c)
