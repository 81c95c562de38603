use Rattle.std.proofs.Common.{◌≡◌, ◌∙◌, ◌⊎◌, Ok, Err, sym, ap, refl, subst, arith}
use Rattle.kb_topics.specs.Catalog.{known, meta_log}
use Rattle.kb_topics.specs.Refusals.{delete_group_refusal}
use Rattle.kb_tenant_state.specs.Calls.{delete_group, group_deleted_unless}
use Rattle.kb_tenant_state.specs.Parts.{scene, world_of}
use Rattle.kb_tenant_state.specs.Told.{IsCatalogWant, IsDone, IsRefused}
use Rattle.kb_tenant_state.specs.Steps.{IsStep}
use Rattle.kb_tenant_state.specs.Counts.{IsCalm}
use Rattle.kb_tenant_state.specs.Tied.{counted, partition_count}
use Rattle.kb_tenant_state.proofs.GroupDeleted.{group_counts, group_deleted, group_starts, group_were}
use Rattle.kb_tenant_state.proofs.Recorded.{catalog_step, on_shelf, recorded_logs, refused_catalog, refused_meets}
use Rattle.kb_tenant_state.proofs.Starts.{SameStarts}
use Rattle.kb_tenant_state.proofs.StillKept.{WereThere}
use Rattle.kb_tenant_state.proofs.Telling.{group_own, told}
use Rattle.kb_tenant_state.proofs.Texts.{group_taken}
use Rattle.kb_tenant_state.proofs.parts.Parts.delete_group.Goals as goal

pub returns-in-Err-clause-step : goal.returns-in-Err-clause-step
returns-in-Err-clause-step g c =
    let old = c.args.self.now in
    let log = g.L.PartitionLog.log in
    let disk = g.S.Store.disk in
    let before = c.args.shelf.now in
    let after = c.delete_group.new.shelf in
    let changed = c.delete_group.new.self in
    let records = c.in-Err.ensures.records in
    subst (λ p. IsStep (scene log disk old before) (scene log disk p after)) (sym c.count_refusal.ensures.counted)
    (refused_catalog log g.met.L.PartitionLog.lawful old changed (disk before.store) (disk after.store) before.next after.next c.requires.sound c.delete_group.ensures.frame
    (Unit {0}) (record old { catalog = changed }) refl (refl, refl) refl refl (refl, refl) (omega arith) c.in-Err.fault records.2.end records.3 records.1 c.delete_group.ensures.resumes c.in-Err.ensures.settled)

pub returns-in-Err-clause-meets : goal.returns-in-Err-clause-meets
returns-in-Err-clause-meets g c = λ honest agree calm.
    let old = c.args.self.now in
    let log = g.L.PartitionLog.log in
    let disk = g.S.Store.disk in
    let before = c.args.shelf.now in
    let after = c.delete_group.new.shelf in
    let changed = c.delete_group.new.self in
    let records = c.in-Err.ensures.records in
    let w = world_of log old (disk before.store).files in
    let logs = recorded_logs log g.met.L.PartitionLog.lawful old changed (disk before.store) (disk after.store) before.next after.next c.requires.sound c.delete_group.ensures.frame honest in
    let same : world_of log (record old { catalog = changed }) (disk after.store).files ≡ w = (λ i. record { known = records.1 i; logs = logs i }) in
    subst (λ p. (world_of log p (disk after.store).files, Err c.in-Err.fault) ≡ group_deleted_unless w c.args.group.now (delete_group_refusal (known old.catalog) c.args.group.now)) (sym c.count_refusal.ensures.counted)
    (refused_meets log (on_shelf (log (meta_log old.catalog)) (disk before.store) before.next) (on_shelf (log (meta_log changed)) (disk after.store) after.next)
    (record old { catalog = changed }) (disk after.store).files w old.refusals (group_deleted_unless w c.args.group.now) (λ f. refl) (delete_group_refusal (known old.catalog) c.args.group.now) c.in-Err.fault records.0 same (omega arith)
    (subst (λ p. IsCalm old.refusals p.refusals) c.count_refusal.ensures.counted calm))

pub returns-in-Ok-clause-step : goal.returns-in-Ok-clause-step
returns-in-Ok-clause-step g c =
    let records = c.in-Ok.ensures.records in
    let old = c.args.self.now in
    let before = c.args.shelf.now in
    let after = c.delete_group.new.shelf in
    let group = c.args.group.now in
    let k = known old.catalog in
    let new = group_deleted k (known c.delete_group.new.self) group records.2 in
    let same = ap (λ j. j.creates) new in
    let texts = group_taken k (known c.delete_group.new.self) group old.texts c.moved_texts-self.result c.group_texts-before.result new c.requires.sound.texts c.group_texts-before.ensures
    c.moved_texts-self.ensures.moved c.moved_texts-self.ensures.again in
    catalog_step g.L.PartitionLog.log g.met.L.PartitionLog.lawful old c.delete_group.new.self (g.S.Store.disk before.store) (g.S.Store.disk after.store) before.next after.next c.requires.sound c.delete_group.ensures.frame
    c.offset_count-left.result c.moved_texts-self.result (c.offset_count-left.ensures, texts) records.3.end records.4 (ap (λ j. counted partition_count j.topics) new ∙ group_counts group k.topics) (omega (arith, same)) (omega (arith, same, c.requires.sound.few))
    (subst (λ j. WereThere k j) (sym new) (group_were k group)) (subst (λ j. SameStarts k j) (sym new) (group_starts k group)) c.delete_group.ensures.resumes c.in-Ok.ensures.settled

pub returns-in-Ok-clause-told : goal.returns-in-Ok-clause-told
returns-in-Ok-clause-told g c = record {
  counted = refl;
  met = λ honest agree.
      let records = c.in-Ok.ensures.records in
      let old = c.args.self.now in
      let log = g.L.PartitionLog.log in
      let disk = g.S.Store.disk in
      let before = c.args.shelf.now in
      let after = c.delete_group.new.shelf in
      let new = group_deleted (known old.catalog) (known c.delete_group.new.self) c.args.group.now records.2 in
      let logs = recorded_logs log g.met.L.PartitionLog.lawful old c.delete_group.new.self (disk before.store) (disk after.store) before.next after.next c.requires.sound c.delete_group.ensures.frame honest in
      (λ i. (record { known = new i; logs = logs i }, Ok tt))
      ∙ ap (group_deleted_unless (world_of log old (disk before.store).files) c.args.group.now) (sym records.0);
}

pub returns-in-Ok-clause-meets : goal.returns-in-Ok-clause-meets
returns-in-Ok-clause-meets g c = λ honest agree calm. (returns-in-Ok-clause-told g c).met honest agree

pub returns-in-Err-clause-told : goal.returns-in-Err-clause-told
returns-in-Err-clause-told g c =
    let old = c.args.self.now in
    let log = g.L.PartitionLog.log in
    let disk = g.S.Store.disk in
    let before = c.args.shelf.now in
    let after = c.delete_group.new.shelf in
    let changed = c.delete_group.new.self in
    let records = c.in-Err.ensures.records in
    let mid = record old { catalog = changed } in
    let w = world_of log old (disk before.store).files in
    let k = known old.catalog in
    subst (λ p. IsDone (scene log disk old before) (scene log disk p after) ((world_of log p (disk after.store).files, Err c.in-Err.fault) ≡ delete_group w c.args.group.now) ⊎ IsRefused (scene log disk old before) (scene log disk p after) (IsCatalogWant (scene log disk old before) (scene log disk p after) c.in-Err.fault)) (sym c.count_refusal.ensures.counted)
    (told log old mid (log (meta_log changed)) (disk before.store) (disk after.store) before.next after.next (group_deleted_unless w c.args.group.now) refl
    (λ honest agree i. record { known = records.1 i; logs = recorded_logs log g.met.L.PartitionLog.lawful old changed (disk before.store) (disk after.store) before.next after.next c.requires.sound c.delete_group.ensures.frame honest i })
    (λ f. refl) (delete_group_refusal k c.args.group.now) (group_own k c.args.group.now) c.in-Err.fault records.0)
