use Rattle.std.proofs.Common.{◌∙◌, Some, ap, subst, sym}
use Rattle.kb_store.specs.Disk.{Files}
use Rattle.kb_tenant_state.specs.Parts.{entries, scene}
use Rattle.kb_tenant_state.specs.Partitions.{Agree, logs_of}
use Rattle.kb_tenant_state.specs.Steps.{IsStep, step_same}
use Rattle.kb_tenant_state.specs.Stored.{bytes_in_all, up_to_end}
use Rattle.kb_tenant_state.proofs.Lifted.{counted_read, read_step, told_step}
use Rattle.kb_tenant_state.proofs.parts.Parts.stored.Goals as goal

pub returns-in-Some-clause-step : goal.returns-in-Some-clause-step
returns-in-Some-clause-step g c = step_same (scene g.L.PartitionLog.log g.S.Store.disk c.args.self.now c.args.shelf.now) c.requires

pub returns-in-Ok-clause-step : goal.returns-in-Ok-clause-step
returns-in-Ok-clause-step g c =
    let old = c.args.self.now in
    let log = g.L.PartitionLog.log in
    let disk = g.S.Store.disk in
    let before = c.args.shelf.now in
    let after = c.size.new.shelf in
    let e = c.size.ensures in
    told_step log (scene log disk old before) old (Some c.in-Ok.stored) (disk after.store) after.next
    (λ honest g. c.in-Ok.ensures.size honest (subst (λ (f : Files). Agree log (entries old) f) (e.keeps.files honest) g.logs)
    ∙ sym (ap (λ (f : Files). up_to_end (bytes_in_all (logs_of log (entries old) f))) (e.keeps.files honest)))
    (read_step log g.met.L.PartitionLog.lawful old (disk before.store) (disk after.store) before.next after.next c.requires e.frame e.same e.keeps)

pub returns-in-Err-clause-step : goal.returns-in-Err-clause-step
returns-in-Err-clause-step g c =
    let old = c.args.self.now in
    let log = g.L.PartitionLog.log in
    let disk = g.S.Store.disk in
    let before = c.args.shelf.now in
    let after = c.size.new.shelf in
    let e = c.size.ensures in
    subst (λ p. IsStep (scene log disk old before) (scene log disk p after)) (sym c.count_fault.ensures.counted)
    (counted_read log (scene log disk old before) old (disk after.store) after.next c.in-Err.fault
    (read_step log g.met.L.PartitionLog.lawful old (disk before.store) (disk after.store) before.next after.next c.requires e.frame e.same e.keeps))
