use Rattle.std.proofs.Common.{◌++◌, ◌∷◌, [], IsErr, Ok, rules}
use Rattle.kb_api_data.specs.declared.produce_v5.ProducePartitionReplyV5.{ProducePartitionReplyV5}
use Rattle.kb_tenant_state.specs.Parts.{scene}
use Rattle.kb_tenant.specs.Produce.{entry_written, progress, entry_served, where_due}
use Rattle.kb_tenant.specs.Room.{entries_length, length_due}
use Rattle.kb_tenant_state.specs.Steps.{step_then, meets_then, meets_so}
use Rattle.kb_tenant.specs.Told.{FailedBy, IsEntryTold}
use Rattle.kb_tenant.proofs.Acknowledging.{entry_told_so, failures_by, failures_since, honest_then, next_by, served_all, served_next, written_more}
use Rattle.kb_tenant.proofs.Produced.{told_next, written_one}
use Rattle.kb_tenant.proofs.Room.{entries_put, entry_put, entry_refused, handed_on}
use Rattle.kb_tenant.proofs.produce.serve_entries.Goals as goal

pub returns-in_err-put_entry-clause-step : goal.returns-in_err-put_entry-clause-step
returns-in_err-put_entry-clause-step g c =
    let log = g.L.PartitionLog.log in
    let disk = g.S.Store.disk in
    let a = scene log disk c.args.parts.now c.args.shelf.now in
    let b = scene log disk c.loop-entry.parts c.loop-entry.shelf in
    let d = scene log disk c.serve_entry-reply.new.parts c.serve_entry-reply.new.shelf in
    step_then a b d c.loop-entry.invariant.step c.serve_entry-reply.ensures.step

pub loop-entry-preserved : goal.loop-entry-preserved
loop-entry-preserved g c =
    let log = g.L.PartitionLog.log in
    let disk = g.S.Store.disk in
    let a = scene log disk c.args.parts.now c.args.shelf.now in
    let b = scene log disk c.loop-entry.parts c.loop-entry.shelf in
    let d = scene log disk c.serve_entry-reply.new.parts c.serve_entry-reply.new.shelf in
    let write : ProducePartitionReplyV5 → _ = λ x. where_due c.args.terms.due (entry_written c.args.terms.has_starts x) in
    let f = entry_served c.args.terms.bytes c.args.terms.refusal c.args.topic in
    let p = progress b.state.world c.loop-entry.touched.items in
    let q = progress d.state.world c.serve_entry-reply.new.touched.items in
    record {
      step = step_then a b d c.loop-entry.invariant.step c.serve_entry-reply.ensures.step;
      told = meets_so a d _ _
          (λ both. told_next write f c.loop-entry.sink.bytes c.put_entry.new.sink.bytes p q c.args.entries.now c.loop-entry.entry-index c.entry-item.result _ c.loop-entry-test.true c.entry-item.is
          (both.0, written_one write c.loop-entry.sink.bytes c.put_entry.new.sink.bytes q c.serve_entry-reply.result (f p c.entry-item.result) c.in_ok-put_entry.ensures.bytes both.1))
          (meets_then a b d _ _ c.loop-entry.invariant.step c.serve_entry-reply.ensures.step c.loop-entry.invariant.told c.serve_entry-reply.ensures.meets);
      answers = λ before now next since until later honest agree.
          let first = c.loop-entry.invariant.step in
          let second = c.serve_entry-reply.ensures.step in
          let both = honest_then a b d _ _ first second (c.loop-entry.invariant.answers before now next since (failures_by b d now second until) (next_by b d next second later))
          (entry_told_so before now next b d c.loop-entry.touched.items c.serve_entry-reply.new.touched.items c.args.terms.bytes c.args.terms.refusal c.args.topic c.entry-item.result c.serve_entry-reply.result second (failures_since a b before first since) until later c.serve_entry-reply.ensures.told) honest agree in
          let earlier = both.0 in (
            earlier.0 ++ c.serve_entry-reply.result ∷ [],
            (
              written_more write c.args.sink.now.bytes c.loop-entry.sink.bytes c.put_entry.new.sink.bytes earlier.0 c.serve_entry-reply.result earlier.1.0 c.in_ok-put_entry.ensures.bytes,
              served_next (IsEntryTold (FailedBy before now next) c.args.terms.bytes c.args.terms.refusal c.args.topic) (progress a.state.world c.args.touched.now.items) p q c.args.entries.now c.loop-entry.entry-index c.entry-item.result earlier.0 c.serve_entry-reply.result
                  c.loop-entry-test.true c.entry-item.is earlier.1.1 both.1,
            ),
          );
      put = entry_put c.args.terms.has_starts c.args.terms.due c.args.entries.now c.loop-entry.entry-index c.entry-item.result c.args.sink.now c.loop-entry.sink c.put_entry.new.sink (Ok tt) c.loop-entry-test.true c.loop-entry.invariant.put c.in_ok-put_entry.ensures.put;
    }

pub returns-clause-told : goal.returns-clause-told
returns-clause-told g c = λ before now next since until later honest agree.
    let log = g.L.PartitionLog.log in
    let disk = g.S.Store.disk in
    let a = scene log disk c.args.parts.now c.args.shelf.now in
    let b = scene log disk c.loop-entry.parts c.loop-entry.shelf in
    let so = c.loop-entry.invariant.answers before now next since until later honest agree in
    (so.0, (so.1.0, served_all (IsEntryTold (FailedBy before now next) c.args.terms.bytes c.args.terms.refusal c.args.topic) (progress a.state.world c.args.touched.now.items) (progress b.state.world c.loop-entry.touched.items) c.args.entries.now c.loop-entry.entry-index so.0 c.loop-entry-test.false so.1.1))

pub returns-in_err-put_entry-clause-put : goal.returns-in_err-put_entry-clause-put
returns-in_err-put_entry-clause-put g c =
    let err : IsErr c.from_residual.result = search rules in
    handed_on (length_due c.args.terms.due (entries_length c.args.terms.has_starts c.args.entries.now)) c.args.sink.now c.put_entry.new.sink _ c.from_residual.result err
    (entry_refused c.args.terms.has_starts c.args.terms.due c.args.entries.now c.loop-entry.entry-index c.entry-item.result c.args.sink.now c.loop-entry.sink c.put_entry.new.sink c.put_entry.new.sink _ c.loop-entry-test.true c.loop-entry.invariant.put c.in_err-put_entry.ensures.put)

pub returns-clause-put : goal.returns-clause-put
returns-clause-put g c = entries_put c.args.terms.has_starts c.args.terms.due c.args.entries.now c.loop-entry.entry-index c.args.sink.now c.loop-entry.sink c.loop-entry-test.false c.loop-entry.invariant.put
