use Rattle.std.proofs.Common.{◌++◌, ◌+◌, ◌∷◌, [], List, append-nil, get_or, pos, refl, sym, take}
use Rattle.std.proofs.Math.Seq.{take-length}
use Rattle.kb_api_data.specs.Layouts.{delete_records_partition_reply}
use Rattle.kb_api_data.specs.declared.delete_records.DeleteRecordsPartition.{DeleteRecordsPartition}
use Rattle.kb_store.proofs.Seen.{on_err}
use Rattle.kb_tenant_state.specs.Parts.{scene}
use Rattle.kb_tenant_state.specs.Scene.{WhereHonest}
use Rattle.kb_tenant_state.specs.Steps.{step_same, step_then, meets_then, meets_so}
use Rattle.kb_tenant_state.specs.World.{World}
use Rattle.kb_tenant_state.specs.declared.topic_partition.TopicPartition.{TopicPartition}
use Rattle.kb_tenant.specs.DeleteRecords.{deleted}
use Rattle.kb_tenant.specs.Told.{CatalogFailed, IsTrimTold}
use Rattle.kb_tenant.specs.Turns.{AreFirstServed}
use Rattle.kb_tenant.proofs.Acknowledging.{honest_then, served_all, served_next, written_more}
use Rattle.kb_tenant.proofs.DeletedRecords.{kept_then, reply_fits}
use Rattle.kb_tenant.proofs.Fetching.{get_or_any}
use Rattle.kb_tenant.proofs.Produced.{told_next, written_one}
use Rattle.kb_tenant.proofs.Trimming.{trim_behind, trim_told_so, trims_before}
use Rattle.kb_tenant.proofs.delete_records.delete_entries.Goals as goal

pub write-requires : goal.write-requires
write-requires g c = λ κs. ((refl, tt), reply_fits c.delete_entry-reply.result)

pub returns-in_err-write-clause-step : goal.returns-in_err-write-clause-step
returns-in_err-write-clause-step g c =
    let log = g.L.PartitionLog.log in
    let disk = g.S.Store.disk in
    let a = scene log disk c.args.parts.now c.args.shelf.now in
    let b = scene log disk c.loop-entry.parts c.loop-entry.shelf in
    let d = scene log disk c.delete_entry-reply.new.parts c.delete_entry-reply.new.shelf in
    step_then a b d c.loop-entry.invariant.step c.delete_entry-reply.ensures.step

pub returns-in_err-write-clause-unchanged : goal.returns-in_err-write-clause-unchanged
returns-in_err-write-clause-unchanged g c = kept_then c.args.touched.now.items c.loop-entry.touched.items c.delete_entry-reply.new.touched.items c.loop-entry.invariant.unchanged c.delete_entry-reply.ensures.unchanged

pub loop-entry-init : goal.loop-entry-init
loop-entry-init g c = record {
  step = step_same (scene g.L.PartitionLog.log g.S.Store.disk c.args.parts.now c.args.shelf.now) c.requires;
  unchanged = take-length c.args.touched.now.items;
  told = λ honest agrees calm. refl;
  answers = λ honest agree. ([], (sym (append-nil c.args.sink.now.bytes), refl));
}

pub loop-entry-preserved : goal.loop-entry-preserved
loop-entry-preserved g c =
    let log = g.L.PartitionLog.log in
    let disk = g.S.Store.disk in
    let a = scene log disk c.args.parts.now c.args.shelf.now in
    let b = scene log disk c.loop-entry.parts c.loop-entry.shelf in
    let d = scene log disk c.delete_entry-reply.new.parts c.delete_entry-reply.new.shelf in
    let write = delete_records_partition_reply.written in
    let f = deleted c.args.topic in
    let p : World × List TopicPartition = (b.state.world, c.loop-entry.touched.items) in
    let q : World × List TopicPartition = (d.state.world, c.delete_entry-reply.new.touched.items) in
    record {
      step = step_then a b d c.loop-entry.invariant.step c.delete_entry-reply.ensures.step;
      unchanged = kept_then c.args.touched.now.items c.loop-entry.touched.items c.delete_entry-reply.new.touched.items c.loop-entry.invariant.unchanged c.delete_entry-reply.ensures.unchanged;
      told = meets_so a d _ _
          (λ both. told_next write f c.loop-entry.sink.bytes c.write.new.sink.bytes p q c.args.entries.now c.loop-entry.entry-index _ _ c.loop-entry-test.true (get_or_any c.args.entries.now c.loop-entry.entry-index _ _ c.loop-entry-test.true)
          (both.0, written_one write c.loop-entry.sink.bytes c.write.new.sink.bytes q c.delete_entry-reply.result _ c.in_ok-write.ensures.ok both.1))
          (meets_then a b d _ _ c.loop-entry.invariant.step c.delete_entry-reply.ensures.step c.loop-entry.invariant.told c.delete_entry-reply.ensures.meets);
      answers = λ honest agree.
          let first = c.loop-entry.invariant.step in
          let second = c.delete_entry-reply.ensures.step in
          let entries = c.args.entries.now in
          let start : World × List TopicPartition = (a.state.world, c.args.touched.now.items) in
          let i = c.loop-entry.entry-index in
          let none : DeleteRecordsPartition = record { partition = pos 0; offset = pos 0 } in
          let e = get_or entries i none in
          let reply = c.delete_entry-reply.result in
          let both = honest_then a b d _ _ first second c.loop-entry.invariant.answers
          (trim_told_so b d c.loop-entry.touched.items c.delete_entry-reply.new.touched.items c.args.topic e reply second
          c.delete_entry-reply.ensures.told) honest agree in
          let earlier = both.0 in (
            earlier.0 ++ reply ∷ [],
            (
              written_more write c.args.sink.now.bytes c.loop-entry.sink.bytes c.write.new.sink.bytes earlier.0 reply earlier.1.0
                  c.in_ok-write.ensures.ok,
              served_next (IsTrimTold (CatalogFailed a d) c.args.topic) start p q entries i e earlier.0 reply c.loop-entry-test.true
                  (get_or_any entries i none e c.loop-entry-test.true)
                  (trims_before a b d second c.args.topic (take i entries) start p earlier.0 earlier.1.1)
                  (trim_behind a b d first c.args.topic p e q reply both.1),
            ),
          );
    }

pub returns-clause-told : goal.returns-clause-told
returns-clause-told g c = λ honest agree.
    let log = g.L.PartitionLog.log in
    let disk = g.S.Store.disk in
    let a = scene log disk c.args.parts.now c.args.shelf.now in
    let b = scene log disk c.loop-entry.parts c.loop-entry.shelf in
    let so = c.loop-entry.invariant.answers honest agree in (
      so.0,
      (
        so.1.0,
        served_all (IsTrimTold (CatalogFailed a b) c.args.topic) (a.state.world, c.args.touched.now.items)
            (b.state.world, c.loop-entry.touched.items) c.args.entries.now c.loop-entry.entry-index so.0 c.loop-entry-test.false so.1.1,
      ),
    )

pub returns-in_err-write-clause-cut : goal.returns-in_err-write-clause-cut
returns-in_err-write-clause-cut g c =
    let log = g.L.PartitionLog.log in
    let disk = g.S.Store.disk in
    let a = scene log disk c.args.parts.now c.args.shelf.now in
    let b = scene log disk c.loop-entry.parts c.loop-entry.shelf in
    let d = scene log disk c.delete_entry-reply.new.parts c.delete_entry-reply.new.shelf in
    let first = c.loop-entry.invariant.step in
    let second = c.delete_entry-reply.ensures.step in
    let entries = c.args.entries.now in
    let start : World × List TopicPartition = (a.state.world, c.args.touched.now.items) in
    let p : World × List TopicPartition = (b.state.world, c.loop-entry.touched.items) in
    let q : World × List TopicPartition = (d.state.world, c.delete_entry-reply.new.touched.items) in
    let i = c.loop-entry.entry-index in
    let none : DeleteRecordsPartition = record { partition = pos 0; offset = pos 0 } in
    let e = get_or entries i none in
    let reply = c.delete_entry-reply.result in
    let is : WhereHonest a d (AreFirstServed (IsTrimTold (CatalogFailed a d) c.args.topic) start entries q) = λ honest agree.
    let both = honest_then a b d _ _ first second c.loop-entry.invariant.answers
    (trim_told_so b d c.loop-entry.touched.items c.delete_entry-reply.new.touched.items c.args.topic e reply second
    c.delete_entry-reply.ensures.told) honest agree in
    let earlier = both.0 in (
      i + 1,
      (
        earlier.0 ++ reply ∷ [],
        served_next (IsTrimTold (CatalogFailed a d) c.args.topic) start p q entries i e earlier.0 reply c.loop-entry-test.true
            (get_or_any entries i none e c.loop-entry-test.true)
            (trims_before a b d second c.args.topic (take i entries) start p earlier.0 earlier.1.1)
            (trim_behind a b d first c.args.topic p e q reply both.1),
      ),
    ) in
    on_err _ is
