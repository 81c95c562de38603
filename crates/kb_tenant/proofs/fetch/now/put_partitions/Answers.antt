use Rattle.std.proofs.Common.{[], append-nil, refl, sym}
use Rattle.kb_tenant_state.specs.Scene.{Scene}
use Rattle.kb_tenant.specs.Counted.{fetch_answered, IsFetchTold}
use Rattle.kb_tenant.specs.Fetch.{partition_written}
use Rattle.kb_tenant_state.specs.Parts.{Seen, scene}
use Rattle.kb_tenant_state.specs.Steps.{step_same, step_then}
use Rattle.kb_tenant.specs.Told.{HasFailed}
use Rattle.kb_tenant.proofs.Acknowledging.{served_all}
use Rattle.kb_tenant.proofs.Fetched.{answered_next, fetch_so}
use Rattle.kb_tenant.proofs.Fetching.{same_then, loop_next, get_or_any}
use Rattle.kb_tenant.proofs.fetch.now.put_partitions.Goals as goal

pub returns-in_err-put_partition-clause-step : goal.returns-in_err-put_partition-clause-step
returns-in_err-put_partition-clause-step g c =
    let a : Scene Seen = scene g.L.PartitionLog.log g.S.Store.disk c.args.parts.now c.args.shelf.now in
    let b : Scene Seen = scene g.L.PartitionLog.log g.S.Store.disk c.loop-entry.parts c.loop-entry.shelf in
    let d : Scene Seen = scene g.L.PartitionLog.log g.S.Store.disk c.put_partition.new.parts c.put_partition.new.shelf in
    step_then a b d c.loop-entry.invariant.step c.put_partition.ensures.step

pub loop-entry-preserved : goal.loop-entry-preserved
loop-entry-preserved g c =
    let a : Scene Seen = scene g.L.PartitionLog.log g.S.Store.disk c.args.parts.now c.args.shelf.now in
    let b : Scene Seen = scene g.L.PartitionLog.log g.S.Store.disk c.loop-entry.parts c.loop-entry.shelf in
    let d : Scene Seen = scene g.L.PartitionLog.log g.S.Store.disk c.put_partition.new.parts c.put_partition.new.shelf in
    let i = c.loop-entry.entry-index in
    let before = c.loop-entry.invariant in
    record {
      step = step_then a b d before.step c.put_partition.ensures.step;
      same = same_then a b d before.step c.put_partition.ensures.step before.same c.put_partition.ensures.same;
      told = loop_next (partition_written c.args.has_starts) (λ w. fetch_answered w c.args.topic) a b d c.loop-entry.sink.bytes c.put_partition.new.sink.bytes c.loop-entry.given c.put_partition.new.given c.args.entries.now i _ _ c.loop-entry-test.true (get_or_any c.args.entries.now i _ _ c.loop-entry-test.true)
          before.step c.put_partition.ensures.step before.same before.told c.in_ok-put_partition.ensures.meets;
      answers = answered_next (partition_written c.args.has_starts) (λ P w. IsFetchTold P w c.args.topic) (fetch_so c.args.topic) a b d c.args.sink.now.bytes c.loop-entry.sink.bytes
          c.put_partition.new.sink.bytes c.args.given.now c.loop-entry.given c.put_partition.new.given c.args.entries.now i _ c.loop-entry-test.true
          (get_or_any c.args.entries.now i _ _ c.loop-entry-test.true) before.step c.put_partition.ensures.step before.same before.answers
          c.in_ok-put_partition.ensures.told;
    }

pub loop-entry-init : goal.loop-entry-init
loop-entry-init g c = record {
  step = step_same (scene g.L.PartitionLog.log g.S.Store.disk c.args.parts.now c.args.shelf.now) c.requires.sound;
  same = λ honest agree. refl;
  told = λ honest agree calm. refl;
  answers = λ honest agree. ([], (sym (append-nil c.args.sink.now.bytes), refl));
}

pub returns-clause-told : goal.returns-clause-told
returns-clause-told g c = λ honest agree.
    let log = g.L.PartitionLog.log in
    let disk = g.S.Store.disk in
    let a = scene log disk c.args.parts.now c.args.shelf.now in
    let b = scene log disk c.loop-entry.parts c.loop-entry.shelf in
    let so = c.loop-entry.invariant.answers honest agree in (
      so.0,
      (
        so.1.0,
        served_all (IsFetchTold (HasFailed a b) a.state.world c.args.topic) c.args.given.now c.loop-entry.given c.args.entries.now c.loop-entry.entry-index so.0
            c.loop-entry-test.false so.1.1,
      ),
    )
