use Rattle.std.proofs.Common.{[], append-nil, refl, sym}
use Rattle.kb_tenant_state.specs.Scene.{Scene}
use Rattle.kb_tenant.specs.Counted.{answered_topic, IsFetchTopicTold}
use Rattle.kb_tenant.specs.Fetch.{topic_written}
use Rattle.kb_tenant_state.specs.Parts.{Seen, scene}
use Rattle.kb_tenant_state.specs.Steps.{step_same, step_then}
use Rattle.kb_tenant.specs.Told.{HasFailed}
use Rattle.kb_tenant.proofs.Acknowledging.{served_all}
use Rattle.kb_tenant.proofs.Fetched.{answered_next, fetch_topic_so}
use Rattle.kb_tenant.proofs.Fetching.{same_then, loop_next}
use Rattle.kb_tenant.proofs.fetch.now.put_topics.Goals as goal

pub returns-in_err-put_topic-clause-step : goal.returns-in_err-put_topic-clause-step
returns-in_err-put_topic-clause-step g c =
    let a : Scene Seen = scene g.L.PartitionLog.log g.S.Store.disk c.args.parts.now c.args.shelf.now in
    let b : Scene Seen = scene g.L.PartitionLog.log g.S.Store.disk c.loop-topic.parts c.loop-topic.shelf in
    let d : Scene Seen = scene g.L.PartitionLog.log g.S.Store.disk c.put_topic.new.parts c.put_topic.new.shelf in
    step_then a b d c.loop-topic.invariant.step c.put_topic.ensures.step

pub loop-topic-preserved : goal.loop-topic-preserved
loop-topic-preserved g c =
    let a : Scene Seen = scene g.L.PartitionLog.log g.S.Store.disk c.args.parts.now c.args.shelf.now in
    let b : Scene Seen = scene g.L.PartitionLog.log g.S.Store.disk c.loop-topic.parts c.loop-topic.shelf in
    let d : Scene Seen = scene g.L.PartitionLog.log g.S.Store.disk c.put_topic.new.parts c.put_topic.new.shelf in
    let i = c.loop-topic.topic-index in
    let before = c.loop-topic.invariant in
    record {
      step = step_then a b d before.step c.put_topic.ensures.step;
      same = same_then a b d before.step c.put_topic.ensures.step before.same c.put_topic.ensures.same;
      told = loop_next (topic_written c.args.has_starts) answered_topic a b d c.loop-topic.sink.bytes c.put_topic.new.sink.bytes c.loop-topic.given c.put_topic.new.given c.args.topics.now i c.topic-item.result _ c.loop-topic-test.true c.topic-item.is
          before.step c.put_topic.ensures.step before.same before.told c.in_ok-put_topic.ensures.meets;
      answers = answered_next (topic_written c.args.has_starts) IsFetchTopicTold fetch_topic_so a b d c.args.sink.now.bytes c.loop-topic.sink.bytes
          c.put_topic.new.sink.bytes c.args.given.now c.loop-topic.given c.put_topic.new.given c.args.topics.now i c.topic-item.result c.loop-topic-test.true
          c.topic-item.is before.step c.put_topic.ensures.step before.same before.answers
          c.in_ok-put_topic.ensures.told;
    }

pub loop-topic-init : goal.loop-topic-init
loop-topic-init g c = record {
  step = step_same (scene g.L.PartitionLog.log g.S.Store.disk c.args.parts.now c.args.shelf.now) c.requires.sound;
  same = λ honest agree. refl;
  told = λ honest agree calm. refl;
  answers = λ honest agree. ([], (sym (append-nil c.args.sink.now.bytes), refl));
}

pub returns-clause-told : goal.returns-clause-told
returns-clause-told g c = λ honest agree.
    let log = g.L.PartitionLog.log in
    let disk = g.S.Store.disk in
    let a = scene log disk c.args.parts.now c.args.shelf.now in
    let b = scene log disk c.loop-topic.parts c.loop-topic.shelf in
    let so = c.loop-topic.invariant.answers honest agree in (
      so.0,
      (
        so.1.0,
        served_all (IsFetchTopicTold (HasFailed a b) a.state.world) c.args.given.now c.loop-topic.given c.args.topics.now c.loop-topic.topic-index so.0
            c.loop-topic-test.false so.1.1,
      ),
    )
