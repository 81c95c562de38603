use Rattle.std.proofs.Common.{◌∙◌, ◌++◌, ◌∷◌, [], List, ◌<◌, ◌≤◌, append-nil, ap, refl, sym, subst, length, get_or, take}
use Rattle.std.proofs.Math.Seq.{take-length}
use Rattle.kb_api_data.specs.Layouts.{delete_records_topic_reply}
use Rattle.kb_store.proofs.Seen.{on_err}
use Rattle.kb_tenant_state.specs.Parts.{scene}
use Rattle.kb_tenant_state.specs.Scene.{WhereHonest}
use Rattle.kb_tenant_state.specs.Steps.{step_same, step_then, meets_then, meets_so}
use Rattle.kb_tenant_state.specs.World.{World}
use Rattle.kb_tenant_state.specs.declared.topic_partition.TopicPartition.{TopicPartition}
use Rattle.kb_tenant.specs.DeleteRecords.{deleted_topic}
use Rattle.kb_tenant.specs.Told.{AreTrimsCut, CatalogFailed, IsTrimTopicCut, IsTrimTopicTold}
use Rattle.kb_tenant.proofs.Acknowledging.{honest_then, served_all, served_next, written_more}
use Rattle.kb_tenant.proofs.Cutting.{into_next, trim_cut_behind, trims_none}
use Rattle.kb_tenant.proofs.DeletedRecords.{all_told, kept_then, topics_fit, topic_fits}
use Rattle.kb_tenant.proofs.Produced.{told_next}
use Rattle.kb_tenant.proofs.Trimming.{all_trimmed, trim_topic_behind, trim_topics_before}
use Rattle.kb_tenant.proofs.Turning.{turn_over}
use Rattle.kb_tenant.proofs.delete_records.delete_records.Goals as goal

pub put_count-requires : goal.put_count-requires
put_count-requires g c = topics_fit c.args.request.now c.len.result c.len.ensures c.requires.fits

pub delete_in_topic-requires-clause-fits : goal.delete_in_topic-requires-clause-fits
delete_in_topic-requires-clause-fits g c =
    let i = c.loop-topic.topic-index in
    topic_fits c.args.request.now i c.topic-item.result
    (subst (λ ts. i < length ts) c.as_slice-topic-items.ensures c.loop-topic-test.true)
    (c.topic-item.is ∙ ap (λ ts. get_or ts i c.topic-item.result) c.as_slice-topic-items.ensures)
    c.requires.fits

pub returns-in_err-delete_in_topic-clause-step : goal.returns-in_err-delete_in_topic-clause-step
returns-in_err-delete_in_topic-clause-step g c =
    let log = g.L.PartitionLog.log in
    let disk = g.S.Store.disk in
    let a = scene log disk c.args.parts.now c.args.shelf.now in
    let b = scene log disk c.loop-topic.parts c.loop-topic.shelf in
    let d = scene log disk c.delete_in_topic.new.parts c.delete_in_topic.new.shelf in
    step_then a b d c.loop-topic.invariant.step c.delete_in_topic.ensures.step

pub returns-in_err-delete_in_topic-clause-unchanged : goal.returns-in_err-delete_in_topic-clause-unchanged
returns-in_err-delete_in_topic-clause-unchanged g c = kept_then c.args.touched.now.items c.loop-topic.touched.items c.delete_in_topic.new.touched.items c.loop-topic.invariant.unchanged c.delete_in_topic.ensures.unchanged

pub loop-topic-init : goal.loop-topic-init
loop-topic-init g c = record {
  step = step_same (scene g.L.PartitionLog.log g.S.Store.disk c.args.parts.now c.args.shelf.now) c.requires.sound;
  unchanged = take-length c.args.touched.now.items;
  told = λ honest agrees calm. refl;
  answers = λ honest agree. ([], (sym (append-nil c.put_count.new.self.bytes), refl));
}

pub loop-topic-preserved : goal.loop-topic-preserved
loop-topic-preserved g c =
    let log = g.L.PartitionLog.log in
    let disk = g.S.Store.disk in
    let a = scene log disk c.args.parts.now c.args.shelf.now in
    let b = scene log disk c.loop-topic.parts c.loop-topic.shelf in
    let d = scene log disk c.delete_in_topic.new.parts c.delete_in_topic.new.shelf in
    let write = delete_records_topic_reply.written in
    let p : World × List TopicPartition = (b.state.world, c.loop-topic.touched.items) in
    let q : World × List TopicPartition = (d.state.world, c.delete_in_topic.new.touched.items) in
    let i = c.loop-topic.topic-index in
    record {
      step = step_then a b d c.loop-topic.invariant.step c.delete_in_topic.ensures.step;
      unchanged = kept_then c.args.touched.now.items c.loop-topic.touched.items c.delete_in_topic.new.touched.items c.loop-topic.invariant.unchanged c.delete_in_topic.ensures.unchanged;
      told = meets_so a d _ _
          (told_next write deleted_topic c.loop-topic.sink.bytes c.delete_in_topic.new.sink.bytes p q c.args.request.now.topics i c.topic-item.result _
          (subst (λ ts. i < length ts) c.as_slice-topic-items.ensures c.loop-topic-test.true)
          (c.topic-item.is ∙ ap (λ ts. get_or ts i c.topic-item.result) c.as_slice-topic-items.ensures))
          (meets_then a b d _ _ c.loop-topic.invariant.step c.delete_in_topic.ensures.step c.loop-topic.invariant.told c.in_ok-delete_in_topic.ensures.meets);
      answers = λ honest agree.
          let first = c.loop-topic.invariant.step in
          let second = c.delete_in_topic.ensures.step in
          let topics = c.args.request.now.topics in
          let start : World × List TopicPartition = (a.state.world, c.args.touched.now.items) in
          let t = c.topic-item.result in
          let both = honest_then a b d _ _ first second c.loop-topic.invariant.answers c.in_ok-delete_in_topic.ensures.told honest agree in
          let earlier = both.0 in
          let reply = both.1 in (
            earlier.0 ++ reply.0 ∷ [],
            (
              written_more write c.put_count.new.self.bytes c.loop-topic.sink.bytes c.delete_in_topic.new.sink.bytes earlier.0 reply.0
                  earlier.1.0 reply.1.0,
              served_next (IsTrimTopicTold (CatalogFailed a d)) start p q topics i t earlier.0 reply.0
                  (subst (λ ts. i < length ts) c.as_slice-topic-items.ensures c.loop-topic-test.true)
                  (c.topic-item.is ∙ ap (λ ts. get_or ts i t) c.as_slice-topic-items.ensures)
                  (trim_topics_before a b d second (take i topics) start p earlier.0 earlier.1.1)
                  (trim_topic_behind a b d first p t q reply.0 reply.1.1),
            ),
          );
    }

pub returns-clause-meets : goal.returns-clause-meets
returns-clause-meets g c =
    let log = g.L.PartitionLog.log in
    let disk = g.S.Store.disk in
    let a = scene log disk c.args.parts.now c.args.shelf.now in
    let b = scene log disk c.loop-topic.parts c.loop-topic.shelf in
    let request = c.args.request.now in
    let p : World × List TopicPartition = (b.state.world, c.loop-topic.touched.items) in
    let i = c.loop-topic.topic-index in
    let over = turn_over delete_records_topic_reply.written deleted_topic c.loop-topic.sink.bytes p request.topics i (subst (λ ts. length ts ≤ i) c.as_slice-topic-items.ensures c.loop-topic-test.false) in
    meets_so a b _ _
    (λ told. all_told request a.state.world b.state.world c.args.touched.now.items c.loop-topic.touched.items c.len.result
    c.args.sink.now.bytes c.put_i32.new.self.bytes c.put_count.new.self.bytes c.loop-topic.sink.bytes
    c.len.ensures c.in_ok-put_i32.ensures.ok c.in_ok-put_count.ensures.ok (sym over ∙ told))
    c.loop-topic.invariant.told

pub returns-clause-told : goal.returns-clause-told
returns-clause-told g c = λ honest agree.
    let log = g.L.PartitionLog.log in
    let disk = g.S.Store.disk in
    let a = scene log disk c.args.parts.now c.args.shelf.now in
    let b = scene log disk c.loop-topic.parts c.loop-topic.shelf in
    let request = c.args.request.now in
    let i = c.loop-topic.topic-index in
    let start : World × List TopicPartition = (a.state.world, c.args.touched.now.items) in
    let end : World × List TopicPartition = (b.state.world, c.loop-topic.touched.items) in
    let so = c.loop-topic.invariant.answers honest agree in
    let all = served_all (IsTrimTopicTold (CatalogFailed a b)) start end request.topics i so.0
    (subst (λ ts. length ts ≤ i) c.as_slice-topic-items.ensures c.loop-topic-test.false) so.1.1 in
    all_trimmed (CatalogFailed a b) request start end c.len.result c.args.sink.now.bytes c.put_i32.new.self.bytes
    c.put_count.new.self.bytes c.loop-topic.sink.bytes
    c.len.ensures c.in_ok-put_i32.ensures.ok c.in_ok-put_count.ensures.ok (so.0, (so.1.0, all))

pub returns-in_err-put_i32-clause-cut : goal.returns-in_err-put_i32-clause-cut
returns-in_err-put_i32-clause-cut g c =
    let a = scene g.L.PartitionLog.log g.S.Store.disk c.args.parts.now c.args.shelf.now in
    let start : World × List TopicPartition = (a.state.world, c.args.touched.now.items) in
    let is : WhereHonest a a (AreTrimsCut (CatalogFailed a a) start c.args.request.now start) = λ honest agree.
    trims_none (CatalogFailed a a) start c.args.request.now in
    on_err _ is

pub returns-in_err-put_count-clause-cut : goal.returns-in_err-put_count-clause-cut
returns-in_err-put_count-clause-cut g c =
    let a = scene g.L.PartitionLog.log g.S.Store.disk c.args.parts.now c.args.shelf.now in
    let start : World × List TopicPartition = (a.state.world, c.args.touched.now.items) in
    let is : WhereHonest a a (AreTrimsCut (CatalogFailed a a) start c.args.request.now start) = λ honest agree.
    trims_none (CatalogFailed a a) start c.args.request.now in
    on_err _ is

pub returns-in_err-delete_in_topic-clause-cut : goal.returns-in_err-delete_in_topic-clause-cut
returns-in_err-delete_in_topic-clause-cut g c =
    let log = g.L.PartitionLog.log in
    let disk = g.S.Store.disk in
    let a = scene log disk c.args.parts.now c.args.shelf.now in
    let b = scene log disk c.loop-topic.parts c.loop-topic.shelf in
    let d = scene log disk c.delete_in_topic.new.parts c.delete_in_topic.new.shelf in
    let first = c.loop-topic.invariant.step in
    let second = c.delete_in_topic.ensures.step in
    let topics = c.args.request.now.topics in
    let start : World × List TopicPartition = (a.state.world, c.args.touched.now.items) in
    let p : World × List TopicPartition = (b.state.world, c.loop-topic.touched.items) in
    let q : World × List TopicPartition = (d.state.world, c.delete_in_topic.new.touched.items) in
    let i = c.loop-topic.topic-index in
    let t = c.topic-item.result in
    let is : WhereHonest a d (AreTrimsCut (CatalogFailed a d) start c.args.request.now q) = λ honest agree.
    let both = honest_then a b d _ _ first second c.loop-topic.invariant.answers c.in_err-delete_in_topic.ensures.cut honest agree in
    let earlier = both.0 in
    into_next (IsTrimTopicTold (CatalogFailed a d)) (IsTrimTopicCut (CatalogFailed a d)) start p q topics i t earlier.0
    (subst (λ ts. i < length ts) c.as_slice-topic-items.ensures c.loop-topic-test.true)
    (c.topic-item.is ∙ ap (λ ts. get_or ts i t) c.as_slice-topic-items.ensures)
    (trim_topics_before a b d second (take i topics) start p earlier.0 earlier.1.1)
    (trim_cut_behind a b d first p t q both.1) in
    on_err _ is
