use Rattle.std.proofs.Common.{[], ◌∷◌, ◌++◌, ◌∙◌, ◌<◌, ◌≤◌, ap, append-nil, sym, refl, subst, take, length, get_or}
use Rattle.kb_api_group.specs.Layouts.{commit_topic, commit_topic_reply}
use Rattle.kb_store.proofs.Seen.{on_err}
use Rattle.kb_tenant_state.specs.Scene.{Scene, WhereHonest}
use Rattle.kb_tenant_state.specs.Parts.{Seen, scene}
use Rattle.kb_tenant_state.specs.Steps.{step_same, step_then, meets_then, meets_so}
use Rattle.kb_tenant.specs.OffsetCommit.{committed_topic}
use Rattle.kb_tenant.specs.Told.{AreCommitsCut, CatalogFailed, IsCommitTopicCut, IsCommitTopicTold}
use Rattle.kb_tenant.specs.Turns.{AreServedInto}
use Rattle.kb_tenant.proofs.Acknowledging.{honest_then, served_all, served_next, written_more}
use Rattle.kb_tenant.proofs.Committing.{all_told, group_fits, topics_fit}
use Rattle.kb_tenant.proofs.Cutting.{commit_cut_behind, commits_none, into_next}
use Rattle.kb_tenant.proofs.Deleting.{name_short}
use Rattle.kb_tenant.proofs.Fitting.{count_fits, item_fits}
use Rattle.kb_tenant.proofs.Produced.{told_next}
use Rattle.kb_tenant.proofs.Turning.{turn_over}
use Rattle.kb_tenant.proofs.Wanted.{commit_topic_behind, commit_topics_before, commits_told_so}
use Rattle.kb_tenant.proofs.group_commit.offset_commit.Goals as goal

pub put_count-requires : goal.put_count-requires
put_count-requires g c = count_fits commit_topic c.args.request.now.topics c.len.result (topics_fit c.args.request.now c.requires.fits) c.len.ensures

pub commit_topic-requires-clause-fits : goal.commit_topic-requires-clause-fits
commit_topic-requires-clause-fits g c =
    let i = c.loop-topic.topic-index in
    item_fits commit_topic c.args.request.now.topics i c.topic-item.result (topics_fit c.args.request.now c.requires.fits)
    (subst (λ ts. i < length ts) c.as_slice-topic-items.ensures c.loop-topic-test.true)
    (c.topic-item.is ∙ ap (λ ts. get_or ts i c.topic-item.result) c.as_slice-topic-items.ensures)

pub commit_topic-requires-clause-text : goal.commit_topic-requires-clause-text
commit_topic-requires-clause-text g c = name_short c.args.request.now.group_id _ c.as_str-group.ensures (group_fits c.args.request.now c.requires.fits)

pub returns-in_err-commit_topic-clause-step : goal.returns-in_err-commit_topic-clause-step
returns-in_err-commit_topic-clause-step g c =
    let log = g.L.PartitionLog.log in
    let disk = g.S.Store.disk in
    let a : Scene Seen = scene log disk c.args.parts.now c.args.shelf.now in
    let b : Scene Seen = scene log disk c.loop-topic.parts c.loop-topic.shelf in
    let d : Scene Seen = scene log disk c.commit_topic.new.parts c.commit_topic.new.shelf in
    step_then a b d c.loop-topic.invariant.step c.commit_topic.ensures.step

pub loop-topic-init : goal.loop-topic-init
loop-topic-init g c = record {
  step = step_same (scene g.L.PartitionLog.log g.S.Store.disk c.args.parts.now c.args.shelf.now) c.requires.sound;
  told = λ honest agree calm. refl;
  answers = λ honest agree. ([], (sym (append-nil c.put_count.new.self.bytes), refl));
}

pub loop-topic-preserved : goal.loop-topic-preserved
loop-topic-preserved g c =
    let log = g.L.PartitionLog.log in
    let disk = g.S.Store.disk in
    let a : Scene Seen = scene log disk c.args.parts.now c.args.shelf.now in
    let b : Scene Seen = scene log disk c.loop-topic.parts c.loop-topic.shelf in
    let d : Scene Seen = scene log disk c.commit_topic.new.parts c.commit_topic.new.shelf in
    let f = committed_topic c.args.limits c.args.refusal c.as_str-group.result.now in
    let i = c.loop-topic.topic-index in
    record {
      step = step_then a b d c.loop-topic.invariant.step c.commit_topic.ensures.step;
      told = meets_so a d _ _
          (told_next commit_topic_reply.written f c.loop-topic.sink.bytes c.commit_topic.new.sink.bytes b.state.world d.state.world c.args.request.now.topics i c.topic-item.result _
          (subst (λ ts. i < length ts) c.as_slice-topic-items.ensures c.loop-topic-test.true)
          (c.topic-item.is ∙ ap (λ ts. get_or ts i c.topic-item.result) c.as_slice-topic-items.ensures))
          (meets_then a b d _ _ c.loop-topic.invariant.step c.commit_topic.ensures.step c.loop-topic.invariant.told c.in_ok-commit_topic.ensures.meets);
      answers = λ honest agree.
          let first = c.loop-topic.invariant.step in
          let second = c.commit_topic.ensures.step in
          let group = c.as_str-group.result.now in
          let both = honest_then a b d _ _ first second c.loop-topic.invariant.answers c.in_ok-commit_topic.ensures.told honest agree in
          let before = both.0 in
          let reply = both.1 in (
            before.0 ++ reply.0 ∷ [],
            (
              written_more commit_topic_reply.written c.put_count.new.self.bytes c.loop-topic.sink.bytes c.commit_topic.new.sink.bytes before.0 reply.0 before.1.0 reply.1.0,
              served_next (IsCommitTopicTold (CatalogFailed a d) c.args.limits c.args.refusal group) a.state.world b.state.world d.state.world c.args.request.now.topics i c.topic-item.result before.0 reply.0
                  (subst (λ ts. i < length ts) c.as_slice-topic-items.ensures c.loop-topic-test.true)
                  (c.topic-item.is ∙ ap (λ ts. get_or ts i c.topic-item.result) c.as_slice-topic-items.ensures)
                  (commit_topics_before a b d c.args.limits c.args.refusal group second (take i c.args.request.now.topics) a.state.world b.state.world before.0 before.1.1)
                  (commit_topic_behind a b d c.args.limits c.args.refusal group first b.state.world c.topic-item.result d.state.world reply.0 reply.1.1),
            ),
          );
    }

pub returns-clause-meets : goal.returns-clause-meets
returns-clause-meets g c =
    let log = g.L.PartitionLog.log in
    let disk = g.S.Store.disk in
    let a : Scene Seen = scene log disk c.args.parts.now c.args.shelf.now in
    let b : Scene Seen = scene log disk c.loop-topic.parts c.loop-topic.shelf in
    let q = c.args.request.now in
    let refusal = c.args.refusal in
    let group = c.as_str-group.result.now in
    let i = c.loop-topic.topic-index in
    let over = turn_over commit_topic_reply.written (committed_topic c.args.limits refusal group) c.loop-topic.sink.bytes b.state.world q.topics i (subst (λ ts. length ts ≤ i) c.as_slice-topic-items.ensures c.loop-topic-test.false) in
    meets_so a b _ _
    (λ told. all_told q a.state.world b.state.world c.args.limits refusal group q.topics c.len.result c.args.sink.now.bytes c.put_count.new.self.bytes c.loop-topic.sink.bytes
    c.as_str-group.ensures refl c.len.ensures c.in_ok-put_count.ensures.ok (sym over ∙ told))
    c.loop-topic.invariant.told

pub returns-clause-told : goal.returns-clause-told
returns-clause-told g c = λ honest agree.
    let log = g.L.PartitionLog.log in
    let disk = g.S.Store.disk in
    let a : Scene Seen = scene log disk c.args.parts.now c.args.shelf.now in
    let b : Scene Seen = scene log disk c.loop-topic.parts c.loop-topic.shelf in
    let q = c.args.request.now in
    let group = c.as_str-group.result.now in
    let i = c.loop-topic.topic-index in
    let so = c.loop-topic.invariant.answers honest agree in
    let all = served_all (IsCommitTopicTold (CatalogFailed a b) c.args.limits c.args.refusal group) a.state.world b.state.world q.topics i so.0 (subst (λ ts. length ts ≤ i) c.as_slice-topic-items.ensures c.loop-topic-test.false) so.1.1 in
    commits_told_so (CatalogFailed a b) q c.args.limits c.args.refusal group a.state.world b.state.world c.len.result c.args.sink.now.bytes c.put_count.new.self.bytes c.loop-topic.sink.bytes
    c.as_str-group.ensures c.len.ensures c.in_ok-put_count.ensures.ok (so.0, (so.1.0, all))

pub returns-in_err-put_count-clause-cut : goal.returns-in_err-put_count-clause-cut
returns-in_err-put_count-clause-cut g c =
    let a : Scene Seen = scene g.L.PartitionLog.log g.S.Store.disk c.args.parts.now c.args.shelf.now in
    let is : WhereHonest a a (AreCommitsCut (CatalogFailed a a) c.args.limits c.args.refusal a.state.world c.args.request.now a.state.world) = λ honest agree.
    commits_none (CatalogFailed a a) c.args.limits c.args.refusal a.state.world c.args.request.now in
    on_err _ is

pub returns-in_err-commit_topic-clause-cut : goal.returns-in_err-commit_topic-clause-cut
returns-in_err-commit_topic-clause-cut g c =
    let log = g.L.PartitionLog.log in
    let disk = g.S.Store.disk in
    let a : Scene Seen = scene log disk c.args.parts.now c.args.shelf.now in
    let b : Scene Seen = scene log disk c.loop-topic.parts c.loop-topic.shelf in
    let d : Scene Seen = scene log disk c.commit_topic.new.parts c.commit_topic.new.shelf in
    let first = c.loop-topic.invariant.step in
    let second = c.commit_topic.ensures.step in
    let group = c.as_str-group.result.now in
    let limits = c.args.limits in
    let refusal = c.args.refusal in
    let failed = CatalogFailed a d in
    let topics = c.args.request.now.topics in
    let i = c.loop-topic.topic-index in
    let t = c.topic-item.result in
    let is : WhereHonest a d (AreCommitsCut failed limits refusal a.state.world c.args.request.now d.state.world) = λ honest agree.
    let both = honest_then a b d _ _ first second c.loop-topic.invariant.answers c.in_err-commit_topic.ensures.cut honest agree in
    let before = both.0 in
    subst (λ x. AreServedInto (IsCommitTopicTold failed limits refusal x) (IsCommitTopicCut failed limits refusal x) a.state.world topics d.state.world) c.as_str-group.ensures
    (into_next (IsCommitTopicTold failed limits refusal group) (IsCommitTopicCut failed limits refusal group) a.state.world b.state.world d.state.world topics i t before.0
    (subst (λ ts. i < length ts) c.as_slice-topic-items.ensures c.loop-topic-test.true)
    (c.topic-item.is ∙ ap (λ ts. get_or ts i t) c.as_slice-topic-items.ensures)
    (commit_topics_before a b d limits refusal group second (take i topics) a.state.world b.state.world before.0 before.1.1)
    (commit_cut_behind a b d first limits refusal group b.state.world t d.state.world both.1)) in
    on_err _ is
