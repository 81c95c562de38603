use Rattle.std.proofs.Common.{[], ◌∷◌, ◌++◌, ◌+◌, append-nil, of_z, refl, rules, sym, take, to_z, w16, w32}
use Rattle.std.proofs.lemmas.Int.{to_z-of_z}
use Rattle.kb_api_group.specs.Layouts.{commit_partition_reply}
use Rattle.kb_api_group.specs.declared.offset_commit.CommitPartitionReply.{CommitPartitionReply}
use Rattle.kb_store.proofs.Seen.{on_err}
use Rattle.kb_tenant_state.specs.Scene.{Scene, WhereHonest}
use Rattle.kb_tenant_state.specs.Parts.{Seen, scene}
use Rattle.kb_tenant_state.specs.Steps.{step_same, step_then, meets_then, meets_so}
use Rattle.kb_tenant.specs.OffsetCommit.{committed_entry}
use Rattle.kb_tenant.specs.Told.{CatalogFailed, IsCommitTold}
use Rattle.kb_tenant.specs.Turns.{AreFirstServed}
use Rattle.kb_tenant.proofs.Acknowledging.{honest_then, served_all, served_next, written_more}
use Rattle.kb_tenant.proofs.Committing.{entry_is, reply_fits}
use Rattle.kb_tenant.proofs.Replies.{entry_next}
use Rattle.kb_tenant.proofs.Wanted.{commit_behind, commit_told_so, commits_before}
use Rattle.kb_tenant.proofs.group_commit.commit_entries.Goals as goal

pub write-requires : goal.write-requires
write-requires g c = λ k. ((refl, tt), reply_fits _)

pub returns-in_err-write-clause-step : goal.returns-in_err-write-clause-step
returns-in_err-write-clause-step g c =
    let log = g.L.PartitionLog.log in
    let disk = g.S.Store.disk in
    let a : Scene Seen = scene log disk c.args.parts.now c.args.shelf.now in
    let b : Scene Seen = scene log disk c.loop-entry.parts c.loop-entry.shelf in
    let d : Scene Seen = scene log disk c.commit_entry.new.parts c.commit_entry.new.shelf in
    step_then a b d c.loop-entry.invariant.step c.commit_entry.ensures.step

pub loop-entry-init : goal.loop-entry-init
loop-entry-init g c = record {
  step = step_same (scene g.L.PartitionLog.log g.S.Store.disk c.args.parts.now c.args.shelf.now) c.requires.sound;
  told = λ honest agree calm. refl;
  answers = λ honest agree. ([], (sym (append-nil c.args.sink.now.bytes), refl));
}

pub loop-entry-preserved : goal.loop-entry-preserved
loop-entry-preserved g c =
    let log = g.L.PartitionLog.log in
    let disk = g.S.Store.disk in
    let a : Scene Seen = scene log disk c.args.parts.now c.args.shelf.now in
    let b : Scene Seen = scene log disk c.loop-entry.parts c.loop-entry.shelf in
    let d : Scene Seen = scene log disk c.commit_entry.new.parts c.commit_entry.new.shelf in
    let group = c.args.group.now in
    let f = committed_entry c.args.limits c.args.refusal group c.args.topic in
    let e = c.entry-item.result in
    let i = c.loop-entry.entry-index in
    record {
      step = step_then a b d c.loop-entry.invariant.step c.commit_entry.ensures.step;
      told = meets_so a d _ _ (λ both. entry_next commit_partition_reply f c.loop-entry.sink.bytes c.write.new.sink.bytes b.state.world d.state.world _ c.args.entries.now i e _ c.loop-entry-test.true c.entry-item.is c.in_ok-write.ensures.ok
          (entry_is b.state.world d.state.world c.args.limits c.args.refusal group c.args.topic e _ _ c.commit_entry.result (to_z-of_z w32 e.partition (search rules)) (to_z-of_z w16 c.commit_entry.result (record { sfits = c.commit_entry.type_inv })) both.1) both.0)
          (meets_then a b d _ _ c.loop-entry.invariant.step c.commit_entry.ensures.step c.loop-entry.invariant.told c.commit_entry.ensures.meets);
      answers = λ honest agree.
          let reply : CommitPartitionReply = record { partition = to_z w32 (of_z w32 e.partition); error_code = to_z w16 (of_z w16 c.commit_entry.result) } in
          let first = c.loop-entry.invariant.step in
          let second = c.commit_entry.ensures.step in
          let both = honest_then a b d _ _ first second c.loop-entry.invariant.answers
          (commit_told_so b d c.args.limits c.args.refusal group c.args.topic e reply.partition c.commit_entry.result reply.error_code second
          (to_z-of_z w32 e.partition (search rules)) (to_z-of_z w16 c.commit_entry.result (record { sfits = c.commit_entry.type_inv })) c.commit_entry.ensures.told) honest agree in
          let before = both.0 in (
            before.0 ++ reply ∷ [],
            (
              written_more commit_partition_reply.written c.args.sink.now.bytes c.loop-entry.sink.bytes c.write.new.sink.bytes before.0 reply before.1.0 c.in_ok-write.ensures.ok,
              served_next (IsCommitTold (CatalogFailed a d) c.args.limits c.args.refusal group c.args.topic) a.state.world b.state.world d.state.world c.args.entries.now i e before.0 reply c.loop-entry-test.true c.entry-item.is
                  (commits_before a b d c.args.limits c.args.refusal group second c.args.topic (take i c.args.entries.now) a.state.world b.state.world before.0 before.1.1)
                  (commit_behind a b d c.args.limits c.args.refusal group first c.args.topic b.state.world e d.state.world reply both.1),
            ),
          );
    }

pub returns-clause-told : goal.returns-clause-told
returns-clause-told g c = λ honest agree.
    let log = g.L.PartitionLog.log in
    let disk = g.S.Store.disk in
    let a : Scene Seen = scene log disk c.args.parts.now c.args.shelf.now in
    let b : Scene Seen = scene log disk c.loop-entry.parts c.loop-entry.shelf in
    let so = c.loop-entry.invariant.answers honest agree in
    (so.0, (so.1.0, served_all (IsCommitTold (CatalogFailed a b) c.args.limits c.args.refusal c.args.group.now c.args.topic) a.state.world b.state.world c.args.entries.now c.loop-entry.entry-index so.0 c.loop-entry-test.false so.1.1))

pub returns-in_err-write-clause-cut : goal.returns-in_err-write-clause-cut
returns-in_err-write-clause-cut g c =
    let log = g.L.PartitionLog.log in
    let disk = g.S.Store.disk in
    let a : Scene Seen = scene log disk c.args.parts.now c.args.shelf.now in
    let b : Scene Seen = scene log disk c.loop-entry.parts c.loop-entry.shelf in
    let d : Scene Seen = scene log disk c.commit_entry.new.parts c.commit_entry.new.shelf in
    let group = c.args.group.now in
    let entries = c.args.entries.now in
    let e = c.entry-item.result in
    let i = c.loop-entry.entry-index in
    let first = c.loop-entry.invariant.step in
    let second = c.commit_entry.ensures.step in
    let reply : CommitPartitionReply = record { partition = to_z w32 (of_z w32 e.partition); error_code = to_z w16 (of_z w16 c.commit_entry.result) } in
    let is : WhereHonest a d (AreFirstServed (IsCommitTold (CatalogFailed a d) c.args.limits c.args.refusal group c.args.topic) a.state.world
    entries d.state.world) = λ honest agree.
    let both = honest_then a b d _ _ first second c.loop-entry.invariant.answers
    (commit_told_so b d c.args.limits c.args.refusal group c.args.topic e reply.partition c.commit_entry.result reply.error_code second
    (to_z-of_z w32 e.partition (search rules)) (to_z-of_z w16 c.commit_entry.result (record { sfits = c.commit_entry.type_inv })) c.commit_entry.ensures.told) honest agree in
    let before = both.0 in (
      i + 1,
      (
        before.0 ++ reply ∷ [],
        served_next (IsCommitTold (CatalogFailed a d) c.args.limits c.args.refusal group c.args.topic) a.state.world b.state.world d.state.world entries i e before.0 reply c.loop-entry-test.true c.entry-item.is
            (commits_before a b d c.args.limits c.args.refusal group second c.args.topic (take i entries) a.state.world b.state.world before.0 before.1.1)
            (commit_behind a b d c.args.limits c.args.refusal group first c.args.topic b.state.world e d.state.world reply both.1),
      ),
    ) in
    on_err _ is
