use Rattle.std.proofs.Common.{◌≡◌, ◌++◌, List, drop, take}
use Rattle.std.specs.List.{flat_map}
use Rattle.kb_api_group.specs.Layouts.{commit_topic_reply}
use Rattle.kb_api_group.specs.declared.offset_commit.CommitTopicReply.{CommitTopicReply}
use Rattle.kb_tenant_state.specs.Scene.{WhereHonest}
use Rattle.kb_tenant_state.specs.Parts.{scene}
use Rattle.kb_tenant_state.specs.Steps.{IsStep, Meets}
use Rattle.kb_tenant.specs.OffsetCommit.{committed_topic}
use Rattle.kb_tenant.specs.Told.{CatalogFailed, IsCommitTopicTold}
use Rattle.kb_tenant.specs.Turns.{in_turn, written_behind, AreServed}
use Rattle.kb_tenant.proofs.group_commit.offset_commit.Given as goal

-- what was answered, and what the rest is still to be answered, is the whole answer
abbrev pub invariant-loop-topic : goal.invariant-loop-topic
invariant-loop-topic g l =
    let a = scene g.L.PartitionLog.log g.S.Store.disk l.initial.parts l.initial.shelf in
    let b = scene g.L.PartitionLog.log g.S.Store.disk l.parts l.shelf in
    let f = committed_topic l.limits l.refusal l.group in
    let write = commit_topic_reply.written in
    record {
      step : IsStep a b;
      told : Meets a b (written_behind write l.sink.bytes (in_turn f b.state.world (drop l.topic-index l.request.topics)) ≡ written_behind write l.initial.sink.bytes (in_turn f a.state.world l.request.topics));
      answers : WhereHonest a b ((replies : List CommitTopicReply) × ((l.sink.bytes ≡ l.initial.sink.bytes ++ flat_map write replies)
          × AreServed (IsCommitTopicTold (CatalogFailed a b) l.limits l.refusal l.group) a.state.world (take l.topic-index l.request.topics) b.state.world replies));
    }
