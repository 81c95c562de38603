use Rattle.std.proofs.Common.{◌≡◌, ◌++◌, List, drop, take}
use Rattle.std.specs.List.{flat_map}
use Rattle.kb_api_data.specs.declared.create_topics.CreateTopicReply.{CreateTopicReply}
use Rattle.kb_tenant_state.specs.Scene.{WhereHonest}
use Rattle.kb_tenant.specs.CreateTopics.{created_topic, creation_in}
use Rattle.kb_tenant_state.specs.Parts.{scene}
use Rattle.kb_tenant_state.specs.Steps.{IsStep, Meets}
use Rattle.kb_tenant.specs.Told.{CreationFailed, IsCreationTold}
use Rattle.kb_tenant.specs.Turns.{in_turn, written_behind, AreServed}
use Rattle.kb_tenant.proofs.create_topics.create_topics.Given as goal

-- what was made and written, and what is still to be, is all
abbrev pub invariant-loop-topic : goal.invariant-loop-topic
invariant-loop-topic g l =
    let a = scene g.L.PartitionLog.log g.S.Store.disk l.initial.parts l.initial.shelf in
    let b = scene g.L.PartitionLog.log g.S.Store.disk l.parts l.shelf in
    let f = created_topic l.limits l.topics in
    let write = creation_in l.version in
    record {
      step : IsStep a b;
      told : Meets a b (written_behind write l.sink.bytes (in_turn f b.state.world (drop l.topic-index l.topics)) ≡ written_behind write l.initial.sink.bytes (in_turn f a.state.world l.topics));
      answers : WhereHonest a b ((replies : List CreateTopicReply) × ((l.sink.bytes ≡ l.initial.sink.bytes ++ flat_map write replies)
          × AreServed (IsCreationTold (CreationFailed a b) l.limits l.topics) a.state.world (take l.topic-index l.topics) b.state.world replies));
    }
