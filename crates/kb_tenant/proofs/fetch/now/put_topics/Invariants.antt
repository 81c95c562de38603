use Rattle.std.proofs.Common.{◌≡◌, ◌++◌, List, drop, take}
use Rattle.std.specs.List.{flat_map}
use Rattle.kb_api_data.specs.declared.fetch_v5.FetchTopicReplyV5.{FetchTopicReplyV5}
use Rattle.kb_tenant_state.specs.Scene.{WhereHonest}
use Rattle.kb_tenant.specs.Counted.{answered_topic, IsFetchTopicTold}
use Rattle.kb_tenant.specs.Fetch.{topic_written}
use Rattle.kb_tenant_state.specs.Parts.{scene}
use Rattle.kb_tenant_state.specs.Steps.{IsStep, Meets}
use Rattle.kb_tenant.specs.Told.{HasFailed}
use Rattle.kb_tenant.specs.Turns.{in_turn, written_behind, AreServed}
use Rattle.kb_tenant.proofs.fetch.now.put_topics.Given as goal

-- The world is as it was; what was written, and what is to come, is the whole.
abbrev pub invariant-loop-topic : goal.invariant-loop-topic
invariant-loop-topic g l =
    let a = scene g.L.PartitionLog.log g.S.Store.disk l.initial.parts l.initial.shelf in
    let b = scene g.L.PartitionLog.log g.S.Store.disk l.parts l.shelf in
    let serve = answered_topic a.state.world in
    let write = topic_written l.has_starts in
    record {
      step : IsStep a b;
      same : b.disk.honest → a.agrees → b.state.world ≡ a.state.world;
      told : Meets a b (written_behind write l.sink.bytes (in_turn serve l.given (drop l.topic-index l.topics)) ≡ written_behind write l.initial.sink.bytes (in_turn serve l.initial.given l.topics));
      answers : WhereHonest a b ((replies : List FetchTopicReplyV5)
          × ((l.sink.bytes ≡ l.initial.sink.bytes ++ flat_map write replies)
          × AreServed (IsFetchTopicTold (HasFailed a b) a.state.world) l.initial.given (take l.topic-index l.topics) l.given replies));
    }
