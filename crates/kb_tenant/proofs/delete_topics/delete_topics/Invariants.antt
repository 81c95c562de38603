use Rattle.std.proofs.Common.{◌≡◌, ◌++◌, List, drop, take, length}
use Rattle.std.specs.List.{flat_map}
use Rattle.kb_api_data.specs.Layouts.{delete_topic_reply}
use Rattle.kb_api_data.specs.declared.delete_topics.DeleteTopicReply.{DeleteTopicReply}
use Rattle.kb_tenant_state.specs.Scene.{WhereHonest}
use Rattle.kb_tenant.specs.DeleteTopics.{deleted_topic}
use Rattle.kb_tenant_state.specs.Parts.{scene}
use Rattle.kb_tenant_state.specs.Steps.{IsStep, Meets}
use Rattle.kb_tenant.specs.Told.{CatalogFailed, IsRemovalTold}
use Rattle.kb_tenant.specs.Turns.{in_turn, written_behind, AreServed}
use Rattle.kb_tenant.proofs.delete_topics.delete_topics.Given as goal

-- what was deleted, told and written, and what is still to be, is all
abbrev pub invariant-loop-name : goal.invariant-loop-name
invariant-loop-name g l =
    let a = scene g.L.PartitionLog.log g.S.Store.disk l.initial.parts l.initial.shelf in
    let b = scene g.L.PartitionLog.log g.S.Store.disk l.parts l.shelf in
    record {
      step : IsStep a b;
      unchanged : take (length l.initial.touched.items) l.touched.items ≡ l.initial.touched.items;
      told : Meets a b (written_behind delete_topic_reply.written l.sink.bytes (in_turn deleted_topic (b.state.world, l.touched.items) (drop l.name-index l.names))
          ≡ written_behind delete_topic_reply.written l.initial.sink.bytes (in_turn deleted_topic (a.state.world, l.initial.touched.items) l.names));
      answers : WhereHonest a b ((replies : List DeleteTopicReply) × ((l.sink.bytes ≡ l.initial.sink.bytes ++ flat_map delete_topic_reply.written replies)
          × AreServed (IsRemovalTold (CatalogFailed a b)) (a.state.world, l.initial.touched.items) (take l.name-index l.names) (b.state.world, l.touched.items) replies));
    }
