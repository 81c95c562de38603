use Rattle.std.proofs.Common.{◌≡◌, ◌++◌, List, drop, length, take}
use Rattle.std.specs.List.{flat_map}
use Rattle.kb_api_data.specs.Layouts.{delete_records_topic_reply}
use Rattle.kb_api_data.specs.declared.delete_records.DeleteRecordsTopicReply.{DeleteRecordsTopicReply}
use Rattle.kb_tenant_state.specs.Scene.{WhereHonest}
use Rattle.kb_tenant_state.specs.Parts.{scene}
use Rattle.kb_tenant_state.specs.Steps.{IsStep, Meets}
use Rattle.kb_tenant.specs.DeleteRecords.{deleted_topic}
use Rattle.kb_tenant.specs.Told.{CatalogFailed, IsTrimTopicTold}
use Rattle.kb_tenant.specs.Turns.{in_turn, written_behind, AreServed}
use Rattle.kb_tenant.proofs.delete_records.delete_records.Given as goal

-- what was answered, and what the rest is still to be answered, is the whole answer
abbrev pub invariant-loop-topic : goal.invariant-loop-topic
invariant-loop-topic g l =
    let log = g.L.PartitionLog.log in
    let disk = g.S.Store.disk in
    let a = scene log disk l.initial.parts l.initial.shelf in
    let b = scene log disk l.parts l.shelf in
    record {
      step : IsStep a b;
      unchanged : take (length l.initial.touched.items) l.touched.items ≡ l.initial.touched.items;
      told : Meets a b (written_behind delete_records_topic_reply.written l.sink.bytes (in_turn deleted_topic (b.state.world, l.touched.items) (drop l.topic-index l.request.topics)) ≡ written_behind delete_records_topic_reply.written l.initial.sink.bytes (in_turn deleted_topic (a.state.world, l.initial.touched.items) l.request.topics));
      answers : WhereHonest a b ((replies : List DeleteRecordsTopicReply)
          × ((l.sink.bytes ≡ l.initial.sink.bytes ++ flat_map delete_records_topic_reply.written replies)
          × AreServed (IsTrimTopicTold (CatalogFailed a b)) (a.state.world, l.initial.touched.items) (take l.topic-index l.request.topics)
          (b.state.world, l.touched.items) replies));
    }
