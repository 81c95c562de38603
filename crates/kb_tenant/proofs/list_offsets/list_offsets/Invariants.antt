use Rattle.std.proofs.Common.{◌≡◌, ◌++◌, List, map, drop, take}
use Rattle.std.specs.List.{AllZip, flat_map}
use Rattle.kb_api_data.specs.declared.list_offsets.ListOffsetsTopicReply.{ListOffsetsTopicReply}
use Rattle.kb_tenant_state.specs.Scene.{WhereHonest}
use Rattle.kb_tenant.specs.ListOffsets.{listed_topic, topic_reply}
use Rattle.kb_tenant.specs.Told.{HasFailed, IsListingTopicTold}
use Rattle.kb_tenant_state.specs.Parts.{scene}
use Rattle.kb_tenant_state.specs.Steps.{IsStep, Meets}
use Rattle.kb_tenant.proofs.Serving.{Stays}
use Rattle.kb_tenant.proofs.list_offsets.list_offsets.Given as goal

-- what was written, and what the rest is still to be answered, is the whole answer
abbrev pub invariant-loop-topic : goal.invariant-loop-topic
invariant-loop-topic g l =
    let a = scene g.L.PartitionLog.log g.S.Store.disk l.initial.parts l.initial.shelf in
    let b = scene g.L.PartitionLog.log g.S.Store.disk l.parts l.shelf in
    let f = listed_topic a.state.world in
    let write = (topic_reply l.has_epochs).written in
    record {
      step : IsStep a b;
      same : Stays a b;
      told : Meets a b (l.sink.bytes ++ flat_map write (map f (drop l.topic-index l.request.topics)) ≡ l.initial.sink.bytes ++ flat_map write (map f l.request.topics));
      answers : WhereHonest a b ((replies : List ListOffsetsTopicReply)
          × ((l.sink.bytes ≡ l.initial.sink.bytes ++ flat_map write replies)
          × AllZip (IsListingTopicTold (HasFailed a b) a.state.world) (take l.topic-index l.request.topics) replies));
    }
