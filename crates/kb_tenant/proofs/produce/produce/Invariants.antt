use Rattle.std.proofs.Common.{◌≡◌, ◌≤◌, ◌++◌, ℕ, List, Ok, drop, take}
use Rattle.std.specs.List.{flat_map, sum_by}
use Rattle.kb_api_data.specs.declared.produce_v5.ProduceTopicReplyV5.{ProduceTopicReplyV5}
use Rattle.kb_tenant_state.specs.Scene.{WhereHonest}
use Rattle.kb_tenant_state.specs.Parts.{scene}
use Rattle.kb_tenant.specs.Produce.{progress, served_topic, topic_written, where_due}
use Rattle.kb_tenant.specs.Room.{length_due, topic_length, IsPut}
use Rattle.kb_tenant_state.specs.Steps.{IsStep, Meets}
use Rattle.kb_tenant.specs.Told.{FailedBy, IsTopicTold}
use Rattle.kb_tenant.specs.Turns.{in_turn, written_behind, AreServed}
use Rattle.kb_tenant.proofs.produce.produce.Given as goal

-- what was answered, and what the rest is still to be answered, is the whole answer
abbrev pub invariant-loop-topic : goal.invariant-loop-topic
invariant-loop-topic g l =
    let log = g.L.PartitionLog.log in
    let disk = g.S.Store.disk in
    let a = scene log disk l.initial.parts l.initial.shelf in
    let b = scene log disk l.parts l.shelf in
    record {
      step : IsStep a b;
      told : Meets a b (written_behind (λ x. where_due l.terms.due (topic_written l.terms.has_starts x)) l.sink.bytes (in_turn (served_topic l.terms.bytes l.terms.refusal) (progress b.state.world l.touched.items) (drop l.topic-index l.request.topics)) ≡ written_behind (λ x. where_due l.terms.due (topic_written l.terms.has_starts x)) l.initial.sink.bytes (in_turn (served_topic l.terms.bytes l.terms.refusal) (progress a.state.world l.initial.touched.items) l.request.topics));
      answers : (before now next : ℕ) → before ≤ a.disk.failures → b.disk.failures ≤ now → b.next ≤ next → WhereHonest a b ((replies : List ProduceTopicReplyV5) × ((l.sink.bytes ≡ l.initial.sink.bytes ++ flat_map (λ x. where_due l.terms.due (topic_written l.terms.has_starts x)) replies)
          × AreServed (IsTopicTold (FailedBy before now next) l.terms.bytes l.terms.refusal) (progress a.state.world l.initial.touched.items) (take l.topic-index l.request.topics) (progress b.state.world l.touched.items) replies));
      put : IsPut (length_due l.terms.due (sum_by (topic_length l.terms.has_starts) (take l.topic-index l.request.topics))) l.initial.sink (Ok tt) l.sink;
    }
