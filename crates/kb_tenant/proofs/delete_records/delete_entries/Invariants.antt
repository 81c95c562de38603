use Rattle.std.proofs.Common.{◌≡◌, ◌++◌, List, drop, length, take}
use Rattle.std.specs.List.{flat_map}
use Rattle.kb_api_data.specs.Layouts.{delete_records_partition_reply}
use Rattle.kb_api_data.specs.declared.delete_records.DeleteRecordsPartitionReply.{DeleteRecordsPartitionReply}
use Rattle.kb_tenant_state.specs.Scene.{WhereHonest}
use Rattle.kb_tenant_state.specs.Parts.{scene}
use Rattle.kb_tenant_state.specs.Steps.{IsStep, Meets}
use Rattle.kb_tenant.specs.DeleteRecords.{deleted}
use Rattle.kb_tenant.specs.Told.{CatalogFailed, IsTrimTold}
use Rattle.kb_tenant.specs.Turns.{in_turn, written_behind, AreServed}
use Rattle.kb_tenant.proofs.delete_records.delete_entries.Given as goal

-- what was answered, and what the rest is still to be answered, is the whole answer
abbrev pub invariant-loop-entry : goal.invariant-loop-entry
invariant-loop-entry g l =
    let log = g.L.PartitionLog.log in
    let disk = g.S.Store.disk in
    let a = scene log disk l.initial.parts l.initial.shelf in
    let b = scene log disk l.parts l.shelf in
    record {
      step : IsStep a b;
      unchanged : take (length l.initial.touched.items) l.touched.items ≡ l.initial.touched.items;
      told : Meets a b (written_behind delete_records_partition_reply.written l.sink.bytes (in_turn (deleted l.topic) (b.state.world, l.touched.items) (drop l.entry-index l.entries)) ≡ written_behind delete_records_partition_reply.written l.initial.sink.bytes (in_turn (deleted l.topic) (a.state.world, l.initial.touched.items) l.entries));
      answers : WhereHonest a b ((replies : List DeleteRecordsPartitionReply)
          × ((l.sink.bytes ≡ l.initial.sink.bytes ++ flat_map delete_records_partition_reply.written replies)
          × AreServed (IsTrimTold (CatalogFailed a b) l.topic) (a.state.world, l.initial.touched.items) (take l.entry-index l.entries)
          (b.state.world, l.touched.items) replies));
    }
