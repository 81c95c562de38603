use Rattle.std.proofs.Common.{◌≡◌, ◌++◌, List, drop, take}
use Rattle.std.specs.List.{flat_map}
use Rattle.kb_api_data.specs.declared.fetch_v5.FetchPartitionReplyV5.{FetchPartitionReplyV5}
use Rattle.kb_tenant_state.specs.Scene.{WhereHonest}
use Rattle.kb_tenant.specs.Counted.{fetch_answered, IsFetchTold}
use Rattle.kb_tenant.specs.Fetch.{partition_written}
use Rattle.kb_tenant_state.specs.Parts.{scene}
use Rattle.kb_tenant_state.specs.Steps.{IsStep, Meets}
use Rattle.kb_tenant.specs.Told.{HasFailed}
use Rattle.kb_tenant.specs.Turns.{in_turn, written_behind, AreServed}
use Rattle.kb_tenant.proofs.fetch.now.put_partitions.Given as goal

-- The world is as it was; what was written, and what is to come, is the whole.
abbrev pub invariant-loop-entry : goal.invariant-loop-entry
invariant-loop-entry g l =
    let a = scene g.L.PartitionLog.log g.S.Store.disk l.initial.parts l.initial.shelf in
    let b = scene g.L.PartitionLog.log g.S.Store.disk l.parts l.shelf in
    let serve = fetch_answered a.state.world l.topic in
    let write = partition_written l.has_starts in
    record {
      step : IsStep a b;
      same : b.disk.honest → a.agrees → b.state.world ≡ a.state.world;
      told : Meets a b (written_behind write l.sink.bytes (in_turn serve l.given (drop l.entry-index l.entries)) ≡ written_behind write l.initial.sink.bytes (in_turn serve l.initial.given l.entries));
      answers : WhereHonest a b ((replies : List FetchPartitionReplyV5)
          × ((l.sink.bytes ≡ l.initial.sink.bytes ++ flat_map write replies)
          × AreServed (IsFetchTold (HasFailed a b) a.state.world l.topic) l.initial.given (take l.entry-index l.entries) l.given replies));
    }
