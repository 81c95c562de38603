use Rattle.std.proofs.Common.{◌≡◌, ◌++◌, List, drop, take}
use Rattle.std.specs.List.{flat_map}
use Rattle.kb_api_group.specs.Layouts.{commit_partition_reply}
use Rattle.kb_api_group.specs.declared.offset_commit.CommitPartitionReply.{CommitPartitionReply}
use Rattle.kb_tenant_state.specs.Scene.{WhereHonest}
use Rattle.kb_tenant_state.specs.Parts.{scene}
use Rattle.kb_tenant_state.specs.Steps.{IsStep, Meets}
use Rattle.kb_tenant.specs.OffsetCommit.{committed_entry}
use Rattle.kb_tenant.specs.Told.{CatalogFailed, IsCommitTold}
use Rattle.kb_tenant.specs.Turns.{in_turn, written_behind, AreServed}
use Rattle.kb_tenant.proofs.group_commit.commit_entries.Given as goal

-- what was answered, and what the rest is still to be answered, is the whole answer
abbrev pub invariant-loop-entry : goal.invariant-loop-entry
invariant-loop-entry g l =
    let a = scene g.L.PartitionLog.log g.S.Store.disk l.initial.parts l.initial.shelf in
    let b = scene g.L.PartitionLog.log g.S.Store.disk l.parts l.shelf in
    let f = committed_entry l.limits l.refusal l.group l.topic in
    let write = commit_partition_reply.written in
    record {
      step : IsStep a b;
      told : Meets a b (written_behind write l.sink.bytes (in_turn f b.state.world (drop l.entry-index l.entries)) ≡ written_behind write l.initial.sink.bytes (in_turn f a.state.world l.entries));
      answers : WhereHonest a b ((replies : List CommitPartitionReply) × ((l.sink.bytes ≡ l.initial.sink.bytes ++ flat_map write replies)
          × AreServed (IsCommitTold (CatalogFailed a b) l.limits l.refusal l.group l.topic) a.state.world (take l.entry-index l.entries) b.state.world replies));
    }
