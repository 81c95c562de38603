use Rattle.std.proofs.Common.{◌≡◌, ◌++◌, List, drop, take}
use Rattle.std.specs.List.{flat_map}
use Rattle.kb_api_group.specs.Layouts.{deleted_group}
use Rattle.kb_api_group.specs.declared.delete_groups.DeletedGroup.{DeletedGroup}
use Rattle.kb_tenant_state.specs.Scene.{WhereHonest}
use Rattle.kb_tenant_state.specs.Parts.{scene}
use Rattle.kb_tenant_state.specs.Steps.{IsStep, Meets}
use Rattle.kb_tenant.specs.Told.{CatalogFailed}
use Rattle.kb_tenant.specs.Turns.{in_turn, written_behind, AreServed}
use Rattle.kb_tenant_api.specs.Acknowledged.{HaveGone, IsGroupDeletionTold}
use Rattle.kb_tenant_api.specs.Deletions.{deleted_entry}
use Rattle.kb_tenant_api.proofs.deletions.delete_each.Given as goal

-- what was deleted and written, and what is still to be, is all
abbrev pub invariant-loop-id : goal.invariant-loop-id
invariant-loop-id g l =
    let a = scene g.L.PartitionLog.log g.S.Store.disk l.initial.parts l.initial.shelf in
    let b = scene g.L.PartitionLog.log g.S.Store.disk l.parts l.shelf in
    record {
      step : IsStep a b;
      fewer : HaveGone l.initial.groups l.groups;
      told : Meets a b (written_behind deleted_group.written l.sink.bytes (in_turn deleted_entry (b.state.world, l.groups) (drop l.id-index l.ids))
          ≡ written_behind deleted_group.written l.initial.sink.bytes (in_turn deleted_entry (a.state.world, l.initial.groups) l.ids));
      answers : WhereHonest a b ((results : List DeletedGroup) × ((l.sink.bytes ≡ l.initial.sink.bytes ++ flat_map deleted_group.written results)
          × AreServed (IsGroupDeletionTold (CatalogFailed a b)) (a.state.world, l.initial.groups) (take l.id-index l.ids) (b.state.world, l.groups) results));
    }
