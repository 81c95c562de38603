use Rattle.std.proofs.Common.{◌≡◌, ◌≤◌, ◌++◌, ℕ, List, Ok, drop, take}
use Rattle.std.specs.List.{flat_map}
use Rattle.kb_api_data.specs.declared.produce_v5.ProducePartitionReplyV5.{ProducePartitionReplyV5}
use Rattle.kb_tenant_state.specs.Scene.{WhereHonest}
use Rattle.kb_tenant_state.specs.Parts.{scene}
use Rattle.kb_tenant.specs.Produce.{entry_written, progress, entry_served, where_due}
use Rattle.kb_tenant.specs.Room.{entries_length, length_due, IsPut}
use Rattle.kb_tenant_state.specs.Steps.{IsStep, Meets}
use Rattle.kb_tenant.specs.Told.{FailedBy, IsEntryTold}
use Rattle.kb_tenant.specs.Turns.{in_turn, written_behind, AreServed}
use Rattle.kb_tenant.proofs.produce.serve_entries.Given as goal

-- what was answered, and what the rest is still to be answered, is the whole answer
abbrev pub invariant-loop-entry : goal.invariant-loop-entry
invariant-loop-entry g l =
    let log = g.L.PartitionLog.log in
    let disk = g.S.Store.disk in
    let a = scene log disk l.initial.parts l.initial.shelf in
    let b = scene log disk l.parts l.shelf in
    record {
      step : IsStep a b;
      told : Meets a b (written_behind (λ x. where_due l.terms.due (entry_written l.terms.has_starts x)) l.sink.bytes (in_turn (entry_served l.terms.bytes l.terms.refusal l.topic) (progress b.state.world l.touched.items) (drop l.entry-index l.entries)) ≡ written_behind (λ x. where_due l.terms.due (entry_written l.terms.has_starts x)) l.initial.sink.bytes (in_turn (entry_served l.terms.bytes l.terms.refusal l.topic) (progress a.state.world l.initial.touched.items) l.entries));
      answers : (before now next : ℕ) → before ≤ a.disk.failures → b.disk.failures ≤ now → b.next ≤ next → WhereHonest a b ((replies : List ProducePartitionReplyV5) × ((l.sink.bytes ≡ l.initial.sink.bytes ++ flat_map (λ x. where_due l.terms.due (entry_written l.terms.has_starts x)) replies)
          × AreServed (IsEntryTold (FailedBy before now next) l.terms.bytes l.terms.refusal l.topic) (progress a.state.world l.initial.touched.items) (take l.entry-index l.entries) (progress b.state.world l.touched.items) replies));
      put : IsPut (length_due l.terms.due (entries_length l.terms.has_starts (take l.entry-index l.entries))) l.initial.sink (Ok tt) l.sink;
    }
