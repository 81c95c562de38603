use Rattle.std.proofs.Common.{rules, ◌≤◌, ◌<◌, ◌^◌}
use Rattle.kb_batch.specs.Batch.{natural}
use Rattle.kb_tenant_state.specs.Calls.{GivesAtMost}
use Rattle.kb_tenant_state.specs.Parts.{world_of}
use Rattle.kb_tenant.proofs.Missing.{entry_misses}
use Rattle.kb_tenant.proofs.fetch.waits.missing_behind.Goals as goal

pub returns-then-most-missing : goal.returns-then-most-missing
returns-then-most-missing g c = λ files agree given misses.
    let small : natural c.args.entry.now.partition_max_bytes < 2 ^ 64 = search rules in
    let low : natural c.args.entry.now.partition_max_bytes ≤ c.max-allowed.result = search rules in
    let batch : 1048588 ≤ c.max-allowed.result = search rules in
    let w = world_of g.L.PartitionLog.log c.args.parts.now files in
    let gives : GivesAtMost w c.in_ok-place.place c.args.entry.now.fetch_offset c.in_ok-available.field-0 = search rules in
    entry_misses g.L.PartitionLog.log g.met.L.PartitionLog.lawful c.args.parts.now files agree c.args.topic given c.args.entry.now
    c.in_ok-place.place c.in_ok-available.field-0 c.max-allowed.result c.min-most.result c.args.missing c.in_ok-place.ensures
    gives small low batch c.min-most.ensures c.if-most-missing.true misses
