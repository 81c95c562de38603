use Rattle.std.proofs.Common.{take}
use Rattle.kb_tenant.specs.Counted.{fetch_answered}
use Rattle.kb_tenant.specs.Turns.{in_turn}
use Rattle.kb_tenant_state.specs.Parts.{world_of}
use Rattle.kb_tenant.proofs.Fetching.{get_or_any}
use Rattle.kb_tenant.proofs.Missing.{misses_more}
use Rattle.kb_tenant.proofs.fetch.waits.missing_behind_all.Goals as goal

pub loop-entry-preserved : goal.loop-entry-preserved
loop-entry-preserved g c = λ files agree given misses.
    let w = world_of g.L.PartitionLog.log c.args.parts.now files in
    let i = c.loop-entry.entry-index in
    let lt = c.loop-entry-test.true in
    let f = fetch_answered w c.args.topic in
    misses_more f given c.args.entries.now i _ c.in_ok-left.left lt (get_or_any c.args.entries.now i _ _ lt)
    (c.in_ok-left.ensures files agree (in_turn f given (take i c.args.entries.now)).0 (c.loop-entry.invariant files agree given misses))
