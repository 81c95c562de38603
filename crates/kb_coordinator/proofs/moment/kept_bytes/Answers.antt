use Rattle.std.proofs.Common.{arith, ap, length}
use Rattle.kb_coordinator.proofs.Kept.{kept_end, kept_go}
use Rattle.kb_coordinator.proofs.Lists.{at_index}
use Rattle.kb_coordinator.proofs.moment.kept_bytes.Goals as goal

pub loop-entry-preserved : goal.loop-entry-preserved
loop-entry-preserved c =
    let at = at_index c.args.groups.now c.loop-entry.entry-index c.entry-item.result c.loop-entry-test.true c.entry-item.is in (
      kept_go c.loop-entry.entry-index c.args.groups.now c.entry-item.result c.loop-entry.bytes c.saturating_add.result c.saturating_add-bytes.result _ c.bytes.result (length c.as_slice.result.now) c.loop-entry.invariant.0 at c.bytes.ensures (ap length c.as_slice.ensures) (omega (arith, c.saturating_add.ensures)) (omega (arith, c.saturating_add-bytes.ensures)),
      omega (arith, c.saturating_add-bytes.ensures),
    )

pub returns : goal.returns
returns c = kept_end c.loop-entry.entry-index c.args.groups.now c.loop-entry.bytes _ c.loop-entry.invariant.0 (omega (arith, c.loop-entry-test.false)) (omega (arith, c.loop-entry.invariant.1))
