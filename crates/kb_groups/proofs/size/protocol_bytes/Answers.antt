use Rattle.std.proofs.Common.{arith, ap, length}
use Rattle.kb_groups.proofs.Sizes.{offers_end, offers_go}
use Rattle.kb_groups.proofs.size.protocol_bytes.Goals as goal

pub loop-offer-preserved : goal.loop-offer-preserved
loop-offer-preserved c = (
  offers_go c.loop-offer.offer-index c.args.offers.now c.offer-item.result c.loop-offer.bytes c.saturating_add.result c.saturating_add-bytes.result _ c.loop-offer.invariant.0 c.loop-offer-test.true c.offer-item.is
      (omega (arith, c.saturating_add.ensures, ap length c.as_str.ensures)) (omega (arith, c.saturating_add-bytes.ensures, ap length c.as_slice.ensures)),
  omega (arith, c.saturating_add-bytes.ensures),
)

pub returns : goal.returns
returns c = offers_end c.loop-offer.offer-index c.args.offers.now c.loop-offer.bytes _ c.loop-offer.invariant.0 (omega (arith, c.loop-offer-test.false)) (omega (arith, c.loop-offer.invariant.1))
