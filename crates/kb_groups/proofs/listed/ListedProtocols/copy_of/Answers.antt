use Rattle.std.proofs.Common.{◌∙◌, ◌++◌, ◌∷◌, [], ap, map}
use Rattle.kb_groups.specs.Calls.{kept}
use Rattle.kb_groups.proofs.Index.{index_none, index_push}
use Rattle.kb_groups.proofs.Steps.{kept_go}
use Rattle.kb_groups.proofs.listed.ListedProtocols.copy_of.Goals as goal

pub loop-offer-init : goal.loop-offer-init
loop-offer-init c = (ap (λ l. l ++ map kept c.args.offers.now) c.new-items.ensures.items, index_none c.new-places.result c.new-items.result.items c.new-places.ensures.empty c.new-items.ensures.items)

pub loop-offer-preserved : goal.loop-offer-preserved
loop-offer-preserved c =
    let asked = c.as_bytes-name.ensures.value ∙ c.as_str.ensures in
    let name = c.in_ok-copy_of.ensures ∙ asked in
    let metadata = c.in_ok-copy_of-2.ensures ∙ c.as_slice.ensures in
    let items = c.in_ok-push.ensures.items ∙ (λ j. c.loop-offer.items.items ++ record { name = name j; metadata = metadata j } ∷ []) in (
      kept_go c.loop-offer.offer-index c.args.offers.now c.offer-item.result c.loop-offer.items.items c.push.new.self.items _ c.loop-offer.invariant.0 c.loop-offer-test.true c.offer-item.is items,
      index_push c.loop-offer.places c.note_place.new.places c.loop-offer.items.items c.push.new.self.items (kept c.offer-item.result) c.as_bytes-name.result.now c.len.result c.loop-offer.invariant.1 c.in_ok-note_place.ensures asked (c.len.ensures ∙ c.loop-offer.items.ok.0) items,
    )
