use Rattle.std.proofs.Common.{◌∙◌, ◌++◌, ◌∷◌, [], map}
use Rattle.kb_coordinator.specs.Requests.{offered}
use Rattle.kb_coordinator.proofs.Lists.{at_index, map_go}
use Rattle.kb_coordinator.proofs.convert.offers.Goals as goal

pub loop-protocol-preserved : goal.loop-protocol-preserved
loop-protocol-preserved c =
    map_go offered c.loop-protocol.protocol-index c.args.protocols.now c.protocol-item.result c.loop-protocol.offers.items _ (map offered c.args.protocols.now) c.loop-protocol.invariant
    (at_index _ _ _ c.loop-protocol-test.true c.protocol-item.is)
    (c.in_ok-push.ensures.items ∙ (λ k. c.loop-protocol.offers.items ++ record { name = (c.new.ensures ∙ c.as_str.ensures) k; metadata = (c.new-in-loop-protocol.ensures ∙ c.as_slice.ensures) k } ∷ []))
