use Rattle.std.proofs.Common.{◌∙◌, ◌++◌, ◌∷◌, [], map}
use Rattle.kb_coordinator.specs.Requests.{assigned_to}
use Rattle.kb_coordinator.proofs.Lists.{at_index, map_go}
use Rattle.kb_coordinator.proofs.convert.assignments.Goals as goal

pub loop-one-preserved : goal.loop-one-preserved
loop-one-preserved c =
    map_go assigned_to c.loop-one.one-index c.args.given.now c.one-item.result c.loop-one.assignments.items _ (map assigned_to c.args.given.now) c.loop-one.invariant
    (at_index _ _ _ c.loop-one-test.true c.one-item.is)
    (c.in_ok-push.ensures.items ∙ (λ k. c.loop-one.assignments.items ++ record { member_id = (c.new.ensures ∙ c.as_str.ensures) k; assignment = (c.new-in-loop-one.ensures ∙ c.as_slice.ensures) k } ∷ []))
