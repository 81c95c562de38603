use Rattle.std.proofs.Common.{◌≡◌, ◌∙◌, ◌++◌, ◌<◌, ◌≤◌, length, map, refl, ap, arith}
use Rattle.std.proofs.lemmas.List.{take_all}
use Rattle.kb_metrics.specs.Rows.{lag_row}
use Rattle.kb_metrics.specs.Slots.{lag_row_among, slot_of}
use Rattle.kb_metrics.proofs.Steps.{element_more}
use Rattle.kb_metrics.proofs.gather.push_lags.Goals as goal

pub loop-place-preserved : goal.loop-place-preserved
loop-place-preserved c =
    let T = lag_row_among (map slot_of c.args.slots.now) c.args.topic.now in
    let groups = c.args.groups.now in
    let lt : c.loop-place.place < length groups = omega (arith, c.loop-place-test.true) in
    element_more T T (λ n. n.now) (map lag_row c.args.rows.now.items) (map lag_row c.loop-place.rows.items)
    (map lag_row c.push_lag.new.rows.items) groups c.loop-place.place _ (λ n. refl) lt c.loop-place.invariant c.in_ok-push_lag.ensures
