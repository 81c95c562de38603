use Rattle.std.proofs.Common.{◌≡◌, drop, map, max}
use Rattle.kb_settings.specs.Values.{values_of}
use Rattle.kb_operator.specs.Sums.{fetched_by}
use Rattle.kb_operator.proofs.sums.fetched_by.Given as goal

abbrev pub invariant-loop-name : goal.invariant-loop-name
invariant-loop-name l =
    max l.most (fetched_by (values_of l.fn.settings) (map (λ name. name.now) (drop l.name-index l.names)))
    ≡ fetched_by (values_of l.fn.settings) (map (λ name. name.now) l.names)
