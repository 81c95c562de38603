use Rattle.std.proofs.Common.{◌≡◌, ◌≤◌, ◌+◌, drop, map}
use Rattle.kb_settings.specs.Values.{values_of}
use Rattle.kb_operator.specs.Others.{without_limits}
use Rattle.kb_operator.specs.Sums.{told}
use Rattle.kb_operator.proofs.others.without_limits.Given as goal

abbrev pub invariant-loop-name : goal.invariant-loop-name
invariant-loop-name l =
    (told (l.count + without_limits (values_of l.fn.settings) (map (λ name. name.now) (drop l.name-index l.names)))
    ≡ told (without_limits (values_of l.fn.settings) (map (λ name. name.now) l.names)))
    × (l.count ≤ 18446744073709551615)
