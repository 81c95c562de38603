use Rattle.std.proofs.Common.{◌≡◌, ◌≤◌, drop, map, option_map}
use Rattle.kb_settings.specs.Values.{values_of}
use Rattle.kb_operator.specs.Sums.{told, stored_by}
use Rattle.kb_operator.proofs.Counted.{with_rest}
use Rattle.kb_operator.proofs.sums.stored_by.Given as goal

abbrev pub invariant-loop-name : goal.invariant-loop-name
invariant-loop-name l =
    (with_rest l.stored (stored_by (values_of l.fn.settings) (map (λ name. name.now) (drop l.name-index l.names)))
    ≡ option_map told (stored_by (values_of l.fn.settings) (map (λ name. name.now) l.names)))
    × (l.stored ≤ 18446744073709551615)
