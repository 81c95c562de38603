use Rattle.std.proofs.Common.{◌≡◌, ◌<◌, map, take}
use Rattle.std.specs.List.{All}
use Rattle.kb_settings.specs.Values.{values_of}
use Rattle.kb_broker.specs.Limited.{limits_named}
use Rattle.kb_broker.proofs.limits.group_limits.Given as goal

abbrev pub invariant-loop-name : goal.invariant-loop-name
invariant-loop-name l = record {
  says : l.limits.items ≡ map (limits_named (values_of l.fn.settings)) (map (λ name. name.now) (take l.name-index l.name-items));
  within : All (λ limits. limits.bytes < 9223372036854775808) l.limits.items;
}
