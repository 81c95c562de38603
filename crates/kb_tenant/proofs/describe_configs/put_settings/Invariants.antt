use Rattle.std.proofs.Common.{◌≡◌, drop, ◌++◌}
use Rattle.std.specs.List.{flat_map}
use Rattle.kb_tenant.specs.DescribeConfigs.{asked, setting_as}
use Rattle.kb_tenant.proofs.describe_configs.put_settings.Given as goal

-- what was written, and those of the rest that are asked, are all that are asked
abbrev pub invariant-loop-setting : goal.invariant-loop-setting
invariant-loop-setting l =
    l.sink.bytes ++ flat_map (setting_as l.old) (asked l.names (drop l.setting-index l.settings)) ≡ l.initial.sink.bytes ++ flat_map (setting_as l.old) (asked l.names l.settings)
