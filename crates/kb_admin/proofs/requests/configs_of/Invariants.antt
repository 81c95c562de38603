use Rattle.std.proofs.Common.{◌≡◌, map, take}
use Rattle.std.specs.Prelude.{All}
use Rattle.kb_api_data.specs.Layouts.{create_config}
use Rattle.kb_admin.specs.Requests.{config_of}
use Rattle.kb_admin.proofs.requests.configs_of.Given as goal

-- those of the settings in front, each of which fits
abbrev pub invariant-loop-setting : goal.invariant-loop-setting
invariant-loop-setting l = record {
  configs : l.configs ≡ map config_of (take l.setting-index l.settings);
  fits : All create_config.Fits l.configs;
}
