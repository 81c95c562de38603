use Rattle.std.proofs.Common.{length, refl, ap, arith}
use Rattle.kb_api_data.specs.Layouts.{create_config}
use Rattle.kb_admin.specs.Requests.{config_of}
use Rattle.kb_admin.proofs.Fitting.{config_fits}
use Rattle.kb_admin.proofs.Mapping.{mapped_more, all_pushed}
use Rattle.kb_admin.proofs.requests.configs_of.Goals as goal

pub loop-setting-preserved : goal.loop-setting-preserved
loop-setting-preserved c =
    record {
      configs = mapped_more config_of c.args.settings.now c.loop-setting.setting-index c.setting-item.result c.loop-setting.configs c.push.new.self _ c.loop-setting-test.true c.setting-item.is c.loop-setting.invariant.configs (rw (c.new.ensures, c.new-in-loop-setting.ensures, c.as_str.ensures.value, c.as_str-in-loop-setting.ensures.value) refl) c.in_ok-push.ensures.ok;
      fits = all_pushed create_config.Fits c.loop-setting.configs c.push.new.self _ c.loop-setting.invariant.fits (config_fits _ _ (grind (arith, c.as_str.ensures.short, ap length c.new.ensures)) (grind (arith, c.as_str-in-loop-setting.ensures.short, ap length c.new-in-loop-setting.ensures))) c.in_ok-push.ensures.ok;
    }
