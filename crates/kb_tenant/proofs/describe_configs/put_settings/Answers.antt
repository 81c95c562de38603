use Rattle.std.proofs.Common.{◌∙◌}
use Rattle.kb_tenant.proofs.Configs.{asked_next, asked_over, count_fits, setting_fits}
use Rattle.kb_tenant.proofs.describe_configs.put_settings.Goals as goal

pub put_count-requires : goal.put_count-requires
put_count-requires c = count_fits c.args.names.now c.args.settings.now c.count_asked.result c.requires.few c.count_asked.ensures

pub put_if_asked-requires : goal.put_if_asked-requires
put_if_asked-requires c = setting_fits c.args.settings.now c.loop-setting.setting-index c.setting-item.result c.requires.fits c.loop-setting-test.true c.setting-item.is

pub loop-setting-preserved : goal.loop-setting-preserved
loop-setting-preserved c =
    asked_next c.args.old c.args.names.now c.loop-setting.sink.bytes c.put_if_asked.new.sink.bytes c.args.settings.now c.loop-setting.setting-index c.setting-item.result
    c.loop-setting-test.true c.setting-item.is c.in_ok-put_if_asked.ensures ∙ c.loop-setting.invariant

pub returns : goal.returns
returns c =
    asked_over c.args.old c.args.names.now c.args.settings.now c.loop-setting.setting-index c.count_asked.result c.args.sink.now.bytes c.put_count.new.self.bytes c.loop-setting.sink.bytes
    c.loop-setting-test.false c.count_asked.ensures c.in_ok-put_count.ensures.ok c.loop-setting.invariant
