use Rattle.std.proofs.Common.{◌≡◌, None, rules}
use Rattle.kb_topics.specs.ConfigReading.{entry_of, with_entry}
use Rattle.kb_tenant.proofs.Settings.{all_are_read, none_read}
use Rattle.kb_tenant.proofs.create_topics.settings_in.Goals as goal

pub returns-then-not-read : goal.returns-then-not-read
returns-then-not-read c =
    let config = c.config-item.result in
    let none : with_entry c.loop-config.reader (entry_of config.name config.value) ≡ None = search rules in
    none_read c.args.configs.now c.loop-config.reader c.loop-config.config-index config c.loop-config-test.true c.config-item.is none
    c.loop-config.invariant

pub returns : goal.returns
returns c =
    all_are_read c.args.configs.now c.loop-config.reader c.loop-config.config-index c.config.result c.loop-config-test.false
    c.config.ensures c.loop-config.invariant
