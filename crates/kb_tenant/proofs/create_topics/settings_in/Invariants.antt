use Rattle.std.proofs.Common.{◌≡◌, drop}
use Rattle.kb_topics.specs.ConfigReading.{nothing_read}
use Rattle.kb_tenant.proofs.Settings.{with_settings}
use Rattle.kb_tenant.proofs.create_topics.settings_in.Given as goal

-- what was read, and what is still to be read, is all
abbrev pub invariant-loop-config : goal.invariant-loop-config
invariant-loop-config l = with_settings l.reader (drop l.config-index l.configs) ≡ with_settings nothing_read l.configs
