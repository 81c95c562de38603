use Rattle.std.proofs.Common.{rules}
use Rattle.kb_settings.proofs.StandardText.{said}
use Rattle.kb_settings.proofs.settings.Settings.standard.Goals as goal

pub returns-clause-text : goal.returns-clause-text
returns-clause-text c = said _ _ _ (search rules) (search rules) (search rules)
