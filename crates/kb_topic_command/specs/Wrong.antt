-- Which of some settings a topic may not be given.
use Rattle.std.specs.Prelude.{List, [], ◌∷◌, Option, Some, None}
use Rattle.kb_admin.specs.declared.task.Setting.{Setting}
use Rattle.kb_topics.specs.declared.config.ConfigReader.{ConfigReader}
use Rattle.kb_topics.specs.ConfigReading.{entry_of, with_entry}

-- those themselves where the first is refused, and else what is found behind it
abbrev pub unless : Option ConfigReader → List Setting → (ConfigReader → List Setting) → List Setting
unless None settings find = settings
unless (Some reader) settings find = find reader

-- The settings from the first one on that is refused behind those in front: it is none that there is, or its name was read before.
abbrev pub from_wrong : ConfigReader → List Setting → List Setting
from_wrong reader [] = []
from_wrong reader (s ∷ ss) =
    unless (with_entry reader (entry_of s.key (Some s.value))) (s ∷ ss) (λ next. from_wrong next ss)
