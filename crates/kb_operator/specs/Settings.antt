-- Why settings are refused.
use Rattle.std.specs.Prelude.{◌≡◌, ℕ, List, Some, None, Err, codes, string_bytes}
use Rattle.kb_settings.specs.declared.settings.Settings.{Settings}
use Rattle.kb_settings.specs.Reading.{settings_of}
use Rattle.kb_operator.specs.declared.fault.OperatorFault.{OperatorFault}
use Rattle.kb_operator.specs.declared.fault.OperatorFault.TheVariants as faults

-- A text is no document, or that is its first wrong key; of memory nothing is said.
abbrev pub IsSettingsFault : List ℕ → OperatorFault → Type 0
IsSettingsFault text (faults.Settings why) = settings_of text ≡ None
IsSettingsFault text (faults.Field key why) = settings_of text ≡ Some (Err (string_bytes key))
IsSettingsFault text faults.Memory = Unit {0}
IsSettingsFault text other = ⊥

-- They name no data folder; of memory nothing is said.
abbrev pub IsWithoutFolder : Settings → OperatorFault → Type 0
IsWithoutFolder settings (faults.Field key why) = (string_bytes key ≡ codes "data") × (settings.folder ≡ None)
IsWithoutFolder settings faults.Memory = Unit {0}
IsWithoutFolder settings other = ⊥
